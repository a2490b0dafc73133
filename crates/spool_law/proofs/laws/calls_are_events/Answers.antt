use Rattle.spool_law.proofs.EventLemmas.{are_events}
use Rattle.spool_law.proofs.RunLemmas.{does_moments}
use Rattle.spool_law.proofs.laws.calls_are_events.Goals as goal

pub returns-clause-events : goal.returns-clause-events
returns-clause-events c = are_events

pub returns-clause-moments : goal.returns-clause-moments
returns-clause-moments c = does_moments
