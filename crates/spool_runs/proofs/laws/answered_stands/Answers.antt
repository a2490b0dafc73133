use Rattle.spool_runs.proofs.HistoryLemmas.{happens_reached, mails_safe, reachable_safe}
use Rattle.spool_runs.proofs.laws.answered_stands.Goals as goal

pub returns-clause-safe : goal.returns-clause-safe
returns-clause-safe c = λ episodes w h. reachable_safe c.stands.ensures w (happens_reached episodes w h)

pub returns-clause-mails : goal.returns-clause-mails
returns-clause-mails c = mails_safe c.stands.ensures

pub returns-clause-reached : goal.returns-clause-reached
returns-clause-reached c = happens_reached
