use Rattle.std.proofs.Common.{false}
use Rattle.session_acts.proofs.OwedLemmas.{held_session}
use Rattle.session_acts.proofs.StageLemmas.{unlinked_view}
use Rattle.session_acts.proofs.session.session_at.Goals as goal

pub returns-clause-session : goal.returns-clause-session
returns-clause-session g c =
    held_session false c.held.ensures.held c.requires.reader c.requires.opened (unlinked_view g.D.In.Source.source_view g.D.Out.Sink.sink_view g.D.DataIn.Source.source_view g.D.DataOut.Sink.sink_view _ _ _ _ c.requires.link c.requires.pair c.requires.door) c.requires.alone
