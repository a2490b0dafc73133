use Rattle.std.proofs.Common.{true}
use Rattle.session_acts.proofs.KeptLemmas.{ran_names}
use Rattle.session_acts.proofs.OwedLemmas.{held_session}
use Rattle.session_acts.proofs.StageLemmas.{unlinked_view}
use Rattle.session_acts.proofs.RelayLemmas.{held_relayed}
use Rattle.session_acts.proofs.relayed.relayed_at.Goals as goal

pub returns-clause-session : goal.returns-clause-session
returns-clause-session g c =
    let held = held_relayed (g.T.Script.rows c.args.script.now g.row.P-Origin.Denot) (g.T.Script.first c.args.script.now g.row.P-Origin.Denot) c.dialogue-talked.result c.relay_after-done.result _ _ _ _ _ c.finish.result c.requires.lent (ran_names c.dialogue-talked.ensures.ran) c.dialogue-talked.ensures.ran c.relay_after-done.ensures c.finish.ensures.finishing in
    held_session true held c.requires.reader c.requires.opened (unlinked_view g.D.In.Source.source_view g.D.Out.Sink.sink_view g.D.DataIn.Source.source_view g.D.DataOut.Sink.sink_view _ _ _ _ c.requires.link c.requires.pair c.requires.door) c.requires.lent
