use Rattle.session_acts.proofs.StageLemmas.{dials_so}
use Rattle.session_acts.proofs.desk.DeskStage.dial.Goals as goal

pub returns : goal.returns
returns g c = dials_so g.D.In.Source.source_view g.D.Out.Sink.sink_view c.args.dest.now c.dial.result c.put_up.result _ _ _ _ c.hang_up.ensures c.put_up.ensures c.dial.ensures.up c.dial.ensures.refused
