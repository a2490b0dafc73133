use Rattle.std.proofs.Common.{ap, rules, sym}
use Rattle.session_acts.specs.Link.{pair_view}
use Rattle.session_acts.proofs.SideDeskLemmas.{copies_on}
use Rattle.session_acts.proofs.desk.DeskStage.copy.Goals as goal

pub returns : goal.returns
returns g c =
    copies_on c.args.toward c.carry-end.result _ _ _ _ _ (ap (pair_view g.D.DataIn.Source.source_view g.D.DataOut.Sink.sink_view) (sym c.in-Some.ensures.value)) (search rules) c.carry-end.ensures (record { middle = g.D.Dialer.dialer_view c.let_go.new.self; far = c.let_go.ensures; near = c.let_go-2.ensures })
