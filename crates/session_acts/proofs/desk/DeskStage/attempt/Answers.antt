use Rattle.std.proofs.Common.{refl}
use Rattle.session_acts.proofs.StageLemmas.{gift}
use Rattle.session_acts.proofs.desk.DeskStage.attempt.Goals as goal

pub returns : goal.returns
returns g c =
    let given = gift c.give.result c.args.text.now _ _ c.give.ensures in
    record { tried = given.tried; met = record { client = record { outlet = g.K.Sink.sink_view c.give.new.self; gets = given.gets; is = refl }; logs = refl; office = refl; server = refl; store = refl; names = refl; may = tt } }
