use Rattle.std.proofs.Common.{refl}
use Rattle.session_acts.proofs.StageLemmas.{gift}
use Rattle.session_acts.proofs.desk.DeskStage.jot.Goals as goal

pub returns : goal.returns
returns g c =
    let given = gift c.give.result c.args.text.now _ _ c.give.ensures in
    record { tried = given.tried; met = record { client = refl; logs = given.gets; office = refl; server = refl; store = refl; names = refl; may = tt } }
