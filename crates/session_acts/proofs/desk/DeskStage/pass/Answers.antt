use Rattle.std.proofs.Common.{refl}
use Rattle.session_acts.proofs.StageLemmas.{passes}
use Rattle.session_acts.proofs.desk.DeskStage.pass.Goals as goal

pub returns-in-Err : goal.returns-in-Err
returns-in-Err g c =
    let passed = passes c.args.text.now _ (g.D.Dialer.dialer_view c.args.self.now.dialer.now) _ _ c.in-Err.ensures _ _ in
    record { halt = passed.halt; is_cause = refl; met = record { client = refl; logs = refl; office = refl; server = passed.passes; store = refl; names = refl; may = tt } }
