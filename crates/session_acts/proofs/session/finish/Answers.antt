use Rattle.std.proofs.Common.{ap}
use Rattle.session_acts.specs.World.{Names}
use Rattle.session_acts.proofs.KeptLemmas.{kept_names}
use Rattle.session_acts.proofs.OwedLemmas.{finishes}
use Rattle.session_acts.proofs.session.finish.Goals as goal

pub returns-clause-finishing : goal.returns-clause-finishing
returns-clause-finishing g c =
    finishes c.args.dialogue c.close-closed.result (g.D.Stage.world c.args.stage.now) (g.D.Stage.world c.free.new.stage) (g.D.Stage.world c.close-closed.new.stage) c.ending_told.result c.free.ensures c.close-closed.ensures c.ending_told.ensures

pub returns-clause-names : goal.returns-clause-names
returns-clause-names g c =
    ap (λ (n : Names). n.devices) (kept_names (finishes c.args.dialogue c.close-closed.result (g.D.Stage.world c.args.stage.now) (g.D.Stage.world c.free.new.stage) (g.D.Stage.world c.close-closed.new.stage) c.ending_told.result c.free.ensures c.close-closed.ensures c.ending_told.ensures))
