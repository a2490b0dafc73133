use Rattle.std.proofs.Common.{arith}
use Rattle.turn_lock.proofs.Keeps.{enters}
use Rattle.turn_lock.proofs.steps.enter.Goals as goal

pub fetch_add-requires : goal.fetch_add-requires
fetch_add-requires g c = (c.requires.desk.0, omega (arith, c.requires.desk.1), enters _ g.V.StandsFor.limit g.V.StandsFor.origin _ _ _ _ c.requires.ahead.0 c.requires.unspent.0 c.requires.ahead.1 c.requires.unspent.1)
