use Rattle.std.proofs.Common.{arith}
use Rattle.turn_lock.proofs.Keeps.{frees}
use Rattle.turn_lock.proofs.steps.free.Goals as goal

pub swap-requires : goal.swap-requires
swap-requires g c = (c.requires.desk.0, omega (arith, c.requires.desk.1), frees _ _ _ _ _ _ _ c.requires.back.0 c.requires.back.1)
