use Rattle.std.proofs.Common.{rules}
use Rattle.turn_lock.proofs.Keeps.{claims}
use Rattle.turn_lock.proofs.steps.claim.Goals as goal

pub compare_exchange-requires : goal.compare_exchange-requires
compare_exchange-requires g c = (search rules, search rules, claims _ _ _ _ _ _ _)
