use Rattle.std.proofs.Common.{subst, sym}
use Rattle.std.specs.Prelude.{All}
use Rattle.bastion_ready.proofs.ServedLemmas.{AtDoor}
use Rattle.bastion_ready.proofs.readying.prepare_for.Goals as goal

pub services_for-requires : goal.services_for-requires
services_for-requires g c = subst (All AtDoor) (sym c.posts_of.ensures) c.requires.served
