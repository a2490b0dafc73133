use Rattle.bastion_ready.proofs.SlotLemmas.{no_room}
use Rattle.bastion_ready.proofs.readying.open_disks.Goals as goal

pub returns-in-Err-clause-unopened : goal.returns-in-Err-clause-unopened
returns-in-Err-clause-unopened g c = no_room c.args.world.now
