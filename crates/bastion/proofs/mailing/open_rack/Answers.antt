use Rattle.bastion.proofs.MailedLemmas.{leaves_unread, opens_rack}
use Rattle.bastion.proofs.mailing.open_rack.Goals as goal

pub returns-in-Ok-clause-opened : goal.returns-in-Ok-clause-opened
returns-in-Ok-clause-opened g c = opens_rack _ _ c.in-Ok.rack c.args.world.now c.take_disks-disks.new.world c.take_disks-disks.ensures c.in-Ok.ensures.ok

pub returns-in-Err-clause-unopened : goal.returns-in-Err-clause-unopened
returns-in-Err-clause-unopened g c = leaves_unread _ _ _ _ _ _ _ _ _ c.take_disks-disks.ensures c.in-Err.ensures.err c.put_disks.ensures c.slot_fault.ensures
