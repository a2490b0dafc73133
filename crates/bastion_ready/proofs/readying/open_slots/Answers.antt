use Rattle.bastion_ready.proofs.readying.open_slots.Goals as goal

pub returns-in-Err-clause-unopened : goal.returns-in-Err-clause-unopened
returns-in-Err-clause-unopened g c = record { middle = c.open_disks.new.world; unread = c.in-Err.ensures.unopened; shut = c.shut.ensures }
