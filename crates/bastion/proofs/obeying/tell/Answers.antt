use Rattle.bastion.proofs.obeying.tell.Goals as goal

pub returns-in-Some : goal.returns-in-Some
returns-in-Some g c = rw c.in-Some.ensures (record { told = c.log.result; logged = rw (← c.as_slice.ensures.value) c.log.ensures.logs; output = c.log.ensures.output; files = c.log.ensures.files; inputs = c.log.ensures.inputs })
