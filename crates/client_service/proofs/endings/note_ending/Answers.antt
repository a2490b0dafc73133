use Rattle.client_service.proofs.endings.note_ending.Goals as goal

pub returns-in-Some : goal.returns-in-Some
returns-in-Some g c = rw c.in-Some.ensures (record { told = c.give.result; gives = rw (← c.as_slice.ensures.value) c.give.ensures })
