use Rattle.smapd_queue.proofs.HandLemmas.{goes_so, unlogged_so}
use Rattle.smapd_queue.proofs.queue.take_turn_with.Goals as goal

pub returns-in-Ok-tell-clause-so : goal.returns-in-Ok-tell-clause-so
returns-in-Ok-tell-clause-so g c = λ before takes. goes_so _ c.in-Ok.word c.args.full before _ _ _ _ _ _ _ c.note.new.self _ takes c.in-Ok.ensures.so c.number-number.ensures c.in-Ok-tell.ensures c.note.ensures c.count.ensures

pub returns-in-Err-tell-clause-so : goal.returns-in-Err-tell-clause-so
returns-in-Err-tell-clause-so g c = λ before takes. unlogged_so _ c.in-Ok.word c.args.full before _ _ _ _ _ _ _ _ takes c.in-Ok.ensures.so c.number-number.ensures c.in-Err-tell.ensures c.note.ensures
