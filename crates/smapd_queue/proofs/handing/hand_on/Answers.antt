use Rattle.smapd_queue.proofs.HandLemmas.{read_on, read_same, unread_on}
use Rattle.smapd_queue.proofs.handing.hand_on.Goals as goal

pub returns-in-Ok-clause-so : goal.returns-in-Ok-clause-so
returns-in-Ok-clause-so g c = read_on c.hand_over.result c.in-Ok.message c.args.full c.message.new.self _ _ _ _ (read_same c.args.full c.message.new.self c.in-Ok.ensures.number c.in-Ok.ensures.told c.in-Ok.ensures.ok c.in-Ok.ensures.read) (c.in-Ok.ensures.full, c.in-Ok.ensures.message) c.hand_over.ensures.so

pub returns-in-Err-DiskFault-clause-so : goal.returns-in-Err-DiskFault-clause-so
returns-in-Err-DiskFault-clause-so g c = unread_on c.give_up.result c.in-Err-DiskFault.field-0 c.args.full c.message.new.self _ _ _ c.in-Err-DiskFault.field-0-is c.in-Err-DiskFault.ensures.number c.in-Err-DiskFault.ensures.told c.in-Err-DiskFault.ensures.err c.in-Err-DiskFault.ensures.full c.give_up.ensures.word c.give_up.ensures.puts
