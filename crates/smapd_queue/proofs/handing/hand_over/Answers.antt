use Rattle.smapd_queue.proofs.HandLemmas.{accepted_on, failed_on, refused_on}
use Rattle.smapd_queue.proofs.handing.hand_over.Goals as goal

pub returns-in-Accepted-clause-so : goal.returns-in-Accepted-clause-so
returns-in-Accepted-clause-so g c = λ its. accepted_on c.free_slot.result c.args.message.now c.args.full _ _ _ _ its c.in-Accepted.ensures.answers c.free_slot.ensures

pub returns-in-Refused-clause-so : goal.returns-in-Refused-clause-so
returns-in-Refused-clause-so g c = λ its. refused_on c.set_aside.result c.args.message.now c.args.full _ _ _ _ its c.in-Refused.ensures.answers c.set_aside.ensures

pub returns-in-Failed-clause-so : goal.returns-in-Failed-clause-so
returns-in-Failed-clause-so g c = λ its. failed_on c.keep.result c.args.message.now c.args.full _ _ _ _ its c.in-Failed.ensures.answers c.keep.ensures.word c.keep.ensures.puts
