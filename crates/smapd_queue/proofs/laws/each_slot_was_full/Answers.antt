use Rattle.smapd_queue.proofs.LawLemmas.{were_full}
use Rattle.smapd_queue.proofs.laws.each_slot_was_full.Goals as goal

pub returns : goal.returns
returns c = were_full
