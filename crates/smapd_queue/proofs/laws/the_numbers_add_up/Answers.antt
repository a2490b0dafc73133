use Rattle.smapd_queue.proofs.LawLemmas.{adds_up}
use Rattle.smapd_queue.proofs.laws.the_numbers_add_up.Goals as goal

pub returns : goal.returns
returns c = adds_up
