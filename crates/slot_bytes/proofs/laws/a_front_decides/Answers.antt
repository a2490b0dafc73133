use Rattle.slot_bytes.proofs.StableLemmas.{stable_head}
use Rattle.slot_bytes.proofs.laws.a_front_decides.Goals as goal

pub returns : goal.returns
returns c = record { head = stable_head }
