use Rattle.std.proofs.Common.{arith}
use Rattle.byte_reader.proofs.NumberLemmas.{all_bytes}
use Rattle.slot_bytes.proofs.SlotLemmas.{slot_first_bad}
use Rattle.slot_bytes.proofs.slot.read_slot.Goals as goal

pub returns-clause-at : goal.returns-clause-at
returns-clause-at c = slot_first_bad c.args.bytes.now c.read_any.result (all_bytes c.args.bytes.now (λ i. omega (arith, c.type_inv.bytes i))) c.read_any.ensures.read
