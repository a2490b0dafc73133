use Rattle.std.proofs.Common.{arith}
use Rattle.byte_reader.proofs.NumberLemmas.{all_bytes}
use Rattle.slot_bytes.specs.HeadView.{head_view}
use Rattle.slot_bytes.proofs.SlotLemmas.{head_few}
use Rattle.slot_bytes.proofs.slot.read_whole.Goals as goal

pub returns-clause-few : goal.returns-clause-few
returns-clause-few c = head_few c.args.bytes.now (head_view c.in_ok-head.head) c.in_ok-head.rest.now (all_bytes c.args.bytes.now (λ i. omega (arith, c.type_inv.bytes i))) c.in_ok-head.ensures
