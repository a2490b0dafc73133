use Rattle.std.proofs.Common.{◌≡◌, Err, arith}
use Rattle.byte_reader.proofs.NumberLemmas.{all_bytes}
use Rattle.slot_bytes.specs.Reading.{whole_at}
use Rattle.slot_bytes.proofs.SlotLemmas.{left_within}
use Rattle.slot_bytes.proofs.slot.read_kept.Goals as goal

pub overflow_sub-result : goal.overflow_sub-result
overflow_sub-result c =
    let read : whole_at c.args.bytes.now ≡ Err c.in-Err-Bad.stop.left = rw c.in-Err-Bad.field-0-is at c.in-Err-Bad.ensures.read in
    rw c.in-Err-Bad.field-0-is (left_within c.args.bytes.now c.in-Err-Bad.stop.left (all_bytes c.args.bytes.now (λ i. omega (arith, c.type_inv.bytes i))) read)
