use Rattle.std.proofs.Common.{arith}
use Rattle.fw_types.proofs.NumberLemmas.{digits_of, one_more, small_up_to}
use Rattle.fw_types.proofs.number.value_of.Goals as goal

pub overflow_mul-value : goal.overflow_mul-value
overflow_mul-value c =
    let small = small_up_to c.args.text.now c.loop-byte.byte-index (digits_of c.args.text.now c.requires) in
    omega arith

pub overflow_add-value : goal.overflow_add-value
overflow_add-value c =
    let small = small_up_to c.args.text.now c.loop-byte.byte-index (digits_of c.args.text.now c.requires) in
    omega arith

pub loop-byte-preserved : goal.loop-byte-preserved
loop-byte-preserved c =
    let more = one_more c.args.text.now c.loop-byte.byte-index (digits_of c.args.text.now c.requires) (omega arith) in
    omega arith
