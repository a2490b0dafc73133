use Rattle.std.proofs.Common.{◌-◌, ◌+◌, arith}
use Rattle.otp_words.proofs.SixLemmas.{check_is, digits_sum, no_digits}
use Rattle.otp_words.proofs.six_numbers.check.Goals as goal

pub loop-pair-init : goal.loop-pair-init
loop-pair-init c = record { total = omega arith; few = omega arith }

pub loop-pair-preserved : goal.loop-pair-preserved
loop-pair-preserved c =
    let step = digits_sum (32 - c.loop-pair._pair) (32 - (c.loop-pair._pair + 1)) c.loop-pair.rest (omega arith) in
    record { total = omega (arith, step, c.loop-pair.invariant.total); few = omega arith }

pub returns : goal.returns
returns c =
    let none = no_digits (32 - c.loop-pair._pair) c.loop-pair.rest (omega arith) in
    check_is c.args.password c.loop-pair.sum (omega (arith, none, c.loop-pair.invariant.total))
