use Rattle.std.proofs.Common.{arith}
use Rattle.otp_words.proofs.SixLemmas.{check_small, six_is, six_small}
use Rattle.otp_words.proofs.six_numbers.six.Goals as goal

pub overflow_add-result : goal.overflow_add-result
overflow_add-result c = omega (arith, check_small c.args.password, c.check.ensures)

pub overflow_cast-result-6 : goal.overflow_cast-result-6
overflow_cast-result-6 c = omega (arith, check_small c.args.password, c.check.ensures)

pub returns-clause-numbers : goal.returns-clause-numbers
returns-clause-numbers c = six_is c.args.password c.check.result (omega arith) c.check.ensures

pub returns-clause-within : goal.returns-clause-within
returns-clause-within c =
    six_small _ _ _ _ _ _ (omega arith) (omega arith) (omega arith) (omega arith) (omega arith) (omega (arith, check_small c.args.password, c.check.ensures))
