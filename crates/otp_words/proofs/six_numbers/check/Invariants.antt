use Rattle.std.proofs.Common.{◌≡◌, ◌+◌, ◌-◌, ◌*◌, ◌≤◌}
use Rattle.std.specs.Prelude.{sum}
use Rattle.otp_words.specs.SixWords.{digits}
use Rattle.otp_words.proofs.six_numbers.check.Given as goal

abbrev pub invariant-loop-pair : goal.invariant-loop-pair
invariant-loop-pair l = record {
  total : sum (digits 4 (32 - l._pair) l.rest) + l.sum ≡ sum (digits 4 32 l.fn.password);
  few : l.sum ≤ 3 * l._pair;
}
