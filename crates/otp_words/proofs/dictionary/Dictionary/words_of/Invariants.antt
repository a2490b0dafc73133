use Rattle.std.proofs.Common.{◌≡◌, ◌+◌, ◌*◌, ◌≤◌, drop, length}
use Rattle.otp_words.specs.SixWords.{six}
use Rattle.otp_words.proofs.PhraseLemmas.{front_words}
use Rattle.otp_words.proofs.dictionary.Dictionary.words_of.Given as goal

abbrev pub invariant-loop-number : goal.invariant-loop-number
invariant-loop-number l = record {
  written : l.out.items ≡ front_words l.self (six l.password) l.number-index;
  short : length l.out.items ≤ 4 + 5 * l.number-index;
  numbers : l.number-items ≡ drop 1 (six l.password);
}
