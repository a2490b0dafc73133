-- Keywords of equal bytes, and bytes that end no word.
use Rattle.std.proofs.Common.{◌≡◌, ℕ, ◌<◌, List, true, false, ap, arith}
use Rattle.std.specs.Str.{bytes_eq}
use Rattle.std.proofs.lemmas.Slice.Eq.{bytes_eq-Decides}
use Rattle.std.proofs.lemmas.Bool.Decides.{nat_tests}
use Rattle.netperm_table.specs.Bytes.{ends_word}
use Rattle.netperm_table.specs.Words.{keywords_of}

pub same_keywords : (a b : List ℕ) → bytes_eq a b ≡ true → keywords_of a ≡ keywords_of b
same_keywords a b h = ap keywords_of ((bytes_eq-Decides a b).0 h)

pub no_end_between : (b : ℕ) → 32 < b → b < 123 → ends_word b ≡ false
no_end_between b above below = grind (arith, nat_tests)
