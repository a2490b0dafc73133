-- Readers of numbers.
use Rattle.std.proofs.Common.{◌≡◌, ℕ, ◌+◌, ◌*◌, ◌/◌, ◌%◌, ◌<◌, ◌≤◌, cond, nat_eq, List, [], ◌∷◌, refl, arith}
use Rattle.std.specs.Int.{w32, to_be_bytes}
use Rattle.std.proofs.lemmas.Bool.Decides.{nat_tests}
use Rattle.byte_reader.specs.Reading.{byte_at}
use Rattle.byte_reader.specs.Exact.{ReadsExactly, one}
use Rattle.byte_reader.proofs.FieldLemmas.{reads_byte}
use Rattle.byte_reader.proofs.FourPartLemmas.{LastTwo, four_parts, reads_four_parts}
use Rattle.byte_reader.proofs.ReaderLemmas.{reads_same}
use Rattle.auth_records.specs.Reading.{small_number_at}

-- the four bytes of a number of at most 9,999
abbrev last_most : ℕ → ℕ
last_most third = cond (nat_eq third 39) 15 255

abbrev pub IsSmall : ℕ → Type 0
IsSmall n = n ≤ 9999

abbrev pub small_bytes : ℕ → List ℕ
small_bytes n = to_be_bytes w32 n

last_fits : (third fourth : ℕ) → third ≤ 39 → fourth ≤ last_most third → (fourth ≤ 255) × (256 * third + fourth ≤ 9999)
last_fits third fourth h k = (grind (arith, nat_tests), grind (arith, nat_tests))

last_back : (third fourth : ℕ) → 256 * third + fourth ≤ 9999 → fourth ≤ 255 → fourth ≤ last_most third
last_back third fourth h k = grind (arith, nat_tests)

cells : (a b c d e f : ℕ) → a ≡ 0 → b ≡ 0 → c ≡ e → d ≡ f → a ∷ b ∷ c ∷ one d ≡ 0 ∷ 0 ∷ e ∷ one f
cells a b c d e f p q r s = cc

to_bytes : (c d : ℕ) → c ≤ 39 → d ≤ last_most c → IsSmall (256 * c + d) × (small_bytes (256 * c + d) ≡ 0 ∷ 0 ∷ c ∷ one d)
to_bytes c d third fourth =
    let last = last_fits c d third fourth in
    let byte = last.0 in
    let small = last.1 in
    (last.1, cells _ _ _ _ c d (omega (arith, third, byte, small)) (omega (arith, third, byte, small)) (omega (arith, third, byte, small)) (omega (arith, third, byte, small)))

from_bytes : (n : ℕ) → IsSmall n → LastTwo 256 39 last_most n
from_bytes n small = record {
  third = n / 256;
  fourth = n % 256;
  third_fits = omega (arith, small);
  fourth_fits = let whole : 256 * (n / 256) + n % 256 ≡ n = omega arith in last_back (n / 256) (n % 256) (omega (arith, small, whole)) (omega arith);
  sum = omega arith;
}

small_same : (bytes : List ℕ) → small_number_at bytes ≡ four_parts byte_at one reads_byte 256 39 last_most bytes
unfolding small_number_at
small_same bytes = refl

pub reads_small_number : ReadsExactly ℕ small_number_at IsSmall small_bytes
reads_small_number =
    reads_same ℕ (four_parts byte_at one reads_byte 256 39 last_most) small_number_at IsSmall small_bytes small_same
    (reads_four_parts byte_at one reads_byte 256 39 last_most IsSmall small_bytes to_bytes from_bytes)
