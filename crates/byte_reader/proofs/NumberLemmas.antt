-- Readers of numbers.
use Rattle.std.proofs.Common.{◌≡◌, ℕ, zero, suc, ◌+◌, ◌*◌, ◌/◌, ◌%◌, ◌^◌, ◌<◌, ◌≤◌, cond, nat_eq, List, [], ◌∷◌, get_or, Ok, refl, ◌∙◌, arith}
use Rattle.std.specs.Int.{w64, from_be_bytes, to_be_bytes}
use Rattle.std.proofs.lemmas.Bool.Decides.{nat_tests}
use Rattle.std.proofs.lemmas.Nat.{be_bytes_8, from_be_bytes-to_be_bytes_8}
use Rattle.byte_reader.specs.Reading.{IsBytes, Read, ◌>>=◌, byte_at, bytes_at, second_least, second_most, short_at, long_number_at}
use Rattle.byte_reader.specs.Exact.{ReadsExactly, InRange, one, two, itself, IsBytesOf, IsLong, long_bytes}
use Rattle.byte_reader.proofs.ReaderLemmas.{reads_same, through, Sees, reads_through, both, FitBoth, spell_both, reads_both, bind_both}
use Rattle.byte_reader.proofs.FieldLemmas.{reads_byte, reads_bytes}

-- ---- numbers

bytes_below : (bytes : List ℕ) (i : ℕ) → IsBytes bytes → get_or bytes i 0 < 256
bytes_below [] i fits = omega arith
bytes_below (b ∷ bytes) zero fits = fits.0
bytes_below (b ∷ bytes) (suc i) fits = bytes_below bytes i fits.1

pub all_bytes : (bytes : List ℕ) → ((i : ℕ) → get_or bytes i 0 < 256) → IsBytes bytes
all_bytes [] fits = tt
all_bytes (b ∷ bytes) fits = (fits 0, all_bytes bytes (λ i. fits (suc i)))

long_seen : Sees (List ℕ) ℕ (IsBytesOf 8) itself (from_be_bytes w64) IsLong long_bytes
long_seen = record {
  to = λ bytes is.
      let at : (i : ℕ) → get_or bytes i 0 < 256 = λ i. bytes_below bytes i is.bytes in
      (omega (arith, at 0, at 1, at 2, at 3, at 4, at 5, at 6, at 7), be_bytes_8 bytes (from_be_bytes w64 bytes) is.len at refl);
  from = λ n lt. (to_be_bytes w64 n, record { len = refl; bytes = (omega arith, (omega arith, (omega arith, (omega arith, (omega arith, (omega arith, (omega arith, (omega arith, tt)))))))) }, from_be_bytes-to_be_bytes_8 n lt);
}

long_same : (bytes : List ℕ) → long_number_at bytes ≡ through (List ℕ) ℕ (bytes_at 8) (from_be_bytes w64) bytes
unfolding long_number_at
long_same bytes = refl

pub reads_long_number : ReadsExactly ℕ long_number_at IsLong long_bytes
reads_long_number = reads_same ℕ (through (List ℕ) ℕ (bytes_at 8) (from_be_bytes w64)) long_number_at IsLong long_bytes long_same (reads_through (List ℕ) ℕ (bytes_at 8) (IsBytesOf 8) itself (from_be_bytes w64) IsLong long_bytes (reads_bytes 8) long_seen)

-- ---- two bytes

abbrev Two : Type 0
Two = ℕ × ℕ

abbrev two_at : ℕ → ℕ → List ℕ → Read Two
two_at least most = both ℕ ℕ (byte_at (least / 256) (most / 256)) (λ a. byte_at (second_least least a) (second_most most a))

abbrev FitsTwo : ℕ → ℕ → Two → Type 0
FitsTwo least most = FitBoth ℕ ℕ (InRange (least / 256) (most / 256)) (λ a. InRange (second_least least a) (second_most most a))

abbrev spell_two : Two → List ℕ
spell_two = spell_both ℕ ℕ one (λ a. one)

abbrev short_of : Two → ℕ
short_of x = 256 * x.0 + x.1

second_some : (least most first : ℕ) → least ≤ most → least / 256 ≤ first → first ≤ most / 256 → second_least least first ≤ second_most most first
second_some least most first le low high = grind (arith, nat_tests)

pub in_range : (least most first second : ℕ) → least ≤ most → least / 256 ≤ first → first ≤ most / 256 → second_least least first ≤ second → second ≤ second_most most first → InRange least most (256 * first + second)
in_range least most first second le low high more less = (grind (arith, nat_tests), grind (arith, nat_tests))

last_small : (most first second : ℕ) → second ≤ second_most most first → second < 256
last_small most first second le = grind (arith, nat_tests)

cells : (a b c d : ℕ) → a ≡ c → b ≡ d → a ∷ one b ≡ c ∷ one d
cells a b c d p q = cc

short_to : (least most : ℕ) → least ≤ most → (x : Two) → FitsTwo least most x → InRange least most (short_of x) × (two (short_of x) ≡ spell_two x)
short_to least most le x fits =
    let small : x.1 < 256 = last_small most x.0 x.1 fits.1.1 in
    (in_range least most x.0 x.1 le fits.0.0 fits.0.1 fits.1.0 fits.1.1, cells _ _ x.0 x.1 (omega arith) (omega arith))

low_again : (least n : ℕ) → least ≤ n → second_least least (n / 256) ≤ n % 256
low_again least n le = grind (arith, nat_tests)

high_again : (most n : ℕ) → n ≤ most → n % 256 ≤ second_most most (n / 256)
high_again most n le = grind (arith, nat_tests)

short_from : (least most : ℕ) → (n : ℕ) → InRange least most n → (x : Two) × FitsTwo least most x × (short_of x ≡ n)
short_from least most n is =
    let low : least ≤ n = is.0 in
    let high : n ≤ most = is.1 in
    ((n / 256, n % 256), ((omega arith, omega arith), (low_again least n low, high_again most n high)), omega arith)

short_same : (least most : ℕ) (bytes : List ℕ) → short_at least most bytes ≡ through Two ℕ (two_at least most) short_of bytes
unfolding short_at
short_same least most bytes = bind_both ℕ ℕ (ℕ × List ℕ) (byte_at (least / 256) (most / 256)) (λ a. byte_at (second_least least a) (second_most most a)) (λ x rest. Ok (short_of x, rest)) bytes

pub reads_short : (least most : ℕ) → least ≤ most → ReadsExactly ℕ (short_at least most) (InRange least most) two
reads_short least most le =
    let pair = reads_both ℕ ℕ (byte_at (least / 256) (most / 256)) (λ a. byte_at (second_least least a) (second_most most a)) (InRange (least / 256) (most / 256)) one (λ a. InRange (second_least least a) (second_most most a)) (λ a. one) (reads_byte (least / 256) (most / 256) (omega arith)) (λ a h. reads_byte (second_least least a) (second_most most a) (second_some least most a le h.0 h.1)) in
    reads_same ℕ (through Two ℕ (two_at least most) short_of) (short_at least most) (InRange least most) two (short_same least most)
    (reads_through Two ℕ (two_at least most) (FitsTwo least most) spell_two short_of (InRange least most) two pair (record { to = short_to least most le; from = short_from least most }))
