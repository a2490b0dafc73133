-- Readers of texts behind two bytes, of recipients and of the body's length.
use Rattle.std.proofs.Common.{◌≡◌, ℕ, zero, suc, ◌+◌, ◌*◌, ◌/◌, ◌%◌, ◌≤◌, lit≤, List, [], ◌∷◌, ◌++◌, length, Result, Ok, Err, refl, ap, subst, ◌∙◌, arith}
use Rattle.std.specs.Int.{w64, to_be_bytes}
use Rattle.std.specs.List.{AllByRecursion}
use Rattle.std.proofs.lemmas.Bool.Decides.{nat_tests}
use Rattle.byte_reader.specs.Reading.{Read, ◌>>=◌, bytes_at, short_at}
use Rattle.byte_reader.specs.Exact.{ReadsExactly, InRange, two, itself, IsBytesOf}
use Rattle.byte_reader.proofs.ReaderLemmas.{ok_is, reads_same, through, reads_through, both, FitBoth, spell_both, reads_both, bind_both}
use Rattle.byte_reader.proofs.FieldLemmas.{reads_bytes}
use Rattle.byte_reader.proofs.FourPartLemmas.{LastTwo, four_parts, reads_four_parts}
use Rattle.byte_reader.proofs.NumberLemmas.{reads_short}
use Rattle.slot_bytes.specs.Layout.{IsTextFrom, counted, each_counted}
use Rattle.slot_bytes.specs.Reading.{long_text_at, rcpts_at, low_most, body_len_at}

-- ---- a text behind its length

abbrev Counted : Type 0
Counted = ℕ × List ℕ

abbrev counted_both : ℕ → ℕ → List ℕ → Read Counted
counted_both least most = both ℕ (List ℕ) (short_at least most) (λ n. bytes_at n)

abbrev FitsCounted : ℕ → ℕ → Counted → Type 0
FitsCounted least most = FitBoth ℕ (List ℕ) (InRange least most) (λ n. IsBytesOf n)

abbrev spell_counted : Counted → List ℕ
spell_counted = spell_both ℕ (List ℕ) two (λ n. itself)

abbrev text_in : Counted → List ℕ
text_in x = x.1

counted_to : (least most : ℕ) (x : Counted) → FitsCounted least most x → IsTextFrom least most (text_in x) × (counted (text_in x) ≡ spell_counted x)
counted_to least most x fits =
    let len : length x.1 ≡ x.0 = fits.1.len in (
      record { low = omega (arith, len, fits.0.0); high = omega (arith, len, fits.0.1); bytes = fits.1.bytes },
      ap (λ (n : ℕ). two n ++ x.1) len,
    )

counted_from : (least most : ℕ) (text : List ℕ) → IsTextFrom least most text → (x : Counted) × FitsCounted least most x × (text_in x ≡ text)
counted_from least most text is = ((length text, text), ((is.low, is.high), record { len = refl; bytes = is.bytes }), refl)

-- a reader's answer, and the same with what was read before it
seconds : (B C : Type 0) (r : Read B) (a : C) → r ≡ ((r >>= λ y. let z : Read (C × B) = Ok ((a, y.0), y.1) in z) >>= λ z. Ok (z.0.1, z.1))
seconds B C (Ok y) a = refl
seconds B C (Err left) a = refl

second_of : (B C : Type 0) (f : Read C) (g : C → List ℕ → Read B) → (f >>= λ x. g x.0 x.1) ≡ ((f >>= λ x. (g x.0 x.1 >>= λ y. let z : Read (C × B) = Ok ((x.0, y.0), y.1) in z)) >>= λ z. Ok (z.0.1, z.1))
second_of B C (Ok x) g = seconds B C (g x.0 x.1) x.0
second_of B C (Err left) g = refl

long_text_same : (least most : ℕ) (bytes : List ℕ) → long_text_at least most bytes ≡ through Counted (List ℕ) (counted_both least most) text_in bytes
unfolding long_text_at
long_text_same least most bytes = second_of (List ℕ) ℕ (short_at least most bytes) (λ n. bytes_at n)

pub reads_long_text : (least most : ℕ) → least ≤ most → ReadsExactly (List ℕ) (long_text_at least most) (IsTextFrom least most) counted
reads_long_text least most le =
    let pair = reads_both ℕ (List ℕ) (short_at least most) (λ n. bytes_at n) (InRange least most) two (λ n. IsBytesOf n) (λ n. itself) (reads_short least most le) (λ n h. reads_bytes n) in
    reads_same (List ℕ) (through Counted (List ℕ) (counted_both least most) text_in) (long_text_at least most) (IsTextFrom least most) counted (long_text_same least most)
    (reads_through Counted (List ℕ) (counted_both least most) (FitsCounted least most) spell_counted text_in (IsTextFrom least most) counted pair (record { to = counted_to least most; from = counted_from least most }))

-- ---- recipients

abbrev Texts : Type 0
Texts = List (List ℕ)

abbrev pub IsRcpt : List ℕ → Type 0
IsRcpt text = IsTextFrom 1 256 text

abbrev pub AreRcpts : ℕ → Texts → Type 0
AreRcpts n texts = (length texts ≡ n) × AllByRecursion IsRcpt texts

abbrev ok : {X : Type 0} → X → Result X ℕ
ok x = Ok x

none_sound : (bytes : List ℕ) (x : Texts × List ℕ) → ok {X = Texts × List ℕ} ([], bytes) ≡ ok x → AreRcpts 0 x.0 × (bytes ≡ each_counted x.0 ++ x.1)
none_sound bytes x e =
    let made : Texts × List ℕ = ([], bytes) in
    subst (λ (y : Texts × List ℕ). AreRcpts 0 y.0 × (bytes ≡ each_counted y.0 ++ y.1)) (ok_is (Texts × List ℕ) made x e) ((refl, tt), refl)

none_again : (texts : Texts) (rest : List ℕ) → AreRcpts 0 texts → ok {X = Texts × List ℕ} ([], each_counted texts ++ rest) ≡ ok (texts, rest)
none_again [] rest fits = refl
none_again (text ∷ texts) rest fits = absurd (omega (arith, fits.0))

reads_no_rcpts : ReadsExactly Texts (rcpts_at 0) (AreRcpts 0) each_counted
unfolding rcpts_at
reads_no_rcpts = record {
  sound = λ bytes x fits e. none_sound bytes x e;
  again = none_again;
  stops = λ bytes left fits e. absurd cc;
  some = ([], (refl, tt));
}

abbrev One : Type 0
One = List ℕ × Texts

abbrev one_both : ℕ → List ℕ → Read One
one_both n = both (List ℕ) Texts (long_text_at 1 256) (λ a. rcpts_at n)

abbrev FitsOne : ℕ → One → Type 0
FitsOne n = FitBoth (List ℕ) Texts IsRcpt (λ a. AreRcpts n)

abbrev spell_one : One → List ℕ
spell_one = spell_both (List ℕ) Texts counted (λ a. each_counted)

abbrev all_in : One → Texts
all_in x = x.0 ∷ x.1

one_to : (n : ℕ) (x : One) → FitsOne n x → AreRcpts (suc n) (all_in x) × (each_counted (all_in x) ≡ spell_one x)
one_to n x fits = ((ap suc fits.1.0, (fits.0, fits.1.1)), refl)

one_from : (n : ℕ) (texts : Texts) → AreRcpts (suc n) texts → (x : One) × FitsOne n x × (all_in x ≡ texts)
one_from n [] fits = absurd (omega (arith, fits.0))
one_from n (text ∷ texts) fits = let len : length texts ≡ n = omega (arith, fits.0) in ((text, texts), (fits.1.0, (len, fits.1.1)), refl)

more_same : (n : ℕ) (bytes : List ℕ) → rcpts_at (suc n) bytes ≡ through One Texts (one_both n) all_in bytes
unfolding rcpts_at
more_same n bytes = bind_both (List ℕ) Texts (Texts × List ℕ) (long_text_at 1 256) (λ a. rcpts_at n) (λ x rest. Ok (x.0 ∷ x.1, rest)) bytes

pub reads_rcpts : (n : ℕ) → ReadsExactly Texts (rcpts_at n) (AreRcpts n) each_counted
reads_rcpts zero = reads_no_rcpts
reads_rcpts (suc n) =
    let pair = reads_both (List ℕ) Texts (long_text_at 1 256) (λ a. rcpts_at n) IsRcpt counted (λ a. AreRcpts n) (λ a. each_counted) (reads_long_text 1 256 (lit≤ tt)) (λ a h. reads_rcpts n) in
    reads_same Texts (through One Texts (one_both n) all_in) (rcpts_at (suc n)) (AreRcpts (suc n)) each_counted (more_same n)
    (reads_through One Texts (one_both n) (FitsOne n) spell_one all_in (AreRcpts (suc n)) each_counted pair (record { to = one_to n; from = one_from n }))

-- ---- the body's length

abbrev pub IsBodyLen : ℕ → Type 0
IsBodyLen n = n ≤ 67108864

abbrev pub len_bytes : ℕ → List ℕ
len_bytes n = to_be_bytes w64 n

low_fits : (high low : ℕ) → high ≤ 1024 → low ≤ low_most high → (low ≤ 65535) × (65536 * high + low ≤ 67108864)
low_fits high low h k = (grind (arith, nat_tests), grind (arith, nat_tests))

low_back : (high low : ℕ) → 65536 * high + low ≤ 67108864 → low ≤ 65535 → low ≤ low_most high
low_back high low h k = grind (arith, nat_tests)

cells : (a b c d e f g h m n o p : ℕ) → a ≡ 0 → b ≡ 0 → c ≡ 0 → d ≡ 0 → e ≡ m → f ≡ n → g ≡ o → h ≡ p
    → a ∷ b ∷ c ∷ d ∷ e ∷ f ∷ g ∷ h ∷ [] ≡ 0 ∷ 0 ∷ 0 ∷ 0 ∷ m ∷ n ∷ o ∷ p ∷ []
cells a b c d e f g h m n o p q r s t u v w x = cc

to_bytes : (c d : ℕ) → c ≤ 1024 → d ≤ low_most c → IsBodyLen (65536 * c + d) × (len_bytes (65536 * c + d) ≡ 0 ∷ 0 ∷ 0 ∷ 0 ∷ c / 256 ∷ c % 256 ∷ d / 256 ∷ d % 256 ∷ [])
to_bytes c d third fourth =
    let last = low_fits c d third fourth in
    let short = last.0 in
    let small = last.1 in
    (last.1, cells _ _ _ _ _ _ _ _ (c / 256) (c % 256) (d / 256) (d % 256) (omega arith) (omega arith) (omega arith) (omega arith) (omega arith) (omega arith) (omega arith) (omega arith))

from_bytes : (n : ℕ) → IsBodyLen n → LastTwo 65536 1024 low_most n
from_bytes n small = record {
  third = n / 65536;
  fourth = n % 65536;
  third_fits = omega (arith, small);
  fourth_fits = let whole : 65536 * (n / 65536) + n % 65536 ≡ n = omega arith in low_back (n / 65536) (n % 65536) (omega (arith, small, whole)) (omega arith);
  sum = omega arith;
}

len_same : (bytes : List ℕ) → body_len_at bytes ≡ four_parts short_at two reads_short 65536 1024 low_most bytes
unfolding body_len_at
len_same bytes = refl

pub reads_body_len : ReadsExactly ℕ body_len_at IsBodyLen len_bytes
reads_body_len =
    reads_same ℕ (four_parts short_at two reads_short 65536 1024 low_most) body_len_at IsBodyLen len_bytes len_same
    (reads_four_parts short_at two reads_short 65536 1024 low_most IsBodyLen len_bytes to_bytes from_bytes)
