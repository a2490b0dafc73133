-- Readers of texts behind their lengths.
use Rattle.std.proofs.Common.{◌≡◌, ℕ, ◌<◌, ◌≤◌, Bool, true, List, [], ◌∷◌, length, Ok, Err, refl, sym, ap, subst, arith}
use Rattle.byte_reader.specs.Reading.{IsBytes, Read, ◌>>=◌, byte_at, text_at, counted_at}
use Rattle.byte_reader.specs.Exact.{ReadsExactly, InRange, one, itself, IsTextOf, Passes, IsTextWithin, HasBytes, with_length}
use Rattle.byte_reader.proofs.ReaderLemmas.{reads_same, through, reads_through, both, FitBoth, spell_both, reads_both}
use Rattle.byte_reader.proofs.FieldLemmas.{reads_byte, reads_text}

are_bytes : (test : ℕ → ℕ → Bool) (n : ℕ) (text : List ℕ) → HasBytes test → Passes (test n) text → IsBytes text
are_bytes test n [] has h = tt
are_bytes test n (b ∷ text) has h = (has.bytes n b h.0, are_bytes test n text has h.1)

abbrev Counted : Type 0
Counted = ℕ × List ℕ

abbrev text_in : Counted → List ℕ
text_in x = x.1

abbrev FitsCounted : ℕ → ℕ → (ℕ → ℕ → Bool) → Counted → Type 0
FitsCounted least most test = FitBoth ℕ (List ℕ) (InRange least most) (λ n. IsTextOf (test n) n)

abbrev spell_counted : Counted → List ℕ
spell_counted = spell_both ℕ (List ℕ) one (λ n. itself)

abbrev counted_both : ℕ → ℕ → (ℕ → ℕ → Bool) → List ℕ → Read Counted
counted_both least most test = both ℕ (List ℕ) (byte_at least most) (λ n. text_at (test n) n)

counted_to : (least most : ℕ) (test : ℕ → ℕ → Bool) (x : Counted) → FitsCounted least most test x → IsTextWithin least most test (text_in x) × (with_length (text_in x) ≡ spell_counted x)
counted_to least most test x fits =
    let len : length x.1 ≡ x.0 = fits.1.len in (
      record {
        low = omega (arith, len, fits.0.0);
        high = omega (arith, len, fits.0.1);
        passes = subst (λ (n : ℕ). Passes (test n) x.1) (sym len) fits.1.passes;
      },
      ap (λ (n : ℕ). n ∷ x.1) len,
    )

counted_from : (least most : ℕ) (test : ℕ → ℕ → Bool) → HasBytes test → (text : List ℕ) → IsTextWithin least most test text → (x : Counted) × FitsCounted least most test x × (text_in x ≡ text)
counted_from least most test has text is = ((length text, text), ((is.low, is.high), record { len = refl; passes = is.passes; bytes = are_bytes test (length text) text has is.passes }), refl)

ends_known : (B C : Type 0) (r : Read B) (a : C) → r ≡ ((r >>= λ y. let z : Read (C × B) = Ok ((a, y.0), y.1) in z) >>= λ z. Ok (z.0.1, z.1))
ends_known B C (Ok y) a = refl
ends_known B C (Err left) a = refl

ends_by : (B C : Type 0) (f : Read C) (g : C → List ℕ → Read B) → (f >>= λ x. g x.0 x.1) ≡ ((f >>= λ x. (g x.0 x.1 >>= λ y. let z : Read (C × B) = Ok ((x.0, y.0), y.1) in z)) >>= λ z. Ok (z.0.1, z.1))
ends_by B C (Ok x) g = ends_known B C (g x.0 x.1) x.0
ends_by B C (Err left) g = refl

counted_same : (least most : ℕ) (test : ℕ → ℕ → Bool) (bytes : List ℕ) → counted_at least most test bytes ≡ through Counted (List ℕ) (counted_both least most test) text_in bytes
unfolding counted_at
counted_same least most test bytes = ends_by (List ℕ) ℕ (byte_at least most bytes) (λ n. text_at (test n) n)

pub reads_counted : (least most : ℕ) (test : ℕ → ℕ → Bool) → least ≤ most → HasBytes test → ReadsExactly (List ℕ) (counted_at least most test) (IsTextWithin least most test) with_length
reads_counted least most test le has =
    let pair = reads_both ℕ (List ℕ) (byte_at least most) (λ n. text_at (test n) n) (InRange least most) one (λ n. IsTextOf (test n) n) (λ n. itself) (reads_byte least most le) (λ n h. reads_text (test n) has.some (has.passes n) has.small n) in
    reads_same (List ℕ) (through Counted (List ℕ) (counted_both least most test) text_in) (counted_at least most test) (IsTextWithin least most test) with_length (counted_same least most test)
    (reads_through Counted (List ℕ) (counted_both least most test) (FitsCounted least most test) spell_counted text_in (IsTextWithin least most test) with_length pair (record { to = counted_to least most test; from = counted_from least most test has }))
