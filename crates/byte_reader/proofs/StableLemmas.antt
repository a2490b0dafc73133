-- Readers that a front decides.
use Rattle.std.proofs.Common.{◌≡◌, ℕ, ◌+◌, ◌*◌, ◌/◌, ◌<◌, ◌≤◌, Bool, true, false, ◌&&◌, cond, nat_le, nat_lt, List, [], ◌∷◌, ◌++◌, length, take, drop, Result, Ok, Err, refl, sym, ap, subst, ◌∙◌, append_assoc, length-append, arith, ◌⊎◌, inl, inr}
use Rattle.std.proofs.lemmas.Bool.{ltb-false, ltb-true, le-ltb}
use Rattle.std.proofs.lemmas.List.{take-append-le, drop-append-le}
use Rattle.std.specs.Int.{w64, from_be_bytes}
use Rattle.byte_reader.specs.Reading.{Read, ◌>>=◌, byte_at, bytes_at, short_at, second_least, second_most, long_number_at}
use Rattle.byte_reader.specs.Exact.{IsStable}
use Rattle.byte_reader.proofs.ReaderLemmas.{ok_is, bind_ok, bind_err}
use Rattle.byte_reader.proofs.FieldLemmas.{chosen, err_is}

-- ---- how it goes on

-- one reader and then another, by what was read
pub stable_then : (A B : Type 0) (f : List ℕ → Read A) (g : A → List ℕ → Read B) → IsStable A f → ((a : A) → IsStable B (g a)) → IsStable B (λ bytes. f bytes >>= λ x. g x.0 x.1)
stable_then A B f g first second = record {
  ok = λ p q x e.
      let b = bind_ok (A × List ℕ) (B × List ℕ) (f p) (λ y. g y.0 y.1) x e in
      rw (first.ok p q b.0 b.1) ((second b.0.0).ok b.0.1 q x b.2);
  err = λ p q left e some.
      elim (bind_err (A × List ℕ) (B × List ℕ) (f p) (λ y. g y.0 y.1) left e) [
        | inl stop ↦ rw (first.err p q left stop some) refl
        | inr b ↦ rw (first.ok p q b.0 b.1) ((second b.0.0).err b.0.1 q left b.2 some)
      ];
}

-- what was read, seen as another value
pub stable_end : (A : Type 0) (a : A) → IsStable A (λ bytes. Ok (a, bytes))
stable_end A a = record {
  ok = λ p q x e. let made : A × List ℕ = (a, p) in let same : made ≡ x = ok_is (A × List ℕ) made x e in ap (λ (y : A × List ℕ). let r : Read A = Ok (y.0, y.1 ++ q) in r) same;
  err = λ p q left e some. absurd cc;
}

pub stable_same : (A : Type 0) (f g : List ℕ → Read A) → ((bytes : List ℕ) → g bytes ≡ f bytes) → IsStable A f → IsStable A g
stable_same A f g same s = record {
  ok = λ p q x e. same (p ++ q) ∙ s.ok p q x (sym (same p) ∙ e);
  err = λ p q left e some. same (p ++ q) ∙ s.err p q left (sym (same p) ∙ e) some;
}

-- ---- a byte

byte_ok : (least most : ℕ) (p q : List ℕ) (x : ℕ × List ℕ) → byte_at least most p ≡ Ok x → byte_at least most (p ++ q) ≡ Ok (x.0, x.1 ++ q)
byte_ok least most [] q x e = absurd cc
byte_ok least most (b ∷ rest) q x e =
    elim (chosen (Read ℕ) (nat_le least b && nat_le b most) (Ok (b, rest)) (Err (length rest + 1)) (Ok x) e) [
      | inl h ↦
          let made : ℕ × List ℕ = (b, rest) in
          let same : made ≡ x = ok_is (ℕ × List ℕ) made x h.1 in
          rw h.0 (ap (λ (y : ℕ × List ℕ). let r : Read ℕ = Ok (y.0, y.1 ++ q) in r) same)
      | inr h ↦ absurd (cc (h.1))
    ]

abbrev err : {X : Type 0} → ℕ → Result X ℕ
err left = Err left

byte_err : (least most : ℕ) (p q : List ℕ) (left : ℕ) → byte_at least most p ≡ Err left → 0 < left → byte_at least most (p ++ q) ≡ Err (left + length q)
byte_err least most [] q left e some = let none : 0 ≡ left = err_is (ℕ × List ℕ) 0 left e in absurd (omega arith)
byte_err least most (b ∷ rest) q left e some =
    elim (chosen (Read ℕ) (nat_le least b && nat_le b most) (Ok (b, rest)) (Err (length rest + 1)) (Err left) e) [
      | inl h ↦ absurd (cc (h.1))
      | inr h ↦
          let all : length rest + 1 ≡ left = err_is (ℕ × List ℕ) (length rest + 1) left h.1 in
          let longer : length (rest ++ q) + 1 ≡ left + length q = omega (arith, length-append rest q, all) in
          rw h.0 (ap (λ (n : ℕ). err {X = ℕ × List ℕ} n) longer)
    ]

pub stable_byte : (least most : ℕ) → IsStable ℕ (byte_at least most)
stable_byte least most = record { ok = byte_ok least most; err = byte_err least most }

-- ---- so many bytes

bytes_ok : (n : ℕ) (p q : List ℕ) (x : List ℕ × List ℕ) → bytes_at n p ≡ Ok x → bytes_at n (p ++ q) ≡ Ok (x.0, x.1 ++ q)
bytes_ok n p q x e =
    elim (chosen (Read (List ℕ)) (nat_lt (length p) n) (Err 0) (Ok (take n p, drop n p)) (Ok x) e) [
      | inl h ↦ absurd (cc (h.1))
      | inr h ↦
          let le : n ≤ length p = ltb-false _ _ h.0 in
          let long : nat_lt (length (p ++ q)) n ≡ false = le-ltb _ _ (omega (arith, length-append p q)) in
          let made : List ℕ × List ℕ = (take n p, drop n p) in
          let same : made ≡ x = ok_is (List ℕ × List ℕ) made x h.1 in
          rw (long, take-append-le n p q le, drop-append-le n p q le) (ap (λ (y : List ℕ × List ℕ). let r : Read (List ℕ) = Ok (y.0, y.1 ++ q) in r) same)
    ]

bytes_err : (n : ℕ) (p q : List ℕ) (left : ℕ) → bytes_at n p ≡ Err left → 0 < left → bytes_at n (p ++ q) ≡ Err (left + length q)
bytes_err n p q left e some =
    elim (chosen (Read (List ℕ)) (nat_lt (length p) n) (Err 0) (Ok (take n p, drop n p)) (Err left) e) [
      | inr h ↦ absurd (cc (h.1))
      | inl h ↦ let none : 0 ≡ left = err_is (List ℕ × List ℕ) 0 left h.1 in absurd (omega arith)
    ]

pub stable_bytes : (n : ℕ) → IsStable (List ℕ) (bytes_at n)
stable_bytes n = record { ok = bytes_ok n; err = bytes_err n }

-- ---- numbers

pub stable_short : (least most : ℕ) → IsStable ℕ (short_at least most)
unfolding short_at
stable_short least most =
    stable_then ℕ ℕ (byte_at (least / 256) (most / 256)) (λ first bytes. byte_at (second_least least first) (second_most most first) bytes >>= λ second. Ok (256 * first + second.0, second.1)) (stable_byte (least / 256) (most / 256))
    (λ first. stable_then ℕ ℕ (byte_at (second_least least first) (second_most most first)) (λ second bytes. Ok (256 * first + second, bytes)) (stable_byte (second_least least first) (second_most most first)) (λ second. stable_end ℕ (256 * first + second)))

pub stable_long : IsStable ℕ long_number_at
unfolding long_number_at
stable_long = stable_then (List ℕ) ℕ (bytes_at 8) (λ eight bytes. Ok (from_be_bytes w64 eight, bytes)) (stable_bytes 8) (λ eight. stable_end ℕ (from_be_bytes w64 eight))
