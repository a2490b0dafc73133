-- Texts up to a zero byte, and what they are read as.
use Rattle.std.proofs.Common.{◌≡◌, ℕ, ◌<◌, ◌≤◌, ◌==◌, Bool, true, false, List, [], ◌∷◌, ◌++◌, length, refl, sym, ap, ◌∙◌, append_assoc, append-nil, arith, length-append, ◌⊎◌, inl, inr}
use Rattle.std.specs.Prelude.{Option, Some, None, nat_lt, if◌then◌else◌}
use Rattle.std.specs.List.{list_any}
use Rattle.std.proofs.lemmas.Bool.{cases_lt, eqb-true, le-ltb, lt-ltb, or_parts}
use Rattle.std.proofs.lemmas.List.Folds.{list_any-append}
use Rattle.rlogin_hello.specs.Hello.{HelloReading, NoHello, Unended, ZeroCut, after_byte, after_text, cut_at_zero, hello_of, longest, read_client, read_text}
use Rattle.rlogin_hello.specs.HelloForm.{IsText, IsTooLong, is_zero}

pub hello-zero : (b : ℕ) (rest : List ℕ) → (b == 0) ≡ true → hello_of (b ∷ rest) ≡ read_client rest
unfolding hello_of
hello-zero b rest is = ap (λ (t : Bool). if t then read_client rest else NoHello) is

pub hello-other : (b : ℕ) (rest : List ℕ) → (b == 0) ≡ false → hello_of (b ∷ rest) ≡ NoHello
unfolding hello_of
hello-other b rest is = ap (λ (t : Bool). if t then read_client rest else NoHello) is

pub hello-nothing : hello_of [] ≡ Unended
unfolding hello_of
hello-nothing = refl

-- no byte of a text before others ends it
pub cut-front : (front rest : List ℕ) → list_any is_zero front ≡ false
    → cut_at_zero (front ++ rest) ≡ record { front = front ++ (cut_at_zero rest).front; rest = (cut_at_zero rest).rest }
cut-front [] rest plain = refl
cut-front (b ∷ front) rest plain =
    let parts = or_parts (is_zero b) (list_any is_zero front) plain in
    let cut : ZeroCut = after_byte b (cut_at_zero (front ++ rest)) in
    ap (λ (t : Bool). if t then record { front = []; rest = Some (front ++ rest) } else cut) parts.0 ∙ ap (after_byte b) (cut-front front rest parts.1)

pub cut-zero : (text rest : List ℕ) → list_any is_zero text ≡ false → cut_at_zero (text ++ 0 ∷ rest) ≡ record { front = text; rest = Some rest }
cut-zero text rest plain =
    cut-front text (0 ∷ rest) plain ∙ ap (λ (t : List ℕ). record { front = t; rest = Some rest }) (append-nil text)

pub cut-plain : (text : List ℕ) → list_any is_zero text ≡ false → cut_at_zero text ≡ record { front = text; rest = None }
cut-plain text plain =
    ap cut_at_zero (sym (append-nil text)) ∙ cut-front text [] plain ∙ ap (λ (t : List ℕ). record { front = t; rest = None }) (append-nil text)

-- what is read of a cut
abbrev read_cut : (List ℕ → List ℕ → HelloReading) → ZeroCut → HelloReading
read_cut then_read cut = if nat_lt longest (length cut.front) then NoHello else after_text then_read cut.front cut.rest

read-by : (then_read : List ℕ → List ℕ → HelloReading) (bytes : List ℕ) → read_text then_read bytes ≡ read_cut then_read (cut_at_zero bytes)
read-by then_read bytes = refl

pub read-plain : (then_read : List ℕ → List ℕ → HelloReading) (text : List ℕ) → IsText text → read_text then_read text ≡ Unended
read-plain then_read text is =
    ap (read_cut then_read) (cut-plain text is.plain) ∙ ap (λ (t : Bool). if t then NoHello else Unended) (le-ltb longest (length text) is.short)

pub read-zero : (then_read : List ℕ → List ℕ → HelloReading) (text rest : List ℕ) → IsText text → read_text then_read (text ++ 0 ∷ rest) ≡ then_read text rest
read-zero then_read text rest is =
    ap (read_cut then_read) (cut-zero text rest is.plain) ∙ ap (λ (t : Bool). if t then NoHello else then_read text rest) (le-ltb longest (length text) is.short)

pub read-long : (then_read : List ℕ → List ℕ → HelloReading) (text : List ℕ) → IsTooLong text → read_text then_read text ≡ NoHello
read-long then_read text is =
    let cut = cut_at_zero is.rest in
    let all : List ℕ = is.front ++ cut.front in
    let over : longest < length all = omega (arith, is.long, length-append is.front cut.front) in
    ap (read_text then_read) is.whole ∙ ap (read_cut then_read) (cut-front is.front is.rest is.plain)
    ∙ ap (λ (t : Bool). if t then NoHello else after_text then_read all cut.rest) (lt-ltb longest (length all) over)

-- a text, its zero byte, and what follows
pub record IsEnded (bytes : List ℕ) : Type 0 where
  pub text : List ℕ
  pub rest : List ℕ
  pub whole : bytes ≡ text ++ 0 ∷ rest
  pub is : IsText text

-- the zero byte and what follows it, if it is there
abbrev from_zero : Option (List ℕ) → List ℕ
from_zero None = []
from_zero (Some rest) = 0 ∷ rest

record IsCut (bytes : List ℕ) (cut : ZeroCut) : Type 0 where
  whole : bytes ≡ cut.front ++ from_zero cut.rest
  plain : list_any is_zero cut.front ≡ false

cut_one : (b : ℕ) (text : List ℕ) (test : Bool) → (b == 0) ≡ test → IsCut text (cut_at_zero text)
    → IsCut (b ∷ text) (if test then record { front = []; rest = Some text } else after_byte b (cut_at_zero text))
cut_one b text true is cut = record { whole = ap (λ (x : ℕ). x ∷ text) (eqb-true b 0 is); plain = refl }
cut_one b text false is cut = record {
  whole = ap (λ (t : List ℕ). b ∷ t) cut.whole;
  plain = rw is cut.plain;
}

cut-parts : (bytes : List ℕ) → IsCut bytes (cut_at_zero bytes)
cut-parts [] = record { whole = refl; plain = refl }
cut-parts (b ∷ text) = cut_one b text (b == 0) refl (cut-parts text)

parts_of : (bytes front : List ℕ) (rest : Option (List ℕ)) → IsCut bytes (record { front = front; rest = rest }) → length front ≤ longest → IsText bytes ⊎ IsEnded bytes
parts_of bytes front None cut short =
    let all : bytes ≡ front = cut.whole ∙ append-nil front in
    inl (rw all (record { plain = cut.plain; short = short }))
parts_of bytes front (Some rest) cut short = inr (record { text = front; rest = rest; whole = cut.whole; is = record { plain = cut.plain; short = short } })

-- bytes are a text that goes on, one that has ended, or one that is too long
pub text_cases : (bytes : List ℕ) → IsTooLong bytes ⊎ (IsText bytes ⊎ IsEnded bytes)
text_cases bytes =
    let cut = cut-parts bytes in
    let front = (cut_at_zero bytes).front in
    elim (cases_lt longest (length front)) [
      | inl long ↦ inl (record { front = front; rest = from_zero (cut_at_zero bytes).rest; whole = cut.whole; plain = cut.plain; long = long })
      | inr short ↦ inr (parts_of bytes front (cut_at_zero bytes).rest cut short)
    ]

-- one byte more of a text
pub text_more : (text : List ℕ) (b : ℕ) → IsText text → (b == 0) ≡ false → length text < longest → IsText (text ++ b ∷ [])
text_more text b is other less = record {
  plain = list_any-append is_zero text (b ∷ []) ∙ rw (is.plain, other) refl;
  short = omega (arith, length-append text (b ∷ []));
}

-- one byte too many
pub too_long : (text rest : List ℕ) (b : ℕ) → IsText text → (b == 0) ≡ false → longest ≤ length text → IsTooLong (text ++ b ∷ rest)
too_long text rest b is other full = record {
  front = text ++ b ∷ [];
  rest = rest;
  whole = sym (append_assoc text (b ∷ []) rest);
  plain = list_any-append is_zero text (b ∷ []) ∙ rw (is.plain, other) refl;
  long = omega (arith, length-append text (b ∷ []), full);
}
