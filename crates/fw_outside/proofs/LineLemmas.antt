-- Lines, their ends, and what tells how they are heard.
use Rattle.std.proofs.Common.{◌≡◌, ℕ, ◌+◌, ◌-◌, ◌<◌, ◌≤◌, Bool, true, false, List, [], ◌∷◌, ◌++◌, length, take, drop, refl, sym, ap, ◌∙◌, subst, inl, inr, ◌⊎◌, arith}
use Rattle.std.specs.Prelude.{All, ◌==◌, ◌||◌, min, cond, not, suc, Some, None, slice_index}
use Rattle.std.specs.List.{list_any, position_or_len, before_first, after_first}
use Rattle.std.specs.Str.Lines.{strip_carriage_return}
use Rattle.std.proofs.Math.Seq.{take-append_seam, take-append-add, drop-append-add}
use Rattle.std.proofs.lemmas.List.{take_all, take_min, take-append-le, length-take-le}
use Rattle.std.proofs.lemmas.List.Folds.{list_any_none}
use Rattle.std.proofs.lemmas.Bool.{cases_lt}
use Rattle.fw_outside.specs.declared.heard.Heard.{Heard}
use Rattle.fw_outside.specs.declared.heard.Heard.TheVariants.{Line, TooLong, Stopped}
use Rattle.fw_outside.specs.LineText.{IsText, most}
use Rattle.fw_outside.specs.Lines.{IsHeard, first_line, is_lf}

place_on : (lf rest : Bool) (n m : ℕ) → (lf || rest) ≡ false → (rest ≡ false → n ≡ m) → cond (not lf) (1 + n) 0 ≡ suc m
place_on true rest n m none same = absurd (cc)
place_on false rest n m none same = let is = same none in omega (arith, is)

-- the first LF stands behind bytes that have none
place : (text more : List ℕ) → list_any is_lf text ≡ false → position_or_len is_lf (text ++ 10 ∷ more) ≡ length text
place [] more none = refl
place (b ∷ text) more none = place_on (is_lf b) (list_any is_lf text) (position_or_len is_lf (text ++ 10 ∷ more)) (length text) none (place text more)

has_lf : (text more : List ℕ) → list_any is_lf (text ++ 10 ∷ more) ≡ true
has_lf [] more = refl
has_lf (b ∷ text) more = let rest = has_lf text more in grind arith

-- bytes without LF, and then one, are a line
pub first_line_is : (text more : List ℕ) → list_any is_lf text ≡ false → first_line (text ++ 10 ∷ more) ≡ Some (strip_carriage_return text, more)
first_line_is text more none =
    let at = place text more none in
    let before : before_first is_lf (text ++ 10 ∷ more) ≡ text = ap (λ n. take n (text ++ 10 ∷ more)) at ∙ take-append_seam text (10 ∷ more) in
    let after : after_first is_lf (text ++ 10 ∷ more) ≡ more = ap (λ n. drop (n + 1) (text ++ 10 ∷ more)) at ∙ drop-append-add text (10 ∷ more) 1 in
    rw (has_lf text more, before, after) refl

pub no_first_line : (text : List ℕ) → list_any is_lf text ≡ false → first_line text ≡ None
no_first_line text none = rw none refl

pub heard_line : (heard : Heard) (text : List ℕ) → list_any is_lf text ≡ false → IsText heard text → IsHeard heard (text ++ 10 ∷ [])
heard_line (Line line) text none is = record { is = first_line_is text [] none ∙ ap (λ l. Some (l, [])) (sym is.0); fits = is.1 }
heard_line TooLong text none is = record { line = strip_carriage_return text; is = first_line_is text [] none; long = is }
heard_line (Stopped stop) text none is = absurd is

cond_length : (cr : Bool) (text : List ℕ) → length text ≤ length (cond cr (take (length text - 1) text) text) + 1
cond_length true text = let short = length-take-le (length text - 1) text (omega arith) in omega (arith, short)
cond_length false text = omega arith

-- a CR is one byte
strip_length : (text : List ℕ) → length text ≤ length (strip_carriage_return text) + 1
strip_length text = cond_length (slice_index text (length text - 1) == 13) text

heard_short : (heard : Heard) (text : List ℕ) → length text ≤ most → IsText heard (take most text) → IsText heard text
heard_short heard text short is = subst (IsText heard) (take_all most text short) is

heard_long : (heard : Heard) (text : List ℕ) → most < length text → IsText heard (take most text) → IsText heard text
heard_long (Line line) text long is =
    let kept = strip_length (take most text) in
    let full = length-take-le most text (omega (arith, long)) in
    let same = ap length is.0 in
    absurd (omega (arith, kept, full, same, is.1))
heard_long TooLong text long is = let kept = strip_length text in omega (arith, kept, long)
heard_long (Stopped stop) text long is = absurd is

heard_by : (heard : Heard) (text : List ℕ) → (most < length text) ⊎ (length text ≤ most) → IsText heard (take most text) → IsText heard text
heard_by heard text (inl long) is = heard_long heard text long is
heard_by heard text (inr short) is = heard_short heard text short is

-- as much of a line as is kept tells how it is heard
pub heard_kept : (heard : Heard) (text : List ℕ) → IsText heard (take most text) → IsText heard text
heard_kept heard text is = heard_by heard text (cases_lt most (length text)) is

keeps_at : (kept bytes : List ℕ) (room : ℕ) → length kept + room ≡ most → take most (kept ++ bytes) ≡ kept ++ take room bytes
keeps_at kept bytes room is = ap (λ n. take n (kept ++ bytes)) (sym is) ∙ take-append-add kept bytes room

-- what there is room for is kept
pub keeps : (kept bytes : List ℕ) (room : ℕ) → length kept + room ≡ most → kept ++ take (min room (length bytes)) bytes ≡ take most (kept ++ bytes)
keeps kept bytes room is = ap (λ t. kept ++ t) (take_min room bytes) ∙ sym (keeps_at kept bytes room is)

take_twice_by : (a b : List ℕ) → (most < length a) ⊎ (length a ≤ most) → take most (take most a ++ b) ≡ take most (a ++ b)
take_twice_by a b (inr short) = ap (λ t. take most (t ++ b)) (take_all most a short)
take_twice_by a b (inl long) =
    let full : length (take most a) ≡ most = length-take-le most a (omega (arith, long)) in
    take-append-le most (take most a) b (omega (arith, full)) ∙ take_all most (take most a) (omega (arith, full)) ∙ sym (take-append-le most a b (omega (arith, long)))

-- what is left out of the bytes so far is left out of all of them
pub take_twice : (a b : List ℕ) → take most (take most a ++ b) ≡ take most (a ++ b)
take_twice a b = take_twice_by a b (cases_lt most (length a))

pub none_in : (text : List ℕ) → All (λ b. (b == 10) ≡ false) text → list_any is_lf text ≡ false
none_in text none = list_any_none is_lf text none
