-- Media, and the images of them.
use Rattle.std.proofs.Common.{max, ◌≡◌, ℕ, ◌+◌, ◌-◌, ◌<◌, ◌≤◌, Bool, true, false, ◌||◌, List, [], ◌∷◌, ◌++◌, length, take, drop, get_or, set, refl, sym, ap, subst, ◌∙◌, length-append, length-drop, arith, ◌⊎◌, inl, inr}
use Rattle.std.specs.List.{list_any}
use Rattle.std.proofs.lemmas.Bool.Decides.{nat_tests}
use Rattle.std.proofs.lemmas.List.{get_or_append_left, get_or-append_right, get_or-take, get_or-drop, get_or_past, ext_get_or, length-take, length-take-le, length-set, get_or-set_same, get_or-set_other}
use Rattle.std.proofs.lemmas.List.Folds.{list_any-append}
use Rattle.fw_disk.specs.Medium.{Medium, IsImage, is_within, is_written, laid_over, written_at, cut_at, settled}
use Rattle.fw_disk.specs.Laws.{AreBytes, IsLoose}

-- ---- after a sync

pub settled_image : (bytes : List ℕ) → AreBytes bytes → IsImage (settled bytes) bytes
settled_image bytes are = record { bytes = are; no_shorter = omega arith; no_longer = omega arith; kept = λ place lt free. refl }

pub settled_only : (bytes image : List ℕ) → IsImage (settled bytes) image → image ≡ bytes
settled_only bytes image is =
    let low : length bytes ≤ length image = is.no_shorter in
    let high : length image ≤ length bytes = is.no_longer in
    let len : length image ≡ length bytes = omega arith in
    ext_get_or 0 image bytes len (λ i lt. is.kept i (omega (arith, lt, len)) refl)

-- the images don't depend on the bytes as read
pub image_seen : (m : Medium) (seen image : List ℕ) → IsImage m image → IsImage (record m { seen = seen }) image
image_seen m seen image is = record { bytes = is.bytes; no_shorter = is.no_shorter; no_longer = is.no_longer; kept = is.kept }

pub image_unseen : (m : Medium) (seen image : List ℕ) → IsImage (record m { seen = seen }) image → IsImage m image
image_unseen m seen image is = record { bytes = is.bytes; no_shorter = is.no_shorter; no_longer = is.no_longer; kept = is.kept }

-- ---- what was done last may be lost

or_false : (a b : Bool) → (a || b) ≡ false → (a ≡ false) × (b ≡ false)
or_false true b e = absurd cc
or_false false b e = (refl, e)

-- a place that isn't written after a write wasn't before, nor is it in the range
free_before : (at n : ℕ) (written : List (ℕ × ℕ)) (place : ℕ) → list_any (is_within place) (written ++ (at, n) ∷ []) ≡ false
    → (list_any (is_within place) written ≡ false) × (is_within place (at, n) ≡ false)
free_before at n written place e =
    let parts = or_false (list_any (is_within place) written) (list_any (is_within place) ((at, n) ∷ [])) (sym (list_any-append (is_within place) written ((at, n) ∷ [])) ∙ e) in
    (parts.0, (or_false (is_within place (at, n)) false parts.1).0)

-- a range noted as written, whatever is written there
pub noted_lost : (m : Medium) (at n : ℕ) (image : List ℕ) → IsImage m image → IsImage (record m { written = m.written ++ (at, n) ∷ []; greatest = max m.greatest (at + n) }) image
noted_lost m at n image is = record {
  bytes = is.bytes;
  no_shorter = is.no_shorter;
  no_longer = omega (arith, is.no_longer);
  kept = λ place lt free. is.kept place lt (free_before at n m.written place free).0;
}

pub written_lost : (m : Medium) (at : ℕ) (bytes image : List ℕ) → IsImage m image → IsImage (written_at at bytes m) image
written_lost m at bytes image is =
    let noted = noted_lost m at (length bytes) image is in
    record { bytes = noted.bytes; no_shorter = noted.no_shorter; no_longer = noted.no_longer; kept = noted.kept }

pub cut_lost : (m : Medium) (len : ℕ) (image : List ℕ) → IsImage m image → IsImage (cut_at len m) image
cut_lost m len image is = record {
  bytes = is.bytes;
  no_shorter = omega (arith, is.no_shorter);
  no_longer = is.no_longer;
  kept = λ place lt free. is.kept place (omega (arith, lt)) free;
}

-- ---- bytes laid over others

pub length_laid : (at : ℕ) (bytes old : List ℕ) → at ≤ length old → length (laid_over at bytes old) ≡ at + length bytes + (length old - (at + length bytes))
length_laid at bytes old le =
    omega (arith, length-append (take at old) (bytes ++ drop (at + length bytes) old), length-append bytes (drop (at + length bytes) old), length-drop (at + length bytes) old, length-take-le at old le)

pub laid_before : (at : ℕ) (bytes old : List ℕ) (place : ℕ) → at ≤ length old → place < at → get_or (laid_over at bytes old) place 0 ≡ get_or old place 0
laid_before at bytes old place le lt =
    let len : length (take at old) ≡ at = length-take-le at old le in
    get_or_append_left (take at old) (bytes ++ drop (at + length bytes) old) 0 place (omega (arith, len)) ∙ get_or-take at old place 0 lt

laid_rest : (at : ℕ) (bytes old : List ℕ) (place : ℕ) → at ≤ length old → at ≤ place → get_or (laid_over at bytes old) place 0 ≡ get_or (bytes ++ drop (at + length bytes) old) (place - at) 0
laid_rest at bytes old place le more = get_or-append_right (take at old) (bytes ++ drop (at + length bytes) old) at place 0 (length-take-le at old le) more

pub laid_within : (at : ℕ) (bytes old : List ℕ) (place : ℕ) → at ≤ length old → at ≤ place → place < at + length bytes → get_or (laid_over at bytes old) place 0 ≡ get_or bytes (place - at) 0
laid_within at bytes old place le more lt = laid_rest at bytes old place le more ∙ get_or_append_left bytes (drop (at + length bytes) old) 0 (place - at) (omega arith)

pub laid_after : (at : ℕ) (bytes old : List ℕ) (place : ℕ) → at ≤ length old → at + length bytes ≤ place → get_or (laid_over at bytes old) place 0 ≡ get_or old place 0
laid_after at bytes old place le more =
    let index : at + length bytes + (place - at - length bytes) ≡ place = omega arith in
    laid_rest at bytes old place le (omega arith)
    ∙ get_or-append_right bytes (drop (at + length bytes) old) (length bytes) (place - at) 0 refl (omega arith)
    ∙ get_or-drop (at + length bytes) old (place - at - length bytes) 0
    ∙ ap (λ (i : ℕ). get_or old i 0) index

data Where (at n place : ℕ) : Type 0 where
  before : place < at → Where at n place
  within : at ≤ place → place < at + n → Where at n place
  after : at + n ≤ place → Where at n place

less_or : (a b : ℕ) → (a < b) ⊎ (b ≤ a)
less_or a b = grind arith

where_is : (at n place : ℕ) → Where at n place
where_is at n place =
    elim (less_or place at) [
      | inl lt ↦ before lt
      | inr le ↦ elim (less_or place (at + n)) [
        | inl lt ↦ within le lt
        | inr more ↦ after more
      ]
    ]

pub laid_bytes : (at : ℕ) (bytes old : List ℕ) → at ≤ length old → AreBytes bytes → AreBytes old → AreBytes (laid_over at bytes old)
laid_bytes at bytes old le new_are old_are place =
    elim (where_is at (length bytes) place) [
      | before lt ↦ subst (λ (n : ℕ). n < 256) (sym (laid_before at bytes old place le lt)) (old_are place)
      | within more lt ↦ subst (λ (n : ℕ). n < 256) (sym (laid_within at bytes old place le more lt)) (new_are (place - at))
      | after more ↦ subst (λ (n : ℕ). n < 256) (sym (laid_after at bytes old place le more)) (old_are place)
    ]

-- ---- the bytes as read are an image after each change

laid_kept : (at : ℕ) (bytes old : List ℕ) (place : ℕ) → at ≤ length old → is_within place (at, length bytes) ≡ false → get_or (laid_over at bytes old) place 0 ≡ get_or old place 0
laid_kept at bytes old place le free =
    elim (where_is at (length bytes) place) [
      | before lt ↦ laid_before at bytes old place le lt
      | within more lt ↦ let test : is_within place (at, length bytes) ≡ true = grind (arith, nat_tests) in absurd (cc (test, free))
      | after more ↦ laid_after at bytes old place le more
    ]

pub written_seen : (m : Medium) (at : ℕ) (bytes : List ℕ) → AreBytes bytes → at ≤ length m.seen → IsImage m m.seen → IsImage (written_at at bytes m) (written_at at bytes m).seen
written_seen m at bytes are le is =
    let len = length_laid at bytes m.seen le in
    record {
      bytes = laid_bytes at bytes m.seen le are is.bytes;
      no_shorter = omega (arith, len, is.no_shorter);
      no_longer = omega (arith, len, is.no_longer);
      kept = λ place lt free.
          let parts = free_before at (length bytes) m.written place free in
          laid_kept at bytes m.seen place le parts.1 ∙ is.kept place lt parts.0;
    }

taken_byte : (n : ℕ) (bytes : List ℕ) → AreBytes bytes → AreBytes (take n bytes)
taken_byte n bytes are place =
    elim (less_or place n) [
      | inl lt ↦ subst (λ (b : ℕ). b < 256) (sym (get_or-take n bytes place 0 lt)) (are place)
      | inr more ↦ subst (λ (b : ℕ). b < 256) (sym (get_or_past (take n bytes) place 0 (omega (arith, length-take n bytes)))) (omega arith)
    ]

pub cut_seen : (m : Medium) (len : ℕ) → len ≤ length m.seen → IsImage m m.seen → IsImage (cut_at len m) (cut_at len m).seen
cut_seen m len le is =
    let short : length (take len m.seen) ≡ len = length-take-le len m.seen le in
    record {
      bytes = taken_byte len m.seen is.bytes;
      no_shorter = omega (arith, short);
      no_longer = omega (arith, short, is.no_longer);
      kept = λ place lt free. get_or-take len m.seen place 0 (omega (arith, lt)) ∙ is.kept place (omega (arith, lt)) free;
    }

-- ---- a loose byte may be any

set_here : (image : List ℕ) (place byte other : ℕ) → other ≡ place → byte < 256 → get_or (set image place byte) other 0 < 256
set_here image place byte other e fits =
    elim (less_or place (length image)) [
      | inl lt ↦
          let at : get_or (set image place byte) other 0 ≡ byte = ap (λ (i : ℕ). get_or (set image place byte) i 0) e ∙ get_or-set_same image place byte 0 lt in
          subst (λ (b : ℕ). b < 256) (sym at) fits
      | inr le ↦
          let past : get_or (set image place byte) other 0 ≡ 0 = get_or_past (set image place byte) other 0 (omega (arith, e, le, length-set image place byte)) in
          subst (λ (b : ℕ). b < 256) (sym past) (omega arith)
    ]

set_bytes : (image : List ℕ) (place byte : ℕ) → AreBytes image → byte < 256 → AreBytes (set image place byte)
set_bytes image place byte are fits other =
    elim (less_or other place) [
      | inl lt ↦ subst (λ (b : ℕ). b < 256) (sym (get_or-set_other image place other byte 0 (λ e. omega (arith, lt, e)))) (are other)
      | inr le ↦ elim (less_or place other) [
        | inl lt ↦ subst (λ (b : ℕ). b < 256) (sym (get_or-set_other image place other byte 0 (λ e. omega (arith, lt, e)))) (are other)
        | inr more ↦ set_here image place byte other (omega (arith, le, more)) fits
      ]
    ]

loose_other : (m : Medium) (place other : ℕ) → IsLoose m place → other < m.least → is_written m other ≡ false → other ≡ place → ⊥
loose_other m place other (inl le) lt free e = omega (arith, le, lt, e)
loose_other m place other (inr written) lt free e = let same : is_written m other ≡ is_written m place = ap (is_written m) e in cc (same, free, written)

pub loose_any : (m : Medium) (image : List ℕ) (place byte : ℕ) → IsImage m image → IsLoose m place → byte < 256 → IsImage m (set image place byte)
loose_any m image place byte is loose fits =
    let len : length (set image place byte) ≡ length image = length-set image place byte in
    record {
      bytes = set_bytes image place byte is.bytes fits;
      no_shorter = omega (arith, len, is.no_shorter);
      no_longer = omega (arith, len, is.no_longer);
      kept = λ other lt free. get_or-set_other image place other byte 0 (loose_other m place other loose lt free) ∙ is.kept other lt free;
    }
