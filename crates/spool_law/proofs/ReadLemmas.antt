-- What the first two bytes of an image decide.
use Rattle.std.proofs.Common.{◌≡◌, ℕ, zero, suc, ◌<◌, ◌≤◌, Bool, true, false, cond, nat_eq, lit≤, lit<, List, [], ◌∷◌, ◌++◌, length, drop, get_or, set, refl, sym, ap, subst, ◌∙◌, arith, ◌⊎◌, inl, inr}
use Rattle.byte_reader.specs.Reading.{IsBytes}
use Rattle.byte_reader.specs.Exact.{InRange}
use Rattle.fw_disk.specs.Laws.{AreBytes}
use Rattle.slot_bytes.specs.Layout.{Mail, tagged_head, slot_bytes}
use Rattle.slot_bytes.specs.Reading.{Reading, reads}
use Rattle.slot_bytes.specs.Reading.Reading.{Free, Whole, Aside, Bad}
use Rattle.slot_bytes.specs.Files.{IsFreeFile, IsKeptFile}
use Rattle.slot_bytes.proofs.SlotLemmas.{bad_some, reads_again, reads_free}
use Rattle.spool_law.specs.Images.{IsFree, IsKept, IsWhole}

-- the message stands behind the gate, be it open or not
abbrev pub IsBehind : Mail → List ℕ → Type 0
IsBehind m image = IsKept m (set image 0 1)

all_bytes : (bytes : List ℕ) → AreBytes bytes → IsBytes bytes
all_bytes [] are = tt
all_bytes (b ∷ bytes) are = (are 0, all_bytes bytes (λ place. are (suc place)))

-- ---- readings

marked : ℕ → Mail → Reading
marked a m = cond (nat_eq a 0) (Whole m) (Aside m)

pub kept_not_free : (m : Mail) (image : List ℕ) → IsKept m image → IsFree image → ⊥
kept_not_free m image (inl e) f = cc (e, f)
kept_not_free m image (inr e) f = cc (e, f)

kept_not_bad : (m : Mail) (image : List ℕ) (at : ℕ) → IsKept m image → reads image ≡ Bad at → ⊥
kept_not_bad m image at (inl e) f = cc (e, f)
kept_not_bad m image at (inr e) f = cc (e, f)

pub whole_not_free : (image : List ℕ) → IsWhole image → IsFree image → ⊥
whole_not_free image w f = let e : reads image ≡ Whole w.mail = w.is in cc (e, f)

mark_kept : (b : Bool) (m : Mail) (r : Reading) → r ≡ cond b (Whole m) (Aside m) → (r ≡ Whole m) ⊎ (r ≡ Aside m)
mark_kept true m r e = inl e
mark_kept false m r e = inr e

mark_mail : (b : Bool) (x m : Mail) (r : Reading) → r ≡ cond b (Whole x) (Aside x) → (r ≡ Whole m) ⊎ (r ≡ Aside m) → x ≡ m
mark_mail true x m r e (inl f) = cc (e, f)
mark_mail true x m r e (inr f) = absurd (cc (e, f))
mark_mail false x m r e (inl f) = absurd (cc (e, f))
mark_mail false x m r e (inr f) = cc (e, f)

mark_not_free : (b : Bool) (x : Mail) (r : Reading) → r ≡ cond b (Whole x) (Aside x) → r ≡ Free → ⊥
mark_not_free true x r e f = cc (e, f)
mark_not_free false x r e f = cc (e, f)

file_reads : (bytes : List ℕ) (k : IsKeptFile bytes) → reads bytes ≡ cond (nat_eq k.aside 0) (Whole k.m) (Aside k.m)
file_reads bytes k = ap reads k.parts ∙ reads_again k.version k.gate k.aside k.marks k.m k.rest k.open_gate k.mark k.are_marks k.mail

-- ---- free images

pub free_file : (image : List ℕ) → AreBytes image → IsFree image → IsFreeFile image
free_file image are free =
    elim (bad_some image (all_bytes image are)) [
      | inl file ↦ elim file [
        | inl f ↦ f
        | inr k ↦ absurd (mark_not_free (nat_eq k.aside 0) k.m (reads image) (file_reads image k) free)
      ]
      | inr bad ↦ let e : reads image ≡ Bad bad.0 = bad.1 in absurd (cc (e, free))
    ]

-- ---- kept images

kept_file : (m : Mail) (image : List ℕ) → AreBytes image → IsKept m image → IsKeptFile image
kept_file m image are kept =
    elim (bad_some image (all_bytes image are)) [
      | inl file ↦ elim file [
        | inl f ↦ absurd (kept_not_free m image kept (reads_free image f))
        | inr k ↦ k
      ]
      | inr bad ↦ absurd (kept_not_bad m image bad.0 kept bad.1)
    ]

pub kept_long : (m : Mail) (image : List ℕ) → AreBytes image → IsKept m image → 2 ≤ length image
kept_long m image are kept =
    let k = kept_file m image are kept in
    let len : length image ≡ length (slot_bytes k.version k.gate k.aside k.marks k.m ++ k.rest) = ap length k.parts in
    omega (arith, len)

-- what follows two bytes of a message, behind any other gate and mark
marks_any : (g a : ℕ) (rest : List ℕ) (m : Mail) → AreBytes (g ∷ a ∷ rest) → IsKept m (g ∷ a ∷ rest)
    → (h b : ℕ) → InRange 1 255 h → InRange 0 255 b → reads (h ∷ b ∷ rest) ≡ cond (nat_eq b 0) (Whole m) (Aside m)
marks_any g a rest m are kept h b open_gate mark =
    let k = kept_file m (g ∷ a ∷ rest) are kept in
    let tail : rest ≡ (tagged_head k.version (length k.m.body) k.marks k.m.from k.m.rcpts ++ k.m.body) ++ k.rest = ap (drop 2) k.parts in
    let same : k.m ≡ m = mark_mail (nat_eq k.aside 0) k.m m (reads (g ∷ a ∷ rest)) (file_reads (g ∷ a ∷ rest) k) kept in
    ap (λ (t : List ℕ). reads (h ∷ b ∷ t)) tail
    ∙ reads_again k.version h b k.marks k.m k.rest open_gate mark k.are_marks k.mail
    ∙ ap (λ (x : Mail). cond (nat_eq b 0) (Whole x) (Aside x)) same

marks_kept : (g a : ℕ) (rest : List ℕ) (m : Mail) → AreBytes (g ∷ a ∷ rest) → IsKept m (g ∷ a ∷ rest)
    → (h b : ℕ) → InRange 1 255 h → InRange 0 255 b → IsKept m (h ∷ b ∷ rest)
marks_kept g a rest m are kept h b open_gate mark =
    mark_kept (nat_eq b 0) m (reads (h ∷ b ∷ rest)) (marks_any g a rest m are kept h b open_gate mark)

other_front : (g a h b : ℕ) (rest : List ℕ) → AreBytes (g ∷ a ∷ rest) → h < 256 → b < 256 → AreBytes (h ∷ b ∷ rest)
other_front g a h b rest are small_h small_b zero = small_h
other_front g a h b rest are small_h small_b (suc zero) = small_b
other_front g a h b rest are small_h small_b (suc (suc place)) = are (suc (suc place))

some_or_none : (n : ℕ) → (n ≡ 0) ⊎ (1 ≤ n)
some_or_none zero = inl refl
some_or_none (suc n) = inr (omega arith)

free_front : (a : ℕ) (rest : List ℕ) → IsFree (0 ∷ a ∷ rest)
free_front a rest = reads_free (0 ∷ a ∷ rest) (record { long = omega arith; gate = refl })

-- ---- images by their shape

-- a message behind an open gate stands behind it
pub kept_behind : (m : Mail) (image : List ℕ) → AreBytes image → IsKept m image → IsBehind m image
kept_behind m [] are kept = absurd (omega (arith, kept_long m [] are kept))
kept_behind m (g ∷ []) are kept = absurd (omega (arith, kept_long m (g ∷ []) are kept))
kept_behind m (g ∷ a ∷ rest) are kept =
    let small : a < 256 = are 1 in
    marks_kept g a rest m are kept 1 a (lit≤ tt, lit≤ tt) (omega arith, omega arith)

behind_two : (g a : ℕ) (rest : List ℕ) (m : Mail) → AreBytes (g ∷ a ∷ rest) → IsKept m (1 ∷ a ∷ rest) → (g ≡ 0) ⊎ (1 ≤ g)
    → IsFree (g ∷ a ∷ rest) ⊎ IsKept m (g ∷ a ∷ rest)
behind_two g a rest m are kept (inl none) = inl (subst (λ (n : ℕ). IsFree (n ∷ a ∷ rest)) (sym none) (free_front a rest))
behind_two g a rest m are kept (inr some) =
    let gate : g < 256 = are 0 in
    let mark : a < 256 = are 1 in
    inr (marks_kept 1 a rest m (other_front g a 1 a rest are (lit< tt) mark) kept g a (some, omega arith) (omega arith, omega arith))

-- where a message stands behind a gate, an image is free or that message
pub behind_reads : (m : Mail) (image : List ℕ) → AreBytes image → IsBehind m image → IsFree image ⊎ IsKept m image
behind_reads m [] are kept = absurd (omega (arith, kept_long m [] are kept))
behind_reads m (g ∷ []) are kept =
    let one : AreBytes (1 ∷ []) = λ place. small_one place in
    absurd (omega (arith, kept_long m (1 ∷ []) one kept))
  where
    small_one : (place : ℕ) → get_or (1 ∷ []) place 0 < 256
    small_one zero = lit< tt
    small_one (suc place) = lit< tt
behind_reads m (g ∷ a ∷ rest) are kept = behind_two g a rest m are kept (some_or_none g)

gate_some : (g x : ℕ) (rest : List ℕ) (m : Mail) → IsKept m (g ∷ x ∷ rest) → (g ≡ 0) ⊎ (1 ≤ g) → 1 ≤ g
gate_some g x rest m kept (inl none) =
    absurd (kept_not_free m (g ∷ x ∷ rest) kept (subst (λ (n : ℕ). IsFree (n ∷ x ∷ rest)) (sym none) (free_front x rest)))
gate_some g x rest m kept (inr some) = some

-- a message with another mark is that message
pub other_mark : (m : Mail) (image : List ℕ) (x : ℕ) → AreBytes image → AreBytes (set image 1 x) → IsKept m (set image 1 x) → IsKept m image
other_mark m [] x are other kept = absurd (omega (arith, kept_long m [] are kept))
other_mark m (g ∷ []) x are other kept = absurd (omega (arith, kept_long m (g ∷ []) are kept))
other_mark m (g ∷ a ∷ rest) x are other kept =
    let gate : g < 256 = are 0 in
    let mark : a < 256 = are 1 in
    marks_kept g x rest m other kept g a (gate_some g x rest m kept (some_or_none g), omega arith) (omega arith, omega arith)

pub set_twice : (image : List ℕ) (x y : ℕ) → set (set image 0 x) 0 y ≡ set image 0 y
set_twice [] x y = refl
set_twice (g ∷ rest) x y = refl
