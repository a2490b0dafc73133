-- Bytes of a file that are read and written in parts.
use Rattle.std.proofs.Common.{◌≡◌, ℕ, ◌+◌, ◌-◌, ◌<◌, ◌≤◌, Bool, true, false, ◌||◌, List, [], ◌∷◌, ◌++◌, length, take, drop, Option, Some, None, Result, Ok, Err, refl, sym, ap, subst, ◌∙◌, arith, length-append, length-drop}
use Rattle.std.specs.Prelude.{IfOk, IfSome}
use Rattle.std.proofs.Math.Seq.{take-append-add, take-append_seam, drop-append-add}
use Rattle.std.proofs.lemmas.List.{append_assoc, drop-drop, length-take-le, take-append-drop, take-append-le, take_rest}
use Rattle.fw_disk.specs.DiskView.{IsFront}
use Rattle.fw_disk.specs.Medium.{laid_over}
use Rattle.fw_disk.proofs.MediumLemmas.{length_laid}
use Rattle.fw_real.specs.FileView.{FileView, EndsBy, IsDone, IsKept, IsReadTo, IsSomeOf, Lays, ReadsAll, ReadsSome, ReadsTo}

-- ---- writing

laid_none : (at : ℕ) (seen : List ℕ) → laid_over at [] seen ≡ seen
laid_none at seen =
    let here : at + 0 ≡ at = omega arith in
    ap (λ (n : ℕ). take at seen ++ drop n seen) here ∙ take-append-drop at seen

-- a front, bytes laid behind it, and bytes laid behind those
parts_of : (a p q r : List ℕ) → laid_over (length a + length p) q (a ++ (p ++ r)) ≡ a ++ ((p ++ q) ++ drop (length q) r)
parts_of a p q r =
    let front : take (length a + length p) (a ++ (p ++ r)) ≡ a ++ p = take-append-add a (p ++ r) (length p) ∙ ap (λ (l : List ℕ). a ++ l) (take-append_seam p r) in
    let sum : length a + length p + length q ≡ length a + (length p + length q) = omega arith in
    let behind : drop (length a + length p + length q) (a ++ (p ++ r)) ≡ drop (length q) r
    = ap (λ (n : ℕ). drop n (a ++ (p ++ r))) sum ∙ drop-append-add a (p ++ r) (length p + length q) ∙ drop-append-add p r (length q) in
    ap (λ (l : List ℕ). l ++ (q ++ drop (length a + length p + length q) (a ++ (p ++ r)))) front
    ∙ ap (λ (l : List ℕ). (a ++ p) ++ (q ++ l)) behind
    ∙ append_assoc a p (q ++ drop (length q) r)
    ∙ ap (λ (l : List ℕ). a ++ l) (sym (append_assoc p q (drop (length q) r)))

-- bytes laid over others in two parts
laid_parts : (at : ℕ) (p q old : List ℕ) → at ≤ length old → laid_over (at + length p) q (laid_over at p old) ≡ laid_over at (p ++ q) old
laid_parts at p q old le =
    let len : length (take at old) ≡ at = length-take-le at old le in
    let sum : at + length p + length q ≡ at + length (p ++ q) = omega (arith, length-append p q) in
    ap (λ (n : ℕ). laid_over (n + length p) q (laid_over at p old)) (sym len)
    ∙ parts_of (take at old) p q (drop (at + length p) old)
    ∙ ap (λ (l : List ℕ). take at old ++ ((p ++ q) ++ l)) (drop-drop (length q) (at + length p) old ∙ ap (λ (n : ℕ). drop n old) sum)

pub lays_none : (at : ℕ) (file : Option FileView) → Lays at [] file file
lays_none at None = tt
lays_none at (Some f) = λ le. ap (λ (seen : List ℕ). Some (record { seen = seen; synced = f.synced })) (sym (laid_none at f.seen))

-- a first part of the bytes is written, and then the others behind it
pub lays_then : (at n place : ℕ) (bytes : List ℕ) (old middle new : Option FileView) → n ≤ length bytes → place ≡ at + n
    → Lays at (take n bytes) old middle → Lays place (drop n bytes) middle new → Lays at bytes old new
lays_then at n place bytes None middle new le is first later = tt
lays_then at n place bytes (Some f) middle new le is first later = λ within.
    let len : length (take n bytes) ≡ n = length-take-le n bytes le in
    let laid : List ℕ = laid_over at (take n bytes) f.seen in
    let second : Lays place (drop n bytes) (Some (record { seen = laid; synced = f.synced })) new = subst (λ (m : Option FileView). Lays place (drop n bytes) m new) (first within) later in
    let size : length laid ≡ at + length (take n bytes) + (length f.seen - (at + length (take n bytes))) = length_laid at (take n bytes) f.seen within in
    let at_end : place ≡ at + length (take n bytes) = is ∙ ap (λ (k : ℕ). at + k) (sym len) in
    second (omega (arith, size, at_end))
    ∙ ap (λ (seen : List ℕ). Some (record { seen = seen; synced = f.synced }))
    (ap (λ (k : ℕ). laid_over k (drop n bytes) laid) at_end
    ∙ laid_parts at (take n bytes) (drop n bytes) f.seen within
    ∙ ap (λ (l : List ℕ). laid_over at l f.seen) (take-append-drop n bytes))

-- the same where what is left is a slice
pub lays_on : (at n place k : ℕ) (bytes : List ℕ) (old middle new : Option FileView) → n ≤ length bytes → place ≡ at + n → k ≡ length bytes - n
    → Lays at (take n bytes) old middle → Lays place (take k (drop n bytes)) middle new → Lays at bytes old new
lays_on at n place k bytes old middle new le is e first later =
    let rest : take k (drop n bytes) ≡ drop n bytes = ap (λ (j : ℕ). take j (drop n bytes)) e ∙ take_rest bytes n in
    lays_then at n place bytes old middle new le is first (subst (λ (l : List ℕ). Lays place l middle new) rest later)

-- ---- reading

pub read_nothing : (at : ℕ) (buf : List ℕ) (file : Option FileView) → ReadsTo 0 at buf file
read_nothing at buf None = tt
read_nothing at buf (Some f) = record { within = omega arith; bytes = refl }

taken_parts : (n m : ℕ) (a b : List ℕ) → length a ≡ n → take (n + m) (a ++ b) ≡ a ++ take m b
taken_parts n m a b e = ap (λ (k : ℕ). take (k + m) (a ++ b)) (sym e) ∙ take-append-add a b m

taken_in_two : (n m : ℕ) (l : List ℕ) → n ≤ length l → take (n + m) l ≡ take n l ++ take m (drop n l)
taken_in_two n m l le = ap (λ (x : List ℕ). take (n + m) x) (sym (take-append-drop n l)) ∙ taken_parts n m (take n l) (drop n l) (length-take-le n l le)

-- more was read behind what was read
read_then : (done n at place room : ℕ) (old part seen : List ℕ) → done ≤ length old → place ≡ at + done
    → IsReadTo done at old seen → IsSomeOf n place room part seen → IsReadTo (done + n) at (take done old ++ part) seen
read_then done n at place room old part seen le is h s =
    let len : length (take done old) ≡ done = length-take-le done old le in
    let left : length (drop at seen) ≡ length seen - at = length-drop at seen in
    let next : drop place seen ≡ drop done (drop at seen) = ap (λ (k : ℕ). drop k seen) is ∙ sym (drop-drop done at seen) in
    record {
      within = omega (arith, h.within, s.within, is);
      bytes = taken_parts done n (take done old) part len
          ∙ ap (λ (l : List ℕ). l ++ take n part) h.bytes
          ∙ ap (λ (l : List ℕ). take done (drop at seen) ++ l) (s.bytes ∙ ap (λ (l : List ℕ). take n l) next)
          ∙ sym (taken_in_two done n (drop at seen) (omega (arith, h.within, left)));
    }

pub reads_then : (done n at place room : ℕ) (old part : List ℕ) (file : Option FileView) → done ≤ length old → place ≡ at + done
    → ReadsSome n place room part file → ReadsTo done at old file → ReadsTo (done + n) at (take done old ++ part) file
reads_then done n at place room old part None le is s h = tt
reads_then done n at place room old part (Some f) le is s h = read_then done n at place room old part f.seen le is h s

some_longer : (n place room : ℕ) (part post seen : List ℕ) → n ≤ length part → IsSomeOf n place room part seen → IsSomeOf n place room (part ++ post) seen
some_longer n place room part post seen le s = record { within = s.within; bytes = take-append-le n part post le ∙ s.bytes; ended = s.ended }

longer : (n place room : ℕ) (part post : List ℕ) (file : Option FileView) → n ≤ length part → ReadsSome n place room part file → ReadsSome n place room (part ++ post) file
longer n place room part post None le s = tt
longer n place room part post (Some f) le s = some_longer n place room part post f.seen le s

-- the same in a buffer of which a part was given
pub reads_more : {E : Type 0} → (done at place room : ℕ) (old part post : List ℕ) (file : Option FileView) (r : Result ℕ E) → done ≤ length old → place ≡ at + done
    → IfOk r (λ n. n ≤ length part) → IfOk r (λ n. ReadsSome n place room part file)
    → IfOk r (λ n. ReadsTo done at old file → ReadsTo (done + n) at (take done old ++ (part ++ post)) file)
reads_more done at place room old part post file (Ok n) le is few s = λ h. reads_then done n at place room old (part ++ post) file le is (longer n place room part post file few s) h
reads_more done at place room old part post file (Err e) le is few s = tt

-- nothing was read, though there was room
pub ends_by : (n done at place room : ℕ) (part : List ℕ) (file : Option FileView) → place ≡ at + done → 0 < room
    → ReadsSome n place room part file → n ≡ 0 → EndsBy (at + done) file
ends_by n done at place room part None is some s none = tt
ends_by n done at place room part (Some f) is some s none = subst (λ (k : ℕ). length f.seen ≤ k) is (s.ended none some)

-- the buffer is full
pub reads_full : (done at room : ℕ) (buf : List ℕ) (file : Option FileView) → done ≤ room → room ≤ done → ReadsTo done at buf file → ReadsAll done at room buf file
reads_full done at room buf None le more h = tt
reads_full done at room buf (Some f) le more h = record { count = omega (arith, h.within, le, more); bytes = h.bytes }

-- the file ended
pub reads_end : (done at room : ℕ) (buf : List ℕ) (file : Option FileView) → done ≤ room → ReadsTo done at buf file → EndsBy (at + done) file → ReadsAll done at room buf file
reads_end done at room buf None le h end = tt
reads_end done at room buf (Some f) le h end = record { count = omega (arith, h.within, le, end); bytes = h.bytes }

-- ---- a first byte that is written back as read

take_none : (l : List ℕ) → take 0 l ≡ []
take_none [] = refl
take_none (x ∷ l) = refl

-- what was read at the front is laid there again
laid_again : (n room : ℕ) (buf seen : List ℕ) → n ≤ length buf → IsFront n 0 room buf seen → laid_over 0 (take n buf) seen ≡ seen
laid_again n room buf seen le h =
    let len : 0 + length (take n buf) ≡ n = omega (arith, length-take-le n buf le) in
    ap (λ (l : List ℕ). l ++ (take n buf ++ drop (0 + length (take n buf)) seen)) (take_none seen)
    ∙ ap (λ (k : ℕ). take n buf ++ drop k seen) len
    ∙ ap (λ (l : List ℕ). l ++ drop n seen) h.bytes
    ∙ take-append-drop n seen

pub written_back : (n room : ℕ) (buf : List ℕ) (old new : Option FileView) → n ≤ length buf → ReadsAll n 0 room buf old → Lays 0 (take n buf) old new
    → IfSome old (λ f. new ≡ Some f)
written_back n room buf None new le h laid = tt
written_back n room buf (Some f) new le h laid =
    laid (omega arith) ∙ ap (λ (seen : List ℕ). Some (record { seen = seen; synced = f.synced })) (laid_again n room buf f.seen le h)

-- ---- a file that is opened when it is first called

pub kept_here : (file : Option (Option FileView)) → IsKept file file
kept_here None = tt
kept_here (Some file) = refl

pub kept_then : (a b c : Option (Option FileView)) → IsKept a b → c ≡ b → IsKept a c
kept_then a b c h is = subst (λ (x : Option (Option FileView)). IsKept a x) (sym is) h

pub is_done : (P : Option FileView → Option FileView → Type 0) (old : Option (Option FileView)) (before after : Option FileView)
    → IsKept old (Some before) → P before after → IsDone P old (Some after)
is_done P old before after was done = record { before = before; after = after; was = was; done = done; is = refl }

pub still_lost : (b lost : Bool) → lost ≡ true → (b || lost) ≡ lost
still_lost true lost e = sym e
still_lost false lost e = refl
