-- Which images a write behind the gate, and one of a byte, leave.
use Rattle.std.proofs.Common.{◌≡◌, ℕ, zero, suc, ◌<◌, ◌≤◌, Bool, true, false, ◌||◌, lit<, List, [], ◌∷◌, length, take, get_or, set, refl, sym, ap, subst, ◌∙◌, arith, ◌⊎◌, inl, inr}
use Rattle.std.proofs.lemmas.Bool.Decides.{nat_tests}
use Rattle.std.proofs.lemmas.List.{get_or-take, get_or_past, length-take, length-take-le, get_or-set_same, get_or-set_other}
use Rattle.std.proofs.lemmas.List.Folds.{list_any-append}
use Rattle.fw_disk.specs.Medium.{Medium, IsImage, is_within, is_written, written_at, settled}
use Rattle.fw_disk.specs.Laws.{AreBytes, IsLoose}
use Rattle.fw_disk.specs.Moments.{EachImage}
use Rattle.fw_disk.proofs.MediumLemmas.{settled_image, settled_only, image_seen, image_unseen, loose_any}
use Rattle.slot_bytes.specs.Files.{IsFreeFile}
use Rattle.slot_bytes.proofs.SlotLemmas.{reads_free}
use Rattle.spool_law.specs.Images.{IsFree}
use Rattle.spool_law.specs.Events.{Outcome, MayLeave, read_after}
use Rattle.spool_law.specs.Events.Outcome.{Done, Failed}
use Rattle.spool_law.proofs.ReadLemmas.{free_file}

less_or : (a b : ℕ) → (a < b) ⊎ (b ≤ a)
less_or a b = grind arith

pub one_byte : (b : ℕ) → b < 256 → AreBytes (b ∷ [])
one_byte b small zero = small
one_byte b small (suc place) = lit< tt

-- ---- what was read after a failed write

pub each_read : (Q : List ℕ → Type 0) (o : Outcome) (m : Medium) → EachImage Q m → EachImage Q (read_after o m)
each_read Q Done m each = each
each_read Q (Failed seen) m each = λ image is. each image (image_unseen m seen image is)

pub sound_read : (o : Outcome) (m : Medium) → MayLeave o m → IsImage m m.seen → IsImage (read_after o m) (read_after o m).seen
sound_read Done m may sound = sound
sound_read (Failed seen) m may sound = image_seen m seen seen may

pub each_settled : (Q : List ℕ → Type 0) (m : Medium) (image : List ℕ) → IsImage m image → EachImage Q m → EachImage Q (settled image)
each_settled Q m image is each other one = subst Q (sym (settled_only image other one)) (each image is)

pub sound_settled : (m : Medium) (image : List ℕ) → IsImage m image → IsImage (settled image) image
sound_settled m image is = settled_image image is.bytes

-- ---- free slots

pub record IsShut (m : Medium) : Type 0 where
  pub long : 2 ≤ m.least
  pub unwritten : is_written m 0 ≡ false
  pub gate : get_or m.synced 0 0 ≡ 0

first_byte : (bytes : List ℕ) → get_or bytes 0 1 ≡ 0 → get_or bytes 0 0 ≡ 0
first_byte [] e = refl
first_byte (b ∷ bytes) e = e

first_of_long : (bytes : List ℕ) → 2 ≤ length bytes → get_or bytes 0 0 ≡ 0 → get_or bytes 0 1 ≡ 0
first_of_long [] long e = absurd (omega (arith, long))
first_of_long (b ∷ bytes) long e = e

pub shut_free : (m : Medium) → IsShut m → EachImage IsFree m
shut_free m shut image is =
    let long : 2 ≤ length image = omega (arith, shut.long, is.no_shorter) in
    let kept : get_or image 0 0 ≡ get_or m.synced 0 0 = is.kept 0 (omega (arith, shut.long)) shut.unwritten in
    let free : IsFreeFile image = record { long = long; gate = first_of_long image long (kept ∙ shut.gate) } in
    reads_free image free

taken_byte : (n : ℕ) (bytes : List ℕ) → AreBytes bytes → AreBytes (take n bytes)
taken_byte n bytes are place =
    elim (less_or place n) [
      | inl lt ↦ subst (λ (b : ℕ). b < 256) (sym (get_or-take n bytes place 0 lt)) (are place)
      | inr more ↦ subst (λ (b : ℕ). b < 256) (sym (get_or_past (take n bytes) place 0 (omega (arith, length-take n bytes, more)))) (lit< tt)
    ]

-- the shortest image with the bytes as read
shortest : (m : Medium) → IsImage m m.seen → IsImage m (take m.least m.seen)
shortest m sound =
    let len : length (take m.least m.seen) ≡ m.least = length-take-le m.least m.seen sound.no_shorter in
    record {
      bytes = taken_byte m.least m.seen sound.bytes;
      no_shorter = omega (arith, len);
      no_longer = omega (arith, len, sound.no_shorter, sound.no_longer);
      kept = λ place lt free. get_or-take m.least m.seen place 0 lt ∙ sound.kept place lt free;
    }

one_not_none : (bytes : List ℕ) → 0 < length bytes → get_or (set bytes 0 1) 0 0 ≡ 0 → ⊥
one_not_none bytes some e = let one : get_or (set bytes 0 1) 0 0 ≡ 1 = get_or-set_same bytes 0 1 0 some in omega (arith, one, e)

gate_not_loose : (m : Medium) → IsImage m m.seen → EachImage IsFree m → IsLoose m 0 → ⊥
gate_not_loose m sound each loose =
    let seen : IsFreeFile m.seen = free_file m.seen sound.bytes (each m.seen sound) in
    let is : IsImage m (set m.seen 0 1) = loose_any m m.seen 0 1 sound loose (lit< tt) in
    let open_file : IsFreeFile (set m.seen 0 1) = free_file (set m.seen 0 1) is.bytes (each (set m.seen 0 1) is) in
    one_not_none m.seen (omega (arith, seen.long)) (first_byte (set m.seen 0 1) open_file.gate)

not_true : (b : Bool) → (b ≡ true → ⊥) → b ≡ false
not_true true h = absurd (h refl)
not_true false h = refl

pub free_shut : (m : Medium) → IsImage m m.seen → EachImage IsFree m → IsShut m
free_shut m sound each =
    let short = shortest m sound in
    let file : IsFreeFile (take m.least m.seen) = free_file (take m.least m.seen) short.bytes (each (take m.least m.seen) short) in
    let len : length (take m.least m.seen) ≡ m.least = length-take-le m.least m.seen sound.no_shorter in
    let long : 2 ≤ m.least = omega (arith, file.long, len) in
    let unwritten : is_written m 0 ≡ false = not_true (is_written m 0) (λ w. gate_not_loose m sound each (inr w)) in
    let seen : IsFreeFile m.seen = free_file m.seen sound.bytes (each m.seen sound) in
    record {
      long = long;
      unwritten = unwritten;
      gate = sym (sound.kept 0 (omega (arith, long)) unwritten) ∙ first_byte m.seen seen.gate;
    }

-- ---- what was written

both_false : (a b : Bool) → a ≡ false → b ≡ false → (a || (b || false)) ≡ false
both_false a b p q = rw (p, q) refl

one_true : (a b : Bool) → b ≡ true → (a || (b || false)) ≡ true
one_true true b q = refl
one_true false b q = rw q refl

unwritten_still : (m : Medium) (at : ℕ) (bytes : List ℕ) (place : ℕ) → is_written m place ≡ false → is_within place (at, length bytes) ≡ false → is_written (written_at at bytes m) place ≡ false
unwritten_still m at bytes place free out =
    list_any-append (is_within place) m.written ((at, length bytes) ∷ []) ∙ both_false (is_written m place) (is_within place (at, length bytes)) free out

gate_out : (at n : ℕ) → 1 ≤ at → is_within 0 (at, n) ≡ false
gate_out at n some = grind (arith, nat_tests)

-- a write behind the gate leaves it shut
pub write_shut : (m : Medium) (at : ℕ) (bytes : List ℕ) → 1 ≤ at → IsShut m → IsShut (written_at at bytes m)
write_shut m at bytes some shut = record {
  long = shut.long;
  unwritten = unwritten_still m at bytes 0 shut.unwritten (gate_out at (length bytes) some);
  gate = shut.gate;
}

-- ---- one byte

here_in : (at : ℕ) → is_within at (at, 1) ≡ true
here_in at = grind (arith, nat_tests)

below_out : (at place : ℕ) → place < at → is_within place (at, 1) ≡ false
below_out at place lt = grind (arith, nat_tests)

above_out : (at place : ℕ) → at < place → is_within place (at, 1) ≡ false
above_out at place lt = grind (arith, nat_tests)

data Side (at place : ℕ) : Type 0 where
  here : place ≡ at → Side at place
  away : (place ≡ at → ⊥) → is_within place (at, 1) ≡ false → Side at place

side_of : (at place : ℕ) → Side at place
side_of at place =
    elim (less_or place at) [
      | inl lt ↦ away (λ e. omega (arith, lt, e)) (below_out at place lt)
      | inr le ↦ elim (less_or at place) [
        | inl lt ↦ away (λ e. omega (arith, lt, e)) (above_out at place lt)
        | inr more ↦ here (omega (arith, le, more))
      ]
    ]

byte_kept : (m : Medium) (at byte : ℕ) (image : List ℕ) → IsImage m m.seen → IsImage (written_at at (byte ∷ []) m) image
    → (place : ℕ) → place < m.least → is_written m place ≡ false → Side at place → get_or (set image at (get_or m.seen at 0)) place 0 ≡ get_or m.synced place 0
byte_kept m at byte image sound is place lt free (here e) =
    let within : at < length image = omega (arith, lt, e, is.no_shorter) in
    ap (λ (p : ℕ). get_or (set image at (get_or m.seen at 0)) p 0) e
    ∙ get_or-set_same image at (get_or m.seen at 0) 0 within
    ∙ ap (λ (p : ℕ). get_or m.seen p 0) (sym e)
    ∙ sound.kept place lt free
byte_kept m at byte image sound is place lt free (away other out) =
    get_or-set_other image at place (get_or m.seen at 0) 0 other
    ∙ is.kept place lt (unwritten_still m at (byte ∷ []) place free out)

-- an image after one byte was written is one of before with another byte there
pub byte_back : (m : Medium) (at byte : ℕ) (image : List ℕ) → IsImage m m.seen → at < m.greatest → IsImage (written_at at (byte ∷ []) m) image → IsImage m (set image at (get_or m.seen at 0))
byte_back m at byte image sound within is =
    let loose : is_written (written_at at (byte ∷ []) m) at ≡ true =
    list_any-append (is_within at) m.written ((at, 1) ∷ []) ∙ one_true (is_written m at) (is_within at (at, 1)) (here_in at) in
    let set_is : IsImage (written_at at (byte ∷ []) m) (set image at (get_or m.seen at 0)) =
    loose_any (written_at at (byte ∷ []) m) image at (get_or m.seen at 0) is (inr loose) (sound.bytes at) in
    record {
      bytes = set_is.bytes;
      no_shorter = set_is.no_shorter;
      no_longer = omega (arith, set_is.no_longer, within);
      kept = λ place lt free. byte_kept m at byte image sound is place lt free (side_of at place);
    }
