-- Messages that stand on a clean disk, and one byte that is written there.
use Rattle.std.proofs.Common.{◌≡◌, ℕ, ◌+◌, ◌-◌, ◌<◌, ◌≤◌, lit≤, lit<, Bool, true, false, cond, ◌||◌, nat_eq, List, [], ◌∷◌, ◌++◌, length, get_or, set, drop, Option, Some, None, refl, sym, ap, subst, ◌∙◌, arith, append_assoc, ◌⊎◌, inl, inr}
use Rattle.std.specs.Prelude.{IfSome, option_map}
use Rattle.std.specs.List.{list_any}
use Rattle.std.proofs.lemmas.Bool.Decides.{nat_tests}
use Rattle.std.proofs.lemmas.List.{ext_get_or, length-set, get_or-set_same, get_or-set_other}
use Rattle.byte_reader.proofs.NumberLemmas.{all_bytes}
use Rattle.fw_disk.specs.Laws.{AreBytes}
use Rattle.fw_disk.specs.Medium.{Medium, IsImage, is_within, settled, synced_now, written_at, laid_over}
use Rattle.fw_disk.specs.DiskView.{Tape, DiskView, HasSynced, HasSetByte, FailsToSet, changed}
use Rattle.fw_disk.specs.Moments.{Through, Now, EachImage}
use Rattle.fw_disk.proofs.MediumLemmas.{settled_image, settled_only, laid_within}
use Rattle.fw_disk.proofs.MomentLemmas.{through_set, through_fails_to_set}
use Rattle.slot_bytes.specs.Layout.{Mail, IsMail, AreMarks}
use Rattle.slot_bytes.specs.Reading.{Reading, reads}
use Rattle.slot_bytes.specs.Reading.Reading.{Free, Whole, Aside, Bad}
use Rattle.slot_bytes.specs.Files.{IsFreeFile, IsKeptFile}
use Rattle.slot_bytes.proofs.SlotLemmas.{reads_free, reads_again, bad_some}
use Rattle.spool_slots.specs.Images.{HasMessageBehind}
use Rattle.spool_slots.specs.Media.{Frame, framed, HasByte, IsSettled, IsStanding}
use Rattle.spool_slots.proofs.ShutLemmas.{now_weaker}

pub less_or : (a b : ℕ) → (a < b) ⊎ (b ≤ a)
less_or a b = grind arith

pub zero_or : (a : ℕ) → (a ≡ 0) ⊎ (1 ≤ a)
zero_or a = grind arith

-- ---- one byte is written on a clean disk

outside_one : (i at : ℕ) → (i < at) ⊎ (at < i) → is_within i (at, 1) ≡ false
outside_one i at (inl lt) = grind (arith, nat_tests)
outside_one i at (inr lt) = grind (arith, nat_tests)

none_of_one : (i at : ℕ) → is_within i (at, 1) ≡ false → list_any (is_within i) ((at, 1) ∷ []) ≡ false
none_of_one i at e = ap (λ (b : Bool). b || false) e

kept_byte : (s image : List ℕ) (at b i : ℕ) → IsImage (written_at at (b ∷ []) (settled s)) image → i < length s → (i < at) ⊎ (at < i) → get_or image i 0 ≡ get_or s i 0
kept_byte s image at b i is lt out = is.kept i lt (none_of_one i at (outside_one i at out))

-- an image is what stood there, with some byte in its place
pub one_byte_image : (s image : List ℕ) (at b : ℕ) → at < length s → IsImage (written_at at (b ∷ []) (settled s)) image → image ≡ set s at (get_or image at 0)
one_byte_image s image at b within is =
    let x : ℕ = get_or image at 0 in
    let len : length image ≡ length s = omega (arith, is.no_shorter, is.no_longer, within) in
    ext_get_or 0 image (set s at x) (omega (arith, len, length-set s at x)) (λ i lt.
    elim (less_or i at) [
      | inl low ↦ kept_byte s image at b i is (omega (arith, lt, len)) (inl low) ∙ sym (get_or-set_other s at i x 0 (λ e. omega (arith, low, e)))
      | inr le ↦ elim (less_or at i) [
        | inl high ↦ kept_byte s image at b i is (omega (arith, lt, len)) (inr high) ∙ sym (get_or-set_other s at i x 0 (λ e. omega (arith, high, e)))
        | inr ge ↦
            let here : i ≡ at = omega (arith, le, ge) in
            ap (λ (j : ℕ). get_or image j 0) here ∙ sym (get_or-set_same s at x 0 within) ∙ ap (λ (j : ℕ). get_or (set s at x) j 0) (sym here)
      ]
    ])

-- an image of bytes that are spelled with one byte
pub record IsOneByte (spell : ℕ → List ℕ) (image : List ℕ) : Type 0 where
  pub byte : ℕ
  pub fits : byte < 256
  pub is : image ≡ spell byte

pub standing_images : (gate aside : ℕ) (m : Mail) (medium : Medium) (s : IsStanding gate aside m medium) (image : List ℕ) → IsImage medium image → image ≡ framed gate aside m s.frame
standing_images gate aside m medium s image is = settled_only medium.seen image (subst (λ (x : Medium). IsImage x image) s.clean is) ∙ s.seen

-- the medium itself, spelled out
pub standing_is : (gate aside : ℕ) (m : Mail) (medium : Medium) (s : IsStanding gate aside m medium) → medium ≡ settled (framed gate aside m s.frame)
standing_is gate aside m medium s = s.clean ∙ ap settled s.seen

-- after a byte is written to the gate an image has any gate
pub gate_images : (gate aside b : ℕ) (m : Mail) (medium : Medium) (s : IsStanding gate aside m medium) → EachImage (IsOneByte (λ x. framed x aside m s.frame)) (written_at 0 (b ∷ []) medium)
gate_images gate aside b m medium s image is =
    let old : List ℕ = framed gate aside m s.frame in
    let spelled : IsImage (written_at 0 (b ∷ []) (settled old)) image = subst (λ (x : Medium). IsImage (written_at 0 (b ∷ []) x) image) (standing_is gate aside m medium s) is in
    record { byte = get_or image 0 0; fits = is.bytes 0; is = one_byte_image old image 0 b (omega arith) spelled }

-- and after one to the mark any mark
pub mark_images : (gate aside b : ℕ) (m : Mail) (medium : Medium) (s : IsStanding gate aside m medium) → EachImage (IsOneByte (λ x. framed gate x m s.frame)) (written_at 1 (b ∷ []) medium)
mark_images gate aside b m medium s image is =
    let old : List ℕ = framed gate aside m s.frame in
    let spelled : IsImage (written_at 1 (b ∷ []) (settled old)) image = subst (λ (x : Medium). IsImage (written_at 1 (b ∷ []) x) image) (standing_is gate aside m medium s) is in
    record { byte = get_or image 1 0; fits = is.bytes 1; is = one_byte_image old image 1 b (omega arith) spelled }

-- ---- what is read

pub reads_closed : (aside : ℕ) (m : Mail) (rest : Frame) → reads (framed 0 aside m rest) ≡ Free
reads_closed aside m rest = reads_free (framed 0 aside m rest) (record { long = omega arith; gate = refl })

pub reads_whole : (gate : ℕ) (m : Mail) (f : Frame) → 1 ≤ gate → gate < 256 → AreMarks f.version (length m.rcpts) f.marks → IsMail m → reads (framed gate 0 m f) ≡ Whole m
reads_whole gate m f low high are is = reads_again f.version gate 0 f.marks m f.after (low, omega (arith, high)) (omega arith, omega arith) are is

marked : (b : Bool) (m : Mail) → b ≡ false → cond b (Whole m) (Aside m) ≡ Aside m
marked true m e = absurd cc
marked false m e = refl

pub reads_aside : (gate aside : ℕ) (m : Mail) (f : Frame) → 1 ≤ gate → gate < 256 → 1 ≤ aside → aside < 256 → AreMarks f.version (length m.rcpts) f.marks → IsMail m → reads (framed gate aside m f) ≡ Aside m
reads_aside gate aside m f low high some small are is =
    reads_again f.version gate aside f.marks m f.after (low, omega (arith, high)) (omega arith, omega (arith, small)) are is ∙ marked (nat_eq aside 0) m (grind (arith, nat_tests))

-- the message stands behind every image
pub message_behind : (gate aside : ℕ) (m : Mail) (f : Frame) (image : List ℕ) → AreMarks f.version (length m.rcpts) f.marks → image ≡ framed gate aside m f → HasMessageBehind m image
message_behind gate aside m f image are e = record { version = f.version; marks = f.marks; rest = f.after; are_marks = are; parts = ap (λ (l : List ℕ). drop 2 l) e }

-- ---- a clean disk with a message, and its bytes

-- a message behind an open gate, with some mark
pub record IsOpen (m : Mail) (aside : ℕ) (medium : Medium) : Type 0 where
  pub gate : ℕ
  pub low : 1 ≤ gate
  pub high : gate < 256
  pub stands : IsStanding gate aside m medium

pub record IsMarked (m : Mail) (medium : Medium) : Type 0 where
  pub aside : ℕ
  pub some : 1 ≤ aside
  pub small : aside < 256
  pub is_open : IsOpen m aside medium

whole_of : (b : Bool) (m n : Mail) → cond b (Whole m) (Aside m) ≡ Whole n → (b ≡ true) × (m ≡ n)
whole_of true m n e = (refl, cc)
whole_of false m n e = absurd cc

aside_of : (b : Bool) (m n : Mail) → cond b (Whole m) (Aside m) ≡ Aside n → (b ≡ false) × (m ≡ n)
aside_of true m n e = absurd cc
aside_of false m n e = (refl, cc)

kept_reads : (bytes : List ℕ) (k : IsKeptFile bytes) → reads bytes ≡ cond (nat_eq k.aside 0) (Whole k.m) (Aside k.m)
kept_reads bytes k = ap reads k.parts ∙ reads_again k.version k.gate k.aside k.marks k.m k.rest k.open_gate k.mark k.are_marks k.mail

abbrev frame_of : (medium : Medium) → IsKeptFile medium.seen → Frame
frame_of medium k = record { version = k.version; marks = k.marks; after = k.rest }

kept_standing : (m : Mail) (medium : Medium) (aside : ℕ) (k : IsKeptFile medium.seen) → medium ≡ settled medium.seen → IsImage medium medium.seen → k.m ≡ m → k.aside ≡ aside → IsOpen m aside medium
kept_standing m medium aside k clean sound e f = record {
  gate = k.gate;
  low = k.open_gate.0;
  high = omega (arith, k.open_gate.1);
  stands = record {
    frame = frame_of medium k;
    clean = clean;
    sound = sound;
    are_marks = subst (λ (x : Mail). AreMarks k.version (length x.rcpts) k.marks) e k.are_marks;
    mail = subst IsMail e k.mail;
    seen = k.parts ∙ ap (λ (x : Mail). framed k.gate k.aside x (frame_of medium k)) e ∙ ap (λ (a : ℕ). framed k.gate a m (frame_of medium k)) f;
  };
}

whole_kept : (m : Mail) (medium : Medium) → IsSettled (Whole m) medium → IsKeptFile medium.seen → IsOpen m 0 medium
whole_kept m medium s k =
    let parts = whole_of (nat_eq k.aside 0) k.m m (sym (kept_reads medium.seen k) ∙ s.read) in
    let test : nat_eq k.aside 0 ≡ true = parts.0 in
    kept_standing m medium 0 k s.clean s.sound parts.1 (grind (arith, nat_tests))

aside_kept : (m : Mail) (medium : Medium) → IsSettled (Aside m) medium → IsKeptFile medium.seen → IsMarked m medium
aside_kept m medium s k =
    let parts = aside_of (nat_eq k.aside 0) k.m m (sym (kept_reads medium.seen k) ∙ s.read) in
    let test : nat_eq k.aside 0 ≡ false = parts.0 in
    record { aside = k.aside; some = grind (arith, nat_tests); small = omega (arith, k.mark.1); is_open = kept_standing m medium k.aside k s.clean s.sound parts.1 refl }

settled_bytes : (medium : Medium) → IsImage medium medium.seen → AreBytes medium.seen
settled_bytes medium is = is.bytes

pub whole_open : (m : Mail) (medium : Medium) → IsSettled (Whole m) medium → IsOpen m 0 medium
whole_open m medium s =
    elim (bad_some medium.seen (all_bytes medium.seen s.sound.bytes)) [
      | inl (inl free) ↦ let e = reads_free medium.seen free in absurd (cc (e, s.read))
      | inl (inr k) ↦ whole_kept m medium s k
      | inr bad ↦ let e : reads medium.seen ≡ Bad bad.0 = bad.1 in absurd (cc (e, s.read))
    ]

pub aside_marked : (m : Mail) (medium : Medium) → IsSettled (Aside m) medium → IsMarked m medium
aside_marked m medium s =
    elim (bad_some medium.seen (all_bytes medium.seen s.sound.bytes)) [
      | inl (inl free) ↦ let e = reads_free medium.seen free in absurd (cc (e, s.read))
      | inl (inr k) ↦ aside_kept m medium s k
      | inr bad ↦ let e : reads medium.seen ≡ Bad bad.0 = bad.1 in absurd (cc (e, s.read))
    ]

-- ---- calls

told_settles : (P Q : Medium → Type 0) (change : Medium → Medium) → ((m : Medium) → P m → IsImage (change m) (change m).seen → Q (synced_now (change m))) → (told : Option Tape)
    → IfSome told (λ tape. P tape.now) → IfSome (option_map (changed change) told) (λ tape. IsImage tape.now tape.now.seen) → IfSome (option_map (changed synced_now) (option_map (changed change) told)) (λ tape. Q tape.now)
told_settles P Q change to None h sound = tt
told_settles P Q change to (Some tape) h sound = to tape.now h sound

-- what a medium with one property has once it was changed and synced, the disk has after it
pub settles : (P Q : Medium → Type 0) (change : Medium → Medium) → ((m : Medium) → P m → IsImage (change m) (change m).seen → Q (synced_now (change m)))
    → (old middle new : DiskView) → middle ≡ record old { told = option_map (changed change) old.told } → HasSynced middle new → Now P old → Now Q new
settles P Q change to old middle new wrote s h =
    let sound : IfSome (option_map (changed change) old.told) (λ tape. IsImage tape.now tape.now.seen) = subst (λ (v : DiskView). IfSome v.told (λ tape. IsImage tape.now tape.now.seen)) wrote s.sound in
    let is : new ≡ record old { told = option_map (changed synced_now) (option_map (changed change) old.told) } = s.is ∙ ap (λ (v : DiskView). let w : DiskView = record v { told = option_map (changed synced_now) v.told } in w) wrote in
    subst (λ (v : DiskView). Now Q v) (sym is) (told_settles P Q change to old.told h sound)

pub set_settles : (P Q : Medium → Type 0) (at b : ℕ) → ((m : Medium) → P m → IsImage (written_at at (b ∷ []) m) (written_at at (b ∷ []) m).seen → Q (synced_now (written_at at (b ∷ []) m)))
    → (old new : DiskView) → HasSetByte at b old new → Now P old → Now Q new
set_settles P Q at b to old new s h = settles P Q (written_at at (b ∷ [])) to old s.middle new s.wrote s.syncs h

same_byte : (at byte : ℕ) → get_or (byte ∷ []) (at - at) 0 ≡ byte
same_byte at byte =
    let none : at - at ≡ 0 = omega arith in
    ap (λ (i : ℕ). get_or (byte ∷ []) i 0) none

laid_byte : (at byte : ℕ) (m : Medium) → at ≤ length m.seen → HasByte at byte (synced_now (written_at at (byte ∷ []) m))
laid_byte at byte m within = laid_within at (byte ∷ []) m.seen at within (omega arith) (omega arith) ∙ same_byte at byte

-- the byte that was written is read
pub set_shows : (at byte : ℕ) (old new : DiskView) → HasSetByte at byte old new → Now (λ m. at ≤ length m.seen) old → Now (HasByte at byte) new
set_shows at byte old new s h = set_settles (λ m. at ≤ length m.seen) (HasByte at byte) at byte (λ m within sound. laid_byte at byte m within) old new s h

pub set_moments : (P : Medium → Type 0) (Q : List ℕ → Type 0) (at b : ℕ) → ((m : Medium) → P m → EachImage Q m) → ((m : Medium) → P m → EachImage Q (written_at at (b ∷ []) m))
    → (old new : DiskView) → HasSetByte at b old new → Now P old → Through (EachImage Q) old new
set_moments P Q at b each after old new s h =
    through_set Q at b old new s (now_weaker P (EachImage Q) each old h) (now_weaker P (λ m. EachImage Q (written_at at (b ∷ []) m)) after old h)

pub failed_moments : (P : Medium → Type 0) (Q : List ℕ → Type 0) (at b : ℕ) → ((m : Medium) → P m → EachImage Q m) → ((m : Medium) → P m → EachImage Q (written_at at (b ∷ []) m))
    → (old new : DiskView) → FailsToSet at b old new → Now P old → Through (EachImage Q) old new
failed_moments P Q at b each after old new s h =
    through_fails_to_set Q at b old new s (now_weaker P (EachImage Q) each old h) (now_weaker P (λ m. EachImage Q (written_at at (b ∷ []) m)) after old h)
