-- Setting aside and releasing: one byte is written and synced.
use Rattle.std.proofs.Common.{◌≡◌, ℕ, ◌<◌, ◌≤◌, lit≤, List, [], ◌∷◌, ◌++◌, length, Option, Some, None, refl, sym, ap, subst, ◌∙◌, arith, inl, inr}
use Rattle.std.specs.Prelude.{IfSome}
use Rattle.fw_disk.specs.Medium.{Medium, IsImage, settled, synced_now, written_at, laid_over}
use Rattle.fw_disk.specs.DiskView.{Tape, DiskView, HasSetByte, FailsToSet, length_told}
use Rattle.fw_disk.specs.Moments.{Through, Now, EachImage}
use Rattle.fw_disk.proofs.MediumLemmas.{settled_image}
use Rattle.fw_disk.proofs.MomentLemmas.{through_now}
use Rattle.slot_bytes.specs.Layout.{Mail}
use Rattle.slot_bytes.specs.Reading.{reads}
use Rattle.slot_bytes.specs.Reading.Reading.{Free, Whole, Aside}
use Rattle.spool_slots.specs.Images.{IsFreeImage, IsWholeImage, IsAsideImage, IsFreeOrWhole, IsFreeOrAside, IsWholeOrAside, HasMessageBehind}
use Rattle.spool_slots.specs.Media.{Frame, framed, HasByte, IsVacant, IsSettled, IsStanding, IsFull, IsAside}
use Rattle.spool_slots.proofs.ShutLemmas.{now_weaker, vacant_free}
use Rattle.spool_slots.proofs.StandingLemmas.{zero_or, IsOneByte, IsOpen, IsMarked, standing_images, standing_is, gate_images, mark_images, reads_closed, reads_whole, reads_aside, message_behind, whole_open, aside_marked, set_settles, set_shows, set_moments, failed_moments}

-- ---- the file has two bytes

standing_long : (gate aside : ℕ) (m : Mail) (medium : Medium) → IsStanding gate aside m medium → 2 ≤ length medium.seen
standing_long gate aside m medium s = omega (arith, ap length s.seen)

told_long : (P : Medium → Type 0) (at : ℕ) → ((m : Medium) → P m → at ≤ length m.seen) → (told : Option Tape) (faults : ℕ) → IfSome told (λ tape. P tape.now) → IfSome (length_told (record { told = told; faults = faults })) (λ len. at ≤ len)
told_long P at to None faults h = tt
told_long P at to (Some tape) faults h = to tape.now h

full_at : (medium : Medium) → IsFull medium → 2 ≤ length medium.seen
full_at medium f = let o = whole_open f.m medium f.settled_as in standing_long o.gate 0 f.m medium o.stands

aside_at : (medium : Medium) → IsAside medium → 2 ≤ length medium.seen
aside_at medium f = let o = aside_marked f.m medium f.settled_as in standing_long o.is_open.gate o.aside f.m medium o.is_open.stands

pub full_gate : (view : DiskView) → Now IsFull view → IfSome (length_told view) (λ len. 0 ≤ len)
full_gate view h = told_long IsFull 0 (λ m f. omega arith) view.told view.faults h

pub full_mark : (view : DiskView) → Now IsFull view → IfSome (length_told view) (λ len. 1 ≤ len)
full_mark view h = told_long IsFull 1 (λ m f. omega (arith, full_at m f)) view.told view.faults h

pub aside_gate : (view : DiskView) → Now IsAside view → IfSome (length_told view) (λ len. 0 ≤ len)
aside_gate view h = told_long IsAside 0 (λ m f. omega arith) view.told view.faults h

-- ---- images of what stands

pub whole_image : (m : Mail) (medium : Medium) → IsSettled (Whole m) medium → EachImage (IsWholeImage m) medium
whole_image m medium s image is =
    let o = whole_open m medium s in
    ap reads (standing_images o.gate 0 m medium o.stands image is) ∙ reads_whole o.gate m o.stands.frame o.low o.high o.stands.are_marks o.stands.mail

aside_image : (m : Mail) (medium : Medium) → IsSettled (Aside m) medium → EachImage (IsAsideImage m) medium
aside_image m medium s image is =
    let o = aside_marked m medium s in
    let p = o.is_open in
    ap reads (standing_images p.gate o.aside m medium p.stands image is) ∙ reads_aside p.gate o.aside m p.stands.frame p.low p.high o.some o.small p.stands.are_marks p.stands.mail

pub keeps_images : (m : Mail) (view : DiskView) → Now (IsSettled (Whole m)) view → Now (EachImage (IsWholeImage m)) view
keeps_images m view h = now_weaker (IsSettled (Whole m)) (EachImage (IsWholeImage m)) (whole_image m) view h

pub keeps_aside_images : (m : Mail) (view : DiskView) → Now (IsSettled (Aside m)) view → Now (EachImage (IsAsideImage m)) view
keeps_aside_images m view h = now_weaker (IsSettled (Aside m)) (EachImage (IsAsideImage m)) (aside_image m) view h

whole_behind : (m : Mail) (medium : Medium) → IsSettled (Whole m) medium → EachImage (HasMessageBehind m) medium
whole_behind m medium s image is =
    let o = whole_open m medium s in
    message_behind o.gate 0 m o.stands.frame image o.stands.are_marks (standing_images o.gate 0 m medium o.stands image is)

aside_behind : (m : Mail) (medium : Medium) → IsSettled (Aside m) medium → EachImage (HasMessageBehind m) medium
aside_behind m medium s image is =
    let o = aside_marked m medium s in
    message_behind o.is_open.gate o.aside m o.is_open.stands.frame image o.is_open.stands.are_marks (standing_images o.is_open.gate o.aside m medium o.is_open.stands image is)

-- ---- setting aside

marked_image : (m : Mail) (medium : Medium) → IsSettled (Whole m) medium → EachImage (IsWholeOrAside m) (written_at 1 (1 ∷ []) medium)
marked_image m medium s image is =
    let o = whole_open m medium s in
    let x = mark_images o.gate 0 1 m medium o.stands image is in
    elim (zero_or x.byte) [
      | inl zero ↦ inl (ap reads (x.is ∙ ap (λ (b : ℕ). framed o.gate b m o.stands.frame) zero) ∙ reads_whole o.gate m o.stands.frame o.low o.high o.stands.are_marks o.stands.mail)
      | inr some ↦ inr (ap reads x.is ∙ reads_aside o.gate x.byte m o.stands.frame o.low o.high some x.fits o.stands.are_marks o.stands.mail)
    ]

marked_behind : (m : Mail) (medium : Medium) → IsSettled (Whole m) medium → EachImage (HasMessageBehind m) (written_at 1 (1 ∷ []) medium)
marked_behind m medium s image is =
    let o = whole_open m medium s in
    let x = mark_images o.gate 0 1 m medium o.stands image is in
    message_behind o.gate x.byte m o.stands.frame image o.stands.are_marks x.is

whole_or_aside : (m : Mail) (medium : Medium) → IsSettled (Whole m) medium → EachImage (IsWholeOrAside m) medium
whole_or_aside m medium s image is = inl (whole_image m medium s image is)

-- after the mark's byte is laid
marked_seen : (gate : ℕ) (m : Mail) (medium : Medium) (s : IsStanding gate 0 m medium) → (written_at 1 (1 ∷ []) medium).seen ≡ framed gate 1 m s.frame
marked_seen gate m medium s = ap (λ (l : List ℕ). laid_over 1 (1 ∷ []) l) s.seen

marked_settled : (m : Mail) (medium : Medium) → IsSettled (Whole m) medium → IsImage (written_at 1 (1 ∷ []) medium) (written_at 1 (1 ∷ []) medium).seen → IsSettled (Aside m) (synced_now (written_at 1 (1 ∷ []) medium))
marked_settled m medium s sound =
    let o = whole_open m medium s in
    record {
      clean = refl;
      sound = settled_image (written_at 1 (1 ∷ []) medium).seen sound.bytes;
      read = ap reads (marked_seen o.gate m medium o.stands) ∙ reads_aside o.gate 1 m o.stands.frame o.low o.high (lit≤ tt) (omega arith) o.stands.are_marks o.stands.mail;
    }

pub set_aside_ok : (m : Mail) (old new : DiskView) → HasSetByte 1 1 old new → Now (IsSettled (Whole m)) old → Now (IsSettled (Aside m)) new
set_aside_ok m old new s h = set_settles (IsSettled (Whole m)) (IsSettled (Aside m)) 1 1 (marked_settled m) old new s h

pub set_aside_some : (old new : DiskView) → HasSetByte 1 1 old new → Now IsFull old → Now IsAside new
set_aside_some old new s h = set_settles IsFull IsAside 1 1 (λ medium f sound. record { m = f.m; settled_as = marked_settled f.m medium f.settled_as sound }) old new s h

-- the mark was written
pub set_aside_mark : (old new : DiskView) → HasSetByte 1 1 old new → Now IsFull old → Now (HasByte 1 1) new
set_aside_mark old new s h = set_shows 1 1 old new s (now_weaker IsFull (λ m. 1 ≤ length m.seen) (λ m f. omega (arith, full_at m f)) old h)

pub set_aside_moments : (m : Mail) (old new : DiskView) → HasSetByte 1 1 old new → Now (IsSettled (Whole m)) old → Through (EachImage (IsWholeOrAside m)) old new
set_aside_moments m old new s h = set_moments (IsSettled (Whole m)) (IsWholeOrAside m) 1 1 (whole_or_aside m) (marked_image m) old new s h

pub failed_aside_moments : (m : Mail) (old new : DiskView) → FailsToSet 1 1 old new → Now (IsSettled (Whole m)) old → Through (EachImage (IsWholeOrAside m)) old new
failed_aside_moments m old new s h = failed_moments (IsSettled (Whole m)) (IsWholeOrAside m) 1 1 (whole_or_aside m) (marked_image m) old new s h

pub failed_aside_behind : (m : Mail) (old new : DiskView) → FailsToSet 1 1 old new → Now (IsSettled (Whole m)) old → Now (EachImage (HasMessageBehind m)) new
failed_aside_behind m old new s h = through_now (EachImage (HasMessageBehind m)) old new (failed_moments (IsSettled (Whole m)) (HasMessageBehind m) 1 1 (whole_behind m) (marked_behind m) old new s h)

-- ---- releasing

closed_seen : (gate aside : ℕ) (m : Mail) (medium : Medium) (s : IsStanding gate aside m medium) → (written_at 0 (0 ∷ []) medium).seen ≡ framed 0 aside m s.frame
closed_seen gate aside m medium s = ap (λ (l : List ℕ). laid_over 0 (0 ∷ []) l) s.seen

vacant_of : (seen : List ℕ) (aside : ℕ) (m : Mail) (rest : Frame) → seen ≡ framed 0 aside m rest → IsVacant (settled seen)
vacant_of seen aside m rest e = subst (λ (l : List ℕ). IsVacant (settled l)) (sym e) (record { shut = record { long = omega arith; unwritten = refl; gate = refl }; long = omega arith })

released_full : (medium : Medium) → IsFull medium → IsImage (written_at 0 (0 ∷ []) medium) (written_at 0 (0 ∷ []) medium).seen → IsVacant (synced_now (written_at 0 (0 ∷ []) medium))
released_full medium f sound =
    let o = whole_open f.m medium f.settled_as in
    vacant_of (written_at 0 (0 ∷ []) medium).seen 0 f.m o.stands.frame (closed_seen o.gate 0 f.m medium o.stands)

released_aside : (medium : Medium) → IsAside medium → IsImage (written_at 0 (0 ∷ []) medium) (written_at 0 (0 ∷ []) medium).seen → IsVacant (synced_now (written_at 0 (0 ∷ []) medium))
released_aside medium f sound =
    let o = aside_marked f.m medium f.settled_as in
    vacant_of (written_at 0 (0 ∷ []) medium).seen o.aside f.m o.is_open.stands.frame (closed_seen o.is_open.gate o.aside f.m medium o.is_open.stands)

released_image : (m : Mail) (medium : Medium) → IsSettled (Whole m) medium → EachImage (IsFreeOrWhole m) (written_at 0 (0 ∷ []) medium)
released_image m medium s image is =
    let o = whole_open m medium s in
    let x = gate_images o.gate 0 0 m medium o.stands image is in
    elim (zero_or x.byte) [
      | inl zero ↦ inl (ap reads (x.is ∙ ap (λ (b : ℕ). framed b 0 m o.stands.frame) zero) ∙ reads_closed 0 m o.stands.frame)
      | inr some ↦ inr (ap reads x.is ∙ reads_whole x.byte m o.stands.frame some x.fits o.stands.are_marks o.stands.mail)
    ]

released_aside_image : (m : Mail) (medium : Medium) → IsSettled (Aside m) medium → EachImage (IsFreeOrAside m) (written_at 0 (0 ∷ []) medium)
released_aside_image m medium s image is =
    let o = aside_marked m medium s in
    let x = gate_images o.is_open.gate o.aside 0 m medium o.is_open.stands image is in
    elim (zero_or x.byte) [
      | inl zero ↦ inl (ap reads (x.is ∙ ap (λ (b : ℕ). framed b o.aside m o.is_open.stands.frame) zero) ∙ reads_closed o.aside m o.is_open.stands.frame)
      | inr some ↦ inr (ap reads x.is ∙ reads_aside x.byte o.aside m o.is_open.stands.frame some x.fits o.some o.small o.is_open.stands.are_marks o.is_open.stands.mail)
    ]

released_behind : (m : Mail) (medium : Medium) → IsSettled (Whole m) medium → EachImage (HasMessageBehind m) (written_at 0 (0 ∷ []) medium)
released_behind m medium s image is =
    let o = whole_open m medium s in
    let x = gate_images o.gate 0 0 m medium o.stands image is in
    message_behind x.byte 0 m o.stands.frame image o.stands.are_marks x.is

released_aside_behind : (m : Mail) (medium : Medium) → IsSettled (Aside m) medium → EachImage (HasMessageBehind m) (written_at 0 (0 ∷ []) medium)
released_aside_behind m medium s image is =
    let o = aside_marked m medium s in
    let x = gate_images o.is_open.gate o.aside 0 m medium o.is_open.stands image is in
    message_behind x.byte o.aside m o.is_open.stands.frame image o.is_open.stands.are_marks x.is

whole_or_free : (m : Mail) (medium : Medium) → IsSettled (Whole m) medium → EachImage (IsFreeOrWhole m) medium
whole_or_free m medium s image is = inr (whole_image m medium s image is)

aside_or_free : (m : Mail) (medium : Medium) → IsSettled (Aside m) medium → EachImage (IsFreeOrAside m) medium
aside_or_free m medium s image is = inr (aside_image m medium s image is)

pub release_vacant : (old new : DiskView) → HasSetByte 0 0 old new → Now IsFull old → Now IsVacant new
release_vacant old new s h = set_settles IsFull IsVacant 0 0 released_full old new s h

pub release_aside_vacant : (old new : DiskView) → HasSetByte 0 0 old new → Now IsAside old → Now IsVacant new
release_aside_vacant old new s h = set_settles IsAside IsVacant 0 0 released_aside old new s h

pub release_free : (old new : DiskView) → HasSetByte 0 0 old new → Now IsFull old → Now (EachImage IsFreeImage) new
release_free old new s h = vacant_free new (release_vacant old new s h)

pub release_aside_free : (old new : DiskView) → HasSetByte 0 0 old new → Now IsAside old → Now (EachImage IsFreeImage) new
release_aside_free old new s h = vacant_free new (release_aside_vacant old new s h)

pub release_moments : (m : Mail) (old new : DiskView) → HasSetByte 0 0 old new → Now (IsSettled (Whole m)) old → Through (EachImage (IsFreeOrWhole m)) old new
release_moments m old new s h = set_moments (IsSettled (Whole m)) (IsFreeOrWhole m) 0 0 (whole_or_free m) (released_image m) old new s h

pub failed_release_moments : (m : Mail) (old new : DiskView) → FailsToSet 0 0 old new → Now (IsSettled (Whole m)) old → Through (EachImage (IsFreeOrWhole m)) old new
failed_release_moments m old new s h = failed_moments (IsSettled (Whole m)) (IsFreeOrWhole m) 0 0 (whole_or_free m) (released_image m) old new s h

pub failed_release_behind : (m : Mail) (old new : DiskView) → FailsToSet 0 0 old new → Now (IsSettled (Whole m)) old → Now (EachImage (HasMessageBehind m)) new
failed_release_behind m old new s h = through_now (EachImage (HasMessageBehind m)) old new (failed_moments (IsSettled (Whole m)) (HasMessageBehind m) 0 0 (whole_behind m) (released_behind m) old new s h)

pub release_aside_moments : (m : Mail) (old new : DiskView) → HasSetByte 0 0 old new → Now (IsSettled (Aside m)) old → Through (EachImage (IsFreeOrAside m)) old new
release_aside_moments m old new s h = set_moments (IsSettled (Aside m)) (IsFreeOrAside m) 0 0 (aside_or_free m) (released_aside_image m) old new s h

pub failed_release_aside_moments : (m : Mail) (old new : DiskView) → FailsToSet 0 0 old new → Now (IsSettled (Aside m)) old → Through (EachImage (IsFreeOrAside m)) old new
failed_release_aside_moments m old new s h = failed_moments (IsSettled (Aside m)) (IsFreeOrAside m) 0 0 (aside_or_free m) (released_aside_image m) old new s h

pub failed_release_aside_behind : (m : Mail) (old new : DiskView) → FailsToSet 0 0 old new → Now (IsSettled (Aside m)) old → Now (EachImage (HasMessageBehind m)) new
failed_release_aside_behind m old new s h = through_now (EachImage (HasMessageBehind m)) old new (failed_moments (IsSettled (Aside m)) (HasMessageBehind m) 0 0 (aside_behind m) (released_aside_behind m) old new s h)
