-- Finishing a message.
use Rattle.std.proofs.Common.{◌≡◌, ℕ, ◌+◌, ◌<◌, ◌≤◌, lit≤, List, [], ◌∷◌, ◌++◌, length, get_or, set, Option, Some, None, Result, Ok, Err, refl, sym, ap, subst, ◌∙◌, arith, append-nil, inl, inr}
use Rattle.std.specs.Prelude.{IfSome, OnOk}
use Rattle.std.specs.Int.{w64, to_be_bytes}
use Rattle.fw_outside.specs.declared.failed.Failed.{Failed}
use Rattle.fw_disk.specs.Medium.{Medium, IsImage, settled, synced_now, written_at, laid_over}
use Rattle.fw_disk.specs.DiskView.{Tape, DiskView, HasSetByte, FailsToSet, length_told}
use Rattle.fw_disk.specs.Moments.{Through, Now, EachImage}
use Rattle.fw_disk.proofs.MediumLemmas.{settled_image}
use Rattle.fw_disk.proofs.MomentLemmas.{through_then}
use Rattle.slot_bytes.specs.Layout.{Mail, IsMail, AreMarks, all_waiting, tagged_head}
use Rattle.slot_bytes.specs.Reading.{reads}
use Rattle.slot_bytes.specs.Reading.Reading.{Free, Whole}
use Rattle.spool_law.specs.Images.{IsReady}
use Rattle.spool_slots.specs.Images.{IsFreeImage, IsFreeOrWhole}
use Rattle.spool_slots.specs.Filled.{HasAdded, HasLaid}
use Rattle.spool_slots.specs.Media.{Frame, framed, HasByte, IsShut, Pen, begun, longer, draft_head, IsDraft, IsFilling, IsSettled, IsStanding, IsFull}
use Rattle.spool_slots.specs.States.{Opens, OpensOrNot}
use Rattle.spool_slots.proofs.ShutLemmas.{now_weaker, shut_gate, shut_written, through_free}
use Rattle.spool_slots.proofs.FillingLemmas.{longer_nothing, filling_shut, waiting_are}
use Rattle.spool_slots.proofs.StandingLemmas.{zero_or, standing_images, gate_images, reads_closed, reads_whole, settles, set_settles, set_shows, set_moments, failed_moments}

-- ---- the message stands behind the closed gate

-- a message that is being written, of which nothing is held, behind the closed gate
record IsLast (m : Mail) (pen : Pen) (medium : Medium) : Type 0 where
  shut : IsShut medium
  draft : IsDraft m pen medium

-- the frame of a draft, with what follows its body
abbrev drafted : Mail → List ℕ → Frame
drafted m rest = record { version = 50; marks = all_waiting m.rcpts; after = rest }

laid_length : (gate len : ℕ) (m : Mail) (written rest : List ℕ)
    → laid_over 6 (to_be_bytes w64 len) ((draft_head gate m ++ written) ++ rest) ≡ ((gate ∷ 0 ∷ tagged_head 50 len (all_waiting m.rcpts) m.from m.rcpts) ++ written) ++ rest
laid_length gate len m written rest = refl

last_seen : (m : Mail) (pen : Pen) (medium : Medium) (d : IsDraft m pen medium) → pen.held ≡ [] → (written_at 6 (to_be_bytes w64 pen.len) medium).seen ≡ framed d.gate 0 m (drafted m d.rest)
last_seen m pen medium d none =
    let body : d.written ≡ m.body = sym (d.body ∙ ap (λ (l : List ℕ). d.written ++ l) none ∙ append-nil d.written) in
    ap (λ (l : List ℕ). laid_over 6 (to_be_bytes w64 pen.len) l) d.seen
    ∙ laid_length d.gate pen.len m d.written d.rest
    ∙ ap (λ (n : ℕ). ((d.gate ∷ 0 ∷ tagged_head 50 n (all_waiting m.rcpts) m.from m.rcpts) ++ d.written) ++ d.rest) d.len
    ∙ ap (λ (w : List ℕ). ((d.gate ∷ 0 ∷ tagged_head 50 (length m.body) (all_waiting m.rcpts) m.from m.rcpts) ++ w) ++ d.rest) body

last_stands : (m : Mail) (pen : Pen) (medium : Medium) → pen.held ≡ [] → IsLast m pen medium
    → IsImage (written_at 6 (to_be_bytes w64 pen.len) medium) (written_at 6 (to_be_bytes w64 pen.len) medium).seen → IsStanding 0 0 m (synced_now (written_at 6 (to_be_bytes w64 pen.len) medium))
last_stands m pen medium none l sound =
    let d = l.draft in
    let after : Medium = written_at 6 (to_be_bytes w64 pen.len) medium in
    let shut : IsShut after = shut_written medium 6 (to_be_bytes w64 pen.len) after.seen (lit≤ tt) l.shut in
    let spelled : after.seen ≡ framed d.gate 0 m (drafted m d.rest) = last_seen m pen medium d none in
    let free = shut_gate after after.seen shut sound in
    let closed : d.gate ≡ 0 = ap (λ (s : List ℕ). get_or s 0 1) (sym spelled) ∙ free.gate in
    record {
      frame = drafted m d.rest;
      clean = refl;
      sound = settled_image after.seen sound.bytes;
      are_marks = waiting_are m.rcpts;
      mail = d.mail;
      seen = spelled ∙ ap (λ (g : ℕ). framed g 0 m (drafted m d.rest)) closed;
    }

told_both : (P Q R : Medium → Type 0) → ((m : Medium) → P m → Q m → R m) → (told : Option Tape) → IfSome told (λ tape. P tape.now) → IfSome told (λ tape. Q tape.now) → IfSome told (λ tape. R tape.now)
told_both P Q R to None h k = tt
told_both P Q R to (Some tape) h k = to tape.now h k

now_last : (m : Mail) (pen : Pen) (view : DiskView) → Now IsShut view → Now (IsDraft m pen) view → Now (IsLast m pen) view
now_last m pen view h k = told_both IsShut (IsDraft m pen) (IsLast m pen) (λ medium s d. record { shut = s; draft = d }) view.told h k

pub stands_closed : (m : Mail) (pen pen' : Pen) (a b c : DiskView) → HasAdded [] pen a pen' b → pen'.held ≡ [] → HasLaid pen'.len b c → Now (IsDraft m pen) a → Now (IsStanding 0 0 m) c
stands_closed m pen pen' a b c s none laid d =
    let draft : Now (IsDraft m pen') b = subst (λ (x : Mail). Now (IsDraft x pen') b) (longer_nothing m) (s.drafts m d) in
    settles (IsLast m pen') (IsStanding 0 0 m) (written_at 6 (to_be_bytes w64 pen'.len)) (λ medium l sound. last_stands m pen' medium none l sound) b laid.middle c laid.wrote laid.syncs
    (now_last m pen' b (filling_shut pen' b s.filling) draft)

pub laid_faults : (pen pen' : Pen) (a b c : DiskView) → HasAdded [] pen a pen' b → HasLaid pen'.len b c → c.faults ≡ a.faults
laid_faults pen pen' a b c s laid = ap (λ (v : DiskView). v.faults) laid.syncs.is ∙ ap (λ (v : DiskView). v.faults) laid.wrote ∙ s.faults

-- ---- opening the gate

closed_image : (m : Mail) (medium : Medium) → IsStanding 0 0 m medium → EachImage (IsFreeOrWhole m) medium
closed_image m medium s image is = inl (ap reads (standing_images 0 0 m medium s image is) ∙ reads_closed 0 m s.frame)

opened_image : (m : Mail) (medium : Medium) → IsStanding 0 0 m medium → EachImage (IsFreeOrWhole m) (written_at 0 (1 ∷ []) medium)
opened_image m medium s image is =
    let x = gate_images 0 0 1 m medium s image is in
    elim (zero_or x.byte) [
      | inl zero ↦ inl (ap reads (x.is ∙ ap (λ (b : ℕ). framed b 0 m s.frame) zero) ∙ reads_closed 0 m s.frame)
      | inr some ↦ inr (ap reads x.is ∙ reads_whole x.byte m s.frame some x.fits s.are_marks s.mail)
    ]

pub ready_image : (m : Mail) (medium : Medium) → IsStanding 0 0 m medium → EachImage (IsReady m) medium
ready_image m medium s image is =
    let e : image ≡ framed 0 0 m s.frame = standing_images 0 0 m medium s image is in
    record {
      free = ap reads e ∙ reads_closed 0 m s.frame;
      behind = ap (λ (l : List ℕ). reads (set l 0 1)) e ∙ reads_whole 1 m s.frame (lit≤ tt) (omega arith) s.are_marks s.mail;
    }

opened_settled : (m : Mail) (medium : Medium) → IsStanding 0 0 m medium → IsImage (written_at 0 (1 ∷ []) medium) (written_at 0 (1 ∷ []) medium).seen → IsSettled (Whole m) (synced_now (written_at 0 (1 ∷ []) medium))
opened_settled m medium s sound =
    let seen : (written_at 0 (1 ∷ []) medium).seen ≡ framed 1 0 m s.frame = ap (λ (l : List ℕ). laid_over 0 (1 ∷ []) l) s.seen in
    record {
      clean = refl;
      sound = settled_image (written_at 0 (1 ∷ []) medium).seen sound.bytes;
      read = ap reads seen ∙ reads_whole 1 m s.frame (lit≤ tt) (omega arith) s.are_marks s.mail;
    }

pub opened_whole : (m : Mail) (old new : DiskView) → HasSetByte 0 1 old new → Now (IsStanding 0 0 m) old → Now (IsSettled (Whole m)) new
opened_whole m old new s h = set_settles (IsStanding 0 0 m) (IsSettled (Whole m)) 0 1 (opened_settled m) old new s h

told_any : (told : Option Tape) → IfSome told (λ tape. 0 ≤ length tape.now.seen)
told_any None = tt
told_any (Some tape) = omega arith

-- the gate was written
pub opened_gate : (result : Result (Unit {0}) Failed) (old new : DiskView) → OnOk result (HasSetByte 0 1 old new) → OnOk result (Now (HasByte 0 1) new)
opened_gate (Ok u) old new s = set_shows 0 1 old new s (told_any old.told)
opened_gate (Err e) old new s = tt

pub opens_ok : (m : Mail) (a b c : DiskView) → Through IsShut a b → Now (IsStanding 0 0 m) b → HasSetByte 0 1 b c → Opens m a c
opens_ok m a b c t h s = record {
  middle = b;
  before = through_free a b t;
  ready = now_weaker (IsStanding 0 0 m) (EachImage (IsReady m)) (ready_image m) b h;
  after = set_moments (IsStanding 0 0 m) (IsFreeOrWhole m) 0 1 (closed_image m) (opened_image m) b c s h;
}

pub opens_err : (m : Mail) (a b c : DiskView) → Through IsShut a b → Now (IsStanding 0 0 m) b → FailsToSet 0 1 b c → OpensOrNot m a c
opens_err m a b c t h s = inr (record {
  middle = b;
  before = through_free a b t;
  ready = now_weaker (IsStanding 0 0 m) (EachImage (IsReady m)) (ready_image m) b h;
  after = failed_moments (IsStanding 0 0 m) (IsFreeOrWhole m) 0 1 (closed_image m) (opened_image m) b c s h;
})

pub opens_not : (m : Mail) (a b : DiskView) → Through IsShut a b → OpensOrNot m a b
opens_not m a b t = inl (through_free a b t)

-- ---- some message

some_told : (Q : Mail → Medium → Type 0) (pen : Pen) (a b : Option Tape) → IfSome a (λ tape. IsFilling pen tape.now)
    → ((m : Mail) → IfSome a (λ tape. IsDraft m pen tape.now) → IfSome b (λ tape. Q m tape.now)) → IfSome b (λ tape. (m : Mail) × Q m tape.now)
some_told Q pen None None h k = tt
some_told Q pen None (Some b) h k = (begun [] [], k (begun [] []) tt)
some_told Q pen (Some a) None h k = tt
some_told Q pen (Some a) (Some b) h k = (h.m, k h.m h.draft)

full_of : (medium : Medium) → (m : Mail) × IsSettled (Whole m) medium → IsFull medium
full_of medium x = record { m = x.0; settled_as = x.1 }

pub opened_full : (pen : Pen) (a b c : DiskView) → Now (IsFilling pen) a → ((m : Mail) → Now (IsDraft m pen) a → Now (IsStanding 0 0 m) b) → HasSetByte 0 1 b c → Now IsFull c
opened_full pen a b c h k s =
    now_weaker (λ medium. (m : Mail) × IsSettled (Whole m) medium) IsFull full_of c
    (some_told (λ m medium. IsSettled (Whole m) medium) pen a.told c.told h (λ m d. opened_whole m b c s (k m d)))

-- ---- calls

pub closed_moments : (a b c : DiskView) → Through IsShut a b → Through IsShut b c → Through IsShut a c
closed_moments a b c s t = through_then IsShut a b c s t

told_gate : (told : Option Tape) (faults : ℕ) → IfSome (length_told (record { told = told; faults = faults })) (λ len. 0 ≤ len)
told_gate None faults = tt
told_gate (Some tape) faults = omega arith

-- the gate's place is within every file
pub gate_place : (view : DiskView) → IfSome (length_told view) (λ len. 0 ≤ len)
gate_place view = told_gate view.told view.faults
