-- What holds at each moment of several calls, one after the other.
use Rattle.std.proofs.Common.{◌≡◌, List, [], ◌∷◌, ◌++◌, Option, Some, None, Result, Ok, Err, refl, sym, ap, subst, ◌∙◌, append_assoc, inl, inr, ℕ}
use Rattle.std.specs.Prelude.{IfSome, option_map}
use Rattle.std.specs.List.{AllByRecursion}
use Rattle.fw_outside.specs.declared.failed.Failed.{Failed}
use Rattle.fw_disk.specs.Medium.{Medium, IsImage, synced_now, written_at}
use Rattle.fw_disk.specs.DiskView.{Tape, DiskView, onward, changed, IsTorn, IsToldTorn, Changes, Syncs, HasSetByte, FailsToSet}
use Rattle.fw_disk.specs.Moments.{Since, IsToldSince, Through, Now, EachImage}
use Rattle.fw_disk.proofs.MediumLemmas.{image_unseen, settled_only}

all_append : (P : Medium → Type 0) (a b : List Medium) → AllByRecursion P a → AllByRecursion P b → AllByRecursion P (a ++ b)
all_append P [] b h k = k
all_append P (m ∷ a) b h k = (h.0, all_append P a b h.1 k)

all_weaker : (P Q : Medium → Type 0) → ((m : Medium) → P m → Q m) → (a : List Medium) → AllByRecursion P a → AllByRecursion Q a
all_weaker P Q to [] h = tt
all_weaker P Q to (m ∷ a) h = (to m h.0, all_weaker P Q to a h.1)

-- ---- tapes

pub since_here : (P : Medium → Type 0) (tape : Tape) → P tape.now → Since P tape tape
since_here P tape h = record { moments = []; are = refl; first = h; each = tt }

pub since_onward : (P : Medium → Type 0) (m : Medium) (tape : Tape) → P tape.now → P m → Since P tape (onward m tape)
since_onward P m tape h k = record { moments = m ∷ []; are = refl; first = h; each = (k, tt) }

pub since_then : (P : Medium → Type 0) (a b c : Tape) → Since P a b → Since P b c → Since P a c
since_then P a b c s t = record {
  moments = t.moments ++ s.moments;
  are = t.are ∙ ap (λ (l : List Medium). t.moments ++ l) s.are ∙ sym (append_assoc t.moments s.moments (a.now ∷ a.past));
  first = s.first;
  each = all_append P t.moments s.moments t.each s.each;
}

pub since_weaker : (P Q : Medium → Type 0) → ((m : Medium) → P m → Q m) → (old new : Tape) → Since P old new → Since Q old new
since_weaker P Q to old new s = record { moments = s.moments; are = s.are; first = to old.now s.first; each = all_weaker P Q to s.moments s.each }

last_of : (P : Medium → Type 0) (moments : List Medium) (now old : Medium) (past before : List Medium) → now ∷ past ≡ moments ++ old ∷ before → P old → AllByRecursion P moments → P now
last_of P [] now old past before e h all = let same : now ≡ old = cc in subst P (sym same) h
last_of P (m ∷ moments) now old past before e h all = let same : now ≡ m = cc in subst P (sym same) all.0

-- it holds of the medium at the end
pub since_now : (P : Medium → Type 0) (old new : Tape) → Since P old new → P new.now
since_now P old new s = last_of P s.moments new.now old.now new.past old.past s.are s.first s.each

-- ---- disks that tell or not

pub told_here : (P : Medium → Type 0) (told : Option Tape) → IfSome told (λ tape. P tape.now) → IsToldSince P told told
told_here P None h = tt
told_here P (Some tape) h = since_here P tape h

pub told_then : (P : Medium → Type 0) (a b c : Option Tape) → IsToldSince P a b → IsToldSince P b c → IsToldSince P a c
told_then P None None None s t = tt
told_then P None None (Some c) s t = absurd t
told_then P None (Some b) c s t = absurd s
told_then P (Some a) None c s t = absurd s
told_then P (Some a) (Some b) None s t = absurd t
told_then P (Some a) (Some b) (Some c) s t = since_then P a b c s t

pub told_weaker : (P Q : Medium → Type 0) → ((m : Medium) → P m → Q m) → (old new : Option Tape) → IsToldSince P old new → IsToldSince Q old new
told_weaker P Q to None None s = tt
told_weaker P Q to None (Some new) s = absurd s
told_weaker P Q to (Some old) None s = absurd s
told_weaker P Q to (Some old) (Some new) s = since_weaker P Q to old new s

pub told_now : (P : Medium → Type 0) (old new : Option Tape) → IsToldSince P old new → IfSome new (λ tape. P tape.now)
told_now P None None s = tt
told_now P None (Some new) s = absurd s
told_now P (Some old) None s = absurd s
told_now P (Some old) (Some new) s = since_now P old new s

pub told_changed : (P : Medium → Type 0) (change : Medium → Medium) (told : Option Tape) → IfSome told (λ tape. P tape.now) → IfSome told (λ tape. P (change tape.now)) → IsToldSince P told (option_map (changed change) told)
told_changed P change None h k = tt
told_changed P change (Some tape) h k = since_onward P (change tape.now) tape h k

-- ---- through calls

pub through_here : (P : Medium → Type 0) (view : DiskView) → Now P view → Through P view view
through_here P view h = told_here P view.told h

pub through_then : (P : Medium → Type 0) (a b c : DiskView) → Through P a b → Through P b c → Through P a c
through_then P a b c s t = told_then P a.told b.told c.told s t

pub through_weaker : (P Q : Medium → Type 0) → ((m : Medium) → P m → Q m) → (old new : DiskView) → Through P old new → Through Q old new
through_weaker P Q to old new s = told_weaker P Q to old.told new.told s

pub through_now : (P : Medium → Type 0) (old new : DiskView) → Through P old new → Now P new
through_now P old new s = told_now P old.told new.told s

-- what every image of the changed medium is, it is after a failed change too
torn_since : (Q : List ℕ → Type 0) (change : Medium → Medium) (old new : Tape) → EachImage Q old.now → EachImage Q (change old.now) → IsTorn change old new → Since (EachImage Q) old new
torn_since Q change old new h k (inl e) = subst (λ (t : Tape). Since (EachImage Q) old t) (sym e) (since_here (EachImage Q) old h)
torn_since Q change old new h k (inr p) =
    let m : Medium = record (change old.now) { seen = p.0 } in
    subst (λ (t : Tape). Since (EachImage Q) old t) (sym p.1.is)
    (since_onward (EachImage Q) m old h (λ image is. k image (image_unseen (change old.now) p.0 image is)))

told_torn : (Q : List ℕ → Type 0) (change : Medium → Medium) (old new : Option Tape) → IfSome old (λ tape. EachImage Q tape.now) → IfSome old (λ tape. EachImage Q (change tape.now)) → IsToldTorn change old new → IsToldSince (EachImage Q) old new
told_torn Q change None None h k t = tt
told_torn Q change None (Some new) h k t = absurd t
told_torn Q change (Some old) None h k t = absurd t
told_torn Q change (Some old) (Some new) h k t = torn_since Q change old new h k t

-- a change, done or torn: what every image is before it and after it, it is throughout
pub through_changes : (Q : List ℕ → Type 0) (result : Result (Unit {0}) Failed) (change : Medium → Medium) (old new : DiskView) → Changes result change old new
    → Now (EachImage Q) old → IfSome old.told (λ tape. EachImage Q (change tape.now)) → Through (EachImage Q) old new
through_changes Q (Ok u) change old new e h k = subst (λ (v : DiskView). Through (EachImage Q) old v) (sym e) (told_changed (EachImage Q) change old.told h k)
through_changes Q (Err e) change old new t h k = subst (λ (v : DiskView). Through (EachImage Q) old v) (sym t.is) (told_torn Q change old.told t.told h k t.torn)

synced_images : (Q : List ℕ → Type 0) (m : Medium) → IsImage m m.seen → EachImage Q m → EachImage Q (synced_now m)
synced_images Q m sound each image is = subst Q (sym (settled_only m.seen image is)) (each m.seen sound)

told_synced : (Q : List ℕ → Type 0) (told : Option Tape) → IfSome told (λ tape. IsImage tape.now tape.now.seen) → IfSome told (λ tape. EachImage Q tape.now) → IfSome told (λ tape. EachImage Q (synced_now tape.now))
told_synced Q None sound h = tt
told_synced Q (Some tape) sound h = synced_images Q tape.now sound h

-- a sync keeps what every image is
pub through_syncs : (Q : List ℕ → Type 0) (result : Result (Unit {0}) Failed) (old new : DiskView) → Syncs result old new → Now (EachImage Q) old → Through (EachImage Q) old new
through_syncs Q (Ok u) old new s h = subst (λ (v : DiskView). Through (EachImage Q) old v) (sym s.is) (told_changed (EachImage Q) synced_now old.told h (told_synced Q old.told s.sound h))
through_syncs Q (Err e) old new f h = subst (λ (v : DiskView). Through (EachImage Q) old v) (sym f.is) (told_here (EachImage Q) old.told h)

-- ---- through the setting of a byte

told_after : (Q : List ℕ → Type 0) (change : Medium → Medium) (told : Option Tape) → IfSome told (λ tape. EachImage Q (change tape.now)) → IfSome (option_map (changed change) told) (λ tape. EachImage Q tape.now)
told_after Q change None h = tt
told_after Q change (Some tape) h = h

wrote_now : (Q : List ℕ → Type 0) (at byte : ℕ) (old middle : DiskView) → middle ≡ record old { told = option_map (changed (written_at at (byte ∷ []))) old.told }
    → IfSome old.told (λ tape. EachImage Q (written_at at (byte ∷ []) tape.now)) → Now (EachImage Q) middle
wrote_now Q at byte old middle e k = subst (λ (v : DiskView). Now (EachImage Q) v) (sym e) (told_after Q (written_at at (byte ∷ [])) old.told k)

-- what every image is before the byte is written and after it, it is throughout
pub through_set : (Q : List ℕ → Type 0) (at byte : ℕ) (old new : DiskView) → HasSetByte at byte old new
    → Now (EachImage Q) old → IfSome old.told (λ tape. EachImage Q (written_at at (byte ∷ []) tape.now)) → Through (EachImage Q) old new
through_set Q at byte old new s h k =
    let wrote : Through (EachImage Q) old s.middle = through_changes Q (Ok tt) (written_at at (byte ∷ [])) old s.middle s.wrote h k in
    let synced : Through (EachImage Q) s.middle new = through_syncs Q (Ok tt) s.middle new s.syncs (wrote_now Q at byte old s.middle s.wrote k) in
    through_then (EachImage Q) old s.middle new wrote synced

pub through_fails_to_set : (Q : List ℕ → Type 0) (at byte : ℕ) (old new : DiskView) → FailsToSet at byte old new
    → Now (EachImage Q) old → IfSome old.told (λ tape. EachImage Q (written_at at (byte ∷ []) tape.now)) → Through (EachImage Q) old new
through_fails_to_set Q at byte old new (inl t) h k = through_changes Q (Err (record {})) (written_at at (byte ∷ [])) old new t h k
through_fails_to_set Q at byte old new (inr s) h k =
    let wrote : Through (EachImage Q) old s.middle = through_changes Q (Ok tt) (written_at at (byte ∷ [])) old s.middle s.wrote h k in
    let failed : Through (EachImage Q) s.middle new = through_syncs Q (Err (record {})) s.middle new s.fails (wrote_now Q at byte old s.middle s.wrote k) in
    through_then (EachImage Q) old s.middle new wrote failed
