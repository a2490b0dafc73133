-- Opening a slot, and reading its message.
use Rattle.std.proofs.Common.{◌≡◌, ℕ, ◌+◌, ◌<◌, ◌≤◌, Bool, true, false, cond, nat_eq, List, [], ◌∷◌, length, get_or, take, drop, Option, Some, None, Result, Ok, Err, refl, sym, ap, subst, ◌∙◌, arith, inl, inr}
use Rattle.std.specs.Prelude.{IfSome, option_map}
use Rattle.std.proofs.lemmas.List.{take_all}
use Rattle.byte_reader.proofs.NumberLemmas.{all_bytes}
use Rattle.fw_disk.specs.Medium.{Medium, IsImage, settled, synced_now}
use Rattle.fw_disk.specs.DiskView.{Tape, DiskView, IsFront, HasRead, HasSynced, HasFailed, Syncs, changed}
use Rattle.fw_disk.specs.Moments.{Through, Now, EachImage}
use Rattle.fw_disk.proofs.MediumLemmas.{settled_image}
use Rattle.fw_disk.proofs.MomentLemmas.{through_here, through_then, through_syncs}
use Rattle.fw_outside.specs.declared.failed.Failed.{Failed}
use Rattle.slot_bytes.specs.declared.head.Head as code
use Rattle.slot_bytes.specs.Layout.{Mail}
use Rattle.slot_bytes.specs.Reading.{Reading, reads}
use Rattle.slot_bytes.specs.Reading.{Reading as readings}
use Rattle.slot_bytes.specs.Files.{IsFreeFile, IsKeptFile}
use Rattle.slot_bytes.proofs.SlotLemmas.{reads_again, bad_some}
use Rattle.spool_slots.specs.declared.opening.Found.{Found}
use Rattle.spool_slots.specs.declared.opening.Found.TheVariants as found
use Rattle.spool_slots.specs.declared.slot_why.SlotWhy.{SlotWhy}
use Rattle.spool_slots.specs.declared.slot_why.SlotWhy.TheVariants as whys
use Rattle.spool_slots.specs.declared.looking.Look.{Look}
use Rattle.spool_slots.specs.declared.looking.Look.TheVariants as looks
use Rattle.spool_slots.specs.Found.{IsFoundIn, IsSettledAs, IsBad, CountsIn, IsSyncedFor}
use Rattle.spool_slots.specs.Images.{IsGoodImage}
use Rattle.spool_slots.specs.Looks.{IsHeadOf}
use Rattle.spool_slots.specs.Messages.{IsBodyAt}
use Rattle.spool_slots.specs.Media.{IsVacant, IsSettled, IsFull, IsAside}
use Rattle.spool_slots.proofs.KeptLemmas.{message_at, reads_kept, reads_cut}
use Rattle.spool_slots.proofs.ShutLemmas.{now_weaker}

-- ---- what a sync leaves

-- the bytes as read are the only image
record IsClean (m : Medium) : Type 0 where
  clean : m ≡ settled m.seen
  sound : IsImage m m.seen

told_clean : (told : Option Tape) → IfSome told (λ tape. IsImage tape.now tape.now.seen) → IfSome (option_map (changed synced_now) told) (λ tape. IsClean tape.now)
told_clean None h = tt
told_clean (Some tape) h = record { clean = refl; sound = settled_image tape.now.seen h.bytes }

clean_after : (old new : DiskView) → HasSynced old new → Now IsClean new
clean_after old new s = subst (λ (v : DiskView). Now IsClean v) (sym s.is) (told_clean old.told s.sound)

settled_as : (reading : Reading) (m : Medium) → IsClean m → reads m.seen ≡ reading → IsSettled reading m
settled_as reading m c e = record { clean = c.clean; sound = c.sound; read = e }

told_settled : (r : Result Found SlotWhy) (told : Option Tape) (faults : ℕ) → IfSome told (λ tape. IsClean tape.now) → IfSome told (λ tape. IsFoundIn r (reads tape.now.seen)) → IsSettledAs r (record { told = told; faults = faults })
told_settled (Ok found.Free) None faults c f = tt
told_settled (Ok found.Full) None faults c f = tt
told_settled (Ok found.Aside) None faults c f = tt
told_settled (Err (whys.BadSlot at)) None faults c f = tt
told_settled (Err whys.DiskFault) None faults c f = tt
told_settled (Err whys.NoMemory) None faults c f = tt
told_settled (Ok found.Free) (Some tape) faults c f = settled_as readings.Free tape.now c f
told_settled (Ok found.Full) (Some tape) faults c f = record { m = f.0; settled_as = settled_as (readings.Whole f.0) tape.now c f.1 }
told_settled (Ok found.Aside) (Some tape) faults c f = record { m = f.0; settled_as = settled_as (readings.Aside f.0) tape.now c f.1 }
told_settled (Err (whys.BadSlot at)) (Some tape) faults c f = settled_as (readings.Bad at) tape.now c f
told_settled (Err whys.DiskFault) (Some tape) faults c f = tt
told_settled (Err whys.NoMemory) (Some tape) faults c f = tt

-- what was found after a sync stands there
pub found_settled : (r : Result Found SlotWhy) (a b c : DiskView) → HasSynced a b → c.told ≡ b.told → IfSome b.told (λ tape. IsFoundIn r (reads tape.now.seen)) → IsSettledAs r c
found_settled r a b c s e f =
    let there : IsSettledAs r (record { told = b.told; faults = c.faults }) = told_settled r b.told c.faults (clean_after a b s) f in
    subst (λ (t : Option Tape). IsSettledAs r (record { told = t; faults = c.faults })) (sym e) there

view_same : (t u : Option Tape) (m n : ℕ) → t ≡ u → m ≡ n → (let a : DiskView = record { told = t; faults = m } in let b : DiskView = record { told = u; faults = n } in a ≡ b)
view_same t u m n e f = ap (λ (x : Option Tape). let v : DiskView = record { told = x; faults = m } in v) e ∙ ap (λ (x : ℕ). let v : DiskView = record { told = u; faults = x } in v) f

still_synced : (a b c : DiskView) → HasSynced a b → c.told ≡ b.told → c.faults ≡ b.faults → HasSynced a c
still_synced a b c s e f = record { sound = s.sound; is = view_same c.told b.told c.faults b.faults e f ∙ s.is }

-- a disk that is synced, and then read without a failure, is the synced one
pub synced_for : (r : Result Found SlotWhy) (a b c : DiskView) → HasSynced a b → c.told ≡ b.told → CountsIn r b c → IsSyncedFor r a c
synced_for (Ok x) a b c s e f = still_synced a b c s e f
synced_for (Err (whys.BadSlot at)) a b c s e f = still_synced a b c s e f
synced_for (Err whys.DiskFault) a b c s e f = tt
synced_for (Err whys.NoMemory) a b c s e f = still_synced a b c s e f

-- ---- images

start_images : (old : DiskView) (tape : Tape) → old.told ≡ Some tape → Now (EachImage (IsImage tape.now)) old
start_images old tape e = subst (λ (t : Option Tape). IfSome t (λ x. EachImage (IsImage tape.now) x.now)) (sym e) (λ image is. is)

same_told : (Q : Medium → Type 0) (a b c : DiskView) → c.told ≡ b.told → Through Q a b → Through Q a c
same_told Q a b c e t =
    let there : Through Q a (record { told = b.told; faults = c.faults }) = t in
    subst (λ (x : Option Tape). Through Q a (record { told = x; faults = c.faults })) (sym e) there

-- each image of a disk that is synced and then read was one at first
pub images_kept : (result : Result (Unit {0}) Failed) (a b c : DiskView) (tape : Tape) → Syncs result a b → c.told ≡ b.told → a.told ≡ Some tape → Through (EachImage (IsImage tape.now)) a c
images_kept result a b c tape s e f = same_told (EachImage (IsImage tape.now)) a b c e (through_syncs (IsImage tape.now) result a b s (start_images a tape f))

-- ---- bad bytes

told_never : (at : ℕ) (told : Option Tape) → IfSome told (λ tape. IsImage tape.now tape.now.seen) → IfSome (option_map (changed synced_now) told) (λ tape. reads tape.now.seen ≡ readings.Bad at) → IfSome told (λ tape. EachImage IsGoodImage tape.now → ⊥)
told_never at None sound bad = tt
told_never at (Some tape) sound bad = λ good. good tape.now.seen sound at bad

never_at : (at : ℕ) (a b : DiskView) (tape : Tape) → HasSynced a b → IfSome b.told (λ x. reads x.now.seen ≡ readings.Bad at) → a.told ≡ Some tape → EachImage IsGoodImage tape.now → ⊥
never_at at a b tape s bad e =
    let never : IfSome a.told (λ x. EachImage IsGoodImage x.now → ⊥) = told_never at a.told s.sound (subst (λ (v : DiskView). IfSome v.told (λ x. reads x.now.seen ≡ readings.Bad at)) s.is bad) in
    subst (λ (t : Option Tape). IfSome t (λ x. EachImage IsGoodImage x.now → ⊥)) e never

-- where each image was good at first, no bad slot is found
pub never_bad : (r : Result Found SlotWhy) (a b : DiskView) (tape : Tape) → HasSynced a b → IfSome b.told (λ x. IsFoundIn r (reads x.now.seen)) → a.told ≡ Some tape → EachImage IsGoodImage tape.now → IsBad r → ⊥
never_bad (Ok x) a b tape s f e good bad = bad
never_bad (Err (whys.BadSlot at)) a b tape s f e good bad = never_at at a b tape s f e good
never_bad (Err whys.DiskFault) a b tape s f e good bad = bad
never_bad (Err whys.NoMemory) a b tape s f e good bad = bad

-- ---- what is free

free_gate : (seen : List ℕ) → IsFreeFile seen → IsVacant (settled seen)
free_gate seen f = record { shut = record { long = f.long; unwritten = refl; gate = f.gate }; long = f.long }

kept_no_free : (b : Bool) (m : Mail) → (let r : Reading = cond b (readings.Whole m) (readings.Aside m) in r ≡ readings.Free) → ⊥
kept_no_free true m e = absurd cc
kept_no_free false m e = absurd cc

free_file : (m : Medium) → IsSettled readings.Free m → IsFreeFile m.seen
free_file m s =
    elim (bad_some m.seen (all_bytes m.seen s.sound.bytes)) [
      | inl (inl free) ↦ free
      | inl (inr k) ↦
          let kept : reads m.seen ≡ cond (nat_eq k.aside 0) (readings.Whole k.m) (readings.Aside k.m) = ap reads k.parts ∙ reads_again k.version k.gate k.aside k.marks k.m k.rest k.open_gate k.mark k.are_marks k.mail in
          absurd (kept_no_free (nat_eq k.aside 0) k.m (sym kept ∙ s.read))
      | inr bad ↦ let e : reads m.seen ≡ readings.Bad bad.0 = bad.1 in absurd (cc (e, s.read))
    ]

free_vacant_at : (m : Medium) → IsSettled readings.Free m → IsVacant m
free_vacant_at m s = subst IsVacant (sym s.clean) (free_gate m.seen (free_file m s))

pub free_vacant : (view : DiskView) → Now (IsSettled readings.Free) view → Now IsVacant view
free_vacant view h = now_weaker (IsSettled readings.Free) IsVacant free_vacant_at view h

-- ---- what a full slot can't show

full_reads : (m : Medium) (reading : Reading) (f : IsFull m) → reads m.seen ≡ reading → readings.Whole f.m ≡ reading
full_reads m reading f e = sym f.settled_as.read ∙ e

pub never_free : (told : Option Tape) → IfSome told (λ tape. IsFull tape.now) → IfSome told (λ tape. reads tape.now.seen ≡ readings.Free) → told ≡ None
never_free None f e = refl
never_free (Some tape) f e = let w = full_reads tape.now readings.Free f e in absurd (cc (w))

pub never_spoiled : (at : ℕ) (told : Option Tape) → IfSome told (λ tape. IsFull tape.now) → IfSome told (λ tape. reads tape.now.seen ≡ readings.Bad at) → told ≡ None
never_spoiled at None f e = refl
never_spoiled at (Some tape) f e = let w = full_reads tape.now (readings.Bad at) f e in absurd (cc (w))

pub never_cut : (head : code.Head) (place n : ℕ) (body : List ℕ) (told : Option Tape) → n < head.len → IfSome told (λ tape. IsFull tape.now) → IfSome told (λ tape. IsHeadOf head place tape.now.seen) → IfSome told (λ tape. IsFront n place head.len body tape.now.seen) → told ≡ None
never_cut head place n body None lt f h r = refl
never_cut head place n body (Some tape) lt f h r =
    let short : length tape.now.seen < place + head.len = omega (arith, lt, r.count, h.within) in
    let w = full_reads tape.now (readings.Bad (length tape.now.seen)) f (reads_cut head place tape.now.seen h short) in
    absurd (cc (w))

-- ---- reading the message of a full slot

whole_is : (b : Bool) (m n : Mail) → (let r : Reading = cond b (readings.Whole m) (readings.Aside m) in r ≡ readings.Whole n) → m ≡ n
whole_is true m n e = cc
whole_is false m n e = absurd cc

abbrev pub message_of : code.Head → List ℕ → Mail
message_of head body = record { from = head.from; rcpts = head.rcpts; body = body }

body_is : (n : ℕ) (buf l : List ℕ) → n ≡ length buf → take n buf ≡ take n l → buf ≡ take n l
body_is n buf l e t = sym (take_all n buf (omega (arith, e))) ∙ t

told_body : (head : code.Head) (place n : ℕ) (body : List ℕ) (told : Option Tape) → length body ≡ head.len → head.len ≤ n → n ≤ head.len → IfSome told (λ tape. IsHeadOf head place tape.now.seen) → IfSome told (λ tape. IsFront n place head.len body tape.now.seen)
    → IfSome told (λ tape. IsBodyAt head place body tape.now.seen)
told_body head place n body None e f g h r = tt
told_body head place n body (Some tape) e f g h r = record {
  there = omega (arith, f, r.count, h.within);
  is = body_is n body (drop place tape.now.seen) (omega (arith, e, f, g)) r.bytes ∙ ap (λ (x : ℕ). take x (drop place tape.now.seen)) (omega (arith, f, g));
}

-- a buffer as long as the body, once it is full, holds it
pub filled_body : (head : code.Head) (place n room : ℕ) (body : List ℕ) (old new : DiskView) → HasRead n place room body old new → room ≡ head.len → length body ≡ head.len → head.len ≤ n
    → IfSome old.told (λ tape. IsHeadOf head place tape.now.seen) → IfSome old.told (λ tape. IsBodyAt head place body tape.now.seen)
filled_body head place n room body old new r e f g h =
    let read : IfSome old.told (λ tape. IsFront n place head.len body tape.now.seen) = subst (λ (x : ℕ). IfSome old.told (λ tape. IsFront n place x body tape.now.seen)) e r.told in
    told_body head place n body old.told f g (omega (arith, r.fits, e)) h read

pub short_body : (head : code.Head) (place n room : ℕ) (body : List ℕ) (old new : DiskView) → HasRead n place room body old new → IfSome old.told (λ tape. IsHeadOf head place tape.now.seen) → Now IsFull old → room ≡ head.len → n < head.len
    → new.told ≡ None
short_body head place n room body old new r h f e lt =
    ap (λ (v : DiskView). v.told) r.is ∙ never_cut head place n body old.told lt f h (subst (λ (x : ℕ). IfSome old.told (λ tape. IsFront n place x body tape.now.seen)) e r.told)

told_message : (head : code.Head) (place : ℕ) (body : List ℕ) (m : Mail) (told : Option Tape) → IfSome told (λ tape. IsHeadOf head place tape.now.seen) → IfSome told (λ tape. IsBodyAt head place body tape.now.seen) → IfSome told (λ tape. IsSettled (readings.Whole m) tape.now)
    → IfSome told (λ tape. message_of head body ≡ m)
told_message head place body m None h b s = tt
told_message head place body m (Some tape) h b s =
    let seen : List ℕ = tape.now.seen in
    let read : cond (nat_eq head.aside 0) (readings.Whole (message_at head place seen)) (readings.Aside (message_at head place seen)) ≡ readings.Whole m = sym (reads_kept head place seen h b.there) ∙ s.read in
    ap (message_of head) b.is ∙ whole_is (nat_eq head.aside 0) (message_at head place seen) m read

pub message_is : (head : code.Head) (place : ℕ) (body : List ℕ) (shown m : Mail) (view : DiskView) → shown ≡ message_of head body → IfSome view.told (λ tape. IsHeadOf head place tape.now.seen) → IfSome view.told (λ tape. IsBodyAt head place body tape.now.seen) → Now (IsSettled (readings.Whole m)) view
    → IfSome view.told (λ tape. shown ≡ m)
message_is head place body shown m view e h b s = subst (λ (x : Mail). IfSome view.told (λ tape. x ≡ m)) (sym e) (told_message head place body m view.told h b s)
