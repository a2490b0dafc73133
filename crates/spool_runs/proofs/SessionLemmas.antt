-- What the messages that a session deposits do to a spool.
use Rattle.std.proofs.Common.{arith, ◌≡◌, refl, sym, ap, subst, ◌∙◌, ℕ, ◌+◌, ◌≤◌, ◌⊎◌, inl, inr, List, [], ◌∷◌, ◌++◌, length, map, append-nil, Option, Some, None, Result, Ok, Err}
use Rattle.std.specs.List.{AllByRecursion}
use Rattle.std.proofs.lemmas.List.{map-append}
use Rattle.fw_disk.specs.DiskView.{DiskView, Tape}
use Rattle.fw_disk.specs.Medium.{Medium}
use Rattle.fw_disk.specs.Moments.{Now}
use Rattle.fw_types.specs.declared.ending.Ending.{Ending}
use Rattle.fw_acts.specs.Acts.{PlaceTable, Row}
use Rattle.session_acts.specs.Acts.{Act, Outcome, Undeposited}
use Rattle.session_acts.specs.Acts.Act.{Hear, Say, Try, Log, Note, Ask, Renew, Dial, Reach, Take, Pass, HangUp, Relay, Deposit, Allot, TakeReply, OpenDoor, Join, Copy, Part}
use Rattle.session_acts.specs.Acts.Undeposited.{Lacks, Unsaid, Unheard}
use Rattle.session_acts.specs.Deeds.{Gains, gives}
use Rattle.session_acts.specs.Depositing.{AtStoreDeposit, IsKept, Lends, PutsBrokenAt, PutsBrokenLast, PutsFree, PutsFull, StoreDeposits, filled_in, letter_of, mail_of, opened_in, AreOfBody}
use Rattle.session_acts.specs.Met.{AtStore, acts}
use Rattle.session_acts.specs.Session.{Held, deeds_of}
use Rattle.session_acts.specs.Stored.{KeptMail, body_of, bytes_in, kept, kept_as, kept_by}
use Rattle.session_acts.specs.World.{World as SessionWorld}
use Rattle.session_acts.specs.declared.deposited.Deposited.{Deposited}
use Rattle.session_acts.specs.declared.deposited.Deposited.TheVariants.{NoSlot, NotBegun, Kept, TooLarge, Faulted, Ended}
use Rattle.session_acts.proofs.DeedLemmas.{all_gain, held_deeds}
use Rattle.slot_bytes.specs.Layout.{Mail}
use Rattle.slot_bytes.specs.Reading.Reading.{Whole}
use Rattle.smap_lines.specs.Body.{Body}
use Rattle.spool_law.specs.Runs.{Known, Runs, known_in}
use Rattle.spool_law.specs.World.{Letter, World}
use Rattle.spool_law.proofs.RunLemmas.{runs_here}
use Rattle.spool_rack.specs.Opening.{HeldView, held_broken, held_full, held_slot}
use Rattle.spool_rack.specs.Store.{HasNoFree, HasTakenFree, PutsBroken, Queues, StoreView, put_free, put_full, with_broken, with_free, with_full, without_free}
use Rattle.spool_slots.specs.Media.{IsFull, IsSettled}
use Rattle.spool_slots.specs.States.{BrokenView, FullView, Keeps, SlotView}
use Rattle.spool_slots.proofs.ShutLemmas.{now_weaker}
use Rattle.spool_runs.proofs.GrownLemmas.{Grown, grown_kept, grown_moved}
use Rattle.spool_runs.proofs.RackLemmas.{IsFullOn, IsMoved, IsRack, Fits}
use Rattle.spool_runs.proofs.StoreLemmas.{Grows, free_to_broken, free_to_free, free_to_full, grows_both, grows_same, lent_free, put_broken_queues, put_free_queues, put_full_queues}
use Rattle.spool_runs.proofs.TapeLemmas.{each_both}

abbrev mails_of : List KeptMail → List Mail
mails_of kept_mails = map (λ one. one.mail) kept_mails

-- ---- the slot is put back free, or broken

module _ (count : ℕ) (sender : List ℕ) (rcpts : List (List ℕ)) (body : List ℕ) (old new : StoreView) where
  puts_filled : Lends (PutsFree sender rcpts body new) old → Grows count [] [] old new
  puts_filled h w tapes q reach fits is rack =
      let slot : SlotView = h.slot in
      let put : SlotView = record { number = h.does.filling.number; disk = h.does.filling.disk } in
      let lent = lent_free slot old h.lent q h.takes is in
      let k : Known = known_in w slot.number in
      grown_moved count [] w tapes q (with_free put (without_free q)) new.queues (held_slot slot) (held_slot put) (filled_in k sender rcpts body) fits rack
      (free_to_free q slot lent.front put h.does.filled.onward.number_is) (put_free_queues put h.lent new (without_free q) h.does.is lent.queues) rack.full
      (h.does.filled.events k) (omega arith) (sym (append-nil w.accepted))

  puts_failed : Lends (PutsBrokenAt sender rcpts body new) old → Grows count [] [] old new
  puts_failed h w tapes q reach fits is rack =
      let slot : SlotView = h.slot in
      let put : BrokenView = h.does.broken in
      let lent = lent_free slot old h.lent q h.takes is in
      let k : Known = known_in w slot.number in
      grown_moved count [] w tapes q (with_broken put (without_free q)) new.queues (held_slot slot) (held_broken put) (filled_in k sender rcpts body) fits rack
      (free_to_broken q slot lent.front put h.does.fails.broke.number_is) (put_broken_queues put h.lent new (without_free q) h.does.puts lent.queues) rack.full
      (h.does.fails.events k) (omega arith) (sym (append-nil w.accepted))

  -- its gate may have been opened, or not
  last_by : (l : Lends (PutsBrokenLast sender rcpts body new) old) (w : World) (tapes : ℕ → Tape) (q : Queues) → Fits w tapes → old.queues ≡ Some q → IsRack count tapes q
      → Runs (known_in w l.slot.number) l.slot.disk (filled_in (known_in w l.slot.number) sender rcpts body) l.does.broken.disk ⊎ Runs (known_in w l.slot.number) l.slot.disk (opened_in (known_in w l.slot.number) sender rcpts body) l.does.broken.disk
      → Grown count [] [] w tapes new.queues
  last_by h w tapes q fits is rack (inl runs) =
      let lent = lent_free h.slot old h.lent q h.takes is in
      grown_moved count [] w tapes q (with_broken h.does.broken (without_free q)) new.queues (held_slot h.slot) (held_broken h.does.broken) (filled_in (known_in w h.slot.number) sender rcpts body) fits rack
      (free_to_broken q h.slot lent.front h.does.broken h.does.fails.broke.number_is) (put_broken_queues h.does.broken h.lent new (without_free q) h.does.puts lent.queues) rack.full
      runs (omega arith) (sym (append-nil w.accepted))
  last_by h w tapes q fits is rack (inr runs) =
      let lent = lent_free h.slot old h.lent q h.takes is in
      grown_moved count [] w tapes q (with_broken h.does.broken (without_free q)) new.queues (held_slot h.slot) (held_broken h.does.broken) (opened_in (known_in w h.slot.number) sender rcpts body) fits rack
      (free_to_broken q h.slot lent.front h.does.broken h.does.fails.broke.number_is) (put_broken_queues h.does.broken h.lent new (without_free q) h.does.puts lent.queues) rack.full
      runs (omega arith) (sym (append-nil w.accepted))

  puts_last : Lends (PutsBrokenLast sender rcpts body new) old → Grows count [] [] old new
  puts_last h w tapes q reach fits is rack = last_by h w tapes q fits is rack (h.does.fails.events (known_in w h.slot.number))

-- as it was
puts_same : (count : ℕ) (slot : SlotView) (old lent new : StoreView) → HasTakenFree slot old lent → new ≡ put_free slot lent → Grows count [] [] old new
puts_same count slot old lent new takes is w tapes q reach fits queues rack =
    let l = lent_free slot old lent q takes queues in
    let k : Known = known_in w slot.number in
    grown_moved count [] w tapes q (with_free slot (without_free q)) new.queues (held_slot slot) (held_slot slot) k fits rack
    (free_to_free q slot l.front slot refl) (put_free_queues slot lent new (without_free q) is l.queues) rack.full (runs_here k slot.disk) (omega arith) (sym (append-nil w.accepted))

-- ---- the slot is put full

settled_full : (mail : Mail) (m : Medium) → IsSettled (Whole mail) m → IsFull m
settled_full mail m h = record { m = mail; settled_as = h }

keeps_full : (mail : Mail) (slot : FullView) → Keeps mail slot → IsFullOn slot
keeps_full mail slot keeps = now_weaker (IsSettled (Whole mail)) IsFull (settled_full mail) slot.disk keeps

puts_kept : (count : ℕ) (sender : List ℕ) (rcpts : List (List ℕ)) (body : List ℕ) (number : ℕ) (old new : StoreView) → Lends (PutsFull sender rcpts body number new) old → Grows count (mail_of sender rcpts body ∷ []) [] old new
puts_kept count sender rcpts body number old new h w tapes q reach fits is rack =
    let slot : SlotView = h.slot in
    let put : FullView = h.does.full in
    let kept_so : IsKept sender rcpts body slot put = h.does.kept in
    let lent = lent_free slot old h.lent q h.takes is in
    let k : Known = known_in w slot.number in
    let full : AllByRecursion IsFullOn (q.full ++ put ∷ []) = each_both IsFullOn q.full (put ∷ []) rack.full (keeps_full (mail_of sender rcpts body) put kept_so.keeps, tt) in
    grown_kept count (letter_of k sender rcpts body) w tapes q (with_full put (without_free q)) new.queues (held_slot slot) (held_full put) (opened_in k sender rcpts body) fits rack
    (free_to_full q slot lent.front put kept_so.onward.number_is) (put_full_queues put h.lent new (without_free q) h.does.is lent.queues) full
    (kept_so.events k) refl kept_so.keeps refl refl refl

-- ---- one act

body_is : (body data_heard : List ℕ) → AreOfBody data_heard body → body ≡ body_of data_heard
body_is body data_heard are = sym (ap bytes_in are)

given_grows : (count : ℕ) (sender : List ℕ) (rcpts : List (List ℕ)) (added : List ℕ) (old new : StoreView) → Lends (PutsFree sender rcpts added new) old ⊎ Lends (PutsBrokenAt sender rcpts added new) old → Grows count [] [] old new
given_grows count sender rcpts added old new (inl h) = puts_filled count sender rcpts added old new h
given_grows count sender rcpts added old new (inr h) = puts_failed count sender rcpts added old new h

lost_grows : (count : ℕ) (sender : List ℕ) (rcpts : List (List ℕ)) (added rest : List ℕ) (old new : StoreView) → Lends (PutsBrokenAt sender rcpts added new) old ⊎ ((rest ≡ []) × Lends (PutsBrokenLast sender rcpts added new) old) → Grows count [] [] old new
lost_grows count sender rcpts added rest old new (inl h) = puts_failed count sender rcpts added old new h
lost_grows count sender rcpts added rest old new (inr h) = puts_last count sender rcpts added old new h.1

deposited_grows : (count : ℕ) (sender : List ℕ) (rcpts : List (List ℕ)) (most : ℕ) (deposited : Deposited) (data_heard : List ℕ) (old new : StoreView) → StoreDeposits sender rcpts most deposited data_heard old new
    → Grows count (mails_of (kept_as sender rcpts deposited data_heard)) [] old new
deposited_grows count sender rcpts most NoSlot data_heard old new h = grows_same count old new (ap (λ (s : StoreView). s.queues) h.is)
deposited_grows count sender rcpts most NotBegun data_heard old new h = puts_failed count sender rcpts [] old new h
deposited_grows count sender rcpts most (Kept number bytes) data_heard old new h =
    subst (λ (b : List ℕ). Grows count (mail_of sender rcpts b ∷ []) [] old new) (body_is h.body data_heard h.are) (puts_kept count sender rcpts h.body number old new h.lends)
deposited_grows count sender rcpts most TooLarge data_heard old new h = puts_filled count sender rcpts h.added old new h.lends
deposited_grows count sender rcpts most Faulted data_heard old new h = lost_grows count sender rcpts h.added h.rest old new h.lends
deposited_grows count sender rcpts most Ended data_heard old new h = given_grows count sender rcpts h.added old new h.lends

deposit_grows : (count : ℕ) (sender : List ℕ) (rcpts : List (List ℕ)) (words : List ℕ) (most : ℕ) (outcome : Result (Deposited × List ℕ) (Undeposited words)) (old new : StoreView) → AtStoreDeposit sender rcpts words most outcome old new
    → Grows count (mails_of (kept_by sender rcpts outcome)) [] old new
deposit_grows count sender rcpts words most (Ok answer) old new h = deposited_grows count sender rcpts most answer.0 answer.1 old new h
deposit_grows count sender rcpts words most (Err Lacks) old new h = puts_same count h.slot old h.lent new h.takes h.does
deposit_grows count sender rcpts words most (Err (Unsaid front)) old new h = puts_filled count sender rcpts [] old new h
deposit_grows count sender rcpts words most (Err (Unheard silence data_heard)) old new h = given_grows count sender rcpts h.added old new h.lends

same_grows : (count : ℕ) (old new : StoreView) → new ≡ old → Grows count [] [] old new
same_grows count old new is = grows_same count old new (ap (λ (s : StoreView). s.queues) is)

act_grows : (count : ℕ) (act : Act) (outcome : Outcome act) (old new : StoreView) → AtStore act outcome old new → Grows count (mails_of (kept act outcome)) [] old new
act_grows count (Hear form) outcome old new h = same_grows count old new h
act_grows count (Say text) outcome old new h = same_grows count old new h
act_grows count (Try text) outcome old new h = same_grows count old new h
act_grows count (Log text) outcome old new h = same_grows count old new h
act_grows count (Note text) outcome old new h = same_grows count old new h
act_grows count (Ask request) outcome old new h = same_grows count old new h
act_grows count (Renew name hash) outcome old new h = same_grows count old new h
act_grows count (Dial dest) outcome old new h = same_grows count old new h
act_grows count (Reach dest) outcome old new h = same_grows count old new h
act_grows count Take outcome old new h = same_grows count old new h
act_grows count (Pass text) outcome old new h = same_grows count old new h
act_grows count HangUp outcome old new h = same_grows count old new h
act_grows count Relay outcome old new h = same_grows count old new h
act_grows count (Deposit sender rcpts words most) outcome old new h = deposit_grows count sender rcpts words most outcome old new h
act_grows count Allot outcome old new h = same_grows count old new h
act_grows count (TakeReply how) outcome old new h = same_grows count old new h
act_grows count OpenDoor outcome old new h = same_grows count old new h
act_grows count (Join dest target) outcome old new h = same_grows count old new h
act_grows count (Copy toward) outcome old new h = same_grows count old new h
act_grows count Part outcome old new h = same_grows count old new h

-- ---- a session

abbrev GrowsBy : {Origin : Type 0} → ℕ → List KeptMail → SessionWorld Origin → SessionWorld Origin → Type 0
GrowsBy count mails old new = Grows count (mails_of mails) [] old.store new.store

kept_grows : {Origin : Type 0} (count : ℕ) → Gains Origin kept (GrowsBy count)
kept_grows count = record {
  none = λ world. same_grows count world.store world.store refl;
  both = λ first more old mid new a b.
      subst (λ (m : List Mail). Grows count m [] old.store new.store) (sym (map-append (λ (one : KeptMail). one.mail) first more)) (grows_both count (mails_of first) (mails_of more) [] [] old.store mid.store new.store a b);
  one = λ act outcome old new met. act_grows count act outcome old.store new.store met.store;
}

-- what a session kept was answered for
pub session_grows : {Origin P : Type 0} {rows : PlaceTable (acts Origin) P} {first : Row (acts Origin) P} {old new : SessionWorld Origin} {ending : Ending} (count : ℕ) (held : Held rows first old new ending)
    → Grows count (map (λ (one : KeptMail). one.mail) (gives kept (deeds_of held))) [] old.store new.store
session_grows {old = old} {new = new} count held = all_gain (kept_grows count) (deeds_of held) old new (held_deeds held)
