-- A message in a slot, as it goes on.
use Rattle.std.proofs.Common.{arith, ◌≡◌, refl, sym, ap, subst, ◌∙◌, ℕ, ◌+◌, ◌<◌, ◌≤◌, ◌⊎◌, inl, inr, Bool, false, List, [], ◌++◌, length, append_assoc, append-nil, Option, Some, None, Result, Ok, Err}
use Rattle.std.proofs.lemmas.List.{length-append}
use Rattle.fw_disk.specs.DiskView.{DiskView}
use Rattle.fw_disk.specs.Moments.{EachImage, Now, Through}
use Rattle.fw_disk.proofs.MomentLemmas.{through_then}
use Rattle.fw_outside.specs.Counts.{Rose}
use Rattle.fw_outside.specs.LineReaderView.{LineReaderView}
use Rattle.fw_outside.specs.SinkView.{SinkView}
use Rattle.fw_outside.specs.SourceView.{SourceView}
use Rattle.fw_outside.specs.declared.heard.Stop.{Stop}
use Rattle.fw_outside.specs.declared.heard.Stop.TheVariants as stops
use Rattle.session_acts.specs.Acts.Undeposited.{Unheard}
use Rattle.session_acts.specs.Depositing.{AreOfBody, Draws, IsBrokenAt, IsBrokenLast, IsFilled, IsGivenUp, IsKept, Lends, PutsBrokenAt, PutsBrokenLast, PutsFree, StoreDeposits, filled_in, letter_of, mail_of, opened_in}
use Rattle.session_acts.specs.Intake.{AreDataOf, DepositsSo, EntrustsSo, HearsInto, IsAway, IsLarge, IsOpen, IsTray, KeepsSo, PutsBack, SettlesSo, unended}
use Rattle.session_acts.specs.Met.{ClientDeposits, IsTold}
use Rattle.session_acts.specs.World.{Speaker}
use Rattle.session_acts.specs.declared.cause.Cause.{Cause}
use Rattle.session_acts.specs.declared.deposited.Deposited.{Deposited}
use Rattle.session_acts.specs.declared.deposited.Deposited.TheVariants.{NoSlot, NotBegun, Kept, TooLarge, Faulted, Ended}
use Rattle.session_acts.specs.declared.silence.Silence.TheVariants.{Quiet, Broken, Limit}
use Rattle.smap_lines.specs.Body.{mail_body_of}
use Rattle.spool_rack.specs.Store.{HasTakenFree, PutsBroken, StoreView, put_free}
use Rattle.session_acts.specs.declared.depositing.Tray.{Tray}
use Rattle.session_acts.specs.declared.depositing.Tray.TheVariants as trays
use Rattle.slot_bytes.specs.Layout.{Mail}
use Rattle.spool_law.specs.Events as letters
use Rattle.spool_law.specs.Runs.{Known, Runs, used_for}
use Rattle.spool_law.specs.World.{Letter}
use Rattle.spool_law.specs.World.Use.{Begun, Opened}
use Rattle.spool_law.proofs.RunLemmas.{runs_then}
use Rattle.spool_slots.specs.Images.{IsFreeImage}
use Rattle.spool_slots.specs.Media.{HasByte, begun, longer}
use Rattle.spool_slots.specs.Started.{IsNotBegun, LeavesFree, RunsBegun, begun_in}
use Rattle.spool_slots.specs.declared.start_fault.StartFault.{StartFault}
use Rattle.spool_slots.specs.declared.start_fault.StartFault.TheVariants as faults
use Rattle.spool_slots.specs.States.{BrokenView, Drafts, FillingView, FullView, IsBrokenIn, IsOnward, Keeps, Opens, OpensOrNot, SlotView}

onward_both : (number : ℕ) (first : DiskView) (a : ℕ) (mid : DiskView) (b : ℕ) (last : DiskView) → IsOnward number first a mid → IsOnward a mid b last → IsOnward number first b last
onward_both number first a mid b last one two = record { number_is = two.number_is ∙ one.number_is; faults = two.faults ∙ one.faults }

broken_since : (number : ℕ) (first : DiskView) (a : ℕ) (mid : DiskView) (broken : BrokenView) → IsOnward number first a mid → IsBrokenIn a mid broken → IsBrokenIn number first broken
broken_since number first a mid broken one two = record {
  number_is = two.number_is ∙ one.number_is;
  rose = subst (λ (n : ℕ). Rose n broken.disk.faults) one.faults two.rose;
  empty = two.empty;
  fault = two.fault;
}

-- what a message is that was begun
pub filled_first : (sender : List ℕ) (rcpts : List (List ℕ)) (slot : SlotView) (filling : FillingView) → IsOnward slot.number slot.disk filling.number filling.disk → filling.pen.len ≡ 0 → Drafts (begun sender rcpts) filling
    → Through (EachImage IsFreeImage) slot.disk filling.disk → ((k : Known) → Runs k slot.disk (begun_in k sender rcpts) filling.disk) → IsFilled sender rcpts [] slot filling
filled_first sender rcpts slot filling onward len draft images events = record { onward = onward; len = len; draft = draft; images = images; events = events }

-- it wasn't begun, since the disk failed
pub broken_first : {D : Type 0} (sender : List ℕ) (rcpts : List (List ℕ)) (slot : SlotView) (fault : StartFault D) (broken : BrokenView) → fault ≡ faults.Disk broken → IsNotBegun slot fault → LeavesFree slot fault
    → ((k : Known) → RunsBegun k sender rcpts slot fault) → IsBrokenAt sender rcpts [] slot broken
broken_first {D} sender rcpts slot fault broken is broke images events = record {
  broke = subst (λ (f : StartFault D). IsNotBegun slot f) is broke;
  images = subst (λ (f : StartFault D). LeavesFree slot f) is images;
  events = λ k. subst (λ (f : StartFault D). RunsBegun k sender rcpts slot f) is (events k);
}

-- a piece more was added
pub filled_on : (sender : List ℕ) (rcpts : List (List ℕ)) (given piece : List ℕ) (slot : SlotView) (filling longer_by : FillingView) → IsFilled sender rcpts given slot filling
    → IsOnward filling.number filling.disk longer_by.number longer_by.disk → longer_by.pen.len ≡ filling.pen.len + length piece → ((m : Mail) → Drafts m filling → Drafts (longer m piece) longer_by)
    → Through (EachImage IsFreeImage) filling.disk longer_by.disk
    → ((k : Known) (l : Letter) → k.use_of ≡ Begun l → Runs k filling.disk (used_for (Begun (letters.longer piece l)) k) longer_by.disk) → IsFilled sender rcpts (given ++ piece) slot longer_by
filled_on sender rcpts given piece slot filling longer_by filled onward len draft images events = record {
  onward = onward_both slot.number slot.disk filling.number filling.disk longer_by.number longer_by.disk filled.onward onward;
  len = len ∙ ap (λ (n : ℕ). n + length piece) filled.len ∙ sym (length-append given piece);
  draft = draft (mail_of sender rcpts given) filled.draft;
  images = through_then (EachImage IsFreeImage) slot.disk filling.disk longer_by.disk filled.images images;
  events = λ k. runs_then k (filled_in k sender rcpts given) (filled_in k sender rcpts (given ++ piece)) slot.disk filling.disk longer_by.disk (filled.events k) (events (filled_in k sender rcpts given) (letter_of k sender rcpts given) refl);
}

-- the disk failed
pub broken_on : (sender : List ℕ) (rcpts : List (List ℕ)) (given piece : List ℕ) (slot : SlotView) (filling : FillingView) (broken : BrokenView) → IsFilled sender rcpts given slot filling
    → IsBrokenIn filling.number filling.disk broken → Through (EachImage IsFreeImage) filling.disk broken.disk
    → ((k : Known) (l : Letter) → k.use_of ≡ Begun l → Runs k filling.disk (used_for (Begun (letters.longer piece l)) k) broken.disk) → IsBrokenAt sender rcpts (given ++ piece) slot broken
broken_on sender rcpts given piece slot filling broken filled broke images events = record {
  broke = broken_since slot.number slot.disk filling.number filling.disk broken filled.onward broke;
  images = through_then (EachImage IsFreeImage) slot.disk filling.disk broken.disk filled.images images;
  events = λ k. runs_then k (filled_in k sender rcpts given) (filled_in k sender rcpts (given ++ piece)) slot.disk filling.disk broken.disk (filled.events k) (events (filled_in k sender rcpts given) (letter_of k sender rcpts given) refl);
}

-- the message was finished
pub kept_so : (sender : List ℕ) (rcpts : List (List ℕ)) (body : List ℕ) (slot : SlotView) (filling : FillingView) (full : FullView) → IsFilled sender rcpts body slot filling
    → IsOnward filling.number filling.disk full.number full.disk → full.unread ≡ false → ((m : Mail) → Drafts m filling → Keeps m full) → Now (HasByte 0 1) full.disk → ((m : Mail) → Drafts m filling → Opens m filling.disk full.disk)
    → ((k : Known) (l : Letter) → k.use_of ≡ Begun l → Drafts l.mail filling → Runs k filling.disk (used_for (Opened l) k) full.disk) → IsKept sender rcpts body slot full
kept_so sender rcpts body slot filling full filled onward read keeps gate images events = record {
  filling = filling;
  filled = filled;
  onward = onward_both slot.number slot.disk filling.number filling.disk full.number full.disk filled.onward onward;
  read = read;
  keeps = keeps (mail_of sender rcpts body) filled.draft;
  gate = gate;
  images = images (mail_of sender rcpts body) filled.draft;
  events = λ k. runs_then k (filled_in k sender rcpts body) (opened_in k sender rcpts body) slot.disk filling.disk full.disk (filled.events k) (events (filled_in k sender rcpts body) (letter_of k sender rcpts body) refl filled.draft);
}

last_events : (k : Known) (sender : List ℕ) (rcpts : List (List ℕ)) (body : List ℕ) (slot : SlotView) (filling : FillingView) (broken : BrokenView) → Runs k slot.disk (filled_in k sender rcpts body) filling.disk
    → Runs (filled_in k sender rcpts body) filling.disk (filled_in k sender rcpts body) broken.disk ⊎ Runs (filled_in k sender rcpts body) filling.disk (opened_in k sender rcpts body) broken.disk
    → Runs k slot.disk (filled_in k sender rcpts body) broken.disk ⊎ Runs k slot.disk (opened_in k sender rcpts body) broken.disk
last_events k sender rcpts body slot filling broken before (inl runs) = inl (runs_then k (filled_in k sender rcpts body) (filled_in k sender rcpts body) slot.disk filling.disk broken.disk before runs)
last_events k sender rcpts body slot filling broken before (inr runs) = inr (runs_then k (filled_in k sender rcpts body) (opened_in k sender rcpts body) slot.disk filling.disk broken.disk before runs)

-- or its disk failed then
pub broken_last : (sender : List ℕ) (rcpts : List (List ℕ)) (body : List ℕ) (slot : SlotView) (filling : FillingView) (broken : BrokenView) → IsFilled sender rcpts body slot filling
    → IsBrokenIn filling.number filling.disk broken → ((m : Mail) → Drafts m filling → OpensOrNot m filling.disk broken.disk)
    → ((k : Known) (l : Letter) → k.use_of ≡ Begun l → Drafts l.mail filling → Runs k filling.disk k broken.disk ⊎ Runs k filling.disk (used_for (Opened l) k) broken.disk) → IsBrokenLast sender rcpts body slot broken
broken_last sender rcpts body slot filling broken filled broke images events = record {
  filling = filling;
  filled = filled;
  broke = broken_since slot.number slot.disk filling.number filling.disk broken filled.onward broke;
  images = images (mail_of sender rcpts body) filled.draft;
  events = λ k. last_events k sender rcpts body slot filling broken (filled.events k) (events (filled_in k sender rcpts body) (letter_of k sender rcpts body) refl filled.draft);
}

-- ---- while it is heard

pub laid_large : (sender : List ℕ) (rcpts : List (List ℕ)) (most left : ℕ) (given bytes : List ℕ) (slot : SlotView) (filling : FillingView) → IsFilled sender rcpts given slot filling → left + length given ≡ most → left < length bytes
    → IsLarge sender rcpts most slot (given ++ bytes) filling
laid_large sender rcpts most left given bytes slot filling filled room more =
    let long = length-append given bytes in
    record { added = given; rest = bytes; front = refl; large = omega (arith, long, room, more); filled = filled }

pub laid_open : (sender : List ℕ) (rcpts : List (List ℕ)) (most left less : ℕ) (given bytes : List ℕ) (slot : SlotView) (filling : FillingView) → IsFilled sender rcpts (given ++ bytes) slot filling → left + length given ≡ most → left ≡ less + length bytes
    → IsOpen sender rcpts most slot (given ++ bytes) less filling
laid_open sender rcpts most left less given bytes slot filling filled room is =
    let long = length-append given bytes in
    record { filled = filled; room = omega (arith, long, room, is) }

pub laid_away : (sender : List ℕ) (rcpts : List (List ℕ)) (most left : ℕ) (given bytes : List ℕ) (slot : SlotView) (broken : BrokenView) → IsBrokenAt sender rcpts (given ++ bytes) slot broken → left + length given ≡ most → length bytes ≤ left
    → IsAway sender rcpts most slot (given ++ bytes) broken
laid_away sender rcpts most left given bytes slot broken fails room fits =
    let long = length-append given bytes in
    record { added = given ++ bytes; rest = []; front = sym (append-nil (given ++ bytes)); small = omega (arith, long, room, fits); fails = fails }

-- what comes too late is dropped
pub late_large : (sender : List ℕ) (rcpts : List (List ℕ)) (most : ℕ) (given bytes : List ℕ) (slot : SlotView) (filling : FillingView) → IsLarge sender rcpts most slot given filling → IsLarge sender rcpts most slot (given ++ bytes) filling
late_large sender rcpts most given bytes slot filling h =
    let long = length-append given bytes in
    let large = h.large in
    record { added = h.added; rest = h.rest ++ bytes; front = ap (λ (g : List ℕ). g ++ bytes) h.front ∙ append_assoc h.added h.rest bytes; large = omega (arith, long, large); filled = h.filled }

pub late_away : (sender : List ℕ) (rcpts : List (List ℕ)) (most : ℕ) (given bytes : List ℕ) (slot : SlotView) (broken : BrokenView) → IsAway sender rcpts most slot given broken → IsAway sender rcpts most slot (given ++ bytes) broken
late_away sender rcpts most given bytes slot broken h =
    record { added = h.added; rest = h.rest ++ bytes; front = ap (λ (g : List ℕ). g ++ bytes) h.front ∙ append_assoc h.added h.rest bytes; small = h.small; fails = h.fails }

-- ---- when it is put back

pub settled_open : (sender : List ℕ) (rcpts : List (List ℕ)) (most left : ℕ) (given : List ℕ) (deposited : Deposited) (slot : SlotView) (lent new : StoreView) (filling : FillingView) → IsOpen sender rcpts most slot given left filling
    → KeepsSo sender rcpts given deposited slot lent new → SettlesSo sender rcpts most given deposited slot lent new
settled_open sender rcpts most left given (Kept number bytes) slot lent new filling laid keeps = let room = laid.room in (omega (arith, room), keeps.0, keeps.1)
settled_open sender rcpts most left given Faulted slot lent new filling laid keeps =
    let room = laid.room in
    record { added = given; rest = []; front = sym (append-nil given); small = omega (arith, room); puts = inr (refl, keeps) }
settled_open sender rcpts most left given NoSlot slot lent new filling laid keeps = absurd keeps
settled_open sender rcpts most left given NotBegun slot lent new filling laid keeps = absurd keeps
settled_open sender rcpts most left given TooLarge slot lent new filling laid keeps = absurd keeps
settled_open sender rcpts most left given Ended slot lent new filling laid keeps = absurd keeps

pub settled_large : (sender : List ℕ) (rcpts : List (List ℕ)) (most : ℕ) (given : List ℕ) (slot : SlotView) (lent new : StoreView) (filling : FillingView) → IsLarge sender rcpts most slot given filling
    → new ≡ put_free (record { number = filling.number; disk = filling.disk }) lent → SettlesSo sender rcpts most given TooLarge slot lent new
settled_large sender rcpts most given slot lent new filling h is =
    record { large = h.large; added = h.added; rest = h.rest; front = h.front; puts = record { filling = filling; filled = h.filled; is = is } }

pub settled_lost : (sender : List ℕ) (rcpts : List (List ℕ)) (most : ℕ) (given : List ℕ) (slot : SlotView) (lent new : StoreView) (broken : BrokenView) → IsAway sender rcpts most slot given broken
    → PutsBroken broken lent new → SettlesSo sender rcpts most given Faulted slot lent new
settled_lost sender rcpts most given slot lent new broken h puts =
    record { added = h.added; rest = h.rest; front = h.front; small = h.small; puts = inl (record { broken = broken; fails = h.fails; puts = puts }) }

pub back_open : (sender : List ℕ) (rcpts : List (List ℕ)) (most left : ℕ) (given : List ℕ) (slot : SlotView) (lent new : StoreView) (filling : FillingView) → IsOpen sender rcpts most slot given left filling
    → new ≡ put_free (record { number = filling.number; disk = filling.disk }) lent → PutsBack sender rcpts slot lent new
back_open sender rcpts most left given slot lent new filling h is = record { added = given; puts = inl (record { filling = filling; filled = h.filled; is = is }) }

pub back_large : (sender : List ℕ) (rcpts : List (List ℕ)) (most : ℕ) (given : List ℕ) (slot : SlotView) (lent new : StoreView) (filling : FillingView) → IsLarge sender rcpts most slot given filling
    → new ≡ put_free (record { number = filling.number; disk = filling.disk }) lent → PutsBack sender rcpts slot lent new
back_large sender rcpts most given slot lent new filling h is = record { added = h.added; puts = inl (record { filling = filling; filled = h.filled; is = is }) }

pub back_lost : (sender : List ℕ) (rcpts : List (List ℕ)) (most : ℕ) (given : List ℕ) (slot : SlotView) (lent new : StoreView) (broken : BrokenView) → IsAway sender rcpts most slot given broken
    → PutsBroken broken lent new → PutsBack sender rcpts slot lent new
back_lost sender rcpts most given slot lent new broken h puts = record { added = h.added; puts = inr (record { broken = broken; fails = h.fails; puts = puts }) }

-- ---- the client and the store at once

lost_lends : (sender : List ℕ) (rcpts : List (List ℕ)) (added rest : List ℕ) (slot : SlotView) (old lent new : StoreView) → HasTakenFree slot old lent → PutsBrokenAt sender rcpts added new slot lent ⊎ ((rest ≡ []) × PutsBrokenLast sender rcpts added new slot lent)
    → Lends (PutsBrokenAt sender rcpts added new) old ⊎ ((rest ≡ []) × Lends (PutsBrokenLast sender rcpts added new) old)
lost_lends sender rcpts added rest slot old lent new takes (inl puts) = inl (record { slot = slot; lent = lent; takes = takes; does = puts })
lost_lends sender rcpts added rest slot old lent new takes (inr puts) = inr (puts.0, record { slot = slot; lent = lent; takes = takes; does = puts.1 })

back_lends : (sender : List ℕ) (rcpts : List (List ℕ)) (added : List ℕ) (slot : SlotView) (old lent new : StoreView) → HasTakenFree slot old lent → PutsFree sender rcpts added new slot lent ⊎ PutsBrokenAt sender rcpts added new slot lent
    → Lends (PutsFree sender rcpts added new) old ⊎ Lends (PutsBrokenAt sender rcpts added new) old
back_lends sender rcpts added slot old lent new takes (inl puts) = inl (record { slot = slot; lent = lent; takes = takes; does = puts })
back_lends sender rcpts added slot old lent new takes (inr puts) = inr (record { slot = slot; lent = lent; takes = takes; does = puts })

settles_store : (sender : List ℕ) (rcpts : List (List ℕ)) (most : ℕ) (data_heard given : List ℕ) (deposited : Deposited) (slot : SlotView) (old lent new : StoreView) → HasTakenFree slot old lent → AreOfBody data_heard given
    → SettlesSo sender rcpts most given deposited slot lent new → StoreDeposits sender rcpts most deposited data_heard old new
settles_store sender rcpts most data_heard given (Kept number bytes) slot old lent new takes are h = record { body = given; are = are; small = h.0; is_long = h.1; lends = record { slot = slot; lent = lent; takes = takes; does = h.2 } }
settles_store sender rcpts most data_heard given TooLarge slot old lent new takes are h =
    record { body = given; are = are; large = h.large; added = h.added; rest = h.rest; front = h.front; lends = record { slot = slot; lent = lent; takes = takes; does = h.puts } }
settles_store sender rcpts most data_heard given Faulted slot old lent new takes are h =
    record { body = given; are = are; added = h.added; rest = h.rest; front = h.front; small = h.small; lends = lost_lends sender rcpts h.added h.rest slot old lent new takes h.puts }
settles_store sender rcpts most data_heard given NoSlot slot old lent new takes are h = absurd h
settles_store sender rcpts most data_heard given NotBegun slot old lent new takes are h = absurd h
settles_store sender rcpts most data_heard given Ended slot old lent new takes are h = absurd h

settles_client : (sender : List ℕ) (rcpts : List (List ℕ)) (words : List ℕ) (most : ℕ) (data_heard given : List ℕ) (deposited : Deposited) (slot : SlotView) (lent new : StoreView) (before client new_client : Speaker) → SettlesSo sender rcpts most given deposited slot lent new
    → IsTold words (Ok tt) before client → Draws None data_heard client new_client → ClientDeposits words deposited data_heard before new_client
settles_client sender rcpts words most data_heard given (Kept number bytes) slot lent new before client new_client h told draws = record { middle = client; told = told; draws = draws }
settles_client sender rcpts words most data_heard given TooLarge slot lent new before client new_client h told draws = record { middle = client; told = told; draws = draws }
settles_client sender rcpts words most data_heard given Faulted slot lent new before client new_client h told draws = record { middle = client; told = told; draws = draws }
settles_client sender rcpts words most data_heard given NoSlot slot lent new before client new_client h told draws = absurd h
settles_client sender rcpts words most data_heard given NotBegun slot lent new before client new_client h told draws = absurd h
settles_client sender rcpts words most data_heard given Ended slot lent new before client new_client h told draws = absurd h

-- where the data have an end
pub hears_settled : {D : Type 0} (sender : List ℕ) (rcpts : List (List ℕ)) (words : List ℕ) (most : ℕ) (slot : SlotView) (old new : LineReaderView) (from after : SourceView) (outlet : SinkView) (lent put : StoreView) (filling : FillingView) (held : Tray D) (deposited : Deposited)
    → IsFilled sender rcpts [] slot filling → (stop : Option Stop) → stop ≡ None → AreDataOf {D = D} old new from after most (trays.Open filling) stop held
    → ((sender : List ℕ) (rcpts : List (List ℕ)) (most : ℕ) (slot : SlotView) (given : List ℕ) (left : ℕ) → IsTray sender rcpts most slot given left held → SettlesSo sender rcpts most given deposited slot lent put)
    → HearsInto sender rcpts words most (Ok deposited) slot (record { inlet = from; reader = old; outlet = outlet }) (record { inlet = after; reader = new; outlet = outlet }) lent put
hears_settled {D} sender rcpts words most slot old new from after outlet lent put filling held deposited filled stop none so_heard settles =
    let heard : AreDataOf {D = D} old new from after most (trays.Open filling) None held = subst (λ (s : Option Stop). AreDataOf {D = D} old new from after most (trays.Open filling) s held) none so_heard in
    let laid : IsOpen sender rcpts most slot [] most filling = record { filled = filled; room = omega arith } in
    let so = settles sender rcpts most slot heard.given heard.left_after (heard.lays sender rcpts most slot laid) in
    record {
      data_heard = heard.data_heard;
      at_client = λ before told. settles_client sender rcpts words most heard.data_heard heard.given deposited slot lent put before _ _ so told (heard.draws outlet);
      at_store = λ first takes. settles_store sender rcpts most heard.data_heard heard.given deposited slot first lent put takes heard.gives so;
    }

gives_up : (sender : List ℕ) (rcpts : List (List ℕ)) (data_heard : List ℕ) (slot : SlotView) (old lent new : StoreView) → HasTakenFree slot old lent → mail_body_of data_heard ≡ None → PutsBack sender rcpts slot lent new → IsGivenUp sender rcpts data_heard old new
gives_up sender rcpts data_heard slot old lent new takes none h = record { none = none; added = h.added; lends = back_lends sender rcpts h.added slot old lent new takes h.puts }

-- where they came to none
pub hears_unended : {D : Type 0} (stop : Stop) (sender : List ℕ) (rcpts : List (List ℕ)) (words : List ℕ) (most : ℕ) (slot : SlotView) (old new : LineReaderView) (from after : SourceView) (outlet : SinkView) (lent put : StoreView) (filling : FillingView) (held : Tray D)
    → IsFilled sender rcpts [] slot filling → (how : Option Stop) → how ≡ Some stop → AreDataOf {D = D} old new from after most (trays.Open filling) how held
    → ((sender : List ℕ) (rcpts : List (List ℕ)) (most : ℕ) (slot : SlotView) (given : List ℕ) (left : ℕ) → IsTray sender rcpts most slot given left held → PutsBack sender rcpts slot lent put)
    → HearsInto sender rcpts words most (unended stop) slot (record { inlet = from; reader = old; outlet = outlet }) (record { inlet = after; reader = new; outlet = outlet }) lent put
hears_unended {D} stops.End sender rcpts words most slot old new from after outlet lent put filling held filled how some so_heard back =
    let heard : AreDataOf {D = D} old new from after most (trays.Open filling) (Some stops.End) held = subst (λ (s : Option Stop). AreDataOf {D = D} old new from after most (trays.Open filling) s held) some so_heard in
    let laid : IsOpen sender rcpts most slot [] most filling = record { filled = filled; room = omega arith } in
    let so = back sender rcpts most slot heard.given heard.left_after (heard.lays sender rcpts most slot laid) in
    record {
      data_heard = heard.data_heard;
      at_client = λ before told. record { middle = _; told = told; draws = heard.draws outlet };
      at_store = λ first takes. gives_up sender rcpts heard.data_heard slot first lent put takes heard.gives so;
    }
hears_unended {D} stops.Idle sender rcpts words most slot old new from after outlet lent put filling held filled how some so_heard back =
    let heard : AreDataOf {D = D} old new from after most (trays.Open filling) (Some stops.Idle) held = subst (λ (s : Option Stop). AreDataOf {D = D} old new from after most (trays.Open filling) s held) some so_heard in
    let laid : IsOpen sender rcpts most slot [] most filling = record { filled = filled; room = omega arith } in
    let so = back sender rcpts most slot heard.given heard.left_after (heard.lays sender rcpts most slot laid) in
    record {
      halt = Unheard Quiet heard.data_heard;
      is_cause = refl;
      at_client = λ before told. record { middle = _; told = told; draws = heard.draws outlet };
      at_store = λ first takes. gives_up sender rcpts heard.data_heard slot first lent put takes heard.gives so;
    }
hears_unended {D} stops.Failed sender rcpts words most slot old new from after outlet lent put filling held filled how some so_heard back =
    let heard : AreDataOf {D = D} old new from after most (trays.Open filling) (Some stops.Failed) held = subst (λ (s : Option Stop). AreDataOf {D = D} old new from after most (trays.Open filling) s held) some so_heard in
    let laid : IsOpen sender rcpts most slot [] most filling = record { filled = filled; room = omega arith } in
    let so = back sender rcpts most slot heard.given heard.left_after (heard.lays sender rcpts most slot laid) in
    record {
      halt = Unheard Broken heard.data_heard;
      is_cause = refl;
      at_client = λ before told. record { middle = _; told = told; draws = heard.draws outlet };
      at_store = λ first takes. gives_up sender rcpts heard.data_heard slot first lent put takes heard.gives so;
    }
hears_unended {D} stops.Spent sender rcpts words most slot old new from after outlet lent put filling held filled how some so_heard back =
    let heard : AreDataOf {D = D} old new from after most (trays.Open filling) (Some stops.Spent) held = subst (λ (s : Option Stop). AreDataOf {D = D} old new from after most (trays.Open filling) s held) some so_heard in
    let laid : IsOpen sender rcpts most slot [] most filling = record { filled = filled; room = omega arith } in
    let so = back sender rcpts most slot heard.given heard.left_after (heard.lays sender rcpts most slot laid) in
    record {
      halt = Unheard Limit heard.data_heard;
      is_cause = refl;
      at_client = λ before told. record { middle = _; told = told; draws = heard.draws outlet };
      at_store = λ first takes. gives_up sender rcpts heard.data_heard slot first lent put takes heard.gives so;
    }

-- the words were said before
pub entrusts_so : (sender : List ℕ) (rcpts : List (List ℕ)) (words : List ℕ) (most : ℕ) (result : Result Deposited Cause) (slot : SlotView) (before client new_client : Speaker) (lent new : StoreView) → IsTold words (Ok tt) before client
    → HearsInto sender rcpts words most result slot client new_client lent new → EntrustsSo sender rcpts words most result slot before new_client lent new
entrusts_so sender rcpts words most (Ok deposited) slot before client new_client lent new told h = record { data_heard = h.data_heard; at_client = h.at_client before told; at_store = h.at_store }
entrusts_so sender rcpts words most (Err cause) slot before client new_client lent new told h = record { halt = h.halt; is_cause = h.is_cause; at_client = h.at_client before told; at_store = h.at_store }

-- the slot was taken before
pub deposits_so : (sender : List ℕ) (rcpts : List (List ℕ)) (words : List ℕ) (most : ℕ) (result : Result Deposited Cause) (slot : SlotView) (client new_client : Speaker) (old lent new : StoreView) → HasTakenFree slot old lent
    → EntrustsSo sender rcpts words most result slot client new_client lent new → DepositsSo sender rcpts words most result client new_client old new
deposits_so sender rcpts words most (Ok deposited) slot client new_client old lent new takes h = record { data_heard = h.data_heard; at_client = h.at_client; at_store = h.at_store old takes }
deposits_so sender rcpts words most (Err cause) slot client new_client old lent new takes h = record { halt = h.halt; is_cause = h.is_cause; at_client = h.at_client; at_store = h.at_store old takes }
