-- What became of a slot, by the calls on it.
use Rattle.std.proofs.Common.{◌≡◌, sym, subst, ◌++◌, false, List, [], ◌∷◌, Option, Some, None, inl}
use Rattle.std.specs.List.{Contains}
use Rattle.std.specs.Prelude.{IfSome}
use Rattle.std.proofs.lemmas.List.Elements.{Contains-push}
use Rattle.fw_disk.specs.DiskView.{DiskView, Tape}
use Rattle.fw_disk.specs.Moments.{EachImage, IsToldSince, Now}
use Rattle.fw_disk.proofs.MomentLemmas.{through_here}
use Rattle.slot_bytes.specs.Layout.{Mail}
use Rattle.spool_law.specs.Events.Step.{Accept}
use Rattle.spool_law.specs.Images.{IsWhole}
use Rattle.spool_law.specs.Runs.{IsToldRun, Known, Runs}
use Rattle.spool_law.specs.World.{Letter, OfLetter, Use, letters}
use Rattle.spool_law.specs.World.Use.{Unused, Begun, CutOff, Opened}
use Rattle.spool_law.proofs.RunLemmas.{run_one, runs_then, runs_here}
use Rattle.spool_slots.proofs.EventLemmas.{runs_only_read}
use Rattle.spool_slots.proofs.MarkLemmas.{keeps_images}
use Rattle.spool_slots.specs.Images.{IsFreeImage, IsWholeImage, IsWholeOrAside}
use Rattle.spool_slots.specs.States.{BrokenView, FullView, IsBrokenFull, IsOnward, Keeps, SlotView}
use Rattle.smapd_queue.specs.Turns.{Fate, Turn}
use Rattle.smapd_queue.specs.Turns.Fate.{Freed, NotFreed, PutAside, NotAside, PutBack, Unread}
use Rattle.smapd_queue.specs.Slots.{IsFateOf, IsFreed, IsNotFreed, RunsAccepted, RunsBy, StandsBehind, StaysFreeOrWhole, StaysWholeOrAside, accepted_in, disk_by, is_accepted}
use Rattle.smapd_queue.specs.Round.{IsTurn}

-- ---- a message is accepted

whole_told : (m : Mail) (told : Option Tape) → IfSome told (λ tape. EachImage (IsWholeImage m) tape.now) → IfSome told (λ tape. EachImage IsWhole tape.now)
whole_told m None h = tt
whole_told m (Some tape) h = λ image is. record { mail = m; is = h image is }

each_whole : (m : Mail) (slot : FullView) → Keeps m slot → Now (EachImage IsWhole) slot.disk
each_whole m slot keeps = whole_told m slot.disk.told (keeps_images m slot.disk keeps)

letter_whole : (slot : FullView) (u : Use) → OfLetter (λ l. Keeps l.mail slot) u → Now (EachImage IsWhole) slot.disk
letter_whole slot Unused h = absurd h
letter_whole slot (Begun l) h = each_whole l.mail slot h
letter_whole slot (CutOff l) h = each_whole l.mail slot h
letter_whole slot (Opened l) h = each_whole l.mail slot h

accept_told : (k : Known) (told : Option Tape) → IfSome told (λ tape. EachImage IsWhole tape.now) → IsToldRun k told (accepted_in k) told
accept_told k None h = tt
accept_told k (Some tape) h = run_one Accept k tape h

-- the mailer's answer is the first step
accept_runs : (k : Known) (slot : FullView) → OfLetter (λ l. Keeps l.mail slot) k.use_of → Runs k slot.disk (accepted_in k) slot.disk
accept_runs k slot h = accept_told k slot.disk.told (letter_whole slot k.use_of h)

last_one : (accepted : List Letter) (l : Letter) → Contains (accepted ++ l ∷ []) l
last_one accepted l = Contains-push accepted l

is_in : (slot : FullView) (accepted : List Letter) (u : Use) → OfLetter (λ l. Keeps l.mail slot) u → OfLetter (Contains (accepted ++ letters u)) u
is_in slot accepted Unused h = absurd h
is_in slot accepted (Begun l) h = last_one accepted l
is_in slot accepted (CutOff l) h = last_one accepted l
is_in slot accepted (Opened l) h = last_one accepted l

pub runs_accepted : (slot : FullView) (new : DiskView) → ((k : Known) → OfLetter (Contains k.accepted) k.use_of → Runs k slot.disk k new) → RunsAccepted slot new
runs_accepted slot new events k h = runs_then k (accepted_in k) (accepted_in k) slot.disk slot.disk new (accept_runs k slot h) (events (accepted_in k) (is_in slot k.accepted k.use_of h))

-- ---- moments of a message that wasn't accepted

whole_or_aside : (m : Mail) (told : Option Tape) → IfSome told (λ tape. EachImage (IsWholeImage m) tape.now) → IfSome told (λ tape. EachImage (IsWholeOrAside m) tape.now)
whole_or_aside m None h = tt
whole_or_aside m (Some tape) h = λ image is. inl (h image is)

stays_here : (slot : FullView) → StaysWholeOrAside slot slot.disk
stays_here slot m keeps = through_here (EachImage (IsWholeOrAside m)) slot.disk (whole_or_aside m slot.disk.told (keeps_images m slot.disk keeps))

stays_told : (slot : FullView) (new : DiskView) → new.told ≡ slot.disk.told → StaysWholeOrAside slot new
stays_told slot new same m keeps = subst (λ (t : Option Tape). IsToldSince (EachImage (IsWholeOrAside m)) slot.disk.told t) (sym same) (stays_here slot m keeps)

-- ---- turns

kept_by : (slot : FullView) (fate : Fate) → IsFateOf slot fate → is_accepted fate ≡ false → StaysWholeOrAside slot (disk_by slot fate)
kept_by slot (Freed message free) h unaccepted = absurd cc
kept_by slot (NotFreed message broken) h unaccepted = absurd cc
kept_by slot (PutAside message aside) h unaccepted = h.1.images
kept_by slot (NotAside message broken) h unaccepted = h.1.images
kept_by slot (PutBack message) h unaccepted = stays_here slot
kept_by slot (Unread broken) h unaccepted = stays_told slot broken.disk h.told

runs_by : (slot : FullView) (fate : Fate) → IsFateOf slot fate → RunsBy slot fate
runs_by slot (Freed message free) h = h.1.events
runs_by slot (NotFreed message broken) h = h.1.events
runs_by slot (PutAside message aside) h = h.1.events
runs_by slot (NotAside message broken) h = h.1.events
runs_by slot (PutBack message) h = λ k. runs_here k slot.disk
runs_by slot (Unread broken) h = λ k. runs_only_read k slot.disk broken.disk h.told

pub is_turn : (turn : Turn) → IsFateOf turn.slot turn.fate → IsTurn turn
is_turn turn h = record { fate = h; kept = kept_by turn.slot turn.fate h; events = runs_by turn.slot turn.fate h }

-- ---- by what the calls ensure

pub freed_so : (slot : FullView) (free : SlotView) → IsOnward slot.number slot.disk free.number free.disk → Now (EachImage IsFreeImage) free.disk → StaysFreeOrWhole slot free.disk
    → ((k : Known) → OfLetter (Contains k.accepted) k.use_of → Runs k slot.disk k free.disk) → IsFreed slot free
freed_so slot free onward now images events = record { onward = onward; images_now = now; images = images; events = runs_accepted slot free.disk events }

pub not_freed_so : (slot : FullView) (broken : BrokenView) → IsBrokenFull slot.number slot.disk broken → StaysFreeOrWhole slot broken.disk → StandsBehind slot broken.disk
    → ((k : Known) → OfLetter (Contains k.accepted) k.use_of → Runs k slot.disk k broken.disk) → IsNotFreed slot broken
not_freed_so slot broken broke images message events = record { broke = broke; images = images; message = message; events = runs_accepted slot broken.disk events }
