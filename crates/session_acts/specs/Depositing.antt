-- What is heard of a mail's data, and what a message that is to be kept does to the store and its slot.
use Rattle.std.specs.Prelude.{◌≡◌, ℕ, ◌==◌, ◌<◌, ◌≤◌, ◌⊎◌, Bool, true, false, List, [], ◌++◌, length, Option, Some, None, Result, Ok, Err}
use Rattle.fw_disk.specs.Moments.{EachImage, Now, Through}
use Rattle.fw_outside.specs.LineReaderView.{Halts, LineReaderView, Reads, rest_of}
use Rattle.fw_outside.specs.SourceView.{SourceView}
use Rattle.fw_outside.specs.ToldList.{preceded}
use Rattle.fw_outside.specs.declared.heard.Stop.{Stop}
use Rattle.fw_outside.specs.declared.heard.Stop.TheVariants as stops
use Rattle.session_acts.specs.Acts.{Undeposited}
use Rattle.session_acts.specs.Acts.Undeposited.{Lacks, Unsaid, Unheard}
use Rattle.session_acts.specs.World.{Speaker}
use Rattle.session_acts.specs.declared.deposited.Deposited.{Deposited}
use Rattle.session_acts.specs.declared.deposited.Deposited.TheVariants.{NoSlot, NotBegun, Kept, TooLarge, Faulted, Ended}
use Rattle.slot_bytes.specs.Layout.{Mail}
use Rattle.smap_lines.specs.Body.{Body, mail_body_of}
use Rattle.spool_law.specs.Events.{longer, new_letter}
use Rattle.spool_law.specs.Runs.{Known, Runs, used_for}
use Rattle.spool_law.specs.World.{Letter}
use Rattle.spool_law.specs.World.Use.{Begun, Opened}
use Rattle.spool_rack.specs.Store.{HasNoFree, HasTakenFree, PutsBroken, StoreView, put_free, put_full}
use Rattle.spool_slots.specs.Images.{IsFreeImage}
use Rattle.spool_slots.specs.Media.{HasByte}
use Rattle.spool_slots.specs.Started.{begun_in}
use Rattle.spool_slots.specs.States.{BrokenView, Drafts, FillingView, FullView, IsBrokenIn, IsOnward, Keeps, Opens, OpensOrNot, SlotView}

-- ---- the data

-- why the data came to no end leaves the source so; their end leaves it as it stands
abbrev pub DataLeave : Option Stop → LineReaderView → SourceView → SourceView → Type 0
DataLeave None new before after = after ≡ before
DataLeave (Some stop) new before after = Halts stop new before after

-- the limit stopped the reader
abbrev pub data_stop_at_limit : Option Stop → Bool
data_stop_at_limit (Some stops.Spent) = true
data_stop_at_limit _ = false

-- These bytes, of what was left of a speaker, were heard as data, to their end or to where the source stopped. At most 4,096
-- bytes were taken beyond them.
pub record Draws (stop : Option Stop) (data_heard : List ℕ) (old new : Speaker) : Type 0 where
  pub inlet : SourceView
  pub reader : LineReaderView
  pub middle : SourceView
  pub rest : rest_of old.reader old.inlet ≡ preceded data_heard (rest_of reader inlet)
  pub reads : Reads data_heard old.reader reader old.inlet middle
  pub closes : DataLeave stop reader middle inlet
  pub spent : data_stop_at_limit stop ≡ (reader.room == 0)
  pub behind : data_stop_at_limit stop ≡ true → 0 < old.reader.room → length old.reader.pending ≤ length data_heard
  pub near : length reader.pending ≤ 4096
  pub is : new ≡ record old { inlet = inlet; reader = reader }

-- the data end here, and are those of this body
abbrev pub AreOfBody : List ℕ → List ℕ → Type 0
AreOfBody data_heard body = mail_body_of data_heard ≡ Some (record { bytes = body; rest = [] })

-- ---- the slot

-- a message with this body
abbrev pub mail_of : List ℕ → List (List ℕ) → List ℕ → Mail
mail_of sender rcpts body = record { from = sender; rcpts = rcpts; body = body }

-- the message as a spool numbers it
abbrev pub letter_of : Known → List ℕ → List (List ℕ) → List ℕ → Letter
letter_of k sender rcpts body = longer body (new_letter k.begun sender rcpts)

-- it is being written, or its gate was opened
abbrev pub filled_in : Known → List ℕ → List (List ℕ) → List ℕ → Known
filled_in k sender rcpts body = used_for (Begun (letter_of k sender rcpts body)) (begun_in k sender rcpts)

abbrev pub opened_in : Known → List ℕ → List (List ℕ) → List ℕ → Known
opened_in k sender rcpts body = used_for (Opened (letter_of k sender rcpts body)) (begun_in k sender rcpts)

-- a message was begun in a free slot, and so much added to its body
pub record IsFilled (sender : List ℕ) (rcpts : List (List ℕ)) (body : List ℕ) (slot : SlotView) (filling : FillingView) : Type 0 where
  pub onward : IsOnward slot.number slot.disk filling.number filling.disk
  pub len : filling.pen.len ≡ length body
  pub draft : Drafts (mail_of sender rcpts body) filling
  pub images : Through (EachImage IsFreeImage) slot.disk filling.disk
  pub events : (k : Known) → Runs k slot.disk (filled_in k sender rcpts body) filling.disk

-- its disk failed when the message was begun, or when the last of so much was added
pub record IsBrokenAt (sender : List ℕ) (rcpts : List (List ℕ)) (body : List ℕ) (slot : SlotView) (broken : BrokenView) : Type 0 where
  pub broke : IsBrokenIn slot.number slot.disk broken
  pub images : Through (EachImage IsFreeImage) slot.disk broken.disk
  pub events : (k : Known) → Runs k slot.disk (filled_in k sender rcpts body) broken.disk

-- the message was written and its gate opened
pub record IsKept (sender : List ℕ) (rcpts : List (List ℕ)) (body : List ℕ) (slot : SlotView) (full : FullView) : Type 0 where
  pub filling : FillingView
  pub filled : IsFilled sender rcpts body slot filling
  pub onward : IsOnward slot.number slot.disk full.number full.disk
  pub read : full.unread ≡ false
  pub keeps : Keeps (mail_of sender rcpts body) full
  pub gate : Now (HasByte 0 1) full.disk
  pub images : Opens (mail_of sender rcpts body) filling.disk full.disk
  pub events : (k : Known) → Runs k slot.disk (opened_in k sender rcpts body) full.disk

-- its disk failed when the message was to be finished
pub record IsBrokenLast (sender : List ℕ) (rcpts : List (List ℕ)) (body : List ℕ) (slot : SlotView) (broken : BrokenView) : Type 0 where
  pub filling : FillingView
  pub filled : IsFilled sender rcpts body slot filling
  pub broke : IsBrokenIn slot.number slot.disk broken
  pub images : OpensOrNot (mail_of sender rcpts body) filling.disk broken.disk
  pub events : (k : Known) → Runs k slot.disk (filled_in k sender rcpts body) broken.disk ⊎ Runs k slot.disk (opened_in k sender rcpts body) broken.disk

-- ---- the store

-- a free slot was taken, and then this was done with it
pub record Lends (Done : SlotView → StoreView → Type 0) (old : StoreView) : Type 0 where
  pub slot : SlotView
  pub lent : StoreView
  pub takes : HasTakenFree slot old lent
  pub does : Done slot lent

-- it was put back as it was
abbrev pub PutsSame : StoreView → SlotView → StoreView → Type 0
PutsSame new slot lent = new ≡ put_free slot lent

-- the message was given up, and the slot put back free
pub record PutsFree (sender : List ℕ) (rcpts : List (List ℕ)) (body : List ℕ) (new : StoreView) (slot : SlotView) (lent : StoreView) : Type 0 where
  pub filling : FillingView
  pub filled : IsFilled sender rcpts body slot filling
  pub is : new ≡ put_free (record { number = filling.number; disk = filling.disk }) lent

-- the slot was put full, with this message
pub record PutsFull (sender : List ℕ) (rcpts : List (List ℕ)) (body : List ℕ) (number : ℕ) (new : StoreView) (slot : SlotView) (lent : StoreView) : Type 0 where
  pub full : FullView
  pub kept : IsKept sender rcpts body slot full
  pub number_is : full.number ≡ number
  pub is : new ≡ put_full full lent

-- its disk failed, and it was put broken
pub record PutsBrokenAt (sender : List ℕ) (rcpts : List (List ℕ)) (body : List ℕ) (new : StoreView) (slot : SlotView) (lent : StoreView) : Type 0 where
  pub broken : BrokenView
  pub fails : IsBrokenAt sender rcpts body slot broken
  pub puts : PutsBroken broken lent new

pub record PutsBrokenLast (sender : List ℕ) (rcpts : List (List ℕ)) (body : List ℕ) (new : StoreView) (slot : SlotView) (lent : StoreView) : Type 0 where
  pub broken : BrokenView
  pub fails : IsBrokenLast sender rcpts body slot broken
  pub puts : PutsBroken broken lent new

-- ---- how it came out

-- a message with at most so many bytes of body stands full in the slot of this number
pub record KeepsMail (sender : List ℕ) (rcpts : List (List ℕ)) (most number bytes : ℕ) (data_heard : List ℕ) (old new : StoreView) : Type 0 where
  pub body : List ℕ
  pub are : AreOfBody data_heard body
  pub small : length body ≤ most
  pub is_long : length body ≡ bytes
  pub lends : Lends (PutsFull sender rcpts body number new) old

-- the body has more bytes, before which the disk didn't fail
pub record IsTooMuch (sender : List ℕ) (rcpts : List (List ℕ)) (most : ℕ) (data_heard : List ℕ) (old new : StoreView) : Type 0 where
  pub body : List ℕ
  pub are : AreOfBody data_heard body
  pub large : most < length body
  pub added : List ℕ
  pub rest : List ℕ
  pub front : body ≡ added ++ rest
  pub lends : Lends (PutsFree sender rcpts added new) old

-- the disk failed within the first `most` bytes of the body, or when all of it was to be finished
pub record IsLost (sender : List ℕ) (rcpts : List (List ℕ)) (most : ℕ) (data_heard : List ℕ) (old new : StoreView) : Type 0 where
  pub body : List ℕ
  pub are : AreOfBody data_heard body
  pub added : List ℕ
  pub rest : List ℕ
  pub front : body ≡ added ++ rest
  pub small : length added ≤ most
  pub lends : Lends (PutsBrokenAt sender rcpts added new) old ⊎ ((rest ≡ []) × Lends (PutsBrokenLast sender rcpts added new) old)

-- the data came to no end, and the message was given up, unless the disk had failed
pub record IsGivenUp (sender : List ℕ) (rcpts : List (List ℕ)) (data_heard : List ℕ) (old new : StoreView) : Type 0 where
  pub none : mail_body_of data_heard ≡ None
  pub added : List ℕ
  pub lends : Lends (PutsFree sender rcpts added new) old ⊎ Lends (PutsBrokenAt sender rcpts added new) old

abbrev pub StoreDeposits : List ℕ → List (List ℕ) → ℕ → Deposited → List ℕ → StoreView → StoreView → Type 0
StoreDeposits sender rcpts most NoSlot data_heard old new = HasNoFree old new
StoreDeposits sender rcpts most NotBegun data_heard old new = Lends (PutsBrokenAt sender rcpts [] new) old
StoreDeposits sender rcpts most (Kept number bytes) data_heard old new = KeepsMail sender rcpts most number bytes data_heard old new
StoreDeposits sender rcpts most TooLarge data_heard old new = IsTooMuch sender rcpts most data_heard old new
StoreDeposits sender rcpts most Faulted data_heard old new = IsLost sender rcpts most data_heard old new
StoreDeposits sender rcpts most Ended data_heard old new = IsGivenUp sender rcpts data_heard old new

abbrev pub AtStoreDeposit : (sender : List ℕ) (rcpts : List (List ℕ)) (words : List ℕ) (most : ℕ) → Result (Deposited × List ℕ) (Undeposited words) → StoreView → StoreView → Type 0
AtStoreDeposit sender rcpts words most (Ok answer) old new = StoreDeposits sender rcpts most answer.0 answer.1 old new
AtStoreDeposit sender rcpts words most (Err Lacks) old new = Lends (PutsSame new) old
AtStoreDeposit sender rcpts words most (Err (Unsaid front)) old new = Lends (PutsFree sender rcpts [] new) old
AtStoreDeposit sender rcpts words most (Err (Unheard silence data_heard)) old new = IsGivenUp sender rcpts data_heard old new
