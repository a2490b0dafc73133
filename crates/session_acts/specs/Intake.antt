-- A message while it is taken in.
-- No public clause cites these: they say what private functions answer.
use Rattle.std.specs.Prelude.{◌≡◌, ℕ, ◌+◌, ◌<◌, ◌≤◌, ◌⊎◌, Bool, true, false, List, [], ◌++◌, length, Option, Some, None, Result, Ok, Err}
use Rattle.fw_outside.specs.LineReaderView.{LineReaderView}
use Rattle.fw_outside.specs.SinkView.{SinkView}
use Rattle.fw_outside.specs.SourceView.{SourceView}
use Rattle.fw_outside.specs.declared.heard.Stop.{Stop}
use Rattle.fw_outside.specs.declared.heard.Stop.TheVariants as stops
use Rattle.session_acts.specs.Acts.{Undeposited, deposit_cause}
use Rattle.session_acts.specs.Depositing.{AreOfBody, AtStoreDeposit, Draws, IsBrokenAt, IsFilled, PutsBrokenAt, PutsBrokenLast, PutsFree, PutsFull, StoreDeposits}
use Rattle.session_acts.specs.Met.{AtClientDeposit, ClientDeposits, IsTold}
use Rattle.session_acts.specs.World.{Speaker}
use Rattle.session_acts.specs.declared.cause.Cause.{Cause}
use Rattle.session_acts.specs.declared.depositing.Tray.{Tray}
use Rattle.session_acts.specs.declared.depositing.Tray.TheVariants as trays
use Rattle.session_acts.specs.declared.deposited.Deposited.{Deposited}
use Rattle.session_acts.specs.declared.cause.Cause.TheVariants as causes
use Rattle.session_acts.specs.declared.deposited.Deposited.TheVariants.{NoSlot, NotBegun, Kept, Faulted, TooLarge, Ended}
use Rattle.smap_lines.specs.Body.{mail_body_of}
use Rattle.spool_rack.specs.Store.{HasTakenFree, Loan, OfItsMessage, StoreView, WasTaken}
use Rattle.spool_slots.specs.States.{BrokenView, FillingView, SlotView}

-- the slot of this number was taken free
pub record IsLentFree (n : ℕ) (out : List Loan) : Type 0 where
  pub was_free : WasTaken false n out
  pub untold : OfItsMessage (λ m. ⊥) n out

-- all that was given of the body was added, and so many more bytes may come
pub record IsOpen (sender : List ℕ) (rcpts : List (List ℕ)) (most : ℕ) (slot : SlotView) (given : List ℕ) (left : ℕ) (filling : FillingView) : Type 0 where
  pub filled : IsFilled sender rcpts given slot filling
  pub room : left + length given ≡ most

-- more was given than may be, before which a front was added
pub record IsLarge (sender : List ℕ) (rcpts : List (List ℕ)) (most : ℕ) (slot : SlotView) (given : List ℕ) (filling : FillingView) : Type 0 where
  pub added : List ℕ
  pub rest : List ℕ
  pub front : given ≡ added ++ rest
  pub large : most < length given
  pub filled : IsFilled sender rcpts added slot filling

-- the disk failed when a front was added
pub record IsAway (sender : List ℕ) (rcpts : List (List ℕ)) (most : ℕ) (slot : SlotView) (given : List ℕ) (broken : BrokenView) : Type 0 where
  pub added : List ℕ
  pub rest : List ℕ
  pub front : given ≡ added ++ rest
  pub small : length added ≤ most
  pub fails : IsBrokenAt sender rcpts added slot broken

abbrev pub IsTray : {D : Type 0} → List ℕ → List (List ℕ) → ℕ → SlotView → List ℕ → ℕ → Tray D → Type 0
IsTray sender rcpts most slot given left (trays.Open filling) = IsOpen sender rcpts most slot given left filling
IsTray sender rcpts most slot given left (trays.Large filling) = IsLarge sender rcpts most slot given filling
IsTray sender rcpts most slot given left (trays.Lost broken) = IsAway sender rcpts most slot given broken

-- a slot that wasn't taken full, and whose disk failed
pub record IsOfFault (broken : BrokenView) : Type 0 where
  pub fault : broken.from_fault ≡ true
  pub empty : broken.from_full ≡ false

-- a message stays within what a slot takes, or is lost by a failure
abbrev pub FitsTray : {D : Type 0} → ℕ → Tray D → Type 0
FitsTray left (trays.Open filling) = filling.pen.len + left ≤ 67108864
FitsTray left (trays.Large filling) = Unit {0}
FitsTray left (trays.Lost broken) = IsOfFault broken

abbrev pub IsLostByFault : {D : Type 0} → Tray D → Type 0
IsLostByFault (trays.Open filling) = Unit {0}
IsLostByFault (trays.Large filling) = Unit {0}
IsLostByFault (trays.Lost broken) = IsOfFault broken

-- the number of the slot that a message is in
abbrev pub tray_number : {D : Type 0} → Tray D → ℕ
tray_number (trays.Open filling) = filling.number
tray_number (trays.Large filling) = filling.number
tray_number (trays.Lost broken) = broken.number

-- of the data that were heard this was given as body: all of it, if they have an end
abbrev pub GivesData : Option Stop → List ℕ → List ℕ → Type 0
GivesData None data_heard given = AreOfBody data_heard given
GivesData (Some stop) data_heard given = mail_body_of data_heard ≡ None

-- data were heard, and the body was added to the message
pub record AreDataOf {D : Type 0} (old new : LineReaderView) (before after : SourceView) (left : ℕ) (tray : Tray D) (stop : Option Stop) (tray_after : Tray D) : Type 0 where
  pub data_heard : List ℕ
  pub given : List ℕ
  pub draws : (outlet : SinkView) → Draws stop data_heard (record { inlet = before; reader = old; outlet = outlet }) (record { inlet = after; reader = new; outlet = outlet })
  pub gives : GivesData stop data_heard given
  pub left_after : ℕ
  pub lays : (sender : List ℕ) (rcpts : List (List ℕ)) (most : ℕ) (slot : SlotView) → IsTray sender rcpts most slot [] left tray → IsTray sender rcpts most slot given left_after tray_after

-- ---- what becomes of the slot

-- a message was finished
abbrev pub KeepsSo : List ℕ → List (List ℕ) → List ℕ → Deposited → SlotView → StoreView → StoreView → Type 0
KeepsSo sender rcpts body (Kept number bytes) slot lent new = (length body ≡ bytes) × PutsFull sender rcpts body number new slot lent
KeepsSo sender rcpts body Faulted slot lent new = PutsBrokenLast sender rcpts body new slot lent
KeepsSo sender rcpts body _ slot lent new = ⊥

pub record PutsLarge (sender : List ℕ) (rcpts : List (List ℕ)) (most : ℕ) (given : List ℕ) (slot : SlotView) (lent new : StoreView) : Type 0 where
  pub large : most < length given
  pub added : List ℕ
  pub rest : List ℕ
  pub front : given ≡ added ++ rest
  pub puts : PutsFree sender rcpts added new slot lent

pub record PutsLost (sender : List ℕ) (rcpts : List (List ℕ)) (most : ℕ) (given : List ℕ) (slot : SlotView) (lent new : StoreView) : Type 0 where
  pub added : List ℕ
  pub rest : List ℕ
  pub front : given ≡ added ++ rest
  pub small : length added ≤ most
  pub puts : PutsBrokenAt sender rcpts added new slot lent ⊎ ((rest ≡ []) × PutsBrokenLast sender rcpts added new slot lent)

-- a message was put back of which this was given
abbrev pub SettlesSo : List ℕ → List (List ℕ) → ℕ → List ℕ → Deposited → SlotView → StoreView → StoreView → Type 0
SettlesSo sender rcpts most given (Kept number bytes) slot lent new = (length given ≤ most) × (length given ≡ bytes) × PutsFull sender rcpts given number new slot lent
SettlesSo sender rcpts most given TooLarge slot lent new = PutsLarge sender rcpts most given slot lent new
SettlesSo sender rcpts most given Faulted slot lent new = PutsLost sender rcpts most given slot lent new
SettlesSo sender rcpts most given _ slot lent new = ⊥

-- or one whose data came to no end
pub record PutsBack (sender : List ℕ) (rcpts : List (List ℕ)) (slot : SlotView) (lent new : StoreView) : Type 0 where
  pub added : List ℕ
  pub puts : PutsFree sender rcpts added new slot lent ⊎ PutsBrokenAt sender rcpts added new slot lent

abbrev pub unended : Stop → Result Deposited Cause
unended stops.End = Ok Ended
unended stops.Idle = Err causes.Idle
unended stops.Failed = Err causes.ClientFault
unended stops.Spent = Err causes.Spent

-- ---- all of it

-- what is told of the client and the store where a slot was lent, and words were said before or not
pub record HearsTo (sender : List ℕ) (rcpts : List (List ℕ)) (words : List ℕ) (most : ℕ) (deposited : Deposited) (slot : SlotView) (lent new : StoreView) (old_client new_client : Speaker) : Type 0 where
  pub data_heard : List ℕ
  pub at_client : (before : Speaker) → IsTold words (Ok tt) before old_client → ClientDeposits words deposited data_heard before new_client
  pub at_store : (old : StoreView) → HasTakenFree slot old lent → StoreDeposits sender rcpts most deposited data_heard old new

pub record HearsNot (sender : List ℕ) (rcpts : List (List ℕ)) (words : List ℕ) (most : ℕ) (cause : Cause) (slot : SlotView) (lent new : StoreView) (old_client new_client : Speaker) : Type 0 where
  pub halt : Undeposited words
  pub is_cause : cause ≡ deposit_cause halt
  pub at_client : (before : Speaker) → IsTold words (Ok tt) before old_client → AtClientDeposit words (Err halt) before new_client
  pub at_store : (old : StoreView) → HasTakenFree slot old lent → AtStoreDeposit sender rcpts words most (Err halt) old new

abbrev pub HearsInto : List ℕ → List (List ℕ) → List ℕ → ℕ → Result Deposited Cause → SlotView → Speaker → Speaker → StoreView → StoreView → Type 0
HearsInto sender rcpts words most (Ok deposited) slot client new_client lent new = HearsTo sender rcpts words most deposited slot lent new client new_client
HearsInto sender rcpts words most (Err cause) slot client new_client lent new = HearsNot sender rcpts words most cause slot lent new client new_client

pub record EntrustsTo (sender : List ℕ) (rcpts : List (List ℕ)) (words : List ℕ) (most : ℕ) (deposited : Deposited) (slot : SlotView) (client new_client : Speaker) (lent new : StoreView) : Type 0 where
  pub data_heard : List ℕ
  pub at_client : ClientDeposits words deposited data_heard client new_client
  pub at_store : (old : StoreView) → HasTakenFree slot old lent → StoreDeposits sender rcpts most deposited data_heard old new

pub record EntrustsNot (sender : List ℕ) (rcpts : List (List ℕ)) (words : List ℕ) (most : ℕ) (cause : Cause) (slot : SlotView) (client new_client : Speaker) (lent new : StoreView) : Type 0 where
  pub halt : Undeposited words
  pub is_cause : cause ≡ deposit_cause halt
  pub at_client : AtClientDeposit words (Err halt) client new_client
  pub at_store : (old : StoreView) → HasTakenFree slot old lent → AtStoreDeposit sender rcpts words most (Err halt) old new

abbrev pub EntrustsSo : List ℕ → List (List ℕ) → List ℕ → ℕ → Result Deposited Cause → SlotView → Speaker → Speaker → StoreView → StoreView → Type 0
EntrustsSo sender rcpts words most (Ok deposited) slot client new_client lent new = EntrustsTo sender rcpts words most deposited slot client new_client lent new
EntrustsSo sender rcpts words most (Err cause) slot client new_client lent new = EntrustsNot sender rcpts words most cause slot client new_client lent new

pub record DepositsTo (sender : List ℕ) (rcpts : List (List ℕ)) (words : List ℕ) (most : ℕ) (deposited : Deposited) (client new_client : Speaker) (old new : StoreView) : Type 0 where
  pub data_heard : List ℕ
  pub at_client : ClientDeposits words deposited data_heard client new_client
  pub at_store : StoreDeposits sender rcpts most deposited data_heard old new

pub record DepositsNot (sender : List ℕ) (rcpts : List (List ℕ)) (words : List ℕ) (most : ℕ) (cause : Cause) (client new_client : Speaker) (old new : StoreView) : Type 0 where
  pub halt : Undeposited words
  pub is_cause : cause ≡ deposit_cause halt
  pub at_client : AtClientDeposit words (Err halt) client new_client
  pub at_store : AtStoreDeposit sender rcpts words most (Err halt) old new

abbrev pub DepositsSo : List ℕ → List (List ℕ) → List ℕ → ℕ → Result Deposited Cause → Speaker → Speaker → StoreView → StoreView → Type 0
DepositsSo sender rcpts words most (Ok deposited) client new_client old new = DepositsTo sender rcpts words most deposited client new_client old new
DepositsSo sender rcpts words most (Err cause) client new_client old new = DepositsNot sender rcpts words most cause client new_client old new
