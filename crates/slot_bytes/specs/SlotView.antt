-- What a slot file was read as.
use Rattle.std.specs.Prelude.{◌≡◌, ℕ, List, Result, Ok, Err}
use Rattle.slot_bytes.specs.declared.head.Head as code
use Rattle.fw_types.specs.declared.message.Message as messages
use Rattle.slot_bytes.specs.declared.slot.Slot as slots
use Rattle.slot_bytes.specs.declared.slot.Slot.TheVariants as found
use Rattle.slot_bytes.specs.declared.fault.SlotFault.{SlotFault}
use Rattle.slot_bytes.specs.declared.fault.SlotFault.TheVariants as faults
use Rattle.slot_bytes.specs.Layout.{Mail}
use Rattle.slot_bytes.specs.Reading.{Head, Reading, Reading as readings}
use Rattle.slot_bytes.specs.HeadView.{head_view}
use Rattle.slot_bytes.specs.Files.{IsLongestBeginning}

abbrev pub mail_view : messages.Message → Mail
mail_view m = record { from = m.from; rcpts = m.rcpts; body = m.body }

abbrev pub kept_view : code.Head × List ℕ → Head × List ℕ
kept_view x = (head_view x.0, x.1)

-- what a slot is read as, seen as a reading
abbrev pub slot_view : slots.Slot → Reading
slot_view found.Free = readings.Free
slot_view (found.Whole k) = readings.Whole (mail_view k.message)
slot_view (found.Aside k) = readings.Aside (mail_view k.message)

-- the places of the recipients that are done come with the message
abbrev pub HasDone : slots.Slot → List ℕ → Type 0
HasDone found.Free done = Unit {0}
HasDone (found.Whole k) done = k.done ≡ done
HasDone (found.Aside k) done = k.done ≡ done

-- the answer is the reading, but for want of memory
abbrev pub IsSlotRead : Result slots.Slot SlotFault → Reading → Type 0
IsSlotRead (Ok slot) reading = reading ≡ slot_view slot
IsSlotRead (Err (faults.Bad at)) reading = reading ≡ readings.Bad at
IsSlotRead (Err faults.NoMemory) reading = Unit {0}

-- the place is the first bad one
abbrev pub FirstBad : List ℕ → SlotFault → Type 0
FirstBad bytes (faults.Bad at) = IsLongestBeginning bytes at
FirstBad bytes faults.NoMemory = Unit {0}
