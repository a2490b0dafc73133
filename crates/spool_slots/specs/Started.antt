-- Why a message wasn't begun.
use Rattle.std.specs.Prelude.{◌≡◌, ℕ, ◌+◌, List}
use Rattle.fw_disk.specs.Moments.{EachImage, Through}
use Rattle.spool_law.specs.World.Use.{Begun}
use Rattle.spool_law.specs.Events.{new_letter}
use Rattle.spool_law.specs.Runs.{Known, Runs}
use Rattle.spool_slots.specs.declared.start_fault.StartFault.{StartFault}
use Rattle.spool_slots.specs.declared.start_fault.StartFault.TheVariants.{NoMemory, Disk}
use Rattle.spool_slots.specs.Images.{IsFreeImage}
use Rattle.spool_slots.specs.States.{SlotView, IsBrokenIn}

-- the slot comes back as it was where there was no memory, and else broken
abbrev pub IsNotBegun : {D : Type 0} → SlotView → StartFault D → Type 0
IsNotBegun old (NoMemory free) = free ≡ old
IsNotBegun old (Disk broken) = IsBrokenIn old.number old.disk broken

-- at each moment every image is free
abbrev pub LeavesFree : {D : Type 0} → SlotView → StartFault D → Type 0
LeavesFree old (NoMemory free) = Through (EachImage IsFreeImage) old.disk free.disk
LeavesFree old (Disk broken) = Through (EachImage IsFreeImage) old.disk broken.disk

-- a new message is begun in the slot
abbrev pub begun_in : Known → List ℕ → List (List ℕ) → Known
begun_in k from rcpts = record { begun = k.begun + 1; accepted = k.accepted; use_of = Begun (new_letter k.begun from rcpts) }

-- without memory nothing is done; else the message was begun
abbrev pub RunsBegun : {D : Type 0} → Known → List ℕ → List (List ℕ) → SlotView → StartFault D → Type 0
RunsBegun k from rcpts old (NoMemory free) = Runs k old.disk k free.disk
RunsBegun k from rcpts old (Disk broken) = Runs k old.disk (begun_in k from rcpts) broken.disk
