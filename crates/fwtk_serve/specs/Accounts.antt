-- No message is lost, and none stands twice.
use Rattle.std.specs.Prelude.{List, ◌++◌, map}
use Rattle.std.specs.List.Sorted.{IsPermutation}
use Rattle.fw_disk.specs.Moments.{EachImage, Now}
use Rattle.slot_bytes.specs.Layout.{Mail}
use Rattle.spool_pool.specs.Ends.{End, Has, from_full}
use Rattle.spool_pool.specs.Ends.End.{broke, put_aside, released, stands}
use Rattle.spool_rack.specs.Store.{Handed, Queues}
use Rattle.spool_slots.specs.Images.{HasMessageBehind}
use Rattle.spool_slots.specs.States.{BrokenView, FullView, Keeps}

-- a slot with a message: it was full at first, or put full; or it was broken at first, and had come from a `Full`
pub data Start : Type 0 where
  was_full : FullView → Start
  was_broken : BrokenView → Start

abbrev pub HasFirst : Mail → Start → Type 0
HasFirst m (was_full slot) = Keeps m slot
HasFirst m (was_broken slot) = Now (EachImage (HasMessageBehind m)) slot.disk

-- such a slot, and what became of it, with the same message
pub record Way : Type 0 where
  pub start : Start
  pub end : End
  pub same : (m : Mail) → HasFirst m start → Has m end

-- The messages full in the slots at first, those that were put, and those of slots that were broken at first are, one for one and
-- up to order, those full in the slots that are left, those released, those set aside, and those of broken slots that are left.
pub record NoneIsLost (before : Queues) (lists : Handed) (left : Queues) : Type 0 where
  pub ways : List Way
  pub starts : IsPermutation (map was_full (before.full ++ lists.put) ++ map was_broken (from_full before.broken)) (map (λ way. way.start) ways)
  pub ends : IsPermutation (map stands left.full ++ (map released lists.released ++ (map put_aside lists.aside ++ map broke (from_full left.broken)))) (map (λ way. way.end) ways)
