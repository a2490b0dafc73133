-- What must hold of a spool at any time.
use Rattle.std.specs.Prelude.{◌≡◌, ℕ, ◌⊎◌}
use Rattle.std.specs.List.{Contains}
use Rattle.fw_disk.specs.Medium.{IsImage}
use Rattle.fw_disk.specs.Moments.{EachImage}
use Rattle.spool_law.specs.World.{Letter, Slot, World}
use Rattle.spool_law.specs.World.Use.{Opened}
use Rattle.spool_law.specs.Images.{IsFree, IsKept, IsOneOf}

-- whatever a crash leaves, one slot, which is this message's, reads as this message, set aside or not
pub record Stands (l : Letter) (w : World) : Type 0 where
  pub slot : ℕ
  pub is : (w.slots slot).use_of ≡ Opened l
  pub kept : EachImage (IsKept l.mail) (w.slots slot).medium

-- Each message that was answered for stands or was accepted. Each that a mailer accepted is one that was begun and finished,
-- with all that was added to it: never a part of a message. Whatever a crash leaves of a slot is free, or a message that was begun
-- and finished. So it is never bad, and never a part of a message. The bytes as read are one thing that a crash may leave, so there
-- always is one.
pub record IsSafe (w : World) : Type 0 where
  pub answered : (l : Letter) → Contains w.answered l → Contains w.accepted l ⊎ Stands l w
  pub finished : (l : Letter) → Contains w.accepted l → Contains w.finished l
  pub images : (n : ℕ) → EachImage (λ image. IsFree image ⊎ IsOneOf w.finished image) (w.slots n).medium
  pub sound : (n : ℕ) → IsImage (w.slots n).medium (w.slots n).medium.seen

-- the slot's message is one whose gate was opened, and whatever a crash leaves of the slot is this message, set aside or not
pub record HasItsMessage (s : Slot) : Type 0 where
  pub letter : Letter
  pub is : s.use_of ≡ Opened letter
  pub kept : EachImage (IsKept letter.mail) s.medium
