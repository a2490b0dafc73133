-- What the images of a slot's disk are read as.
use Rattle.std.specs.Prelude.{◌≡◌, ℕ, List, set, ◌⊎◌}
use Rattle.std.specs.List.{Contains}
use Rattle.slot_bytes.specs.Layout.{Mail}
use Rattle.slot_bytes.specs.Reading.{reads}
use Rattle.slot_bytes.specs.Reading.Reading.{Free, Whole, Aside}
use Rattle.spool_law.specs.World.{Letter}

abbrev pub IsFree : List ℕ → Type 0
IsFree image = reads image ≡ Free

-- this message, set aside or not
abbrev pub IsKept : Mail → List ℕ → Type 0
IsKept m image = (reads image ≡ Whole m) ⊎ (reads image ≡ Aside m)

-- some message that isn't set aside
pub record IsWhole (image : List ℕ) : Type 0 where
  pub mail : Mail
  pub is : reads image ≡ Whole mail

-- free, and this message as soon as 1 stands in byte 0
pub record IsReady (m : Mail) (image : List ℕ) : Type 0 where
  pub free : IsFree image
  pub behind : reads (set image 0 1) ≡ Whole m

-- one of these messages
pub record IsOneOf (mails : List Letter) (image : List ℕ) : Type 0 where
  pub letter : Letter
  pub one : Contains mails letter
  pub kept : IsKept letter.mail image
