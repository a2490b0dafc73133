-- What holds at each moment since a time.
use Rattle.std.specs.Prelude.{◌≡◌, ℕ, List, ◌∷◌, ◌++◌, Option, Some, None, IfSome}
use Rattle.std.specs.List.{AllByRecursion}
use Rattle.fw_disk.specs.Medium.{Medium, IsImage}
use Rattle.fw_disk.specs.DiskView.{Tape, DiskView}

-- the medium has the property at the old moment and at each one since, up to the new
pub record Since (P : Medium → Type 0) (old new : Tape) : Type 0 where
  pub moments : List Medium
  pub are : new.now ∷ new.past ≡ moments ++ old.now ∷ old.past
  pub first : P old.now
  pub each : AllByRecursion P moments

-- the same where it is told; a disk that tells goes on, and no other begins
abbrev pub IsToldSince : (Medium → Type 0) → Option Tape → Option Tape → Type 0
IsToldSince P None None = Unit {0}
IsToldSince P (Some old) (Some new) = Since P old new
IsToldSince P _ _ = ⊥

abbrev pub Through : (Medium → Type 0) → DiskView → DiskView → Type 0
Through P old new = IsToldSince P old.told new.told

-- the medium now has the property, where it is told
abbrev pub Now : (Medium → Type 0) → DiskView → Type 0
Now P view = IfSome view.told (λ tape. P tape.now)

-- every image of the medium has the property
abbrev pub EachImage : (List ℕ → Type 0) → Medium → Type 0
EachImage Q m = (image : List ℕ) → IsImage m image → Q image
