-- A seat between two calls.
use Rattle.std.specs.Prelude.{◌≡◌, ℕ, List, [], ◌∷◌, Option}
use Rattle.atomic_table.specs.Seated.{TableId}
use Rattle.atomic_table.specs.declared.shared.Seat.{Seat}
use Rattle.turn_lock.specs.declared.view.Hold.TheVariants.{Away}
use Rattle.turn_lock.specs.declared.view.View.{View}
use Rattle.turn_lock.specs.Known.{Known}
use Rattle.turn_lock.specs.Places.{Places}

-- a table as numbers, which are those of no other
abbrev pub home_of : TableId → List ℕ
home_of z = z.words ∷ z.slots ∷ z.views_name ∷ z.atom ∷ z.block ∷ z.offset ∷ z.slot_names

-- the table of a lock
abbrev pub IsLock : TableId → Type 0
IsLock z = (z.words ≡ 2) × (z.slots ≡ 1)

module _ {V E O : Type 0} where
  abbrev pub known : Seat (Option V) (View E O) → Known E O
  known seat = record {
    seen = seat.me.0.seen;
    mine = seat.me.0.mine;
    met = seat.me.0.met;
    parts = seat.me.0.parts;
    home = home_of seat.table_id;
    limit = seat.me.0.limit;
    origin = seat.me.0.origin;
  }

  -- it hasn't the turn, holds no slot, and its own places rise
  pub record AtRest (seat : Seat (Option V) (View E O)) : Type 0 where
    pub away : seat.me.0.hold ≡ Away
    pub empty : seat.me.1 ≡ []
    pub places : Places seat.me.0.seen seat.me.0.mine

  abbrev pub IsSame : Seat (Option V) (View E O) → Seat (Option V) (View E O) → Type 0
  IsSame old new = (new.table_id ≡ old.table_id) × (new.id ≡ old.id)
