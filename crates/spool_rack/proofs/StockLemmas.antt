-- Room for the slots of a rack.
use Rattle.std.proofs.Common.{◌≡◌, ℕ, ◌+◌, ◌≤◌, List, [], ◌∷◌, length, take, drop, ap, refl, arith}
use Rattle.spool_slots.specs.States.{SlotView, FullView, BrokenView}
use Rattle.spool_rack.specs.declared.shelving.Shelves.{Shelves}
use Rattle.spool_rack.specs.Store.{Loan}
use Rattle.spool_rack.specs.Room.{QueueView, HasRoom}
use Rattle.spool_rack.specs.Shelving.{IsBare}

-- what has no slots has room
pub bare_room : (X : Type 0) (room : ℕ) (s : Shelves X) (broken : QueueView BrokenView) (out : QueueView Loan)
    → IsBare room s broken out → HasRoom s.free s.full s.aside broken out room
bare_room X room s broken out b = rw (b.free, b.full, b.aside, b.broken_is, b.out_is) record { sum = omega arith; free_room = refl; full_room = refl; aside_room = refl; broken_room = refl; out_room = refl; read = tt }

-- there is room for what stands in a rack
pub count_within : (free : QueueView SlotView) (full : QueueView FullView) (aside : QueueView SlotView) (broken : QueueView BrokenView) (out : QueueView Loan) (room : ℕ)
    → HasRoom free full aside broken out room → length free.items + length full.items + length aside.items + length broken.items ≤ room
count_within free full aside broken out room h = omega (arith, h.sum)

pub front_of : {X : Type 0} (items : List X) (item : X) → take 1 items ≡ item ∷ [] → items ≡ item ∷ drop 1 items
front_of [] item e = absurd cc
front_of {X} (x ∷ items) item e = let is : x ≡ item = cc in ap (λ (y : X). y ∷ items) is
