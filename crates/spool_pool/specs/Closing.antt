-- Emptying the queues of a pool.
use Rattle.std.specs.Prelude.{◌≡◌, ℕ, ◌+◌, ◌≤◌, List, [], ◌∷◌, ◌++◌, length}
use Rattle.std.specs.List.Sorted.{IsPermutation}
use Rattle.spool_rack.specs.Store.{Queues, with_aside, with_broken}
use Rattle.spool_rack.specs.Stock.{StockView, count_of}
use Rattle.shared_queue.specs.Moves.{Moves, HasAll}
use Rattle.spool_pool.specs.Shelf.{ShelvedView, is_aside, is_broken}

-- a shelved slot goes into the queue of its kind
abbrev pub with_shelved : ShelvedView → Queues → Queues
with_shelved (is_aside slot) q = with_aside slot q
with_shelved (is_broken slot) q = with_broken slot q

abbrev pub with_all : {T : Type 0} → (T → Queues → Queues) → List T → Queues → Queues
with_all homed [] q = q
with_all homed (slot ∷ slots) q = with_all homed slots (homed slot q)

-- What stood in a queue went into the stock, in its order: at most as many as there was room for, and all of it, if the
-- pass has all parts.
pub record Drains {T : Type 0} (homed : T → Queues → Queues) (room : ℕ) (m : Moves T) (old new : StockView) : Type 0 where
  pub slots : List T
  pub few : length slots ≤ room
  pub is : new ≡ record { queues = with_all homed slots old.queues; room = old.room }
  pub counted : count_of new.queues ≤ count_of old.queues + room
  pub all : HasAll m → IsPermutation (m.began ++ m.put) (slots ++ m.taken)
