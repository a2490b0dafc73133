-- Making a pool of a rack.
use Rattle.std.specs.Prelude.{◌≡◌, ℕ, ◌^◌, List, [], ◌++◌, map}
use Rattle.spool_rack.specs.Store.{Queues}
use Rattle.shared_queue.specs.Moves.{Moves}
use Rattle.spool_pool.specs.declared.lanes.Lanes.{Lanes}
use Rattle.spool_pool.specs.Shelf.{is_aside, is_broken}
use Rattle.spool_pool.specs.Account.{homes_of}

-- a pass with all parts of a queue that began with these
abbrev pub fresh : {T : Type 0} → List ℕ → List T → Moves T
fresh home began = record { home = home; parts = 2 ^ 64; began = began; put = []; taken = []; misses = 0 }

abbrev pub begun_all : {T : Type 0} → List T → Moves T → Moves T
begun_all items m = record { home = m.home; parts = m.parts; began = m.began ++ items; put = m.put; taken = m.taken; misses = m.misses }

-- queues of this pool that began with nothing
pub record IsFresh {D : Type 0} (home : List (List ℕ)) (l : Lanes D) : Type 0 where
  pub homes : homes_of l ≡ home
  pub free_is : l.free ≡ fresh l.free.home []
  pub full_is : l.full ≡ fresh l.full.home []
  pub shelf_is : l.shelf ≡ fresh l.shelf.home []

-- queues of this pool that began with these slots
pub record IsBegun {D : Type 0} (home : List (List ℕ)) (slots : Queues) (l : Lanes D) : Type 0 where
  pub homes : homes_of l ≡ home
  pub free_is : l.free ≡ fresh l.free.home slots.free
  pub full_is : l.full ≡ fresh l.full.home slots.full
  pub shelf_is : l.shelf ≡ fresh l.shelf.home (map is_aside slots.aside ++ map is_broken slots.broken)
