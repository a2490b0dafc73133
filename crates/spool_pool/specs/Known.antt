-- What a pass of a pool knows, and what the calls of a pool do to that.
use Rattle.std.specs.Prelude.{◌≡◌, ℕ, ◌+◌, ◌-◌, List, [], ◌++◌, None, Some}
use Rattle.spool_slots.specs.States.{SlotView, FullView}
use Rattle.spool_rack.specs.Store.{Handed, Loan, Queues, StoreView}
use Rattle.shared_queue.specs.Moves.{Moves, counted}

-- which pool it is
pub record PoolView : Type 0 where
  pub home : List (List ℕ)

-- Which pool a pass is of, its parts, the slots that the pool was made of, and its four lists; and its three counts. A
-- pass that a pool was closed with is of no pool, and has no part.
pub record PassView : Type 0 where
  pub handed : Handed
  pub no_free : ℕ
  pub no_full : ℕ
  pub broken : ℕ

-- a seat: its pass, the slots that are out, and what its pass put into the queues of free and of full slots and took from them
pub record SeatView : Type 0 where
  pub pass : PassView
  pub out : List Loan
  pub free : Moves SlotView
  pub full : Moves FullView

abbrev pub IsPassOf : PoolView → PassView → Type 0
IsPassOf pool pass = pass.handed.home ≡ pool.home

-- ---- making, cutting and joining passes

-- a pass with these parts, and nothing else
abbrev pub bare : List (List ℕ) → ℕ → Queues → PassView
bare home parts began = record {
  handed = record { home = home; parts = parts; began = began; put = []; released = []; aside = []; broken = [] };
  no_free = 0;
  no_full = 0;
  broken = 0;
}

abbrev pub less_one : PassView → PassView
less_one p = record p { handed = record p.handed { parts = p.handed.parts - 1 } }

abbrev pub split_off : PassView → PassView
split_off p = bare p.handed.home 1 p.handed.began

abbrev pub met : PassView → PassView → PassView
met p other = record {
  handed = record {
    home = p.handed.home;
    parts = p.handed.parts + other.handed.parts;
    began = p.handed.began;
    put = p.handed.put ++ other.handed.put;
    released = p.handed.released ++ other.handed.released;
    aside = p.handed.aside ++ other.handed.aside;
    broken = p.handed.broken ++ other.handed.broken;
  };
  no_free = counted p.no_free other.no_free;
  no_full = counted p.no_full other.no_full;
  broken = counted p.broken other.broken;
}

-- the pass as it is given back when the pool is closed: its lists and counts
abbrev pub closed : PassView → PassView
closed p = record {
  handed = record {
    home = [];
    parts = 0;
    began = record { free = []; full = []; aside = []; broken = [] };
    put = p.handed.put;
    released = p.handed.released;
    aside = p.handed.aside;
    broken = p.handed.broken;
  };
  no_free = p.no_free;
  no_full = p.no_full;
  broken = p.broken;
}

-- ---- a seat as a store

abbrev pub store_of : SeatView → StoreView
store_of s = record {
  queues = None;
  handed = Some s.pass.handed;
  out = s.out;
  no_free = s.pass.no_free;
  no_full = s.pass.no_full;
  broken = s.pass.broken;
}
