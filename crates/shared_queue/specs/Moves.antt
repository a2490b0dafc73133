-- What a pass knows of a queue that threads share, and what putting and taking do to that.
use Rattle.std.specs.Prelude.{◌≡◌, ℕ, ◌+◌, ◌-◌, ◌^◌, min, List, [], ◌∷◌, ◌++◌}
use Rattle.std.specs.List.Sorted.{IsPermutation}

-- which queue it is, by the numbers of its memory, and for how many items it has room
pub record QueueView : Type 0 where
  pub home : List ℕ
  pub room : ℕ

-- Which queue a pass is of, by the numbers of its memory; how many of the 2^64 parts of all passes it has; what the queue began with; what this
-- pass has put and taken, the earliest first; and how many of its counted takes gave none.
pub record Moves (T : Type 0) : Type 0 where
  pub home : List ℕ
  pub parts : ℕ
  pub began : List T
  pub put : List T
  pub taken : List T
  pub misses : ℕ

-- it has the parts of all passes
abbrev pub HasAll : {T : Type 0} → Moves T → Type 0
HasAll m = m.parts ≡ 2 ^ 64

-- up to order, what the queue began with and what was put are what was taken and these items
abbrev pub StandIn : {T : Type 0} → Moves T → List T → Type 0
StandIn m items = IsPermutation (m.began ++ m.put) (items ++ m.taken)

-- ---- what a pass knows after a call

-- a count goes up, and stands still at its last value
abbrev pub counted : ℕ → ℕ → ℕ
counted n more = min (n + more) (2 ^ 64 - 1)

abbrev pub begun_with : {T : Type 0} → T → Moves T → Moves T
begun_with item m = record { home = m.home; parts = m.parts; began = m.began ++ item ∷ []; put = m.put; taken = m.taken; misses = m.misses }

abbrev pub put_more : {T : Type 0} → T → Moves T → Moves T
put_more item m = record { home = m.home; parts = m.parts; began = m.began; put = m.put ++ item ∷ []; taken = m.taken; misses = m.misses }

abbrev pub taken_out : {T : Type 0} → T → Moves T → Moves T
taken_out item m = record { home = m.home; parts = m.parts; began = m.began; put = m.put; taken = m.taken ++ item ∷ []; misses = m.misses }

-- none came out, which is counted
abbrev pub missed : {T : Type 0} → Moves T → Moves T
missed m = record { home = m.home; parts = m.parts; began = m.began; put = m.put; taken = m.taken; misses = counted m.misses 1 }

-- one part is given away
abbrev pub less_one : {T : Type 0} → Moves T → Moves T
less_one m = record { home = m.home; parts = m.parts - 1; began = m.began; put = m.put; taken = m.taken; misses = m.misses }

-- a pass that was split off has one part, has put and taken nothing, and counts from 0
abbrev pub split_off : {T : Type 0} → Moves T → Moves T
split_off m = record { home = m.home; parts = 1; began = m.began; put = []; taken = []; misses = 0 }

-- two passes have met
abbrev pub met : {T : Type 0} → Moves T → Moves T → Moves T
met m other = record {
  home = m.home;
  parts = m.parts + other.parts;
  began = m.began;
  put = m.put ++ other.put;
  taken = m.taken ++ other.taken;
  misses = counted m.misses other.misses;
}
