-- The calls of a device in memory that answers by their numbers.
use Rattle.std.specs.Prelude.{ℕ, ◌+◌, ◌-◌, ◌%◌, ◌^◌, ◌==◌, ◌||◌, Bool, false, List, map, Option, Some, None, if◌then◌else◌}
use Rattle.std.specs.List.{range_with_len}

-- how many calls there were, and whether they were more than 64 bits can count
pub record CallCounter : Type 0 where
  pub calls : ℕ
  pub over : Bool

-- no call yet
abbrev pub no_calls : CallCounter
no_calls = record { calls = 0; over = false }

-- one call more
abbrev pub one_call : CallCounter → CallCounter
one_call t = record { calls = (t.calls + 1) % 2 ^ 64; over = t.over || t.calls == 2 ^ 64 - 1 }

-- the answers to the calls so far, each by its number, as long as these can be counted
abbrev pub answers : {A : Type 0} → (ℕ → A) → CallCounter → Option (List A)
answers answer t = if t.over then None else Some (map answer (range_with_len 0 t.calls))
