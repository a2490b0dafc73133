-- Counts of 64 bits, which never fall and stand still at their last value.
use Rattle.std.specs.Prelude.{ℕ, ◌+◌, ◌-◌, ◌^◌, ◌≤◌, min}

-- the count after one more
abbrev pub counted : ℕ → ℕ
counted n = min (n + 1) (2 ^ 64 - 1)

-- the count grew by so many, or stands at its last value
pub record Grew (n before now : ℕ) : Type 0 where
  pub least : min (before + n) (2 ^ 64 - 1) ≤ now
  pub most : now ≤ before + n
  pub later : before ≤ now

-- the count rose, or stands at its last value
abbrev pub Rose : ℕ → ℕ → Type 0
Rose before now = (before ≤ now) × (counted before ≤ now)
