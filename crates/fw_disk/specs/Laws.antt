-- What the laws speak of.
use Rattle.std.specs.Prelude.{◌≡◌, ℕ, ◌<◌, ◌≤◌, true, List, get_or, ◌⊎◌}
use Rattle.fw_disk.specs.Medium.{Medium, is_written}

-- each member is a byte
abbrev pub AreBytes : List ℕ → Type 0
AreBytes bytes = (place : ℕ) → get_or bytes place 0 < 256

-- a place that a crash needn't keep: at the least length or past it, or written since the sync
abbrev pub IsLoose : Medium → ℕ → Type 0
IsLoose m place = (m.least ≤ place) ⊎ (is_written m place ≡ true)
