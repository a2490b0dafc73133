-- A medium at which something is noted and not yet done.
use Rattle.std.specs.Prelude.{◌≡◌, ℕ, ◌+◌, min, max, [], ◌∷◌, ◌++◌, ◌⊎◌}
use Rattle.fw_disk.specs.Medium.{Medium}
use Rattle.fw_disk.specs.DiskView.{Tape, onward}

-- after a range was noted as written, before anything is
abbrev pub noted_at : ℕ → ℕ → Medium → Medium
noted_at at len m = record m { written = m.written ++ (at, len) ∷ []; greatest = max m.greatest (at + len) }

-- after a length was noted, before anything is cut
abbrev pub lowered_to : ℕ → Medium → Medium
lowered_to len m = record m { least = min m.least len }

-- the range was noted and nothing written, or there was no memory to note it
abbrev pub IsNoted : ℕ → ℕ → Tape → Tape → Type 0
IsNoted at len old new = (new ≡ old) ⊎ (new ≡ onward (noted_at at len old.now) old)
