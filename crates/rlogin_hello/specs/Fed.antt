-- Bytes that only contracts know, each after those before it.
-- No public clause cites this: it says what private functions answer.
use Rattle.std.specs.Prelude.{ℕ, List, [], ◌∷◌, ◌++◌, Option, Some, None}
use Rattle.std.specs.declared.snapshot.Snapshot.{Snapshot}

-- a byte after those before it; without those, no byte
abbrev pub fed_then : Option (Snapshot (List ℕ)) → ℕ → List ℕ
fed_then None byte = []
fed_then (Some before) byte = before.value ++ byte ∷ []
