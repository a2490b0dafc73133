-- Bytes that only contracts know, each behind those before it.
-- No public clause cites these: they say what private functions answer.
use Rattle.std.specs.Prelude.{ℕ, List, [], ◌∷◌, ◌++◌, Option, Some, None}
use Rattle.std.specs.declared.snapshot.Snapshot.{Snapshot}

-- a byte behind those before it; without those, no byte
abbrev pub fed_then : Option (Snapshot (List ℕ)) → ℕ → List ℕ
fed_then None byte = []
fed_then (Some front) byte = front.value ++ byte ∷ []
