-- Who may use a file.
-- No public clause cites this: it says what private functions answer.
use Rattle.std.specs.Prelude.{ℕ, ◌%◌, ◌==◌, Bool}

-- in the mode of a file, what others than its owner may do are the lowest six bits: none is set
abbrev pub is_private : ℕ → Bool
is_private mode = mode % 64 == 0
