-- Blanks: spaces and tabs.
use Rattle.std.specs.Prelude.{ℕ, ◌==◌, Bool, ◌||◌, List, drop}
use Rattle.std.specs.List.{prefix_len}

abbrev pub is_blank : ℕ → Bool
is_blank b = b == 32 || b == 9

abbrev pub behind_blanks : List ℕ → List ℕ
behind_blanks text = drop (prefix_len is_blank text) text
