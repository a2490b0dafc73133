-- What the options of a command name, but for the table.
use Rattle.std.specs.Prelude.{ℕ, List}
use Rattle.bastion.specs.Words.{PlaceNames, line_of, places_by}

-- what the words name; for words that are no command, what holds when no word says so
abbrev pub places_of : List (List ℕ) → PlaceNames
places_of words = places_by (line_of words)
