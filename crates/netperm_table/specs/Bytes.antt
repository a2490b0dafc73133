-- Bytes that cut a line into its parts.
use Rattle.std.specs.Prelude.{ℕ, Bool, ◌||◌, ◌==◌}

-- a byte 0, which no line may have
abbrev pub is_nul : ℕ → Bool
is_nul b = b == 0

-- a space or a tab
abbrev pub is_blank : ℕ → Bool
is_blank b = b == 32 || b == 9

-- a comma or a blank, which stand between keywords
abbrev pub is_separator : ℕ → Bool
is_separator b = b == 44 || is_blank b

-- a colon, the first of which ends the keywords
abbrev pub is_colon : ℕ → Bool
is_colon b = b == 58

-- a double quote, which begins a quoted word and ends it
abbrev pub is_quote : ℕ → Bool
is_quote b = b == 34

-- `{` or `}`, each a word of its own
abbrev pub is_brace : ℕ → Bool
is_brace b = b == 123 || b == 125

-- a blank or a brace, which end a word without quotes
abbrev pub ends_word : ℕ → Bool
ends_word b = is_blank b || is_brace b
