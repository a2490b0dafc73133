-- Verbs of the File Transfer Protocol.
use Rattle.std.specs.Prelude.{ℕ, Bool, ◌&&◌, nat_le, nat_lt, List, length, Option, Some, None, if◌then◌else◌}
use Rattle.std.specs.Char.{is_ascii_alphabetic}
use Rattle.std.specs.List.{list_all}
use Rattle.std.specs.Str.{str_to_ascii_uppercase}

-- 1 to 16 letters
abbrev pub is_verb : List ℕ → Bool
is_verb text = nat_lt 0 (length text) && nat_le (length text) 16 && list_all is_ascii_alphabetic text

-- the verb that the text is, in upper case
abbrev pub verb_of : List ℕ → Option (List ℕ)
verb_of text = if is_verb text then Some (str_to_ascii_uppercase text) else None
