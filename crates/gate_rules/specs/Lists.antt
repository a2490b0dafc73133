-- Lists of patterns and of verbs, word by word from the left.
use Rattle.std.specs.Prelude.{ℕ, ◌+◌, Bool, not, ◌&&◌, ◌==◌, nat_lt, nat_eq, is_some, List, [], ◌∷◌, length, take, drop, filter_map, Option, Result, Ok, Err, codes, if◌then◌else◌}
use Rattle.std.specs.List.{list_all, list_any, starts_with, before_first, position_or_len}
use Rattle.std.specs.Str.{bytes_eq}
use Rattle.fw_types.specs.Verb.{verb_of}
use Rattle.host_pattern.specs.Pattern.{Written}
use Rattle.host_pattern.specs.PatternList.{good}
use Rattle.host_pattern.specs.declared.word.Word.{Word}
use Rattle.gate_rules.specs.declared.fault.Why.{Why}
use Rattle.gate_rules.specs.declared.fault.Why.TheVariants.{NoHosts, BadPattern, TooMany, MissingValue, OpenBrace, BadWord}

-- an option begins with a dash, and isn't quoted
abbrev pub is_option : Word → Bool
is_option word = not word.quoted && starts_with nat_eq word.text (codes "-")

-- braces stand outside quotes
abbrev pub is_open : Word → Bool
is_open word = not word.quoted && bytes_eq word.text (codes "{")

abbrev pub is_close : Word → Bool
is_close word = not word.quoted && bytes_eq word.text (codes "}")

-- the words of the host list: those before the first option
abbrev pub hosts_in : List Word → List Word
hosts_in words = before_first is_option words

-- the first option and what follows it
abbrev pub options_in : List Word → List Word
options_in words = drop (position_or_len is_option words) words

-- what is read, and then read on
abbrev pub and_then : {X Y : Type 0} → (X → Result Y Why) → Result X Why → Result Y Why
and_then next (Ok x) = next x
and_then next (Err why) = Err why

abbrev pub mapped : {X Y : Type 0} → (X → Y) → Result X Why → Result Y Why
mapped f (Ok x) = Ok (f x)
mapped f (Err why) = Err why

-- the word is a pattern
abbrev pub is_pattern : Word → Bool
is_pattern word = is_some (good word)

-- 1 to 64 patterns. The leftmost bad word counts: one of the first 64 that is no pattern, or else the 65th.
unfoldable pub patterns_of : List Word → Result (List Written) Why
patterns_of words =
    if length words == 0 then Err NoHosts
    else if not (list_all is_pattern (take 64 words)) then Err BadPattern
    else if nat_lt 64 (length words) then Err TooMany
    else Ok (filter_map good words)

-- the verb that a word is
abbrev pub verb_in : Word → Option (List ℕ)
verb_in word = verb_of word.text

abbrev pub is_verb_word : Word → Bool
is_verb_word word = is_some (verb_in word)

-- 1 to 32 verbs, likewise
unfoldable pub verbs_of : List Word → Result (List (List ℕ)) Why
verbs_of words =
    if length words == 0 then Err MissingValue
    else if not (list_all is_verb_word (take 32 words)) then Err BadWord
    else if nat_lt 32 (length words) then Err TooMany
    else Ok (filter_map verb_in words)

-- the words before the first closing brace
abbrev pub before_close : List Word → List Word
before_close words = before_first is_close words

-- what stands between an open brace and the first closing one
abbrev pub between : List Word → Result (List Word) Why
between words = if list_any is_close words then Ok (before_close words) else Err OpenBrace

-- the members of the list with which the words begin: one word that is no brace, or those between braces
abbrev pub members_of : List Word → Result (List Word) Why
members_of [] = Err MissingValue
members_of (word ∷ words) =
    if is_open word then between words
    else if is_close word then Err BadWord
    else Ok (word ∷ [])

-- its patterns, or its verbs
abbrev pub patterns_in : List Word → Result (List Written) Why
patterns_in words = and_then patterns_of (members_of words)

abbrev pub verbs_in : List Word → Result (List (List ℕ)) Why
verbs_in words = and_then verbs_of (members_of words)

-- how many words that list has, its braces among them
abbrev pub list_width : List Word → ℕ
list_width [] = 0
list_width (word ∷ words) = if is_open word then position_or_len is_close words + 2 else 1

-- a host list with nothing after it
abbrev pub alone : Result (List Written) Why → List Word → Result (List Written) Why
alone (Err why) words = Err why
alone (Ok patterns) [] = Ok patterns
alone (Ok patterns) (word ∷ words) = Err BadWord

abbrev pub hosts_alone : List Word → Result (List Written) Why
hosts_alone words = alone (patterns_of (hosts_in words)) (options_in words)
