-- The keywords and the words of a line.
use Rattle.std.specs.Prelude.{ℕ, zero, suc, ◌+◌, ◌==◌, Bool, true, false, not, List, [], ◌∷◌, length, filter, Option, Some, None, option_map, if◌then◌else◌}
use Rattle.std.specs.List.{before_first, list_any, position_or_len, slice_split}
use Rattle.host_pattern.specs.declared.word.Word.{Word}
use Rattle.netperm_table.specs.Bytes.{is_blank, is_brace, is_quote, is_separator, ends_word}

-- whether there are any bytes
abbrev pub is_some_bytes : List ℕ → Bool
is_some_bytes bytes = not (length bytes == 0)

-- the keywords: what stands between runs of commas and blanks
abbrev pub keywords_of : List ℕ → List (List ℕ)
keywords_of bytes = filter is_some_bytes (slice_split is_separator bytes)

-- a word, with whether it stood in quotes
abbrev pub word_of : List ℕ → Bool → Word
word_of text in_quotes = record { text = text; quoted = in_quotes }

-- a word and then others, where these can be read
abbrev pub with_word : Word → Option (List Word) → Option (List Word)
with_word word more = option_map (λ words. word ∷ words) more

-- the words that begin after the first n bytes, or nothing where a quote isn't closed: a brace is a word of its own; a word that begins with a quote goes on to the next quote; another word goes on to the next blank or brace
abbrev pub words_after : ℕ → List ℕ → Option (List Word)
words_after n [] = Some []
words_after (suc n) (b ∷ bytes) = words_after n bytes
words_after zero (b ∷ bytes) =
    if is_blank b then words_after 0 bytes
    else if is_brace b then with_word (word_of (b ∷ []) false) (words_after 0 bytes)
    else if not (is_quote b) then with_word (word_of (b ∷ before_first ends_word bytes) false) (words_after (position_or_len ends_word bytes) bytes)
    else if list_any is_quote bytes then with_word (word_of (before_first is_quote bytes) true) (words_after (position_or_len is_quote bytes + 1) bytes)
    else None

-- the words of these bytes
abbrev pub words_of : List ℕ → Option (List Word)
words_of bytes = words_after 0 bytes
