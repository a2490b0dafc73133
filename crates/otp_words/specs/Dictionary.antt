-- A dictionary of words for one-time passwords (RFC 2289, 6.2 and appendix D): 2,048 words of 1 to 4 letters, one a line.
use Rattle.std.specs.Prelude.{◌≡◌, ℕ, ◌+◌, ◌<◌, ◌==◌, Bool, true, ◌&&◌, not, nat_lt, nat_le, List, [], ◌∷◌, ◌++◌, length, Option, Some, Result, Ok, Err, position, slice_index_or, is_some, if◌then◌else◌}
use Rattle.std.specs.List.{list_all}
use Rattle.std.specs.Char.{is_ascii_alphabetic, is_ascii_uppercase}
use Rattle.std.specs.Str.{bytes_eq, str_to_ascii_uppercase}
use Rattle.std.specs.Str.Lines.{lines}
use Rattle.otp_words.specs.declared.dict_fault.DictFault.{DictFault}
use Rattle.otp_words.specs.declared.dict_fault.DictFault.TheVariants.{BadWord, Twice, Long, Short}

-- 1 to 4 letters
abbrev pub is_word : List ℕ → Bool
is_word line = nat_lt 0 (length line) && nat_le (length line) 4 && list_all is_ascii_alphabetic line

-- whether a word stands among these
abbrev pub stands_in : List ℕ → List (List ℕ) → Bool
stands_in word words = is_some (position (bytes_eq word) words)

-- the words of a dictionary whose first words are these and whose other lines are those, or the first fault: a line after
-- the 2,048th, a line that is no word, a word that stood before in either case, and too few lines
abbrev pub words_then : List (List ℕ) → List (List ℕ) → Result (List (List ℕ)) DictFault
words_then words [] = if length words == 2048 then Ok words else Err (Short (length words))
words_then words (line ∷ more) =
    if length words == 2048 then Err Long
    else if not (is_word line) then Err (BadWord (length words + 1))
    else if stands_in (str_to_ascii_uppercase line) words then Err (Twice (length words + 1))
    else words_then (words ++ str_to_ascii_uppercase line ∷ []) more

-- The dictionary that a text is, in upper case. The text is cut into lines at its LFs, and one CR before an LF is dropped; a last
-- line without LF counts where it isn't empty. Kept by `Dictionary::read` (`words`, `fault`); the law `a_dictionary_is_its_lines`
-- says it of whole lists.
abbrev pub dictionary_of : List ℕ → Result (List (List ℕ)) DictFault
dictionary_of text = words_then [] (lines text)

-- the word with this number
abbrev pub word_at : List (List ℕ) → ℕ → List ℕ
word_at dictionary number = slice_index_or dictionary number []

-- the number of a word, in whatever case, where the dictionary has it: its place, from 0
abbrev pub number_of : List (List ℕ) → List ℕ → Option ℕ
number_of dictionary word = position (bytes_eq (str_to_ascii_uppercase word)) dictionary

-- 1 to 4 capitals
abbrev pub is_capital_word : List ℕ → Bool
is_capital_word word = nat_lt 0 (length word) && nat_le (length word) 4 && list_all is_ascii_uppercase word

-- words of 1 to 4 capitals, of which each is found at its own place, so that none stands twice
abbrev pub AreApart : List (List ℕ) → Type 0
AreApart words = (list_all is_capital_word words ≡ true) × ((k : ℕ) → k < length words → number_of words (word_at words k) ≡ Some k)

-- what a dictionary is: 2,048 of them
abbrev pub IsDictionary : List (List ℕ) → Type 0
IsDictionary words = (length words ≡ 2048) × AreApart words
