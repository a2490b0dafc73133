-- What holds of all dictionaries, passwords and challenges.
use Rattle.std.specs.Prelude.{◌≡◌, ℕ, ◌+◌, ◌<◌, ◌≤◌, true, false, List, [], length, map, take, slice_index_or, Option, Some, Result, Ok, Err}
use Rattle.std.specs.List.{list_all}
use Rattle.std.specs.Option.{option_map}
use Rattle.std.specs.Str.{str_to_ascii_uppercase}
use Rattle.otp_md5.specs.Passwords.{next_of, password}
use Rattle.otp_words.specs.declared.dict_fault.DictFault.{DictFault}
use Rattle.otp_words.specs.declared.dict_fault.DictFault.TheVariants.{BadWord, Twice, Long, Short, ReadFault, NoMemory}
use Rattle.otp_words.specs.Challenge.{challenge_of}
use Rattle.otp_words.specs.Dictionary.{AreApart, is_word, stands_in}

-- the password that answers a challenge, for a pass phrase
abbrev pub answer_to : List ℕ → List ℕ → Option ℕ
answer_to text phrase = option_map (λ asked. password asked.1 phrase asked.0) (challenge_of text)

-- the answer to a challenge is right: it leads to the kept password
abbrev pub Answers : List ℕ → List ℕ → ℕ → Type 0
Answers text phrase kept = (word : ℕ) × (answer_to text phrase ≡ Some word) × (next_of word ≡ kept)

-- the word that a line is, and the words that the first lines are
abbrev pub word_of : List (List ℕ) → ℕ → List ℕ
word_of all place = str_to_ascii_uppercase (slice_index_or all place [])

abbrev pub first_words : List (List ℕ) → ℕ → List (List ℕ)
first_words all count = map str_to_ascii_uppercase (take count all)

-- the first lines are words, and none of them stands twice
abbrev pub GoodTo : ℕ → List (List ℕ) → Type 0
GoodTo count all = (count ≤ length all) × (list_all is_word (take count all) ≡ true) × AreApart (first_words all count)

-- what an answer says of the lines
abbrev pub SaysOf : List (List ℕ) → Result (List (List ℕ)) DictFault → Type 0
SaysOf all (Ok words) = GoodTo 2048 all × (length all ≡ 2048) × (words ≡ map str_to_ascii_uppercase all)
SaysOf all (Err (BadWord line)) = (place : ℕ) × (line ≡ place + 1) × (place < length all) × (place < 2048) × GoodTo place all × (is_word (slice_index_or all place []) ≡ false)
SaysOf all (Err (Twice line)) = (place : ℕ) × (line ≡ place + 1) × (place < length all) × (place < 2048) × GoodTo place all × (stands_in (word_of all place) (first_words all place) ≡ true)
SaysOf all (Err Long) = GoodTo 2048 all × (2048 < length all)
SaysOf all (Err (Short words)) = GoodTo words all × (words ≡ length all) × (words < 2048)
SaysOf all (Err ReadFault) = ⊥
SaysOf all (Err NoMemory) = ⊥
