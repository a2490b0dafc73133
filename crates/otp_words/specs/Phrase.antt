-- The six words of a password (RFC 2289, 6.2): what is written, and what is read.
use Rattle.std.specs.Prelude.{ℕ, ◌+◌, ◌==◌, Bool, ◌&&◌, not, is_none, List, length, map, Option, Some, None, Result, Ok, Err, position, unwrap_or, if◌then◌else◌}
use Rattle.std.specs.List.{join_with_byte, list_all}
use Rattle.otp_md5.specs.Hexadecimal.{is_blank}
use Rattle.authsrv_lines.specs.Words.{words}
use Rattle.otp_words.specs.declared.words_fault.WordsFault.{WordsFault}
use Rattle.otp_words.specs.declared.words_fault.WordsFault.TheVariants.{Count, NoWord, Check}
use Rattle.otp_words.specs.Dictionary.{number_of, word_at}
use Rattle.otp_words.specs.SixWords.{password_of, six}

-- the six words of a password, with one space between
unfoldable pub phrase_of : List (List ℕ) → ℕ → List ℕ
phrase_of dictionary password = join_with_byte 32 (map (word_at dictionary) (six password))

-- the password, where the check bits are right
abbrev pub checked : Option ℕ → Result ℕ WordsFault
checked None = Err Check
checked (Some password) = Ok password

-- the password of the numbers of six words, of which the one at the place may be missing
abbrev pub password_unless : Option ℕ → List (Option ℕ) → Result ℕ WordsFault
password_unless (Some place) numbers = Err (NoWord (place + 1))
password_unless None numbers = checked (password_of (map (λ number. unwrap_or number 0) numbers))

-- the password of these words
abbrev pub password_in : List (List ℕ) → List (List ℕ) → Result ℕ WordsFault
password_in dictionary six_words =
    if length six_words == 6
    then password_unless (position is_none (map (number_of dictionary) six_words)) (map (number_of dictionary) six_words)
    else Err Count

-- the password that a text is: six words, cut at blanks, all in the dictionary, with the right check bits
unfoldable pub read_of : List (List ℕ) → List ℕ → Result ℕ WordsFault
read_of dictionary text = password_in dictionary (words text)

-- a word that isn't empty and holds no blank
abbrev pub is_plain : List ℕ → Bool
is_plain word = not (length word == 0) && list_all (λ byte. not (is_blank byte)) word

-- the password of six words that stand apart
unfoldable pub spelled_of : List (List ℕ) → List (List ℕ) → Result ℕ WordsFault
spelled_of dictionary six_words = if list_all is_plain six_words then password_in dictionary six_words else Err Count
