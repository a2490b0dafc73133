-- A challenge as a user reads it (RFC 2289, 6.0, the form of inputs).
use Rattle.std.specs.Prelude.{ℕ, List, ◌∷◌, codes, Option, Some, None, if◌then◌else◌}
use Rattle.std.specs.Str.{str_eq_ignore_ascii_case}
use Rattle.auth_records.specs.Texts.{seed_of}
use Rattle.authsrv_lines.specs.Words.{words}
use Rattle.fw_types.specs.Number.{in_range, number_of}

-- a count and a seed, where both are there
abbrev pub pair_of : Option ℕ → Option (List ℕ) → Option (ℕ × List ℕ)
pair_of (Some number) (Some word_seed) = Some (number, word_seed)
pair_of number word_seed = None

-- the name of the algorithm in any case, the count and the seed; further words are ignored
abbrev pub challenge_in : List (List ℕ) → Option (ℕ × List ℕ)
challenge_in (name ∷ number ∷ word_seed ∷ others) =
    if str_eq_ignore_ascii_case name (codes "otp-md5") then pair_of (in_range 0 9999 (number_of number)) (seed_of word_seed) else None
challenge_in _ = None

-- the count and the seed that a text asks for; its words are cut at blanks
unfoldable pub challenge_of : List ℕ → Option (ℕ × List ℕ)
challenge_of text = challenge_in (words text)
