-- Command lines of the File Transfer Protocol: a verb, and an argument behind a space (RFC 959, 4.1 and 5.3).
use Rattle.std.specs.Prelude.{◌≡◌, ◌⊎◌, ℕ, ◌<◌, ◌≤◌, Bool, false, ◌&&◌, ◌||◌, ◌==◌, not, nat_le, IsTrue, List, [], ◌∷◌, ◌++◌, length, Option, Some, None, if◌then◌else◌}
use Rattle.std.specs.Char.{is_ascii_alphabetic}
use Rattle.std.specs.List.{list_all, list_any, before_first, after_first}
use Rattle.std.specs.Str.{str_to_ascii_uppercase}
use Rattle.fw_types.specs.Verb.{verb_of}

-- NUL, LF, CR and the escape byte of Telnet (RFC 854)
abbrev pub is_barred : ℕ → Bool
is_barred b = b == 0 || b == 10 || b == 13 || b == 255

abbrev pub is_space : ℕ → Bool
is_space b = b == 32

-- at most 512 bytes, none of them barred
abbrev pub is_command_text : List ℕ → Bool
is_command_text line = nat_le (length line) 512 && not (list_any is_barred line)

abbrev pub with_argument : Option (List ℕ) → List ℕ → Option (List ℕ × List ℕ)
with_argument None arg = None
with_argument (Some verb) arg = Some (verb, arg)

-- the verb and the argument of a line: what stands before its first space, in upper case, and what stands behind that space
abbrev pub ftp_command_of : List ℕ → Option (List ℕ × List ℕ)
ftp_command_of line = if is_command_text line then with_argument (verb_of (before_first is_space line)) (after_first is_space line) else None

-- a line of at most 512 bytes, none of them barred: a word of 1 to 16 letters alone, or with a space and an argument
-- behind it. The verb is that word in upper case.
pub record IsCommand (line verb arg : List ℕ) : Type 0 where
  pub word : List ℕ
  pub whole : ((line ≡ word) × (arg ≡ [])) ⊎ (line ≡ word ++ 32 ∷ arg)
  pub some : 0 < length word
  pub few : length word ≤ 16
  pub letters : IsTrue (list_all is_ascii_alphabetic word)
  pub upper : str_to_ascii_uppercase word ≡ verb
  pub short : length line ≤ 512
  pub plain : list_any is_barred line ≡ false
