-- The lines of commands (RFC 821, section 4.1).
use Rattle.std.specs.Prelude.{◌≡◌, ℕ, ◌≤◌, Bool, true, nat_lt, List, [], ◌∷◌, ◌++◌, length, take, drop, codes, Option, Some, None, option_map, if◌then◌else◌}
use Rattle.std.specs.List.{before_first, position_or_len}
use Rattle.smap_lines.specs.Blank.{behind_blanks, is_blank}
use Rattle.smap_lines.specs.Verb.{is, mail_verb_of}
use Rattle.smap_lines.specs.declared.command.MailCommand.{MailCommand}
use Rattle.smap_lines.specs.declared.command.MailCommand.TheVariants as commands
use Rattle.smap_lines.specs.declared.verb.Verb.{Verb}
use Rattle.smap_lines.specs.declared.verb.Verb.TheVariants.{Helo, Mail, Rcpt, Data, Rset, Noop, Quit, Help, NotImplemented, Unknown}

-- a verb with the text that matters behind it, if any: the words of HELO, the path's text of MAIL and RCPT
pub data Command : Type 0 where
  helo : List ℕ → Command
  mail : Option (List ℕ) → Command
  rcpt : Option (List ℕ) → Command
  bare : Verb → Command

-- what a reader of a command sees
abbrev pub seen : MailCommand → Command
seen (commands.Helo rest) = helo rest.now
seen (commands.Mail path_text) = mail (option_map (λ text. text.now) path_text)
seen (commands.Rcpt path_text) = rcpt (option_map (λ text. text.now) path_text)
seen commands.Data = bare Data
seen commands.Rset = bare Rset
seen commands.Noop = bare Noop
seen commands.Quit = bare Quit
seen commands.Help = bare Help
seen commands.NotImplemented = bare NotImplemented
seen commands.Unknown = bare Unknown

-- what follows a keyword, in any case, at the front of a text
abbrev pub behind_keyword : List ℕ → List ℕ → Option (List ℕ)
behind_keyword keyword text = if is (take (length keyword) text) keyword then Some (drop (length keyword) text) else None

-- the command of a verb and what follows it
abbrev pub command_with : Verb → List ℕ → Command
command_with Helo rest = helo (behind_blanks rest)
command_with Mail rest = mail (behind_keyword (codes " FROM:") rest)
command_with Rcpt rest = rcpt (behind_keyword (codes " TO:") rest)
command_with Data rest = bare Data
command_with Rset rest = bare Rset
command_with Noop rest = bare Noop
command_with Quit rest = bare Quit
command_with Help rest = bare Help
command_with NotImplemented rest = bare NotImplemented
command_with Unknown rest = bare Unknown

-- a word that stands before this ends there: at a blank, or with the line
abbrev pub ends_word : List ℕ → Bool
ends_word [] = true
ends_word (b ∷ rest) = is_blank b

-- the command of a line, whose verb ends at the first blank
abbrev pub mail_command_of : List ℕ → Command
mail_command_of line =
    if nat_lt 512 (length line) then bare Unknown
    else command_with (mail_verb_of (before_first is_blank line)) (drop (position_or_len is_blank line) line)

-- a line of at most 512 bytes that is a verb and a keyword, both in any case, and then a text
pub record AsksWith (verb keyword line text : List ℕ) : Type 0 where
  pub word : List ℕ
  pub front : List ℕ
  pub whole : line ≡ word ++ (front ++ text)
  pub is_verb : is word verb ≡ true
  pub is_keyword : is front keyword ≡ true
  pub short : length line ≤ 512
