-- What a line asks for at the prompt of commands. Words stand between runs of blanks.
use Rattle.std.specs.Prelude.{ℕ, Bool, true, false, ◌||◌, List, [], ◌∷◌, Option, Some, None, codes, if◌then◌else◌}
use Rattle.std.specs.Str.{str_eq_ignore_ascii_case}
use Rattle.authsrv_lines.specs.Words.{has_none, one_or_two, words}
use Rattle.fw_types.specs.Host.{host_of}
use Rattle.fw_types.specs.Port.{port_of}
use Rattle.fw_types.specs.declared.dest.Dest.{Dest}
use Rattle.fw_types.specs.declared.host.Host.{Host}
use Rattle.tn_gate.specs.declared.command.Command.{Command}
use Rattle.tn_gate.specs.declared.command.Command.TheVariants.{Nothing, Connect, Quit, Help, Unknown}

-- in any case
abbrev pub is : List ℕ → List ℕ → Bool
is word text = str_eq_ignore_ascii_case word text

abbrev pub is_connect : List ℕ → Bool
is_connect word = is word (codes "c") || is word (codes "connect")

abbrev pub is_quit : List ℕ → Bool
is_quit word = is word (codes "q") || is word (codes "quit") || is word (codes "exit")

abbrev pub is_help : List ℕ → Bool
is_help word = is word (codes "help") || is word (codes "?")

-- the port, which is that of Telnet where none is named
abbrev pub port_or_telnet : Option (List ℕ) → Option ℕ
port_or_telnet None = Some 23
port_or_telnet (Some text) = port_of text

abbrev pub to_dest : Option Host → Option ℕ → Command
to_dest (Some host) (Some port) = Connect (record { host = host; port = port })
to_dest _ _ = Unknown

-- a host, and a port or none
abbrev pub connect_of : Option (List ℕ × Option (List ℕ)) → Command
connect_of None = Unknown
connect_of (Some texts) = to_dest (host_of texts.0) (port_or_telnet texts.1)

-- a command that no word follows
abbrev pub alone : Command → Bool → Command
alone command true = command
alone command false = Unknown

abbrev pub by_word : List ℕ → List (List ℕ) → Command
by_word word rest =
    if is_connect word then connect_of (one_or_two rest)
    else if is_quit word then alone Quit (has_none rest)
    else if is_help word then alone Help (has_none rest)
    else Unknown

abbrev pub by_words : List (List ℕ) → Command
by_words [] = Nothing
by_words (word ∷ rest) = by_word word rest

unfoldable pub command_of : List ℕ → Command
command_of line = by_words (words line)
