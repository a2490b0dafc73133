-- What the table says of a client that it permits, as far as a session of `ftp-gw` needs it.
use Rattle.std.specs.Prelude.{ℕ, Bool, false, ◌&&◌, ◌||◌, not, List, Option, Some, None}
use Rattle.std.specs.List.{list_any}
use Rattle.std.specs.Str.{bytes_eq}
use Rattle.fw_types.specs.declared.peer.Peer.{Peer}
use Rattle.gate_rules.specs.declared.options.Options.{Options}
use Rattle.gate_rules.specs.Options.{no_options}
use Rattle.gate_rules.specs.Reading.{RuleBook}
use Rattle.gate_rules.specs.Verdict.{options_at}
use Rattle.ftp_gate.specs.Kind.{is_quit}

-- who the client is, the number of the line that permits it, and the options of that line
pub record Gate : Type 0 where
  pub options : Options
  pub peer : Peer
  pub line : ℕ

-- a list has the verb
abbrev pub has_verb : List (List ℕ) → List ℕ → Bool
has_verb verbs verb = list_any (λ one. bytes_eq one verb) verbs

abbrev pub is_listed : Option (List (List ℕ)) → List ℕ → Bool
is_listed None verb = false
is_listed (Some verbs) verb = has_verb verbs verb

-- A login is asked for before this verb: where `-auth` has it, or `-authall` or `-extnd` stands; but not before `QUIT`.
abbrev pub asks_login : Options → List ℕ → Bool
asks_login options verb = not (is_quit verb) && (is_listed options.auth verb || options.authall || options.extnd)

abbrev pub options_or_none : Option Options → Options
options_or_none None = no_options
options_or_none (Some options) = options

-- the permit line with this number, for this peer
abbrev pub gate_at : RuleBook → ℕ → Peer → Gate
gate_at book line peer = record { options = options_or_none (options_at book line); peer = peer; line = line }
