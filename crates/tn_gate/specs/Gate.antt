-- What the table says of a client that it permits, as far as a session of `tn-gw` needs it.
use Rattle.std.specs.Prelude.{ℕ, Bool, ◌||◌, is_some, Option, Some, None}
use Rattle.fw_types.specs.declared.peer.Peer.{Peer}
use Rattle.gate_rules.specs.declared.options.Options.{Options}
use Rattle.gate_rules.specs.Options.{no_options}
use Rattle.gate_rules.specs.Reading.{RuleBook}
use Rattle.gate_rules.specs.Verdict.{options_at}

-- who the client is, the number of the line that permits it, and the options of that line
pub record Gate : Type 0 where
  pub options : Options
  pub peer : Peer
  pub line : ℕ

-- a line asks for a login by `-auth`, `-authall` or `-extnd`
abbrev pub asks_login : Options → Bool
asks_login options = is_some options.auth || options.authall || options.extnd

abbrev pub options_or_none : Option Options → Options
options_or_none None = no_options
options_or_none (Some options) = options

-- the permit line with this number, for this peer
abbrev pub gate_at : RuleBook → ℕ → Peer → Gate
gate_at book line peer = record { options = options_or_none (options_at book line); peer = peer; line = line }
