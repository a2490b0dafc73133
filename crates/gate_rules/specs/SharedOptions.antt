-- Options that are kept apart from their line.
use Rattle.std.specs.Prelude.{Option, Some, None}
use Rattle.std.specs.declared.prelude.Box.{Box}
use Rattle.gate_rules.specs.declared.options.Options.{Options}
use Rattle.gate_rules.specs.Options.{no_options}

-- what is kept, or no option where nothing is
abbrev pub shared_options : {Z : Type 0} → Option (Box Options Z) → Options
shared_options None = no_options
shared_options (Some options) = options.value
