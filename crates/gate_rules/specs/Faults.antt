-- What is wrong with a line, told without what it says.
-- No public clause cites these: they say what private functions answer.
use Rattle.std.specs.Prelude.{ℕ, Bool, true, false, List, [], ◌∷◌, is_some, Option, Some, None, Result, Ok, Err}
use Rattle.host_pattern.specs.declared.word.Word.{Word}
use Rattle.gate_rules.specs.declared.fault.RuleFault.{RuleFault}
use Rattle.gate_rules.specs.declared.fault.Why.{Why}
use Rattle.gate_rules.specs.declared.fault.Why.TheVariants.{MissingValue, BadWord}
use Rattle.gate_rules.specs.declared.parsed_option.ParsedOption.{ParsedOption}
use Rattle.gate_rules.specs.declared.service.Service.{Service}
use Rattle.gate_rules.specs.Lists.{mapped}
use Rattle.gate_rules.specs.Options.{built, target_by}

-- a word where none may be
abbrev pub nothing_fault : List Word → Option Why
nothing_fault [] = None
nothing_fault (word ∷ words) = Some BadWord

-- whether the option is a target
abbrev pub is_target : ParsedOption → Bool
is_target option = is_some (target_by option)

-- whether there is a target among the options that these words are
unfoldable pub target_among : Service → List Word → Result Bool Why
target_among service words = mapped (λ builder. is_some builder.target) (built service words)

-- what is wrong with options that must have a target, by whether there is one
abbrev pub target_fault : Result Bool Why → Option Why
target_fault (Ok true) = None
target_fault (Ok false) = Some MissingValue
target_fault (Err why) = Some why

-- what is wrong with a line, with its number
abbrev pub numbered : ℕ → Option Why → Option RuleFault
numbered number None = None
numbered number (Some why) = Some (record { line = number; why = why })
