-- What the lines of a service say.
use Rattle.std.specs.Prelude.{◌≡◌, ℕ, Bool, true, false, ◌||◌, ◌==◌, is_none, List, [], ◌∷◌, ◌++◌, filter, Option, Some, None, Result, Ok, Err, codes, if◌then◌else◌}
use Rattle.std.specs.List.{list_any}
use Rattle.std.specs.Str.{bytes_eq}
use Rattle.fw_types.specs.Port.{port_of}
use Rattle.host_pattern.specs.Pattern.{Written}
use Rattle.host_pattern.specs.declared.word.Word.{Word}
use Rattle.netperm_table.specs.declared.line.Line.{Line}
use Rattle.gate_rules.specs.declared.attribute.Attribute.{Attribute}
use Rattle.gate_rules.specs.declared.attribute.Attribute.TheVariants as attribute
use Rattle.gate_rules.specs.declared.fault.RuleFault.{RuleFault}
use Rattle.gate_rules.specs.declared.fault.RulesFault.{RulesFault}
use Rattle.gate_rules.specs.declared.fault.RulesFault.TheVariants as faults
use Rattle.gate_rules.specs.declared.fault.Why.{Why}
use Rattle.gate_rules.specs.declared.fault.Why.TheVariants.{MissingValue, BadNumber}
use Rattle.gate_rules.specs.declared.options.Options.{Options}
use Rattle.gate_rules.specs.declared.rule.Rule.{Rule}
use Rattle.gate_rules.specs.declared.line_effect.LineEffect.{LineEffect}
use Rattle.gate_rules.specs.declared.line_effect.LineEffect.TheVariants.{Nothing, Ruled, Set}
use Rattle.gate_rules.specs.declared.service.Service.{Service}
use Rattle.gate_rules.specs.declared.setting.Assigned.{Assigned}
use Rattle.gate_rules.specs.declared.setting.Setting.{Setting}
use Rattle.gate_rules.specs.Attribute.{attribute_of}
use Rattle.gate_rules.specs.Lists.{hosts_alone, hosts_in, mapped, options_in, patterns_of}
use Rattle.gate_rules.specs.Operation.{read_operation}
use Rattle.gate_rules.specs.Options.{no_options, options_of}
use Rattle.gate_rules.specs.Service.{is_smap, keyword, plug_port}
use Rattle.gate_rules.specs.Settings.{set_to}

-- the rules of a service in the order of their lines, and what lines set
pub record RuleBook : Type 0 where
  pub rules : List Rule
  pub settings : List Assigned

-- a line is the service's where one of its keywords is the service's or a star
abbrev pub is_of : List ℕ → Line → Bool
is_of key line = list_any (λ word. bytes_eq word key || bytes_eq word (codes "*")) line.keywords

-- a line that permits or denies these hosts; its options stand after its hosts, and so do their faults
abbrev pub ruled : ℕ → Bool → Result (List Written) Why → Result Options Why → Result LineEffect Why
ruled number permits (Err why) options = Err why
ruled number permits (Ok hosts) (Err why) = Err why
ruled number permits (Ok hosts) (Ok options) = Ok (Ruled (record { line = number; permits = permits; hosts = hosts; options = options }))

abbrev pub permit_effect : Service → ℕ → List Word → Result LineEffect Why
permit_effect service number words = ruled number true (patterns_of (hosts_in words)) (options_of service 0 (options_in words))

abbrev pub deny_effect : ℕ → List Word → Result LineEffect Why
deny_effect number words = ruled number false (hosts_alone words) (Ok no_options)

-- a target must be there, and is missed at the end of the line
abbrev pub with_target : Result Options Why → Result Options Why
with_target (Err why) = Err why
with_target (Ok options) = if is_none options.plug_to then Err MissingValue else Ok options

-- a line for another port is read, and says nothing
abbrev pub where_ours : Bool → LineEffect → LineEffect
where_ours true effect = effect
where_ours false effect = Nothing

-- the rule of a line of the plug, whichever port it is for
abbrev pub plug_rule : Service → ℕ → ℕ → List Word → Result LineEffect Why
plug_rule service number port words = ruled number true (patterns_of (hosts_in words)) (with_target (options_of service port (options_in words)))

abbrev pub plug_effect : Service → ℕ → Option ℕ → List Word → Result LineEffect Why
plug_effect service number None words = Err BadNumber
plug_effect service number (Some port) words = mapped (where_ours (port == plug_port service)) (plug_rule service number port words)

-- a port, hosts and options
abbrev pub port_effect : Service → ℕ → List Word → Result LineEffect Why
port_effect service number [] = Err MissingValue
port_effect service number (word ∷ words) = plug_effect service number (port_of word.text) words

abbrev pub setting_effect : Setting → ℕ → List Word → Result LineEffect Why
setting_effect which number words = mapped (λ value. Set (record { which = which; value = value; line = number })) (set_to which words)

abbrev pub operation_effect : List Word → Result LineEffect Why
operation_effect words = mapped (λ hosts. Nothing) (read_operation words)

-- what a line says by its attribute
abbrev pub effect_as : Attribute → Service → ℕ → List Word → Result LineEffect Why
effect_as attribute.Permit service number words = permit_effect service number words
effect_as attribute.Deny service number words = deny_effect number words
effect_as attribute.Port service number words = port_effect service number words
effect_as (attribute.Sets which) service number words = setting_effect which number words
effect_as attribute.Operation service number words = operation_effect words
effect_as attribute.Other service number words = Ok Nothing

-- what a line says to a service, or why it can't be read
unfoldable pub effect_of : Service → Line → Result LineEffect Why
effect_of service line = effect_as (attribute_of service line.attribute) service line.number line.words

-- what some lines say, and then others
abbrev pub with_book : RuleBook → Result RuleBook RuleFault → Result RuleBook RuleFault
with_book some (Err fault) = Err fault
with_book some (Ok more) = Ok (record { rules = some.rules ++ more.rules; settings = some.settings ++ more.settings })

-- what some lines say, and then one more
abbrev pub and_effect : RuleBook → LineEffect → RuleBook
and_effect book Nothing = book
and_effect book (Ruled rule) = record book { rules = book.rules ++ rule ∷ [] }
and_effect book (Set assigned) = record book { settings = book.settings ++ assigned ∷ [] }

-- what one line says, before what the others say
abbrev pub with_effect : LineEffect → RuleBook → RuleBook
with_effect Nothing book = book
with_effect (Ruled rule) book = record book { rules = rule ∷ book.rules }
with_effect (Set assigned) book = record book { settings = assigned ∷ book.settings }

-- a line, and then the lines after it; its fault comes before theirs
abbrev pub effect_then : ℕ → Result LineEffect Why → Result RuleBook RuleFault → Result RuleBook RuleFault
effect_then number (Err why) more = Err (record { line = number; why = why })
effect_then number (Ok effect) (Err fault) = Err fault
effect_then number (Ok effect) (Ok book) = Ok (with_effect effect book)

-- what these lines say, or the first that can't be read
abbrev pub book_of : Service → List Line → Result RuleBook RuleFault
book_of service [] = Ok (record { rules = []; settings = [] })
book_of service (line ∷ lines) = effect_then line.number (effect_of service line) (book_of service lines)

-- the line that permits every host
abbrev pub everyone : Rule
everyone = record { line = 0; permits = true; hosts = record { negated = false; body = codes "*" } ∷ []; options = no_options }

-- for `smap` a line with number 0 permits every host after the last line
abbrev pub last_rules : Bool → List Rule
last_rules true = everyone ∷ []
last_rules false = []

abbrev pub closed : List Rule → Result RuleBook RuleFault → Result RuleBook RuleFault
closed last (Err fault) = Err fault
closed last (Ok book) = Ok (record book { rules = book.rules ++ last })

-- what the table says to the service, or the first of the service's lines that can't be read
abbrev pub rules_of : Service → List Line → Result RuleBook RuleFault
rules_of service lines = closed (last_rules (is_smap service)) (book_of service (filter (is_of (keyword service)) lines))

-- a fault of the rules is the one that the lines have, but for want of memory
abbrev pub IsFaultIn : Result RuleBook RuleFault → RulesFault → Type 0
IsFaultIn read (faults.Rule fault) = read ≡ Err fault
IsFaultIn read faults.NoMemory = Unit {0}
