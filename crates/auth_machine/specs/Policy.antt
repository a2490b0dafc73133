-- What the table says to the authentication server.
use Rattle.std.specs.Prelude.{◌≡◌, ℕ, Bool, false, ◌==◌, List, filter, map, Option, Some, None, Result, Ok, Err}
use Rattle.std.specs.Option.{option_map}
use Rattle.gate_rules.specs.OperationHosts.{is_about_operations}
use Rattle.gate_rules.specs.Reading.{RuleBook, rules_of}
use Rattle.gate_rules.specs.Verdict.{setting_of}
use Rattle.gate_rules.specs.declared.fault.RuleFault.{RuleFault}
use Rattle.gate_rules.specs.declared.service.Service.TheVariants.{Authsrv}
use Rattle.gate_rules.specs.declared.setting.Setting.TheVariants.{BadSleep, NoBogus}
use Rattle.netperm_table.specs.declared.line.Line.{Line}
use Rattle.auth_machine.specs.Operations.{operation_lines}
use Rattle.auth_machine.specs.declared.operation.OperationLine.{OperationLine}

-- the seconds of the first `badsleep`, if any; whether the first `nobogus` is true; and the lines about operations
pub record PolicyView : Type 0 where
  pub bad_sleep : Option ℕ
  pub no_bogus : Bool
  pub operations : List OperationLine

-- the value is 1, where a line sets it
abbrev pub is_one : Option (ℕ × ℕ) → Bool
is_one None = false
is_one (Some set) = set.0 == 1

abbrev pub policy_by : List Line → Result RuleBook RuleFault → Result PolicyView RuleFault
policy_by lines (Err fault) = Err fault
policy_by lines (Ok book) = Ok (record {
  bad_sleep = option_map (λ set. set.0) (setting_of book BadSleep);
  no_bogus = is_one (setting_of book NoBogus);
  operations = operation_lines lines;
})

-- what the table says, or the first line of `authsrv` that can't be read
abbrev pub policy_of : List Line → Result PolicyView RuleFault
policy_of lines = policy_by lines (rules_of Authsrv lines)

-- each line of `authsrv` about operations has its part in the policy, in order, and there is no other
abbrev pub HasEach : List Line → PolicyView → Type 0
HasEach lines policy = map (λ said. said.number) policy.operations ≡ map (λ line. line.number) (filter is_about_operations lines)
