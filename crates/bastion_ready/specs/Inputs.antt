-- What a server needs, and what that is read as.
use Rattle.std.specs.Prelude.{◌≡◌, ℕ, Bool, false, List, [], ◌∷◌, ◌++◌, map, Result, Ok, Err, IfSome}
use Rattle.auth_machine.specs.History.{Origin}
use Rattle.auth_machine.specs.Opening.{records_in}
use Rattle.auth_machine.specs.Policy.{PolicyView, policy_of}
use Rattle.auth_records.specs.Spelling.{Fields}
use Rattle.bastion.specs.Inputs.{IsAllOf, OfText, is_of_line}
use Rattle.bastion.specs.Reading.{IsSaid, ruling_by}
use Rattle.bastion.specs.WorldView.{WorldView}
use Rattle.bastion.specs.declared.outcome.Refusal.{Refusal}
use Rattle.bastion.specs.declared.outcome.Refusal.TheVariants.{Record}
use Rattle.bastion_ready.specs.Words.{ServerLine, services_of}
use Rattle.fw_outside.specs.KeeperView.{NamedBytes}
use Rattle.gate_rules.specs.Reading.{RuleBook, rules_of}
use Rattle.gate_rules.specs.declared.fault.RuleFault.{RuleFault}
use Rattle.gate_rules.specs.declared.service.Service.{Service}
use Rattle.netperm_table.specs.Table.{table_of}
use Rattle.netperm_table.specs.declared.line.Line.{Line}
use Rattle.netperm_table.specs.declared.table_fault.TableFault.{TableFault}

-- ---- what the table says

abbrev pub ruled_by : Service → Result RuleBook RuleFault → Result (List (Service × RuleBook)) RuleFault → Result (List (Service × RuleBook)) RuleFault
ruled_by service (Ok rules) (Ok more) = Ok ((service, rules) ∷ more)
ruled_by service (Ok rules) (Err fault) = Err fault
ruled_by service (Err fault) more = Err fault

-- the rules of each service, or the first line that can't be read of the first service that has one
abbrev pub rules_of_each : List Service → List Line → Result (List (Service × RuleBook)) RuleFault
rules_of_each [] lines = Ok []
rules_of_each (service ∷ more) lines = ruled_by service (rules_of service lines) (rules_of_each more lines)

-- the services whose rules these are
abbrev pub whose : List (Service × RuleBook) → List Service
whose rules = map (λ ruled. ruled.0) rules

-- the rules of one more service were read; a private function says so
pub record AddsRules (service : Service) (lines : List Line) (old new : List (Service × RuleBook)) : Type 0 where
  pub rules : RuleBook
  pub read : rules_of service lines ≡ Ok rules
  pub is : new ≡ old ++ (service, rules) ∷ []

-- the rules of each service, and what the authentication server goes by
pub record SiteRules : Type 0 where
  pub rules : List (Service × RuleBook)
  pub policy : PolicyView

abbrev pub both_of : Result (List (Service × RuleBook)) RuleFault → Result PolicyView RuleFault → Result SiteRules RuleFault
both_of (Ok rules) (Ok policy) = Ok (record { rules = rules; policy = policy })
both_of (Ok rules) (Err fault) = Err fault
both_of (Err fault) policy = Err fault

-- both, or the first line that can't be read: of the services in order, and then of the authentication server
abbrev pub site_rules_of : List Service → List Line → Result SiteRules RuleFault
site_rules_of services lines = both_of (rules_of_each services lines) (policy_of lines)

-- these are what some one table says of the services and of the authentication server
pub record IsSaidOf (services : List Service) (site : SiteRules) : Type 0 where
  pub lines : List Line
  pub read : site_rules_of services lines ≡ Ok site

-- ---- and what the keeper has

pub record ServerInputs : Type 0 where
  pub site : SiteRules
  pub records : List Fields

-- what a history stands on
abbrev pub origin_of : ServerInputs → Origin
origin_of inputs = record { policy = inputs.site.policy; records = inputs.records }

abbrev pub with_records : SiteRules → Result (List Fields) (List ℕ × ℕ) → Result ServerInputs Refusal
with_records site (Ok records) = Ok (record { site = site; records = records })
with_records site (Err bad) = Err (Record bad.0 bad.1)

abbrev pub inputs_by : NamedBytes → Result SiteRules Refusal → Result ServerInputs Refusal
inputs_by loaded (Ok site) = with_records site (records_in loaded)
inputs_by loaded (Err refusal) = Err refusal

-- the inputs that a table, as it was read, and a keeper's records make for these services, or what refuses them
abbrev pub inputs_of : List Service → Result (List Line) TableFault → NamedBytes → Result ServerInputs Refusal
inputs_of services table loaded = inputs_by loaded (ruling_by (site_rules_of services) table)

-- a line of the table refuses, before the records are come to
abbrev pub is_of_table : Result ServerInputs Refusal → Bool
is_of_table (Ok inputs) = false
is_of_table (Err refusal) = is_of_line refusal

-- By one table and one list of records these are the inputs of a server, or this refuses it. The table is that of the text under
-- its name, where the files tell what they hold; the records are all that the keeper has, where they are come to.
pub record HasInputs (line : ServerLine) (read : Result ServerInputs Refusal) (world : WorldView) : Type 0 where
  pub table : Result (List Line) TableFault
  pub loaded : NamedBytes
  pub of_table : OfText world.files.holds line.table (λ text. table_of text ≡ table)
  pub is : inputs_of (services_of line.plan.posts) table loaded ≡ read
  pub of_keeper : is_of_table read ≡ false → IfSome world.inputs.keeper (IsAllOf loaded)

-- what the table says of a server's services can be read: by the text under the table's name, where the files tell
pub record HasSite (line : ServerLine) (world : WorldView) : Type 0 where
  pub site : SiteRules
  pub said : IsSaid (site_rules_of (services_of line.plan.posts)) line.table (Ok site) world.files
