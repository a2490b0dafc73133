-- What a command needs, and what that is read as: the inputs of its work, or the first thing that can't be read.
use Rattle.std.specs.Prelude.{◌≡◌, ℕ, Bool, true, false, List, [], ◌∷◌, Option, Some, None, Result, Ok, Err, IfSome}
use Rattle.std.specs.List.{list_any}
use Rattle.auth_machine.specs.Opening.{records_in}
use Rattle.auth_machine.specs.Policy.{PolicyView, policy_of}
use Rattle.auth_records.specs.Spelling.{Fields}
use Rattle.fw_outside.specs.FilesView.{bytes_under}
use Rattle.fw_outside.specs.KeeperView.{AreSame, KeeperView, NamedBytes, entry_name}
use Rattle.fw_types.specs.Keyed.{Ascends}
use Rattle.gate_rules.specs.Reading.{RuleBook, rules_of}
use Rattle.gate_rules.specs.declared.fault.RuleFault.{RuleFault}
use Rattle.gate_rules.specs.declared.service.Service.{Service}
use Rattle.gate_rules.specs.declared.service.Service.TheVariants as services
use Rattle.netperm_table.specs.Table.{table_of}
use Rattle.netperm_table.specs.declared.line.Line.{Line}
use Rattle.netperm_table.specs.declared.table_fault.TableFault.{TableFault}
use Rattle.bastion.specs.WorldView.{WorldView}
use Rattle.bastion.specs.declared.outcome.Refusal.{Refusal}
use Rattle.bastion.specs.declared.outcome.Refusal.TheVariants.{Table, Rule, Record, Slot, Otp}
use Rattle.bastion.specs.declared.words.Authorities.{Authorities}
use Rattle.bastion.specs.declared.words.Authorities.TheVariants.{Records, Remote}
use Rattle.bastion.specs.declared.words.Command.{Command}
use Rattle.bastion.specs.declared.words.Command.TheVariants as commands
use Rattle.bastion.specs.Gateways.{gateway_service}

-- ---- what is needed

-- the rules of a service, what the authentication server goes by, the users' records
pub data Need : Type 0 where
  RulesOf : (service : Service) → Need
  ThePolicy : Need
  TheRecords : Need

-- what a session over a book of the records needs
abbrev pub book_needs : Service → List Need
book_needs service = RulesOf service ∷ ThePolicy ∷ TheRecords ∷ []

-- what one of a gateway needs: where a server elsewhere knows the users, the rules alone
abbrev pub gateway_needs : Authorities → Service → List Need
gateway_needs Records service = book_needs service
gateway_needs Remote service = RulesOf service ∷ []

-- in the order in which it is read
abbrev pub needs : Command → List Need
needs (commands.Netacl query) = RulesOf query.service ∷ []
needs (commands.NetaclRun query) = RulesOf query.service ∷ []
needs (commands.Table query) = RulesOf query.service ∷ []
needs (commands.Authsrv client) = book_needs services.Authsrv
needs (commands.PlugGw caller) = RulesOf (services.PlugGw caller.port) ∷ []
needs (commands.Gateway kind authorities peer) = gateway_needs authorities (gateway_service kind)
needs (commands.Smap peer) = RulesOf services.Smap ∷ []

abbrev pub is_of_records : Need → Bool
is_of_records TheRecords = true
is_of_records _ = false

abbrev pub needs_records : Command → Bool
needs_records command = list_any is_of_records (needs command)

-- ---- what that is read as

-- what a command doesn't need stays empty
pub record Inputs : Type 0 where
  pub rules : RuleBook
  pub policy : PolicyView
  pub records : List Fields

abbrev pub no_inputs : Inputs
no_inputs = record {
  rules = record { rules = []; settings = [] };
  policy = record { bad_sleep = None; no_bogus = false; operations = [] };
  records = [];
}

abbrev pub with_rules : Inputs → Result RuleBook RuleFault → Result Inputs Refusal
with_rules inputs (Ok rules) = Ok (record inputs { rules = rules })
with_rules inputs (Err fault) = Err (Rule fault)

abbrev pub with_policy : Inputs → Result PolicyView RuleFault → Result Inputs Refusal
with_policy inputs (Ok policy) = Ok (record inputs { policy = policy })
with_policy inputs (Err fault) = Err (Rule fault)

abbrev pub with_records : Inputs → Result (List Fields) (List ℕ × ℕ) → Result Inputs Refusal
with_records inputs (Ok records) = Ok (record inputs { records = records })
with_records inputs (Err bad) = Err (Record bad.0 bad.1)

-- a need, read from the lines of a table and from all that a keeper has
abbrev pub read_need : List Line → NamedBytes → Need → Inputs → Result Inputs Refusal
read_need lines loaded (RulesOf service) inputs = with_rules inputs (rules_of service lines)
read_need lines loaded ThePolicy inputs = with_policy inputs (policy_of lines)
read_need lines loaded TheRecords inputs = with_records inputs (records_in loaded)

-- the first need that can't be read refuses
abbrev pub need_then : List Line → NamedBytes → Need → Result Inputs Refusal → Result Inputs Refusal
need_then lines loaded need (Ok inputs) = read_need lines loaded need inputs
need_then lines loaded need (Err refusal) = Err refusal

abbrev pub needs_then : List Line → NamedBytes → List Need → Result Inputs Refusal → Result Inputs Refusal
needs_then lines loaded [] read = read
needs_then lines loaded (need ∷ more) read = needs_then lines loaded more (need_then lines loaded need read)

abbrev pub inputs_by : NamedBytes → List Need → Result (List Line) TableFault → Result Inputs Refusal
inputs_by loaded wanted (Ok lines) = needs_then lines loaded wanted (Ok no_inputs)
inputs_by loaded wanted (Err fault) = Err (Table fault)

-- what a run read: the lines of the table or the fault of the first one that can't be read, and all that the keeper had
pub record Reading : Type 0 where
  pub table : Result (List Line) TableFault
  pub loaded : NamedBytes

-- the inputs that a reading makes for a command, or what refuses them
abbrev pub read_as : Command → Reading → Result Inputs Refusal
read_as command reading = inputs_by reading.loaded (needs command) reading.table

-- ---- where it is read

-- a fact of the text; and where there is none, `missing`
abbrev pub OfHeld : Type 0 → Option (List ℕ) → (List ℕ → Type 0) → Type 0
OfHeld missing None P = missing
OfHeld missing (Some text) P = P text

-- the same of the text under this name, where the files tell what they hold
abbrev pub OfTextOr : Type 0 → Option (List (List ℕ × List ℕ)) → List ℕ → (List ℕ → Type 0) → Type 0
OfTextOr missing None name P = Unit {0}
OfTextOr missing (Some files) name P = OfHeld missing (bytes_under files name) P

-- a text is under this name, with this fact, where the files tell what they hold
abbrev pub OfText : Option (List (List ℕ × List ℕ)) → List ℕ → (List ℕ → Type 0) → Type 0
OfText holds name P = OfTextOr ⊥ holds name P

-- a line of the table refuses, before the records are come to
abbrev pub is_of_line : Refusal → Bool
is_of_line (Table fault) = true
is_of_line (Rule fault) = true
is_of_line (Record name at) = false
is_of_line (Slot slot at) = false
is_of_line (Otp refusal) = false

abbrev pub is_of_table : Result Inputs Refusal → Bool
is_of_table (Ok inputs) = false
is_of_table (Err refusal) = is_of_line refusal

-- this is all that a keeper has, in the order of the names; of one that doesn't tell, whatever it gave
pub record IsAllOf (loaded : NamedBytes) (keeper : KeeperView) : Type 0 where
  pub ordered : Ascends entry_name loaded
  pub told : IfSome keeper.table (AreSame loaded)

-- By this reading these are the inputs of a command, or this refuses it. The table is that of the text under its name, where the
-- files tell what they hold; the records are all that the keeper has, where they are needed and come to.
pub record HasInputs (name : List ℕ) (command : Command) (reading : Reading) (read : Result Inputs Refusal) (world : WorldView) : Type 0 where
  pub of_table : OfText world.files.holds name (λ text. table_of text ≡ reading.table)
  pub is : read_as command reading ≡ read
  pub of_keeper : needs_records command ≡ true → is_of_table read ≡ false → IfSome world.inputs.keeper (IsAllOf reading.loaded)
