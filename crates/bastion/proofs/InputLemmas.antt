-- From what the table says to the inputs of a command.
use Rattle.std.proofs.Common.{◌≡◌, ◌∙◌, ℕ, List, [], ◌∷◌, ap, refl, sym, subst, true, false}
use Rattle.std.specs.List.{list_any}
use Rattle.std.specs.Prelude.{Option, Some, Result, Ok, Err, IfSome}
use Rattle.auth_machine.specs.Opening.{ReadsAs, records_in}
use Rattle.auth_machine.specs.Policy.{PolicyView, policy_of}
use Rattle.auth_records.specs.Spelling.{Fields}
use Rattle.fw_outside.specs.KeeperView.{AreLoaded, KeeperView, NamedBytes}
use Rattle.gate_rules.specs.Reading.{RuleBook, rules_of}
use Rattle.gate_rules.specs.declared.fault.RuleFault.{RuleFault}
use Rattle.gate_rules.specs.declared.service.Service.{Service}
use Rattle.netperm_table.specs.declared.line.Line.{Line}
use Rattle.netperm_table.specs.declared.table_fault.TableFault.{TableFault}
use Rattle.bastion.specs.Inputs.{HasInputs, Inputs, IsAllOf, Need, Reading, book_needs, inputs_by, is_of_line, is_of_records, is_of_table, need_then, needs, needs_records, needs_then, no_inputs, with_policy, with_records, with_rules}
use Rattle.bastion.specs.Inputs.Need.{RulesOf, ThePolicy, TheRecords}
use Rattle.bastion.specs.Reading.{IsSaid, both_of, or_rule_fault, ruling_by, server_rules_of}
use Rattle.bastion.specs.WorldView.{WorldView}
use Rattle.bastion.specs.declared.outcome.Refusal.{Refusal}
use Rattle.bastion.specs.declared.outcome.Refusal.TheVariants.{Table, Rule, Record}
use Rattle.bastion.specs.declared.server_rules.ServerRules.{ServerRules}
use Rattle.bastion.specs.declared.words.Command.{Command}

-- ---- the rules of a service alone

abbrev of_rules : RuleBook → Inputs
of_rules rules = record no_inputs { rules = rules }

rules_ok : (read : Result RuleBook RuleFault) (rules : RuleBook) → or_rule_fault read ≡ Ok rules → with_rules no_inputs read ≡ Ok (of_rules rules)
rules_ok (Ok some) rules h = let same : some ≡ rules = cc in ap (λ (r : RuleBook). Ok (of_rules r)) same
rules_ok (Err fault) rules h = absurd (cc)

rules_err : (read : Result RuleBook RuleFault) (refusal : Refusal) → or_rule_fault read ≡ Err refusal → with_rules no_inputs read ≡ Err refusal
rules_err (Ok some) refusal h = absurd (cc)
rules_err (Err fault) refusal h = let same : Rule fault ≡ refusal = cc in ap (λ (r : Refusal). Err r) same

table_rules_ok : (service : Service) (read : Result (List Line) TableFault) (rules : RuleBook) → ruling_by (rules_of service) read ≡ Ok rules → inputs_by [] (RulesOf service ∷ []) read ≡ Ok (of_rules rules)
table_rules_ok service (Ok lines) rules h = rules_ok (rules_of service lines) rules h
table_rules_ok service (Err fault) rules h = absurd (cc)

table_rules_err : (service : Service) (read : Result (List Line) TableFault) (refusal : Refusal) → ruling_by (rules_of service) read ≡ Err refusal → inputs_by [] (RulesOf service ∷ []) read ≡ Err refusal
table_rules_err service (Ok lines) refusal h = rules_err (rules_of service lines) refusal h
table_rules_err service (Err fault) refusal h = let same : Table fault ≡ refusal = cc in ap (λ (r : Refusal). Err r) same

-- the command needs the rules of this service, and nothing else
pub record NeedsRules (command : Command) (service : Service) : Type 0 where
  pub only : needs command ≡ RulesOf service ∷ []
  pub no_records : needs_records command ≡ false

never_needed : {A : Type 0} (command : Command) → needs_records command ≡ false → needs_records command ≡ true → A
never_needed command without wanted = absurd (cc)

-- a reading of the table alone
abbrev pub alone : Result (List Line) TableFault → Reading
alone table = record { table = table; loaded = [] }

pub inputs_rules : (command : Command) (service : Service) → NeedsRules command service → (name : List ℕ) (rules : RuleBook) (world : WorldView) → (h : IsSaid (rules_of service) name (Ok rules) world.files) → HasInputs name command (alone h.table) (Ok (of_rules rules)) world
inputs_rules command service needed name rules world h = record {
  of_table = h.of_text;
  is = subst (λ (some : List Need). inputs_by [] some h.table ≡ Ok (of_rules rules)) (sym needed.only) (table_rules_ok service h.table rules h.is);
  of_keeper = λ wanted come. never_needed command needed.no_records wanted;
}

pub refuses_rules : (command : Command) (service : Service) → NeedsRules command service → (name : List ℕ) (refusal : Refusal) (world : WorldView) → (h : IsSaid (rules_of service) name (Err refusal) world.files) → HasInputs name command (alone h.table) (Err refusal) world
refuses_rules command service needed name refusal world h = record {
  of_table = h.of_text;
  is = subst (λ (some : List Need). inputs_by [] some h.table ≡ Err refusal) (sym needed.only) (table_rules_err service h.table refusal h.is);
  of_keeper = λ wanted come. never_needed command needed.no_records wanted;
}

-- ---- what a session over the records needs

abbrev server_inputs : ServerRules → List Fields → Inputs
server_inputs server_rules records = record { rules = server_rules.rules; policy = server_rules.policy; records = records }

abbrev folded : Result RuleBook RuleFault → Result PolicyView RuleFault → Result (List Fields) (List ℕ × ℕ) → Result Inputs Refusal
folded (Ok rules) (Ok policy) records = with_records (record no_inputs { rules = rules; policy = policy }) records
folded (Ok rules) (Err fault) records = Err (Rule fault)
folded (Err fault) policy records = Err (Rule fault)

fold_policy : (lines : List Line) (loaded : NamedBytes) (rules : RuleBook) (policy : Result PolicyView RuleFault)
    → need_then lines loaded TheRecords (with_policy (of_rules rules) policy) ≡ folded (Ok rules) policy (records_in loaded)
fold_policy lines loaded rules (Ok policy) = refl
fold_policy lines loaded rules (Err fault) = refl

fold_rules : (lines : List Line) (loaded : NamedBytes) (read : Result RuleBook RuleFault)
    → need_then lines loaded TheRecords (need_then lines loaded ThePolicy (with_rules no_inputs read)) ≡ folded read (policy_of lines) (records_in loaded)
fold_rules lines loaded (Ok rules) = fold_policy lines loaded rules (policy_of lines)
fold_rules lines loaded (Err fault) = refl

fold : (service : Service) (lines : List Line) (loaded : NamedBytes) → needs_then lines loaded (book_needs service) (Ok no_inputs) ≡ folded (rules_of service lines) (policy_of lines) (records_in loaded)
fold service lines loaded = fold_rules lines loaded (rules_of service lines)

both_ok : (read : Result RuleBook RuleFault) (policy : Result PolicyView RuleFault) (server_rules : ServerRules) (records : Result (List Fields) (List ℕ × ℕ)) → or_rule_fault (both_of read policy) ≡ Ok server_rules
    → folded read policy records ≡ with_records (server_inputs server_rules []) records
both_ok (Ok rules) (Ok policy) server_rules records h =
    let pair : ServerRules = record { rules = rules; policy = policy } in
    let same : pair ≡ server_rules = cc in ap (λ (s : ServerRules). with_records (server_inputs s []) records) same
both_ok (Ok rules) (Err fault) server_rules records h = absurd (cc)
both_ok (Err fault) policy server_rules records h = absurd (cc)

both_err : (read : Result RuleBook RuleFault) (policy : Result PolicyView RuleFault) (refusal : Refusal) (records : Result (List Fields) (List ℕ × ℕ)) → or_rule_fault (both_of read policy) ≡ Err refusal → folded read policy records ≡ Err refusal
both_err (Ok rules) (Ok policy) refusal records h = absurd (cc)
both_err (Ok rules) (Err fault) refusal records h = let same : Rule fault ≡ refusal = cc in ap (λ (r : Refusal). Err r) same
both_err (Err fault) policy refusal records h = let same : Rule fault ≡ refusal = cc in ap (λ (r : Refusal). Err r) same

table_server_ok : (service : Service) (loaded : NamedBytes) (read : Result (List Line) TableFault) (server_rules : ServerRules) → ruling_by (server_rules_of service) read ≡ Ok server_rules
    → inputs_by loaded (book_needs service) read ≡ with_records (server_inputs server_rules []) (records_in loaded)
table_server_ok service loaded (Ok lines) server_rules h = fold service lines loaded ∙ both_ok (rules_of service lines) (policy_of lines) server_rules (records_in loaded) h
table_server_ok service loaded (Err fault) server_rules h = absurd (cc)

table_server_err : (service : Service) (loaded : NamedBytes) (read : Result (List Line) TableFault) (refusal : Refusal) → ruling_by (server_rules_of service) read ≡ Err refusal → inputs_by loaded (book_needs service) read ≡ Err refusal
table_server_err service loaded (Ok lines) refusal h = fold service lines loaded ∙ both_err (rules_of service lines) (policy_of lines) refusal (records_in loaded) h
table_server_err service loaded (Err fault) refusal h = let same : Table fault ≡ refusal = cc in ap (λ (r : Refusal). Err r) same

kept_loaded : (keeper : Option KeeperView) (before : KeeperView) (loaded : NamedBytes) (after : KeeperView) → keeper ≡ Some before → AreLoaded loaded before after → IfSome keeper (IsAllOf loaded)
kept_loaded keeper before loaded after is are = let all : IsAllOf loaded before = record { ordered = are.ordered; told = are.told } in subst (λ (k : Option KeeperView). IfSome k (IsAllOf loaded)) (sym is) all

-- a reading of the table and of all that a keeper has
abbrev pub both_read : Result (List Line) TableFault → NamedBytes → Reading
both_read table loaded = record { table = table; loaded = loaded }

-- the rules and the policy by the table, and the records that the keeper has, or the first that can't be read
read_server : (command : Command) (service : Service) → needs command ≡ book_needs service → (name : List ℕ) (server_rules : ServerRules) (records : Result (List Fields) (List ℕ × ℕ)) (before after : KeeperView) (world : WorldView)
    → world.inputs.keeper ≡ Some before → (said : IsSaid (server_rules_of service) name (Ok server_rules) world.files) → (read : ReadsAs records before after)
    → HasInputs name command (both_read said.table read.loaded) (with_records (server_inputs server_rules []) records) world
read_server command service needed name server_rules records before after world keeper said read = record {
  of_table = said.of_text;
  is =
      subst (λ (some : List Need). inputs_by read.loaded some said.table ≡ with_records (server_inputs server_rules []) records) (sym needed)
      (table_server_ok service read.loaded said.table server_rules said.is ∙ ap (with_records (server_inputs server_rules [])) read.is);
  of_keeper = λ wanted come. kept_loaded world.inputs.keeper before read.loaded after keeper read.are;
}

pub inputs_server : (command : Command) (service : Service) → needs command ≡ book_needs service → (name : List ℕ) (server_rules : ServerRules) (records : List Fields) (before after : KeeperView) (world : WorldView) → world.inputs.keeper ≡ Some before
    → (said : IsSaid (server_rules_of service) name (Ok server_rules) world.files) → (read : ReadsAs (Ok records) before after) → HasInputs name command (both_read said.table read.loaded) (Ok (server_inputs server_rules records)) world
inputs_server command service needed name server_rules records before after world keeper said read = read_server command service needed name server_rules (Ok records) before after world keeper said read

pub refuses_record : (command : Command) (service : Service) → needs command ≡ book_needs service → (name : List ℕ) (server_rules : ServerRules) (user : List ℕ) (at : ℕ) (before after : KeeperView) (world : WorldView) → world.inputs.keeper ≡ Some before
    → (said : IsSaid (server_rules_of service) name (Ok server_rules) world.files) → (read : ReadsAs (Err (user, at)) before after) → HasInputs name command (both_read said.table read.loaded) (Err (Record user at)) world
refuses_record command service needed name server_rules user at before after world keeper said read = read_server command service needed name server_rules (Err (user, at)) before after world keeper said read

of_no_records : {A : Type 0} (refusal : Refusal) → is_of_line refusal ≡ true → is_of_table (Err refusal) ≡ false → A
of_no_records refusal line record_ = absurd (cc)

pub refuses_server : (command : Command) (service : Service) → needs command ≡ book_needs service → (name : List ℕ) (refusal : Refusal) (world : WorldView) → is_of_line refusal ≡ true → (said : IsSaid (server_rules_of service) name (Err refusal) world.files)
    → HasInputs name command (alone said.table) (Err refusal) world
refuses_server command service needed name refusal world of_line said = record {
  of_table = said.of_text;
  is = subst (λ (some : List Need). inputs_by [] some said.table ≡ Err refusal) (sym needed) (table_server_err service [] said.table refusal said.is);
  of_keeper = λ wanted come. of_no_records refusal of_line come;
}

-- it needs the records
pub needs_them : (command : Command) (service : Service) → needs command ≡ book_needs service → needs_records command ≡ true
needs_them command service needed = ap (list_any is_of_records) needed
