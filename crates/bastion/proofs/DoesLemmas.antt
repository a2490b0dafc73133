-- From the rules that were found to what a command comes to.
use Rattle.std.proofs.Common.{◌≡◌, ◌∙◌, ℕ, List, ap, refl, sym, subst, inl, inr, ◌⊎◌, Bool, true, false}
use Rattle.std.specs.Prelude.{Some, Result, Ok, Err, not}
use Rattle.auth_machine.specs.Book.{BookView}
use Rattle.auth_machine.specs.History.{Origin}
use Rattle.auth_machine.specs.Policy.{PolicyView}
use Rattle.fw_outside.specs.FilesView.{FilesView}
use Rattle.fw_outside.specs.KeeperView.{IsCalled, KeeperView}
use Rattle.fw_types.specs.declared.peer.Peer.{Peer}
use Rattle.gate_rules.specs.Reading.{RuleBook, rules_of}
use Rattle.gate_rules.specs.Verdict.{verdict_of}
use Rattle.gate_rules.specs.declared.fault.RuleFault.{RuleFault}
use Rattle.gate_rules.specs.declared.service.Service.{Service}
use Rattle.gate_rules.specs.declared.service.Service.TheVariants as services
use Rattle.gate_rules.specs.declared.verdict.Verdict.{Verdict}
use Rattle.gate_rules.specs.declared.verdict.Verdict.TheVariants.{Permit, Deny}
use Rattle.netperm_table.specs.declared.line.Line.{Line}
use Rattle.bastion.specs.Deciding.{Decides, DecidesRun, Reports, RunsBy}
use Rattle.bastion.specs.Inputs.{HasInputs, Inputs, Reading, needs_records, no_inputs}
use Rattle.bastion.specs.Outcome.{verdict_status}
use Rattle.bastion.specs.Linking.{Linked}
use Rattle.bastion.specs.Mailing.{Mailed}
use Rattle.bastion.specs.Reading.{Finds, Misread, Unfound, is_early, server_rules_of}
use Rattle.bastion.specs.Run.{AsksTable, DoesFor, Lacks, ReadsOnly, Stops, verdict_for}
use Rattle.bastion.specs.Serving.{book_at_first, most_entries, origin_of}
use Rattle.bastion.specs.SessionSteps.{OpenedBy, Opens, StopsEach, Unopened}
use Rattle.bastion.specs.TableReport.{report_text}
use Rattle.bastion.specs.Texts.{print_text}
use Rattle.bastion.specs.Works.{Announced, Shown, Works}
use Rattle.bastion.specs.WorldView.{SessionInputs, WorldView}
use Rattle.bastion.specs.declared.outcome.Device.TheVariants as device
use Rattle.bastion.specs.declared.outcome.Outcome.{Outcome}
use Rattle.bastion.specs.declared.outcome.Outcome.TheVariants.{Unread, Failed, NoMemory}
use Rattle.bastion.specs.declared.outcome.Refusal.{Refusal}
use Rattle.bastion.specs.declared.outcome.Refusal.TheVariants.{Record}
use Rattle.bastion.specs.declared.outcome.Step.{Step}
use Rattle.bastion.specs.declared.outcome.Step.TheVariants as steps
use Rattle.bastion.specs.declared.server_rules.ServerRules.{ServerRules}
use Rattle.bastion.specs.declared.words.Caller.{Caller}
use Rattle.bastion.specs.declared.words.Command.{Command}
use Rattle.bastion.specs.declared.words.Command.TheVariants as commands
use Rattle.bastion.specs.declared.words.Query.{Query}
use Rattle.bastion.proofs.InputLemmas.{NeedsRules, alone, both_read, inputs_rules, inputs_server, needs_them, refuses_record, refuses_rules, refuses_server}

-- only the files were asked
pub record AskedFiles (old new : WorldView) : Type 0 where
  pub output : new.output ≡ old.output
  pub logs : new.logs ≡ old.logs
  pub inputs : new.inputs ≡ old.inputs

only_files : (name : List ℕ) (old new : WorldView) → AsksTable name old.files new.files → AskedFiles old new → ReadsOnly name false old new
only_files name old new asks h = record { files = asks; inputs = h.inputs; output = h.output; logs = h.logs }

lacks_early : (name : List ℕ) (command : Command) (step : Step) (old new : WorldView) → is_early step ≡ true → ReadsOnly name false old new → Lacks name command step old new
lacks_early name command steps.Print old new early is = absurd (cc)
lacks_early name command steps.Records old new early is = absurd (cc)
lacks_early name command steps.Start old new early is = is
lacks_early name command steps.Table old new early is = is
lacks_early name command steps.Rules old new early is = is
lacks_early name command steps.Policy old new early is = is
lacks_early name command steps.Drill old new early is = absurd (cc)
lacks_early name command steps.Slots old new early is = absurd (cc)
lacks_early name command steps.Round old new early is = absurd (cc)
lacks_early name command steps.Dictionary old new early is = absurd (cc)

-- what can't be found stops the command
stops_by : {A : Type 0} (said : List Line → Result A RuleFault) (name : List ℕ) (command : Command) (outcome : Outcome) (old new : WorldView) → Unfound said name outcome old.files new.files → AskedFiles old new
    → ((refusal : Refusal) → (found : Misread said name refusal old.files new.files) → HasInputs name command (alone found.by.table) (Err refusal) old) → Stops name command outcome old new
stops_by said name command (Unread refusal) old new h asked inputs = record {
  reading = alone h.by.table;
  read = inputs refusal h;
  only = subst (λ (b : Bool). ReadsOnly name (not b) old new) (sym h.of_line) (only_files name old new h.asks asked);
}
stops_by said name command (Failed device.Table) old new h asked inputs = record { failed = h; output = asked.output; logs = asked.logs; inputs = asked.inputs }
stops_by said name command (NoMemory step) old new h asked inputs = lacks_early name command step old new h.early (only_files name old new h.asks asked)
stops_by said name command outcome old new h asked inputs = absurd h

pub stops_rules : (name : List ℕ) (command : Command) (service : Service) → NeedsRules command service → (outcome : Outcome) (old new : WorldView) → Unfound (rules_of service) name outcome old.files new.files → AskedFiles old new → DoesFor name command outcome old new
stops_rules name command service needed outcome old new h asked =
    inl (stops_by (rules_of service) name command outcome old new h asked (λ refusal found. refuses_rules command service needed name refusal old found.by))

-- ---- by the rules of a service

only_then : (name : List ℕ) (records : Bool) (old mid new : WorldView) → ReadsOnly name records old mid → new ≡ mid → ReadsOnly name records old new
only_then name records old mid new only is = subst (λ (w : WorldView). ReadsOnly name records old w) (sym is) only

-- a permission that wants memory, or the work
permitted_does : (name : List ℕ) (command : Command) (reading : Reading) (inputs : Inputs) (outcome : Outcome) (old mid new : WorldView) → HasInputs name command reading (Ok inputs) old → ReadsOnly name (needs_records command) old mid → verdict_status (verdict_for command inputs) ≡ 0
    → ((outcome ≡ NoMemory steps.Print) × (new ≡ mid)) ⊎ Works command inputs outcome mid new → DoesFor name command outcome old new
permitted_does name command reading inputs outcome old mid new read only permitted (inl lacks) =
    subst (λ (o : Outcome). DoesFor name command o old new) (sym lacks.0) (inl (record { reading = reading; inputs = inputs; read = read; permitted = permitted; only = only_then name (needs_records command) old mid new only lacks.1 }))
permitted_does name command reading inputs outcome old mid new read only permitted (inr works) = inr (record { reading = reading; inputs = inputs; read = read; middle = mid; only = only; works = works })

decided_does : (name : List ℕ) (query : Query) (reading : Reading) (inputs : Inputs) (verdict : Verdict) (outcome : Outcome) (old mid new : WorldView) → HasInputs name (commands.Netacl query) reading (Ok inputs) old → ReadsOnly name false old mid → verdict ≡ verdict_of inputs.rules query.peer
    → Decides query verdict inputs.rules outcome mid new → DoesFor name (commands.Netacl query) outcome old new
decided_does name query reading inputs (Permit line) outcome old mid new read only is h =
    let Done : Verdict → Type 0 = λ v. ((outcome ≡ NoMemory steps.Print) × (new ≡ mid)) ⊎ Announced query v (print_text inputs.rules v) outcome mid new in
    permitted_does name (commands.Netacl query) reading inputs outcome old mid new read only (ap verdict_status (sym is))
    (subst Done is h)
decided_does name query reading inputs (Deny line) outcome old mid new read only is h =
    let Done : Verdict → Type 0 = λ v. Announced query v (print_text inputs.rules v) outcome mid new in
    inr (record { reading = reading; inputs = inputs; read = read; middle = mid; only = only; works = subst Done is h })

started_does : (name : List ℕ) (query : Query) (reading : Reading) (inputs : Inputs) (verdict : Verdict) (outcome : Outcome) (old mid new : WorldView) → HasInputs name (commands.NetaclRun query) reading (Ok inputs) old → ReadsOnly name false old mid → verdict ≡ verdict_of inputs.rules query.peer
    → DecidesRun query verdict inputs.rules outcome mid new → DoesFor name (commands.NetaclRun query) outcome old new
started_does name query reading inputs (Permit line) outcome old mid new read only is h =
    let Done : Verdict → Type 0 = λ v. ((outcome ≡ NoMemory steps.Print) × (new ≡ mid)) ⊎ RunsBy query v inputs.rules outcome mid new in
    permitted_does name (commands.NetaclRun query) reading inputs outcome old mid new read only (ap verdict_status (sym is))
    (subst Done is h)
started_does name query reading inputs (Deny line) outcome old mid new read only is h =
    let Done : Verdict → Type 0 = λ v. RunsBy query v inputs.rules outcome mid new in
    inr (record { reading = reading; inputs = inputs; read = read; middle = mid; only = only; works = subst Done is h })

reported_does : (name : List ℕ) (query : Query) (reading : Reading) (inputs : Inputs) (verdict : Verdict) (outcome : Outcome) (old mid new : WorldView) → HasInputs name (commands.Table query) reading (Ok inputs) old → ReadsOnly name false old mid → verdict ≡ verdict_of inputs.rules query.peer
    → Reports verdict inputs.rules outcome mid new → DoesFor name (commands.Table query) outcome old new
reported_does name query reading inputs (Permit line) outcome old mid new read only is h =
    let Done : Verdict → Type 0 = λ v. ((outcome ≡ NoMemory steps.Print) × (new ≡ mid)) ⊎ Shown v (report_text inputs.rules v) outcome mid new in
    permitted_does name (commands.Table query) reading inputs outcome old mid new read only (ap verdict_status (sym is))
    (subst Done is h)
reported_does name query reading inputs (Deny line) outcome old mid new read only is h =
    let Done : Verdict → Type 0 = λ v. Shown v (report_text inputs.rules v) outcome mid new in
    inr (record { reading = reading; inputs = inputs; read = read; middle = mid; only = only; works = subst Done is h })

pub needs_netacl : (query : Query) → NeedsRules (commands.Netacl query) query.service
needs_netacl query = record { only = refl; no_records = refl }

pub needs_netacl_run : (query : Query) → NeedsRules (commands.NetaclRun query) query.service
needs_netacl_run query = record { only = refl; no_records = refl }

pub needs_table : (query : Query) → NeedsRules (commands.Table query) query.service
needs_table query = record { only = refl; no_records = refl }

pub needs_plug : (caller : Caller) → NeedsRules (commands.PlugGw caller) (services.PlugGw caller.port)
needs_plug caller = record { only = refl; no_records = refl }

pub needs_smap : (peer : Peer) → NeedsRules (commands.Smap peer) services.Smap
needs_smap peer = record { only = refl; no_records = refl }

pub mailed_does : (name : List ℕ) (peer : Peer) (rules : RuleBook) (outcome : Outcome) (old mid new : WorldView) → Finds (rules_of services.Smap) name (Ok rules) old.files mid.files → AskedFiles old mid
    → Mailed peer (record no_inputs { rules = rules }) outcome mid new → DoesFor name (commands.Smap peer) outcome old new
mailed_does name peer rules outcome old mid new found asked mailed =
    inr (record {
      reading = alone found.by.table;
      inputs = record no_inputs { rules = rules };
      read = inputs_rules (commands.Smap peer) services.Smap (needs_smap peer) name rules old found.by;
      middle = mid;
      only = only_files name old mid found.asks asked;
      works = mailed;
    })

pub linked_does : (name : List ℕ) (caller : Caller) (rules : RuleBook) (outcome : Outcome) (old mid new : WorldView) → Finds (rules_of (services.PlugGw caller.port)) name (Ok rules) old.files mid.files → AskedFiles old mid
    → Linked caller (record no_inputs { rules = rules }) outcome mid new → DoesFor name (commands.PlugGw caller) outcome old new
linked_does name caller rules outcome old mid new found asked linked =
    inr (record {
      reading = alone found.by.table;
      inputs = record no_inputs { rules = rules };
      read = inputs_rules (commands.PlugGw caller) (services.PlugGw caller.port) (needs_plug caller) name rules old found.by;
      middle = mid;
      only = only_files name old mid found.asks asked;
      works = linked;
    })

pub netacl_does : (name : List ℕ) (query : Query) (rules : RuleBook) (outcome : Outcome) (old mid new : WorldView) → Finds (rules_of query.service) name (Ok rules) old.files mid.files → AskedFiles old mid
    → Decides query (verdict_of rules query.peer) rules outcome mid new → DoesFor name (commands.Netacl query) outcome old new
netacl_does name query rules outcome old mid new found asked decides =
    decided_does name query _ _ (verdict_of rules query.peer) outcome old mid new (inputs_rules (commands.Netacl query) query.service (needs_netacl query) name rules old found.by) (only_files name old mid found.asks asked) refl decides

pub netacl_run_does : (name : List ℕ) (query : Query) (rules : RuleBook) (outcome : Outcome) (old mid new : WorldView) → Finds (rules_of query.service) name (Ok rules) old.files mid.files → AskedFiles old mid
    → DecidesRun query (verdict_of rules query.peer) rules outcome mid new → DoesFor name (commands.NetaclRun query) outcome old new
netacl_run_does name query rules outcome old mid new found asked decides =
    started_does name query _ _ (verdict_of rules query.peer) outcome old mid new (inputs_rules (commands.NetaclRun query) query.service (needs_netacl_run query) name rules old found.by) (only_files name old mid found.asks asked) refl decides

pub table_does : (name : List ℕ) (query : Query) (rules : RuleBook) (outcome : Outcome) (old mid new : WorldView) → Finds (rules_of query.service) name (Ok rules) old.files mid.files → AskedFiles old mid
    → Reports (verdict_of rules query.peer) rules outcome mid new → DoesFor name (commands.Table query) outcome old new
table_does name query rules outcome old mid new found asked reports =
    reported_does name query _ _ (verdict_of rules query.peer) outcome old mid new (inputs_rules (commands.Table query) query.service (needs_table query) name rules old found.by) (only_files name old mid found.asks asked) refl reports

-- ---- the book of the records

-- the keeper was called then, and nothing else happened
calls_then : (name : List ℕ) (old mid new : WorldView) (before after : KeeperView) → AsksTable name old.files mid.files → AskedFiles old mid → mid.inputs.keeper ≡ Some before → IsCalled before after
    → new ≡ record mid { inputs = record (mid.inputs) { keeper = Some after } } → ReadsOnly name true old new
calls_then name old mid new before after asks asked keeper called is = record {
  files = subst (λ (f : FilesView). AsksTable name old.files f) (sym (ap (λ (w : WorldView). w.files) is)) asks;
  inputs = record {
    before = before;
    keeper = ap (λ (i : SessionInputs). i.keeper) (sym asked.inputs) ∙ keeper;
    after = after;
    called = called;
    is = ap (λ (w : WorldView). w.inputs) is ∙ ap (λ (i : SessionInputs). record i { keeper = Some after }) asked.inputs;
  };
  output = ap (λ (w : WorldView). w.output) is ∙ asked.output;
  logs = ap (λ (w : WorldView). w.logs) is ∙ asked.logs;
}

old_keeper : (old mid : WorldView) (before : KeeperView) → AskedFiles old mid → mid.inputs.keeper ≡ Some before → old.inputs.keeper ≡ Some before
old_keeper old mid before asked keeper = ap (λ (i : SessionInputs). i.keeper) (sym asked.inputs) ∙ keeper

module _ (name : List ℕ) (service : Service) (server_rules : ServerRules) (old mid : WorldView) (found : Finds (server_rules_of service) name (Ok server_rules) old.files mid.files) (asked : AskedFiles old mid) where
  pub unopened_stops : (outcome : Outcome) (new : WorldView) → Unopened outcome mid new → StopsEach name service outcome old new
  unopened_stops (Failed device.Records) new h = λ command needed. record {
    needed = needs_them command service needed;
    files = subst (λ (f : FilesView). AsksTable name old.files f) (sym (ap (λ (w : WorldView). w.files) h.is)) found.asks;
    before = h.before;
    keeper = old_keeper old mid h.before asked h.keeper;
    after = h.after;
    failed = h.missed;
    inputs = ap (λ (w : WorldView). w.inputs) h.is ∙ ap (λ (i : SessionInputs). record i { keeper = Some h.after }) asked.inputs;
    output = ap (λ (w : WorldView). w.output) h.is ∙ asked.output;
    logs = ap (λ (w : WorldView). w.logs) h.is ∙ asked.logs;
  }
  unopened_stops (Unread (Record user at)) new h = λ command needed. record {
    reading = both_read found.by.table h.bad.loaded;
    read = refuses_record command service needed name server_rules user at h.before h.after old (old_keeper old mid h.before asked h.keeper) found.by h.bad;
    only = calls_then name old mid new h.before h.after found.asks asked h.keeper h.called h.is;
  }
  unopened_stops (NoMemory steps.Records) new h = λ command needed. record { needed = needs_them command service needed; only = calls_then name old mid new h.before h.after found.asks asked h.keeper h.called h.is }
  unopened_stops outcome new h = λ command needed. absurd h

  pub opened_opens : (rules : RuleBook) (book : BookView) (new : WorldView) → OpenedBy server_rules rules book mid new → Opens name service rules book old new
  opened_opens rules book new h =
      let o = h.opened in
      let inputs : Inputs = record { rules = server_rules.rules; policy = server_rules.policy; records = book.origin.records } in
      let middle : WorldView = record mid { inputs = record (mid.inputs) { keeper = Some book.keeper } } in
      let stands : book.origin ≡ origin_of inputs = ap (λ (p : PolicyView). record { policy = p; records = book.origin.records }) o.policy_is in
      record {
        reading = both_read found.by.table o.records.loaded;
        inputs = inputs;
        rules_are = h.rules_are;
        read = λ command needed. inputs_server command service needed name server_rules book.origin.records o.before book.keeper old (old_keeper old mid o.before asked o.keeper) found.by o.records;
        middle = middle;
        only = calls_then name old mid middle o.before book.keeper found.asks asked o.keeper o.called refl;
        before = book.keeper;
        keeper = refl;
        at_first = o.at_first ∙ ap (λ (g : Origin). book_at_first g most_entries book.keeper) stands;
        is = o.is;
      }

pub unfound_stops : (name : List ℕ) (service : Service) (outcome : Outcome) (old new : WorldView) → Unfound (server_rules_of service) name outcome old.files new.files → AskedFiles old new → StopsEach name service outcome old new
unfound_stops name service outcome old new h asked =
    λ command needed. stops_by (server_rules_of service) name command outcome old new h asked (λ refusal found. refuses_server command service needed name refusal old found.of_line found.by)
