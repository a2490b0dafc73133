-- From what was read to a server that is ready, or to what stopped it.
use Rattle.std.proofs.Common.{◌≡◌, ◌∙◌, ℕ, List, [], ap, refl, sym, subst, inl, inr, Bool, true, false}
use Rattle.std.specs.Prelude.{All, Option, Some, None, Result, Ok, Err, IfSome, IsSome, is_some, not}
use Rattle.auth_machine.specs.Book.{BookView}
use Rattle.auth_machine.specs.History.{Origin}
use Rattle.auth_machine.specs.Opening.{ReadsAs}
use Rattle.auth_machine.specs.Policy.{PolicyView}
use Rattle.auth_records.specs.Spelling.{Fields}
use Rattle.fw_disk.specs.DiskView.{DiskView}
use Rattle.fw_outside.specs.Counts.{Rose}
use Rattle.fw_outside.specs.FilesView.{FilesView}
use Rattle.fw_outside.specs.KeeperView.{AreLoaded, IsCalled, KeeperFailed, KeeperView, NamedBytes}
use Rattle.fwtk_serve.specs.RulesFor.{MayServe}
use Rattle.gate_rules.specs.Reading.{RuleBook}
use Rattle.gate_rules.specs.declared.service.Service.{Service}
use Rattle.spool_rack.specs.Opening.{IsRackOf}
use Rattle.spool_rack.specs.Store.{StoreView}
use Rattle.bastion.specs.Inputs.{IsAllOf, is_of_line}
use Rattle.bastion.specs.Mailing.{with_disks}
use Rattle.bastion.specs.Outcome.{DeviceRose, KeeperRose, SlotsRose, fault_line_of, status_of}
use Rattle.bastion.specs.Reading.{Finds, IsSaid, is_early}
use Rattle.bastion.specs.Run.{AsksTable, ReadsOnly, TellsIf}
use Rattle.bastion.specs.Serving.{book_at_first, most_entries}
use Rattle.bastion.specs.SessionSteps.{Opened, Unopened}
use Rattle.bastion.specs.Status.{DisksRose}
use Rattle.bastion.specs.WorldView.{SessionInputs, WorldView}
use Rattle.bastion.specs.declared.outcome.Device.TheVariants as device
use Rattle.bastion.specs.declared.outcome.Outcome.{Outcome}
use Rattle.bastion.specs.declared.outcome.Outcome.TheVariants.{Unread, Failed, NoMemory}
use Rattle.bastion.specs.declared.outcome.Refusal.{Refusal}
use Rattle.bastion.specs.declared.outcome.Refusal.TheVariants.{Table, Rule, Record, Slot, Otp}
use Rattle.bastion.specs.declared.outcome.Step.{Step}
use Rattle.bastion.specs.declared.outcome.Step.TheVariants as steps
use Rattle.bastion.specs.declared.words.Authorities.TheVariants as authorities
use Rattle.bastion.specs.declared.words.Command.{Command}
use Rattle.bastion.specs.declared.words.Command.TheVariants.{Gateway}
use Rattle.bastion.specs.declared.words.GatewayKind.TheVariants as kinds
use Rattle.bastion.proofs.DoesLemmas.{AskedFiles}
use Rattle.bastion.proofs.LeftLemmas.{Later, Left, only_left, some_there, stops_left, tells_later}
use Rattle.bastion.proofs.RoseLemmas.{stops_rose}
use Rattle.bastion_ready.specs.Inputs.{HasInputs, HasSite, IsSaidOf, ServerInputs, SiteRules, inputs_by, is_of_table, origin_of, site_rules_of, whose, with_records}
use Rattle.bastion_ready.specs.Ready.{AreBack, CannotRead, IsCounted, IsReady, IsReadyFor, IsRefused, IsStatus, IsStatusFor, Lacks, OpensBehind, OpensBookAlone, OpensBoth, OpensNotBoth, OpensSite, Refuses, SlotsStop, SlotsUnreadBehind, Stops, StopsBehind, StopsFor, StopsSite}
use Rattle.bastion_ready.specs.Words.{Door, ServerLine, doors_of, is_for_server, services_of}
use Rattle.bastion_ready.proofs.SiteLemmas.{may_said, whose_said}
use Rattle.bastion_ready.proofs.SlotLemmas.{keeper_back, with_keeper, slots_back, slots_keeper, slots_out, slots_rose, slots_status, slots_stop}

-- ---- the table

only_files : (line : ServerLine) (old new : WorldView) → AsksTable line.table old.files new.files → AskedFiles old new → ReadsOnly line.table false old new
only_files line old new asks h = record { files = asks; inputs = h.inputs; output = h.output; logs = h.logs }

lacks_early : (line : ServerLine) (step : Step) (old new : WorldView) → is_early step ≡ true → ReadsOnly line.table false old new → Lacks line step old new
lacks_early line steps.Print old new early is = absurd (cc)
lacks_early line steps.Records old new early is = absurd (cc)
lacks_early line steps.Start old new early is = inr is
lacks_early line steps.Table old new early is = is
lacks_early line steps.Rules old new early is = is
lacks_early line steps.Policy old new early is = is
lacks_early line steps.Drill old new early is = absurd (cc)
lacks_early line steps.Slots old new early is = absurd (cc)
lacks_early line steps.Round old new early is = absurd (cc)
lacks_early line steps.Dictionary old new early is = absurd (cc)

no_records : {A : Type 0} (refusal : Refusal) → is_of_line refusal ≡ true → is_of_table (Err refusal) ≡ false → A
no_records refusal of_line come = absurd (cc)

-- what the table says of the services of this line, or the first line that can't be read
abbrev pub SiteFound : ServerLine → Result SiteRules Outcome → FilesView → FilesView → Type 0
SiteFound line result old new = Finds (site_rules_of (services_of line.plan.posts)) line.table result old new

pub found_for : (line : ServerLine) (services : List Service) (name : List ℕ) (result : Result SiteRules Outcome) (old new : FilesView) → services ≡ services_of line.plan.posts → name ≡ line.table → Finds (site_rules_of services) name result old new → SiteFound line result old new
found_for line services name result old new are is found =
    subst (λ (n : List ℕ). Finds (site_rules_of (services_of line.plan.posts)) n result old new) is
    (subst (λ (s : List Service). Finds (site_rules_of s) name result old new) are found)

pub said_for : (line : ServerLine) (services : List Service) (site : SiteRules) → services ≡ services_of line.plan.posts → IsSaidOf services site → IsSaidOf (services_of line.plan.posts) site
said_for line services site are said = subst (λ (s : List Service). IsSaidOf s site) are said

refuses_line : (line : ServerLine) (refusal : Refusal) (world : WorldView) → is_of_line refusal ≡ true → IsSaid (site_rules_of (services_of line.plan.posts)) line.table (Err refusal) world.files → HasInputs line (Err refusal) world
refuses_line line refusal world of_line said = record {
  table = said.table;
  loaded = [];
  of_table = said.of_text;
  is = ap (inputs_by []) said.is;
  of_keeper = λ come. no_records refusal of_line come;
}

-- what refuses before the records
early_refuses : (line : ServerLine) (refusal : Refusal) (old new : WorldView) → is_of_line refusal ≡ true → Refuses line refusal old new → CannotRead line refusal old new
early_refuses line (Table fault) old new early h = h
early_refuses line (Rule fault) old new early h = h
early_refuses line (Record name at) old new early h = h
early_refuses line (Slot slot at) old new early h = absurd (cc)
early_refuses line (Otp refusal) old new early h = absurd (cc)

-- what can't be found stops the server
pub unfound_stops : (line : ServerLine) (outcome : Outcome) (old new : WorldView) → SiteFound line (Err outcome) old.files new.files → AskedFiles old new → StopsFor line outcome old new
unfound_stops line (Unread refusal) old new h asked = early_refuses line refusal old new h.of_line (record {
  read = refuses_line line refusal old h.of_line h.by;
  only = subst (λ (b : Bool). ReadsOnly line.table (not b) old new) (sym h.of_line) (only_files line old new h.asks asked);
})
unfound_stops line (Failed device.Table) old new h asked = record { failed = h; output = asked.output; logs = asked.logs; inputs = asked.inputs }
unfound_stops line (NoMemory step) old new h asked = lacks_early line step old new h.early (only_files line old new h.asks asked)
unfound_stops line outcome old new h asked = absurd h

-- ---- the book

-- the keeper was called then, and nothing else happened
calls_then : (line : ServerLine) (old mid new : WorldView) (before after : KeeperView) → AsksTable line.table old.files mid.files → AskedFiles old mid → mid.inputs.keeper ≡ Some before → IsCalled before after
    → new ≡ record mid { inputs = record (mid.inputs) { keeper = Some after } } → ReadsOnly line.table true old new
calls_then line old mid new before after asks asked keeper called is = record {
  files = subst (λ (f : FilesView). AsksTable line.table old.files f) (sym (ap (λ (w : WorldView). w.files) is)) asks;
  inputs = record {
    before = before;
    keeper = ap (λ (i : SessionInputs). i.keeper) (sym asked.inputs) ∙ keeper;
    after = after;
    called = called;
    is = ap (λ (w : WorldView). w.inputs) is ∙ ap (λ (i : SessionInputs). record i { keeper = Some after }) asked.inputs;
  };
  output = ap (λ (w : WorldView). w.output) is ∙ asked.output;
  logs = ap (λ (w : WorldView). w.logs) is ∙ asked.logs;
}

old_keeper : (old mid : WorldView) (before : KeeperView) → AskedFiles old mid → mid.inputs.keeper ≡ Some before → old.inputs.keeper ≡ Some before
old_keeper old mid before asked keeper = ap (λ (i : SessionInputs). i.keeper) (sym asked.inputs) ∙ keeper

kept_loaded : (keeper : Option KeeperView) (before : KeeperView) (loaded : NamedBytes) (after : KeeperView) → keeper ≡ Some before → AreLoaded loaded before after → IfSome keeper (IsAllOf loaded)
kept_loaded keeper before loaded after is are = let all : IsAllOf loaded before = record { ordered = are.ordered; told = are.told } in subst (λ (k : Option KeeperView). IfSome k (IsAllOf loaded)) (sym is) all

-- what the table says, and the records that the keeper has or the first that can't be read
read_inputs : (line : ServerLine) (site : SiteRules) (records : Result (List Fields) (List ℕ × ℕ)) (before after : KeeperView) (world : WorldView) → world.inputs.keeper ≡ Some before
    → IsSaid (site_rules_of (services_of line.plan.posts)) line.table (Ok site) world.files → ReadsAs records before after → HasInputs line (with_records site records) world
read_inputs line site records before after world keeper said read = record {
  table = said.table;
  loaded = read.loaded;
  of_table = said.of_text;
  is = ap (inputs_by read.loaded) said.is ∙ ap (with_records site) read.is;
  of_keeper = λ come. kept_loaded world.inputs.keeper before read.loaded after keeper read.are;
}

module _ (line : ServerLine) (site : SiteRules) (old mid : WorldView) (found : SiteFound line (Ok site) old.files mid.files) (asked : AskedFiles old mid) where
  site_old : HasSite line old
  site_old = record { site = site; said = found.by }

  unopened_stops : (outcome : Outcome) (new : WorldView) → Unopened outcome mid new → StopsFor line outcome old new
  unopened_stops (Failed device.Records) new h = record {
    site = site_old;
    files = subst (λ (f : FilesView). AsksTable line.table old.files f) (sym (ap (λ (w : WorldView). w.files) h.is)) found.asks;
    before = h.before;
    keeper = old_keeper old mid h.before asked h.keeper;
    after = h.after;
    failed = h.missed;
    inputs = ap (λ (w : WorldView). w.inputs) h.is ∙ ap (λ (i : SessionInputs). record i { keeper = Some h.after }) asked.inputs;
    output = ap (λ (w : WorldView). w.output) h.is ∙ asked.output;
    logs = ap (λ (w : WorldView). w.logs) h.is ∙ asked.logs;
  }
  unopened_stops (Unread (Record user at)) new h = record {
    read = read_inputs line site (Err (user, at)) h.before h.after old (old_keeper old mid h.before asked h.keeper) found.by h.bad;
    only = calls_then line old mid new h.before h.after found.asks asked h.keeper h.called h.is;
  }
  unopened_stops (NoMemory steps.Records) new h = record { site = site_old; only = calls_then line old mid new h.before h.after found.asks asked h.keeper h.called h.is }
  unopened_stops outcome new h = absurd h

  -- what was read, with the records of the book
  abbrev opened_inputs : BookView → ServerInputs
  opened_inputs book = record { site = site; records = book.origin.records }

  opened_read : (book : BookView) (new : WorldView) → Opened site.policy book mid new → HasInputs line (Ok (opened_inputs book)) old
  opened_read book new o = read_inputs line site (Ok book.origin.records) o.before book.keeper old (old_keeper old mid o.before asked o.keeper) found.by o.records

  opened_only : (book : BookView) (new : WorldView) → Opened site.policy book mid new → ReadsOnly line.table true old (with_keeper book.keeper mid)
  opened_only book new o = calls_then line old mid (with_keeper book.keeper mid) o.before book.keeper found.asks asked o.keeper o.called refl

  pub opened_ready : IsSaidOf (services_of line.plan.posts) site → (doors : List Door) (rules : List (Service × RuleBook)) (book : BookView) (rack : StoreView) (new : WorldView) → doors ≡ doors_of line.plan → rules ≡ site.rules → OpensBoth site.policy book rack mid new
      → IsReadyFor line doors rules book rack old new
  opened_ready said doors rules book rack new doors_are rules_are both =
      let o = both.opened in
      let stands : book.origin ≡ origin_of (opened_inputs book) = ap (λ (p : PolicyView). record { policy = p; records = book.origin.records }) o.policy_is in
      let disks : both.middle.inputs.disks ≡ old.inputs.disks = ap (λ (w : WorldView). w.inputs.disks) o.is ∙ ap (λ (i : SessionInputs). i.disks) asked.inputs in
      record {
        doors_are = doors_are;
        inputs = opened_inputs book;
        read = opened_read book both.middle o;
        said = said;
        rules_are = rules_are;
        whose_are = ap whose rules_are ∙ whose_said (services_of line.plan.posts) site said;
        middle = with_keeper book.keeper mid;
        only = opened_only book both.middle o;
        before = book.keeper;
        keeper = refl;
        at_first = o.at_first ∙ ap (λ (g : Origin). book_at_first g most_entries book.keeper) stands;
        slots = subst (λ (d : List DiskView). IsRackOf (Unit {0}) d rack) disks both.slots.opened;
        is = both.slots.is ∙ ap (with_disks []) o.is;
      }

  alone_stops : (outcome : Outcome) (new : WorldView) → OpensBookAlone site.policy outcome mid new → SlotsStop line outcome old new
  alone_stops outcome new h = record {
    inputs = opened_inputs h.book;
    read = opened_read h.book h.middle h.opened;
    middle = with_keeper h.book.keeper mid;
    only = opened_only h.book h.middle h.opened;
    unread = keeper_back outcome h.book mid h.middle h.behind.middle new h.opened.is h.behind.unread h.behind.shut;
  }

  pub not_both_stops : (outcome : Outcome) (new : WorldView) → OpensNotBoth site.policy outcome mid new → StopsFor line outcome old new
  not_both_stops outcome new (inl h) = unopened_stops outcome new h
  not_both_stops outcome new (inr h) = slots_stop line outcome old new (alone_stops outcome new h)

-- ---- the answers of `prepare_by`

module _ (line : ServerLine) (name : List ℕ) (services : List Service) (is : name ≡ line.table) (are : services ≡ services_of line.plan.posts) where
  site_stops_by : (read : Result SiteRules Outcome) (outcome : Outcome) (old mid new : WorldView) → SiteFound line read old.files mid.files → AskedFiles old mid → StopsBehind read outcome mid new → StopsFor line outcome old new
  site_stops_by (Ok site) outcome old mid new found asked h = not_both_stops line site old mid found asked outcome new (inl h)
  site_stops_by (Err first) outcome old mid new found asked h =
      subst (λ (o : Outcome). StopsFor line o old new) (sym h.0)
      (subst (λ (w : WorldView). StopsFor line first old w) (sym h.1) (unfound_stops line first old mid found asked))

  -- not read, or no book
  pub site_stops : (outcome : Outcome) (old new : WorldView) → StopsSite name services outcome old new → StopsFor line outcome old new
  site_stops outcome old new h =
      site_stops_by h.read outcome old h.middle new (found_for line services name h.read old.files h.middle.files are is h.found) (record { output = h.output; logs = h.logs; inputs = h.inputs }) h.stops

  module _ (rules : List (Service × RuleBook)) (book : BookView) (old mid : WorldView) (h : OpensSite name services rules book old mid) where
    found_so : SiteFound line (Ok h.site) old.files h.middle.files
    found_so = found_for line services name (Ok h.site) old.files h.middle.files are is h.found

    asked_so : AskedFiles old h.middle
    asked_so = record { output = h.output; logs = h.logs; inputs = h.inputs }

    pub behind_ready : (doors own_doors : List Door) (own_rules : List (Service × RuleBook)) (own_book : BookView) (rack : StoreView) (new : WorldView) → doors ≡ doors_of line.plan → OpensBehind doors rules book own_doors own_rules own_book rack mid new
        → IsReadyFor line own_doors own_rules own_book rack old new
    behind_ready doors own_doors own_rules own_book rack new doors_are b =
        let both : OpensBoth h.site.policy own_book rack h.middle new = record { middle = mid; opened = subst (λ (k : BookView). Opened h.site.policy k h.middle mid) (sym b.book_is) h.opened; slots = b.slots } in
        opened_ready line h.site old h.middle found_so asked_so (said_for line services h.site are h.said) own_doors own_rules own_book rack new (b.doors_are ∙ doors_are) (b.rules_are ∙ h.rules_are) both

    pub behind_stops : (outcome : Outcome) (new : WorldView) → SlotsUnreadBehind book outcome mid new → StopsFor line outcome old new
    behind_stops outcome new b = not_both_stops line h.site old h.middle found_so asked_so outcome new (inr (record { book = book; middle = mid; opened = h.opened; behind = b }))

    pub behind_may : All (λ s. is_for_server s ≡ true) services → (own_rules : List (Service × RuleBook)) → own_rules ≡ rules → All MayServe own_rules
    behind_may served own_rules same = subst (All MayServe) (sym (same ∙ h.rules_are)) (may_said services h.site served h.said)

-- memory was wanting for the words, which ask for a server
pub lacks_start : (line : Option ServerLine) (world : WorldView) → is_some line ≡ true → Stops line (NoMemory steps.Start) world world
lacks_start None world is = absurd (cc)
lacks_start (Some line) world is = inl refl

-- ---- what is left

-- a command that needs what a server does
abbrev any_command : Command
any_command = Gateway kinds.Telnet authorities.Records (record { addr = None; name = None })

same_left : (old new : WorldView) → new ≡ old → Left old new
same_left old new is = subst (λ (w : WorldView). Left old w) (sym is) (record { out = refl; input = refl; clock = refl; dialer = refl; disks = refl; remote = refl; output = refl; logs = refl; keeper = λ there. there; table = refl })

-- as many sources are out, the disks are there, and so is the keeper
pub record LeftSo (old new : WorldView) : Type 0 where
  pub out : new.files.out ≡ old.files.out
  pub disks : AreBack old.inputs.disks new.inputs.disks
  pub keeper : IsSome old.inputs.keeper → IsSome new.inputs.keeper

left_so : (old new : WorldView) → Left old new → LeftSo old new
left_so old new h = record { out = h.out; disks = inl h.disks; keeper = h.keeper }

only_so : (line : ServerLine) (records : Bool) (old new : WorldView) → ReadsOnly line.table records old new → LeftSo old new
only_so line records old new h = left_so old new (only_left line.table records old new h)

slots_left : (line : ServerLine) (outcome : Outcome) (old new : WorldView) → SlotsStop line outcome old new → LeftSo old new
slots_left line outcome old new h = record { out = slots_out line outcome old new h; disks = slots_back line outcome old new h; keeper = slots_keeper line outcome old new h }

lacks_left : (line : ServerLine) (step : Step) (old new : WorldView) → Lacks line step old new → LeftSo old new
lacks_left line steps.Print old new h = absurd h
lacks_left line steps.Start old new (inl same) = left_so old new (same_left old new same)
lacks_left line steps.Start old new (inr only) = only_so line false old new only
lacks_left line steps.Table old new h = only_so line false old new h
lacks_left line steps.Rules old new h = only_so line false old new h
lacks_left line steps.Policy old new h = only_so line false old new h
lacks_left line steps.Drill old new h = absurd h
lacks_left line steps.Slots old new h = slots_left line (NoMemory steps.Slots) old new h
lacks_left line steps.Round old new h = absurd h
lacks_left line steps.Dictionary old new h = absurd h
lacks_left line steps.Records old new h = only_so line true old new h.only

cannot_left : (line : ServerLine) (refusal : Refusal) (old new : WorldView) → CannotRead line refusal old new → LeftSo old new
cannot_left line (Table fault) old new h = only_so line (not (is_of_line (Table fault))) old new h.only
cannot_left line (Rule fault) old new h = only_so line (not (is_of_line (Rule fault))) old new h.only
cannot_left line (Record name at) old new h = only_so line (not (is_of_line (Record name at))) old new h.only
cannot_left line (Slot slot at) old new h = slots_left line (Unread (Slot slot at)) old new h
cannot_left line (Otp refusal) old new h = absurd h

stops_for_left : (line : ServerLine) (outcome : Outcome) (old new : WorldView) → StopsFor line outcome old new → LeftSo old new
stops_for_left line (Unread refusal) old new h = cannot_left line refusal old new h
stops_for_left line (Failed device.Table) old new h = left_so old new (stops_left line.table any_command (Failed device.Table) old new h)
stops_for_left line (Failed device.Records) old new h = record {
  out = ap (λ (f : FilesView). f.out) h.files.is;
  disks = inl (ap (λ (i : SessionInputs). i.disks) h.inputs);
  keeper = λ there. some_there new.inputs.keeper h.after (ap (λ (i : SessionInputs). i.keeper) h.inputs);
}
stops_for_left line (Failed (device.Disk slot)) old new h = slots_left line (Failed (device.Disk slot)) old new h
stops_for_left line (NoMemory step) old new h = lacks_left line step old new h
stops_for_left line outcome old new h = absurd h

stopped_left : (line : Option ServerLine) (outcome : Outcome) (old new : WorldView) → Stops line outcome old new → LeftSo old new
stopped_left None outcome old new h = left_so old new (same_left old new h.is)
stopped_left (Some line) outcome old new h = stops_for_left line outcome old new h

-- ---- whose count rose

keepers_rose : (old new : Option KeeperView) (before after : KeeperView) → old ≡ Some before → new ≡ Some after → KeeperFailed before after → KeeperRose old new
keepers_rose old new before after was is failed =
    let rose : Rose before.faults after.faults = subst (λ (k : KeeperView). Rose before.faults k.faults) (sym failed.is) failed.rose in
    subst (λ (k : Option KeeperView). KeeperRose k new) (sym was) (subst (λ (k : Option KeeperView). KeeperRose (Some before) k) (sym is) rose)

stops_for_rose : (line : ServerLine) (outcome : Outcome) (old new : WorldView) → StopsFor line outcome old new → SlotsRose outcome old new
stops_for_rose line (Unread refusal) old new h = tt
stops_for_rose line (Failed device.Table) old new h = stops_rose line.table any_command (Failed device.Table) old new h
stops_for_rose line (Failed device.Records) old new h =
    keepers_rose old.inputs.keeper new.inputs.keeper h.before h.after h.keeper (ap (λ (i : SessionInputs). i.keeper) h.inputs) h.failed
stops_for_rose line (Failed (device.Disk slot)) old new h = slots_rose line (Failed (device.Disk slot)) old new h
stops_for_rose line (NoMemory step) old new h = tt
stops_for_rose line outcome old new h = absurd h

stopped_rose : (line : Option ServerLine) (outcome : Outcome) (old new : WorldView) → Stops line outcome old new → SlotsRose outcome old new
stopped_rose None outcome old new h = subst (λ (o : Outcome). SlotsRose o old new) (sym h.usage) tt
stopped_rose (Some line) outcome old new h = stops_for_rose line outcome old new h

-- ---- the answers of `ready`

pub refused_so : (line : Option ServerLine) (outcome : Outcome) (status : ℕ) (old mid new : WorldView) → Stops line outcome old mid → TellsIf (fault_line_of outcome) mid new → status ≡ status_of outcome → IsRefused line status old new
refused_so line outcome status old mid new stops tells is = record {
  outcome = outcome;
  middle = mid;
  stops = stops;
  rose = stopped_rose line outcome old mid stops;
  tells = tells;
  status_is = is;
}

later_counted : (line : ServerLine) (old mid new : WorldView) → Later mid new → IsCounted line old mid → IsCounted line old new
later_counted line old mid new later (inl files) =
    inl (subst (λ (f : FilesView). DeviceRose device.Table old (record mid { files = f })) (sym later.files) files)
later_counted line old mid new later (inr (inl keeper)) =
    inr (inl (keeper.0, subst (λ (i : SessionInputs). DeviceRose device.Records old (record mid { inputs = i })) (sym later.inputs) keeper.1))
later_counted line old mid new later (inr (inr disk)) =
    inr (inr (record { inputs = disk.inputs; read = disk.read; rose = subst (λ (i : SessionInputs). DisksRose old.inputs.disks i.disks) (sym later.inputs) disk.rose }))

cannot_status : (line : ServerLine) (refusal : Refusal) (old mid new : WorldView) → CannotRead line refusal old mid → Later mid new → IsStatusFor line 3 old new
cannot_status line (Table fault) old mid new h later = inl (inl (refl, inl (Table fault, h.read)))
cannot_status line (Rule fault) old mid new h later = inl (inl (refl, inl (Rule fault, h.read)))
cannot_status line (Record name at) old mid new h later = inl (inl (refl, inl (Record name at, h.read)))
cannot_status line (Slot slot at) old mid new h later = slots_status line (Unread (Slot slot at)) old mid new h later
cannot_status line (Otp refusal) old mid new h later = absurd h

status_for : (line : ServerLine) (outcome : Outcome) (old mid new : WorldView) → StopsFor line outcome old mid → Later mid new → IsStatusFor line (status_of outcome) old new
status_for line (Unread refusal) old mid new h later = cannot_status line refusal old mid new h later
status_for line (Failed device.Table) old mid new h later = inl (inr (refl, later_counted line old mid new later (inl (stops_for_rose line (Failed device.Table) old mid h))))
status_for line (Failed device.Records) old mid new h later = inl (inr (refl, later_counted line old mid new later (inr (inl (h.site, stops_for_rose line (Failed device.Records) old mid h)))))
status_for line (Failed (device.Disk slot)) old mid new h later = slots_status line (Failed (device.Disk slot)) old mid new h later
status_for line (NoMemory step) old mid new h later = inr refl
status_for line outcome old mid new h later = absurd h

status_so : (line : Option ServerLine) (outcome : Outcome) (old mid new : WorldView) → Stops line outcome old mid → Later mid new → IsStatus line (status_of outcome) old new
status_so None outcome old mid new h later = ap status_of h.usage
status_so (Some line) outcome old mid new h later = status_for line outcome old mid new h later

pub refused_status : (line : Option ServerLine) (status : ℕ) (old new : WorldView) → IsRefused line status old new → IsStatus line status old new
refused_status line status old new h =
    let later = tells_later (fault_line_of h.outcome) h.middle new h.tells in
    subst (λ (n : ℕ). IsStatus line n old new) (sym h.status_is) (status_so line h.outcome old h.middle new h.stops later)

pub refused_left : (line : Option ServerLine) (status : ℕ) (old new : WorldView) → IsRefused line status old new → LeftSo old new
refused_left line status old new h =
    let left = stopped_left line h.outcome old h.middle h.stops in
    let later = tells_later (fault_line_of h.outcome) h.middle new h.tells in
    record {
      out = ap (λ (f : FilesView). f.out) later.files ∙ left.out;
      disks = subst (λ (i : SessionInputs). AreBack old.inputs.disks i.disks) (sym later.inputs) left.disks;
      keeper = λ there. subst (λ (i : SessionInputs). IsSome i.keeper) (sym later.inputs) (left.keeper there);
    }

pub ready_out : (line : Option ServerLine) (doors : List Door) (rules : List (Service × RuleBook)) (book : BookView) (rack : StoreView) (old new : WorldView) → IsReady line doors rules book rack old new → new.files.out ≡ old.files.out
ready_out None doors rules book rack old new h = absurd h
ready_out (Some line) doors rules book rack old new h = ap (λ (w : WorldView). w.files.out) h.is ∙ ap (λ (f : FilesView). f.out) h.only.files.is
