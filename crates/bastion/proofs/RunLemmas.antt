-- From what a run did to its status, to what it leaves, and to the bytes that it takes.
use Rattle.std.proofs.Common.{◌≡◌, ℕ, List, [], ◌∷◌, refl, sym, ◌∙◌, ap, subst, inl, inr, ◌⊎◌, Bool, true, false}
use Rattle.std.specs.Prelude.{Option, Some, None, IsSome, Result, Ok, Err, not}
use Rattle.fw_disk.specs.DiskView.{DiskView}
use Rattle.fw_outside.specs.ClockView.{ClockView}
use Rattle.fw_outside.specs.FilesView.{FilesView}
use Rattle.fw_outside.specs.KeeperView.{KeeperView, NamedBytes}
use Rattle.fw_outside.specs.SourceView.{SourceView}
use Rattle.session_acts.specs.Causes.{TookMost}
use Rattle.session_acts.specs.Deeds.{Deed}
use Rattle.session_acts.specs.Laws.{Adds}
use Rattle.fw_types.specs.declared.peer.Peer.{Peer}
use Rattle.gate_rules.specs.Reading.{RuleBook, rules_of}
use Rattle.gate_rules.specs.Verdict.{verdict_of}
use Rattle.gate_rules.specs.declared.fault.RuleFault.{RuleFault}
use Rattle.gate_rules.specs.declared.service.Service.{Service}
use Rattle.gate_rules.specs.declared.verdict.Verdict.{Verdict}
use Rattle.gate_rules.specs.declared.verdict.Verdict.TheVariants.{Permit, Deny}
use Rattle.netperm_table.specs.declared.line.Line.{Line}
use Rattle.netperm_table.specs.declared.table_fault.TableFault.{TableFault}
use Rattle.remote_port.specs.Remote.{RemoteOrigin}
use Rattle.bastion.specs.Answering.{Answerer, GivenBack, answerer_of}
use Rattle.bastion.specs.Basis.{Course}
use Rattle.bastion.specs.Basis.Basis.{Given}
use Rattle.bastion.specs.Gateways.{gateway_service}
use Rattle.bastion.specs.Inputs.{Inputs, inputs_by, is_of_line, needs_records, no_inputs, with_rules}
use Rattle.bastion.specs.Inputs.Need.{RulesOf}
use Rattle.bastion.specs.Outcome.{RoseFor, fault_line_of, status_of, verdict_status}
use Rattle.bastion.specs.Run.{CallsIf, DoesLine, DoesOrder, Lacks, ReadsOnly, Run, Stops, Worked, stopped_by}
use Rattle.bastion.specs.Status.{CommandLeavesDisks, IsAnswered, IsAtLimit, IsFull, IsFullAt, IsHeld, IsLinked, IsMailed, IsOutside, IsPassed, IsServed, IsStatusFor, LeavesDisks, LeavesRemote, LeavesRemoteIf, LinkSpent, OrderLeavesDisks, RoseBy, TakesBy, TakesFor, TakesIn, TakesOf}
use Rattle.bastion.specs.Words.{LineView, is_remote}
use Rattle.bastion.specs.Works.{Works}
use Rattle.bastion.specs.WorldView.{Post, SessionInputs, WorldView}
use Rattle.bastion.specs.declared.outcome.Device.TheVariants as device
use Rattle.bastion.specs.declared.outcome.Outcome.{Outcome}
use Rattle.bastion.specs.declared.outcome.Outcome.TheVariants.{Usage, Unread, Failed, NoMemory, Done, Decided, Ended}
use Rattle.bastion.specs.declared.outcome.Refusal.{Refusal}
use Rattle.bastion.specs.declared.outcome.Refusal.TheVariants.{Table as Tabled, Rule}
use Rattle.bastion.specs.declared.outcome.Step.{Step}
use Rattle.bastion.specs.declared.outcome.Step.TheVariants as steps
use Rattle.bastion.specs.declared.words.Authorities.{Authorities}
use Rattle.bastion.specs.declared.words.Authorities.TheVariants.{Records, Remote}
use Rattle.bastion.specs.declared.words.Command.{Command}
use Rattle.bastion.specs.declared.words.Command.TheVariants.{Netacl, NetaclRun, Table, Authsrv, PlugGw, Gateway, Smap}
use Rattle.bastion.specs.declared.words.GatewayKind.{GatewayKind}
use Rattle.bastion.specs.declared.words.GatewayKind.TheVariants as kinds
use Rattle.bastion.specs.declared.words.Order.{Order}
use Rattle.bastion.specs.declared.words.Order.TheVariants.{ByTable, Alone}
use Rattle.bastion.proofs.AnsweringLemmas.{over_disks, over_files, over_kept}
use Rattle.bastion.proofs.AttendedLemmas.{attended_status, attended_takes, takes_same}
use Rattle.bastion.proofs.DecidedLemmas.{ByVerdict, after_status, shown_status}
use Rattle.bastion.proofs.JobLemmas.{job_disks, job_left, job_takes}
use Rattle.bastion.proofs.LaunchLemmas.{run_left, run_status_by}
use Rattle.bastion.proofs.GateStatusLemmas.{gateway_status, gateway_takes}
use Rattle.bastion.proofs.LinkingLemmas.{linked_status, linked_takes}
use Rattle.bastion.proofs.MailedLemmas.{mailed_left, mailed_remote, mailed_slots, mailed_status, mailed_takes, mailed_unasked}
use Rattle.bastion.proofs.LeftLemmas.{Later, only_left, some_there, stops_left, tells_later}
use Rattle.bastion.proofs.RoseLemmas.{StrangeIn, by_later, none_strange, rose_for, rose_some, stops_rose, worked_deeds, worked_rose}

-- ---- the status

-- a count rose, or something strange came to the session
count_or : (command : Command) (deeds : List Deed) (outcome : Outcome) (old mid new : WorldView) → RoseFor command deeds outcome old mid → Later mid new → status_of outcome ≡ 4 → StrangeIn command deeds ⊎ IsOutside command (status_of outcome) old new
count_or command deeds outcome old mid new rose later is = by (rose_some command deeds outcome old mid rose is)
  where
    by : StrangeIn command deeds ⊎ RoseBy command old mid → StrangeIn command deeds ⊎ IsOutside command (status_of outcome) old new
    by (inl strange) = inl strange
    by (inr some) = inr (inl (record { is = is; rose = by_later command old mid new later some }))

by_count : (command : Command) (deeds : List Deed) (outcome : Outcome) (old mid new : WorldView) → (StrangeIn command deeds → ⊥) → RoseFor command deeds outcome old mid → Later mid new → status_of outcome ≡ 4 → IsOutside command (status_of outcome) old new
by_count command deeds outcome old mid new plain rose later is = by (count_or command deeds outcome old mid new rose later is)
  where
    by : StrangeIn command deeds ⊎ IsOutside command (status_of outcome) old new → IsOutside command (status_of outcome) old new
    by (inl strange) = absurd (plain strange)
    by (inr outside) = outside

pub stops_status : (name : List ℕ) (command : Command) (outcome : Outcome) (course : Course) (old mid new : WorldView) → (h : Stops name command outcome old mid) → Later mid new → IsStatusFor command (stopped_by name command outcome old mid h) course (status_of outcome) old new
stops_status name command (Unread refusal) course old mid new h later = refl
stops_status name command (Failed which) course old mid new h later =
    by_count command [] (Failed which) old mid new (none_strange command) (rose_for command [] (Failed which) old mid (stops_rose name command (Failed which) old mid h)) later refl
stops_status name command (NoMemory step) course old mid new h later = inr refl
stops_status name command Usage course old mid new h later = absurd h
stops_status name command Done course old mid new h later = absurd h
stops_status name command (Decided verdict) course old mid new h later = absurd h
stops_status name command (Ended ending refused) course old mid new h later = absurd h

by_verdict : (command : Command) (verdict : Verdict) (outcome : Outcome) (old mid new : WorldView) → (StrangeIn command [] → ⊥) → RoseFor command [] outcome old mid → Later mid new → ByVerdict verdict outcome
    → IsOutside command (status_of outcome) old new ⊎ (status_of outcome ≡ verdict_status verdict)
by_verdict command verdict outcome old mid new plain rose later (inl four) = inl (by_count command [] outcome old mid new plain rose later four)
by_verdict command verdict outcome old mid new plain rose later (inr same) = inr same

strange_now : (command : Command) (deeds : List Deed) (status : ℕ) (old new : WorldView) (Now : Type 0) → (StrangeIn command deeds → Now) → StrangeIn command deeds ⊎ IsOutside command status old new → IsOutside command status old new ⊎ Now
strange_now command deeds status old new Now strange (inl came) = inr (strange came)
strange_now command deeds status old new Now strange (inr outside) = inl outside

served_so : (command : Command) (deeds : List Deed) (outcome : Outcome) (old mid new : WorldView) (Served Now : Type 0) → RoseFor command deeds outcome old mid → Later mid new → ((status_of outcome ≡ 4) → StrangeIn command deeds → Now) → (Served → Now)
    → ((status_of outcome ≡ 4) ⊎ (status_of outcome ≡ 5)) ⊎ Served → IsOutside command (status_of outcome) old new ⊎ Now
served_so command deeds outcome old mid new Served Now rose later strange is (inl (inl four)) = strange_now command deeds (status_of outcome) old new Now (strange four) (count_or command deeds outcome old mid new rose later four)
served_so command deeds outcome old mid new Served Now rose later strange is (inl (inr five)) = inl (inr five)
served_so command deeds outcome old mid new Served Now rose later strange is (inr served) = inr (is served)

-- the inputs of a session as it began and as it was left
full_then : (a b c d : SessionInputs) → a.clock ≡ c.clock → d ≡ b → IsFull a b → IsFull c d
full_then a b c d clock after full =
    let Told : ClockView → ClockView → Type 0 = λ one other. Adds full.moments one.told other.told in
    record {
      moments = full.moments;
      told = subst (λ (o : ClockView). Told o d.clock) clock (subst (λ (i : SessionInputs). Told a.clock i.clock) (sym after) full.told);
      many = full.many;
    }

limit_then : (a b c d : SessionInputs) → a.input ≡ c.input → a.clock ≡ c.clock → d ≡ b → IsAtLimit a b → IsAtLimit c d
limit_then a b c d before clock after (inl took) = inl (subst (λ (s : SourceView). TookMost s d.input) before (subst (λ (i : SessionInputs). TookMost a.input i.input) (sym after) took))
limit_then a b c d before clock after (inr full) = inr (full_then a b c d clock after full)

held_then : (status : ℕ) (a b c d : SessionInputs) → a.input ≡ c.input → a.clock ≡ c.clock → d ≡ b → IsHeld status a b → IsHeld status c d
held_then status a b c d before clock after (inl zero) = inl zero
held_then status a b c d before clock after (inr (six, limit)) = inr (six, limit_then a b c d before clock after limit)

pub served_then : (console : Bool) (verdict : Verdict) (status : ℕ) (a b c d : SessionInputs) → a.input ≡ c.input → a.clock ≡ c.clock → d ≡ b → IsServed console verdict status a b → IsServed console verdict status c d
served_then true verdict status a b c d before clock after h = held_then status a b c d before clock after h
served_then false (Permit line) status a b c d before clock after h = held_then status a b c d before clock after h
served_then false (Deny line) status a b c d before clock after h = h

full_at_then : (authorities : Authorities) (deeds : List Deed) (a b c d : SessionInputs) → a.clock ≡ c.clock → d ≡ b → IsFullAt authorities deeds a b → IsFullAt authorities deeds c d
full_at_then Records deeds a b c d clock after full = full_then a b c d clock after full
full_at_then Remote deeds a b c d clock after full = full

pub passed_then : (authorities : Authorities) (verdict : Verdict) (deeds : List Deed) (status : ℕ) (a b c d : SessionInputs) → a.input ≡ c.input → a.clock ≡ c.clock → d ≡ b → IsPassed authorities verdict deeds status a b → IsPassed authorities verdict deeds status c d
passed_then authorities (Permit line) deeds status a b c d before clock after (inl zero) = inl zero
passed_then authorities (Permit line) deeds status a b c d before clock after (inr (six, inl (inl took))) =
    inr (six, inl (inl (subst (λ (s : SourceView). TookMost s d.input) before (subst (λ (i : SessionInputs). TookMost a.input i.input) (sym after) took))))
passed_then authorities (Permit line) deeds status a b c d before clock after (inr (six, inl (inr full))) = inr (six, inl (inr (full_at_then authorities deeds a b c d clock after full)))
passed_then authorities (Permit line) deeds status a b c d before clock after (inr (six, inr link)) = inr (six, inr (subst (λ (i : SessionInputs). LinkSpent i.dialer) (sym after) link))
passed_then authorities (Deny line) deeds status a b c d before clock after h = h

-- so it is, or something strange came
answered_strange : (authorities : Authorities) (kind : GatewayKind) (peer : Peer) (verdict : Verdict) (deeds : List Deed) (status : ℕ) (old new : SessionInputs) → status ≡ 4 → StrangeIn (Gateway kind authorities peer) deeds → IsAnswered authorities verdict deeds status old new
answered_strange Records kind peer verdict deeds status old new four strange = absurd strange
answered_strange Remote kind peer verdict deeds status old new four strange = inl (four, strange)

answered_passed : (authorities : Authorities) (verdict : Verdict) (deeds : List Deed) (status : ℕ) (old new : SessionInputs) → IsPassed authorities verdict deeds status old new → IsAnswered authorities verdict deeds status old new
answered_passed Records verdict deeds status old new passed = passed
answered_passed Remote verdict deeds status old new passed = inr passed

-- a course is that of the session of a gateway; of any other command nothing is said
abbrev pub IsCourseOf : Command → Course → List Deed → Type 0
IsCourseOf (Gateway kind authorities peer) course deeds = course.deeds ≡ deeds
IsCourseOf command course deeds = Unit {0}

-- by what its session did; of any command but a gateway these deeds are whatever
pub worked_status : (name : List ℕ) (command : Command) (outcome : Outcome) (course : Course) (old mid new : WorldView) → (h : Worked name command outcome old mid) → IsCourseOf command course (worked_deeds name command outcome old mid h) → Later mid new
    → IsStatusFor command (Given h.reading h.inputs h.middle) course (status_of outcome) old new
worked_status name (Netacl query) outcome course old mid new h same later =
    by_verdict (Netacl query) (verdict_of h.inputs.rules query.peer) outcome old mid new (λ strange. strange) (worked_rose name (Netacl query) outcome old mid h) later
    (after_status h.works.logging (verdict_of h.inputs.rules query.peer) _ outcome h.middle.output mid.output h.works.printed)
worked_status name (NetaclRun query) outcome course old mid new h same later =
    by_verdict (NetaclRun query) (verdict_of h.inputs.rules query.peer) outcome old mid new (λ strange. strange) (worked_rose name (NetaclRun query) outcome old mid h) later
    (run_status_by query (verdict_of h.inputs.rules query.peer) _ _ outcome h.middle mid h.works)
worked_status name (Table query) outcome course old mid new h same later =
    by_verdict (Table query) (verdict_of h.inputs.rules query.peer) outcome old mid new (λ strange. strange) (worked_rose name (Table query) outcome old mid h) later
    (subst (ByVerdict (verdict_of h.inputs.rules query.peer)) (sym h.works.printed.is) (shown_status (verdict_of h.inputs.rules query.peer) h.works.printed.printing))
worked_status name (Authsrv client) outcome course old mid new h same later =
    let Served : Type 0 = IsServed client.console (verdict_of h.inputs.rules client.peer) (status_of outcome) h.middle.inputs mid.inputs in
    let left = only_left name true old h.middle h.only in
    served_so (Authsrv client) [] outcome old mid new Served (IsServed client.console (verdict_of h.inputs.rules client.peer) (status_of outcome) old.inputs new.inputs) (worked_rose name (Authsrv client) outcome old mid h) later (λ four strange. absurd strange)
    (λ served. served_then client.console (verdict_of h.inputs.rules client.peer) (status_of outcome) h.middle.inputs mid.inputs old.inputs new.inputs left.input left.clock later.inputs served)
    (attended_status client h.inputs outcome h.middle mid h.works)
worked_status name (PlugGw caller) outcome course old mid new h same later =
    let verdict : Verdict = verdict_of h.inputs.rules caller.peer in
    let Linked : SessionInputs → SessionInputs → Type 0 = λ a b. IsLinked verdict (status_of outcome) a b in
    served_so (PlugGw caller) [] outcome old mid new (Linked h.middle.inputs mid.inputs) (Linked old.inputs new.inputs) (worked_rose name (PlugGw caller) outcome old mid h) later (λ four strange. absurd strange)
    (λ linked. subst (λ (i : SessionInputs). Linked i new.inputs) h.only.inputs (subst (λ (i : SessionInputs). Linked h.middle.inputs i) (sym later.inputs) linked))
    (linked_status caller h.inputs outcome h.middle mid h.works)
worked_status name (Gateway kind authorities peer) outcome course old mid new h same later =
    let verdict : Verdict = verdict_of h.inputs.rules peer in
    let left = only_left name (needs_records (Gateway kind authorities peer)) old h.middle h.only in
    let deeds : List Deed = worked_deeds name (Gateway kind authorities peer) outcome old mid h in
    subst (λ (d : List Deed). IsOutside (Gateway kind authorities peer) (status_of outcome) old new ⊎ IsAnswered authorities verdict d (status_of outcome) old.inputs new.inputs) (sym same)
    (served_so (Gateway kind authorities peer) deeds outcome old mid new (IsPassed authorities verdict deeds (status_of outcome) h.middle.inputs mid.inputs) (IsAnswered authorities verdict deeds (status_of outcome) old.inputs new.inputs) (worked_rose name (Gateway kind authorities peer) outcome old mid h) later
    (λ four strange. answered_strange authorities kind peer verdict deeds (status_of outcome) old.inputs new.inputs four strange)
    (λ passed. answered_passed authorities verdict deeds (status_of outcome) old.inputs new.inputs (passed_then authorities verdict deeds (status_of outcome) h.middle.inputs mid.inputs old.inputs new.inputs left.input left.clock later.inputs passed))
    (gateway_status kind authorities peer h.inputs outcome h.middle mid h.works))
worked_status name (Smap peer) outcome course old mid new h same later =
    let verdict : Verdict = verdict_of h.inputs.rules peer in
    let Mails : SessionInputs → SessionInputs → Type 0 = λ a b. IsMailed verdict (status_of outcome) a b in
    served_so (Smap peer) [] outcome old mid new (Mails h.middle.inputs mid.inputs) (Mails old.inputs new.inputs) (worked_rose name (Smap peer) outcome old mid h) later (λ four strange. absurd strange)
    (λ mails. subst (λ (i : SessionInputs). Mails i new.inputs) h.only.inputs (subst (λ (i : SessionInputs). Mails h.middle.inputs i) (sym later.inputs) mails))
    (mailed_status peer h.inputs outcome h.middle mid h.works)

-- ---- what is left

keeper_there : (authorities : Authorities) (after : Answerer authorities) (old new : SessionInputs) → GivenBack authorities after old new → IsSome old.keeper → IsSome new.keeper
keeper_there Records after old new back there = some_there new.keeper after back
keeper_there Remote after old new back there = subst (λ (k : Option KeeperView). IsSome k) (sym back.1) there

works_left : (command : Command) (inputs : Inputs) (outcome : Outcome) (old new : WorldView) → Works command inputs outcome old new → (new.files ≡ old.files) × (IsSome old.inputs.keeper → IsSome new.inputs.keeper)
works_left (Netacl query) inputs outcome old new h = (h.files, λ there. subst (λ (i : SessionInputs). IsSome i.keeper) (sym h.inputs) there)
works_left (NetaclRun query) inputs outcome old new h = let left = run_left query (verdict_of inputs.rules query.peer) _ _ outcome old new h in (left.files, λ there. subst (λ (k : Option KeeperView). IsSome k) (sym left.keeper) there)
works_left (Table query) inputs outcome old new h = (h.files, λ there. subst (λ (i : SessionInputs). IsSome i.keeper) (sym h.inputs) there)
works_left (Authsrv client) inputs outcome old new h = (h.over.files, λ there. some_there new.inputs.keeper h.book.keeper h.over.kept)
works_left (Gateway kind authorities peer) inputs outcome old new h =
    (over_files inputs h.ending outcome old new authorities h.before h.view h.over, λ there. keeper_there authorities (answerer_of authorities h.view) old.inputs new.inputs (over_kept inputs h.ending outcome old new authorities h.before h.view h.over) there)
works_left (Smap peer) inputs outcome old new h = mailed_left peer inputs outcome old new h
works_left (PlugGw caller) inputs outcome old new h = (h.files, λ there. subst (λ (k : Option KeeperView). IsSome k) (sym h.keeper) there)

-- a command without a link leaves the dialer as it was
abbrev pub StaysUnasked : Command → WorldView → WorldView → Type 0
StaysUnasked (PlugGw caller) old new = Unit {0}
StaysUnasked (Gateway kind authorities peer) old new = Unit {0}
StaysUnasked command old new = new.inputs.dialer ≡ old.inputs.dialer

works_unasked : (command : Command) (inputs : Inputs) (outcome : Outcome) (old new : WorldView) → Works command inputs outcome old new → StaysUnasked command old new
works_unasked (Netacl query) inputs outcome old new h = ap (λ (i : SessionInputs). i.dialer) h.inputs
works_unasked (NetaclRun query) inputs outcome old new h = (run_left query (verdict_of inputs.rules query.peer) _ _ outcome old new h).dialer
works_unasked (Table query) inputs outcome old new h = ap (λ (i : SessionInputs). i.dialer) h.inputs
works_unasked (Authsrv client) inputs outcome old new h = h.links
works_unasked (Smap peer) inputs outcome old new h = mailed_unasked peer inputs outcome old new h
works_unasked (PlugGw caller) inputs outcome old new h = tt
works_unasked (Gateway kind authorities peer) inputs outcome old new h = tt

unasked_through : (command : Command) (old middle mid new : WorldView) → middle.inputs.dialer ≡ old.inputs.dialer → new.inputs.dialer ≡ mid.inputs.dialer → StaysUnasked command middle mid → StaysUnasked command old new
unasked_through (Netacl query) old middle mid new before after h = after ∙ h ∙ before
unasked_through (NetaclRun query) old middle mid new before after h = after ∙ h ∙ before
unasked_through (Table query) old middle mid new before after h = after ∙ h ∙ before
unasked_through (Authsrv client) old middle mid new before after h = after ∙ h ∙ before
unasked_through (Smap peer) old middle mid new before after h = after ∙ h ∙ before
unasked_through (PlugGw caller) old middle mid new before after h = tt
unasked_through (Gateway kind authorities peer) old middle mid new before after h = tt

pub worked_unasked : (name : List ℕ) (command : Command) (outcome : Outcome) (old mid new : WorldView) → (h : Worked name command outcome old mid) → Later mid new → StaysUnasked command h.middle new
worked_unasked name command outcome old mid new h later =
    unasked_through command h.middle h.middle mid new refl (ap (λ (i : SessionInputs). i.dialer) later.inputs) (works_unasked command h.inputs outcome h.middle mid h.works)

-- as many sources are out, and the keeper is there
pub record GivesBackAll (old new : WorldView) : Type 0 where
  pub out : new.files.out ≡ old.files.out
  pub keeper : IsSome old.inputs.keeper → IsSome new.inputs.keeper

order_back : (post : Post) → (name : List ℕ) (order : Order) (outcome : Outcome) (old new : WorldView) → DoesOrder post name order outcome old new → GivesBackAll old new
order_back post name (ByTable command) outcome old new (inl h) = let left = stops_left name command outcome old new h in record { out = left.out; keeper = left.keeper }
order_back post name (ByTable command) outcome old new (inr h) =
    let left = only_left name (needs_records command) old h.middle h.only in
    let works = works_left command h.inputs outcome h.middle new h.works in
    record { out = ap (λ (f : FilesView). f.out) works.0 ∙ left.out; keeper = λ there. works.1 (left.keeper there) }
order_back post name (Alone job) outcome old new h =
    let left = job_left post job outcome old new h in
    record { out = left.out; keeper = λ there. subst (λ (k : Option KeeperView). IsSome k) (sym left.keeper) there }

does_back : (post : Post) → (line : Option LineView) (outcome : Outcome) (old new : WorldView) → DoesLine post line outcome old new → GivesBackAll old new
does_back post None outcome old new h = record { out = ap (λ (w : WorldView). w.files.out) h.is; keeper = λ there. subst (λ (w : WorldView). IsSome w.inputs.keeper) (sym h.is) there }
does_back post (Some line) outcome old new h = order_back post line.table line.order outcome old new h

pub run_back : (post : Post) → (line : Option LineView) (status : ℕ) (old new : WorldView) → Run post line status old new → GivesBackAll old new
run_back post line status old new ran =
    let back = does_back post line ran.outcome old ran.middle ran.does in
    let later = tells_later (fault_line_of ran.outcome) ran.middle new ran.tells in
    record { out = ap (λ (f : FilesView). f.out) later.files ∙ back.out; keeper = λ there. subst (λ (i : SessionInputs). IsSome i.keeper) (sym later.inputs) (back.keeper there) }

-- ---- bytes

works_takes : (command : Command) (inputs : Inputs) (outcome : Outcome) (old new : WorldView) → Works command inputs outcome old new → TakesFor command (status_of outcome) old.inputs.input new.inputs.input
works_takes (Netacl query) inputs outcome old new h = takes_same (status_of outcome) old.inputs.input new.inputs.input (ap (λ (i : SessionInputs). i.input) h.inputs)
works_takes (NetaclRun query) inputs outcome old new h = takes_same (status_of outcome) old.inputs.input new.inputs.input (run_left query (verdict_of inputs.rules query.peer) _ _ outcome old new h).input
works_takes (Table query) inputs outcome old new h = takes_same (status_of outcome) old.inputs.input new.inputs.input (ap (λ (i : SessionInputs). i.input) h.inputs)
works_takes (Authsrv client) inputs outcome old new h = attended_takes client inputs outcome old new h
works_takes (PlugGw caller) inputs outcome old new h = linked_takes caller inputs outcome old new h
works_takes (Smap peer) inputs outcome old new h = mailed_takes peer inputs outcome old new h
works_takes (Gateway kind authorities peer) inputs outcome old new h = gateway_takes kind authorities peer inputs outcome old new h

takes_for : (command : Command) (status : ℕ) (old new : SourceView) → TakesIn status old new → TakesFor command status old new
takes_for (PlugGw caller) status old new h = record { took = h.took; all = λ long. inl (h.all long) }
takes_for (Gateway kinds.Telnet authorities peer) status old new h = record { took = h.took; all = λ long. inl (h.all long) }
takes_for (Smap peer) status old new h = h
takes_for (Gateway kinds.Ftp authorities peer) status old new h = h
takes_for (Netacl query) status old new h = h
takes_for (NetaclRun query) status old new h = h
takes_for (Table query) status old new h = h
takes_for (Authsrv client) status old new h = h

order_takes : (post : Post) → (name : List ℕ) (order : Order) (outcome : Outcome) (old new : WorldView) → DoesOrder post name order outcome old new → TakesOf order (status_of outcome) old.inputs.input new.inputs.input
order_takes post name (ByTable command) outcome old new (inl h) =
    takes_for command (status_of outcome) old.inputs.input new.inputs.input (takes_same (status_of outcome) old.inputs.input new.inputs.input (stops_left name command outcome old new h).input)
order_takes post name (ByTable command) outcome old new (inr h) =
    let left = only_left name (needs_records command) old h.middle h.only in
    subst (λ (s : SourceView). TakesFor command (status_of outcome) s new.inputs.input) left.input (works_takes command h.inputs outcome h.middle new h.works)
order_takes post name (Alone job) outcome old new h = job_takes post job outcome old new h

does_takes : (post : Post) → (line : Option LineView) (outcome : Outcome) (old new : WorldView) → DoesLine post line outcome old new → TakesBy line (status_of outcome) old.inputs.input new.inputs.input
does_takes post None outcome old new h = takes_same (status_of outcome) old.inputs.input new.inputs.input (ap (λ (w : WorldView). w.inputs.input) h.is)
does_takes post (Some line) outcome old new h = order_takes post line.table line.order outcome old new h

pub run_takes : (post : Post) → (line : Option LineView) (status : ℕ) (old new : WorldView) → Run post line status old new → TakesBy line status old.inputs.input new.inputs.input
run_takes post line status old new ran =
    let later = tells_later (fault_line_of ran.outcome) ran.middle new ran.tells in
    subst (λ (s : ℕ). TakesBy line s old.inputs.input new.inputs.input) (sym ran.status_is)
    (subst (λ (i : SessionInputs). TakesBy line (status_of ran.outcome) old.inputs.input i.input) (sym later.inputs) (does_takes post line ran.outcome old ran.middle ran.does))

-- ---- the disks

works_disks : (command : Command) (inputs : Inputs) (outcome : Outcome) (old new : WorldView) → Works command inputs outcome old new → CommandLeavesDisks command old.inputs.disks new.inputs.disks
works_disks (Netacl query) inputs outcome old new h = ap (λ (i : SessionInputs). i.disks) h.inputs
works_disks (NetaclRun query) inputs outcome old new h = (run_left query (verdict_of inputs.rules query.peer) _ _ outcome old new h).disks
works_disks (Table query) inputs outcome old new h = ap (λ (i : SessionInputs). i.disks) h.inputs
works_disks (Authsrv client) inputs outcome old new h = h.over.disks
works_disks (Smap peer) inputs outcome old new h = mailed_slots peer inputs outcome old new h
works_disks (PlugGw caller) inputs outcome old new h = h.disks
works_disks (Gateway kind authorities peer) inputs outcome old new h = over_disks inputs h.ending outcome old new authorities h.before h.view h.over

disks_same : (command : Command) (old new : List DiskView) → new ≡ old → CommandLeavesDisks command old new
disks_same (Smap peer) old new is = inl is
disks_same (Netacl query) old new is = is
disks_same (NetaclRun query) old new is = is
disks_same (Table query) old new is = is
disks_same (Authsrv client) old new is = is
disks_same (PlugGw caller) old new is = is
disks_same (Gateway kind authorities peer) old new is = is

order_disks : (post : Post) → (name : List ℕ) (order : Order) (outcome : Outcome) (old new : WorldView) → DoesOrder post name order outcome old new → OrderLeavesDisks order (status_of outcome) old.inputs.disks new.inputs.disks
order_disks post name (ByTable command) outcome old new (inl h) = disks_same command old.inputs.disks new.inputs.disks (stops_left name command outcome old new h).disks
order_disks post name (ByTable command) outcome old new (inr h) =
    subst (λ (d : List DiskView). CommandLeavesDisks command d new.inputs.disks) (only_left name (needs_records command) old h.middle h.only).disks (works_disks command h.inputs outcome h.middle new h.works)
order_disks post name (Alone job) outcome old new h = job_disks post job outcome old new h

does_disks : (post : Post) → (line : Option LineView) (outcome : Outcome) (old new : WorldView) → DoesLine post line outcome old new → LeavesDisks line (status_of outcome) old.inputs.disks new.inputs.disks
does_disks post None outcome old new h = ap (λ (w : WorldView). w.inputs.disks) h.is
does_disks post (Some line) outcome old new h = order_disks post line.table line.order outcome old new h

pub run_disks : (post : Post) → (line : Option LineView) (status : ℕ) (old new : WorldView) → Run post line status old new → LeavesDisks line status old.inputs.disks new.inputs.disks
run_disks post line status old new ran =
    let later = tells_later (fault_line_of ran.outcome) ran.middle new ran.tells in
    subst (λ (s : ℕ). LeavesDisks line s old.inputs.disks new.inputs.disks) (sym ran.status_is)
    (subst (λ (i : SessionInputs). LeavesDisks line (status_of ran.outcome) old.inputs.disks i.disks) (sym later.inputs) (does_disks post line ran.outcome old ran.middle ran.does))

-- ---- the server elsewhere

ends_there : (new : Option RemoteOrigin) (ends : RemoteOrigin) → new ≡ Some ends → IsSome new
ends_there new ends is = subst (λ (e : Option RemoteOrigin). IsSome e) (sym is) refl

works_remote : (command : Command) (inputs : Inputs) (outcome : Outcome) (old new : WorldView) → Works command inputs outcome old new → LeavesRemoteIf (is_remote (ByTable command)) old.inputs new.inputs
works_remote (Netacl query) inputs outcome old new h = ap (λ (i : SessionInputs). i.remote) h.inputs
works_remote (NetaclRun query) inputs outcome old new h = (run_left query (verdict_of inputs.rules query.peer) _ _ outcome old new h).remote
works_remote (Table query) inputs outcome old new h = ap (λ (i : SessionInputs). i.remote) h.inputs
works_remote (Authsrv client) inputs outcome old new h = h.over.remote
works_remote (Smap peer) inputs outcome old new h = mailed_remote peer inputs outcome old new h
works_remote (PlugGw caller) inputs outcome old new h = h.remote
works_remote (Gateway kind Records peer) inputs outcome old new h = h.over.remote
works_remote (Gateway kind Remote peer) inputs outcome old new h = (λ there. ends_there new.inputs.remote (record { source = h.view.link.source; sink = h.view.link.sink }) h.over.back.0, h.over.back.1)

-- what reads no records calls no keeper
kept_same : (old new : SessionInputs) → new ≡ old → LeavesRemoteIf true old new
kept_same old new is = (λ there. subst (λ (i : SessionInputs). IsSome i.remote) (sym is) there, ap (λ (i : SessionInputs). i.keeper) is)

-- no record refuses what needs the rules alone
rules_refuse : (read : Result RuleBook RuleFault) (refusal : Refusal) → with_rules no_inputs read ≡ Err refusal → is_of_line refusal ≡ true
rules_refuse (Ok rules) refusal is = absurd (cc)
rules_refuse (Err fault) refusal is = let same : Rule fault ≡ refusal = cc in ap is_of_line (sym same)

table_refuses : (service : Service) (loaded : NamedBytes) (read : Result (List Line) TableFault) (refusal : Refusal) → inputs_by loaded (RulesOf service ∷ []) read ≡ Err refusal → is_of_line refusal ≡ true
table_refuses service loaded (Ok lines) refusal is = rules_refuse (rules_of service lines) refusal is
table_refuses service loaded (Err fault) refusal is = let same : Tabled fault ≡ refusal = cc in ap is_of_line (sym same)

lacks_kept : (name : List ℕ) (kind : GatewayKind) (peer : Peer) (step : Step) (old new : WorldView) → Lacks name (Gateway kind Remote peer) step old new → LeavesRemoteIf true old.inputs new.inputs
lacks_kept name kind peer steps.Print old new h = kept_same old.inputs new.inputs h.only.inputs
lacks_kept name kind peer steps.Start old new h = kept_same old.inputs new.inputs h.inputs
lacks_kept name kind peer steps.Table old new h = kept_same old.inputs new.inputs h.inputs
lacks_kept name kind peer steps.Rules old new h = kept_same old.inputs new.inputs h.inputs
lacks_kept name kind peer steps.Policy old new h = kept_same old.inputs new.inputs h.inputs
lacks_kept name kind peer steps.Records old new h = let clash : false ≡ true = h.needed in absurd (cc)
lacks_kept name kind peer steps.Drill old new h = absurd h
lacks_kept name kind peer steps.Slots old new h = absurd h
lacks_kept name kind peer steps.Round old new h = absurd h
lacks_kept name kind peer steps.Dictionary old new h = absurd h

remote_stops : (name : List ℕ) (kind : GatewayKind) (peer : Peer) (outcome : Outcome) (old new : WorldView) → Stops name (Gateway kind Remote peer) outcome old new → LeavesRemoteIf true old.inputs new.inputs
remote_stops name kind peer (Unread refusal) old new h =
    let of_line = table_refuses (gateway_service kind) h.reading.loaded h.reading.table refusal h.read.is in
    kept_same old.inputs new.inputs (subst (λ (b : Bool). CallsIf (not b) old.inputs new.inputs) of_line h.only.inputs)
remote_stops name kind peer (Failed device.Table) old new h = kept_same old.inputs new.inputs h.inputs
remote_stops name kind peer (Failed device.Records) old new h = let clash : false ≡ true = h.needed in absurd (cc)
remote_stops name kind peer (NoMemory step) old new h = lacks_kept name kind peer step old new h
remote_stops name kind peer outcome old new h = absurd h

stops_remote : (name : List ℕ) (command : Command) (outcome : Outcome) (old new : WorldView) → Stops name command outcome old new → LeavesRemoteIf (is_remote (ByTable command)) old.inputs new.inputs
stops_remote name (Gateway kind Remote peer) outcome old new h = remote_stops name kind peer outcome old new h
stops_remote name (Gateway kind Records peer) outcome old new h = (stops_left name (Gateway kind Records peer) outcome old new h).remote
stops_remote name (Netacl query) outcome old new h = (stops_left name (Netacl query) outcome old new h).remote
stops_remote name (NetaclRun query) outcome old new h = (stops_left name (NetaclRun query) outcome old new h).remote
stops_remote name (Table query) outcome old new h = (stops_left name (Table query) outcome old new h).remote
stops_remote name (Authsrv client) outcome old new h = (stops_left name (Authsrv client) outcome old new h).remote
stops_remote name (PlugGw caller) outcome old new h = (stops_left name (PlugGw caller) outcome old new h).remote
stops_remote name (Smap peer) outcome old new h = (stops_left name (Smap peer) outcome old new h).remote

-- from where the work began to where the run did
remote_from : (name : List ℕ) (command : Command) (old mid new : WorldView) → ReadsOnly name (needs_records command) old mid → LeavesRemoteIf (is_remote (ByTable command)) mid.inputs new.inputs → LeavesRemoteIf (is_remote (ByTable command)) old.inputs new.inputs
remote_from name (Gateway kind Remote peer) old mid new only h = subst (λ (i : SessionInputs). LeavesRemoteIf true i new.inputs) only.inputs h
remote_from name (Gateway kind Records peer) old mid new only h = h ∙ (only_left name true old mid only).remote
remote_from name (Netacl query) old mid new only h = h ∙ (only_left name false old mid only).remote
remote_from name (NetaclRun query) old mid new only h = h ∙ (only_left name false old mid only).remote
remote_from name (Table query) old mid new only h = h ∙ (only_left name false old mid only).remote
remote_from name (Authsrv client) old mid new only h = h ∙ (only_left name true old mid only).remote
remote_from name (PlugGw caller) old mid new only h = h ∙ (only_left name false old mid only).remote
remote_from name (Smap peer) old mid new only h = h ∙ (only_left name false old mid only).remote

order_remote : (post : Post) → (name : List ℕ) (order : Order) (outcome : Outcome) (old new : WorldView) → DoesOrder post name order outcome old new → LeavesRemoteIf (is_remote order) old.inputs new.inputs
order_remote post name (ByTable command) outcome old new (inl h) = stops_remote name command outcome old new h
order_remote post name (ByTable command) outcome old new (inr h) = remote_from name command old h.middle new h.only (works_remote command h.inputs outcome h.middle new h.works)
order_remote post name (Alone job) outcome old new h = (job_left post job outcome old new h).remote

does_remote : (post : Post) → (line : Option LineView) (outcome : Outcome) (old new : WorldView) → DoesLine post line outcome old new → LeavesRemote line old.inputs new.inputs
does_remote post None outcome old new h = ap (λ (w : WorldView). w.inputs.remote) h.is
does_remote post (Some line) outcome old new h = order_remote post line.table line.order outcome old new h

pub run_remote : (post : Post) → (line : Option LineView) (status : ℕ) (old new : WorldView) → Run post line status old new → LeavesRemote line old.inputs new.inputs
run_remote post line status old new ran =
    let later = tells_later (fault_line_of ran.outcome) ran.middle new ran.tells in
    subst (λ (i : SessionInputs). LeavesRemote line old.inputs i) (sym later.inputs) (does_remote post line ran.outcome old ran.middle ran.does)
