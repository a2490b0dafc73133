-- Whose count has risen.
use Rattle.std.proofs.Common.{◌≡◌, ◌≢◌, ℕ, List, [], refl, sym, ap, subst, inl, inr, arith, ◌⊎◌, Bool, true, false}
use Rattle.std.specs.Prelude.{Option, Some, None}
use Rattle.fw_outside.specs.Counts.{Rose}
use Rattle.fw_outside.specs.DialerView.{DialerView}
use Rattle.fw_outside.specs.FilesView.{FilesView}
use Rattle.fw_outside.specs.KeeperView.{KeeperFailed, KeeperView}
use Rattle.fw_outside.specs.LauncherView.{LauncherView}
use Rattle.fw_outside.specs.SinkView.{SinkView}
use Rattle.fw_outside.specs.SourceView.{SourceView}
use Rattle.fw_types.specs.declared.ending.Ending.{Ending}
use Rattle.fw_types.specs.declared.ending.Ending.TheVariants as endings
use Rattle.gate_rules.specs.Verdict.{verdict_of}
use Rattle.gate_rules.specs.declared.verdict.Verdict.{Verdict}
use Rattle.gate_rules.specs.declared.verdict.Verdict.TheVariants.{Permit, Deny}
use Rattle.bastion.specs.Inputs.{Inputs, needs_records}
use Rattle.bastion.specs.Outcome.{AuthRose, CountRose, DeviceRose, DiskRose, EndingRose, EndsRose, GateRose, KeeperRose, LinkRose, RoseFor, SlotsRose, WasStrange, status_of, verdict_status}
use Rattle.bastion.specs.Run.{CallsIf, FilesFailed, ReadsOnly, Stops, Worked}
use Rattle.bastion.specs.Works.{Works}
use Rattle.bastion.specs.WorldView.{SessionInputs, WorldView}
use Rattle.bastion.specs.declared.outcome.Device.{Device}
use Rattle.bastion.specs.declared.outcome.Device.TheVariants as device
use Rattle.bastion.specs.declared.outcome.Outcome.{Outcome}
use Rattle.bastion.specs.declared.outcome.Outcome.TheVariants.{Usage, Unread, Failed, NoMemory, Done, Decided, Ended}
use Rattle.bastion.specs.declared.words.Authorities.{Authorities}
use Rattle.bastion.specs.declared.words.Authorities.TheVariants.{Records, Remote}
use Rattle.bastion.specs.declared.words.Command.{Command}
use Rattle.bastion.specs.declared.words.Command.TheVariants.{Netacl, NetaclRun, Table, Authsrv, PlugGw, Gateway, Smap}
use Rattle.remote_port.specs.Remote.{RemoteOrigin}
use Rattle.session_acts.specs.Deeds.{Deed}
use Rattle.bastion.proofs.AttendedLemmas.{attended_rose}
use Rattle.bastion.proofs.DecidedLemmas.{after_rose, shown_rose}
use Rattle.bastion.proofs.LaunchLemmas.{run_rose}
use Rattle.bastion.proofs.GateStatusLemmas.{gateway_course, gateway_rose}
use Rattle.bastion.proofs.LinkingLemmas.{linked_rose}
use Rattle.bastion.proofs.MailedLemmas.{mailed_rose}
use Rattle.client_service.proofs.SinkLemmas.{rose_later}
use Rattle.bastion.specs.Status.{DisksRose, LinksFailed, LinksRose, RoseBy, SomeRose}
use Rattle.bastion.proofs.LeftLemmas.{Later, calls_launcher, only_left}

-- ---- whose count has risen

files_rose : (name : List ℕ) (old new : FilesView) → FilesFailed name old new → Rose old.missing new.missing ⊎ Rose old.read_faults new.read_faults
files_rose name old new (inl missed) = inl (subst (λ (c : FilesView). Rose old.missing c.missing) (sym missed.is) missed.rose)
files_rose name old new (inr failed) = inr (subst (λ (c : FilesView). Rose old.read_faults c.read_faults) (sym failed.is) failed.rose)

missed_rose : (before after : KeeperView) → KeeperFailed before after → Rose before.faults after.faults
missed_rose before after h = subst (λ (v : KeeperView). Rose before.faults v.faults) (sym h.is) h.rose

both_keepers : (old new : Option KeeperView) (before after : KeeperView) → old ≡ Some before → new ≡ Some after → Rose before.faults after.faults → KeeperRose old new
both_keepers old new before after a b rose =
    subst (λ (k : Option KeeperView). KeeperRose k new) (sym a) (subst (λ (k : Option KeeperView). KeeperRose (Some before) k) (sym b) rose)

pub stops_rose : (name : List ℕ) (command : Command) (outcome : Outcome) (old new : WorldView) → Stops name command outcome old new → CountRose outcome old new
stops_rose name command (Failed device.Table) old new h = files_rose name old.files new.files h.failed
stops_rose name command (Failed device.Records) old new h =
    both_keepers old.inputs.keeper new.inputs.keeper h.before h.after h.keeper (ap (λ (i : SessionInputs). i.keeper) h.inputs) (missed_rose h.before h.after h.failed)
stops_rose name command (Failed device.Output) old new h = absurd h
stops_rose name command (Failed device.Log) old new h = absurd h
stops_rose name command (Failed device.Program) old new h = absurd h
stops_rose name command (Failed device.Mailer) old new h = absurd h
stops_rose name command (Failed device.Dictionary) old new h = absurd h
stops_rose name command (Failed device.Input) old new h = absurd h
stops_rose name command (Failed (device.Disk slot)) old new h = absurd h
stops_rose name command (Ended ending refused) old new h = absurd h
stops_rose name command outcome old new h = tt

-- what counts for every command counts for one that has a link
ending_link : (ending : Ending) (old new : WorldView) → EndingRose ending old new → LinkRose ending old new
ending_link endings.Done old new h = h
ending_link (endings.Denied line) old new h = h
ending_link endings.ClientFault old new h = h
ending_link endings.ServerFault old new h = absurd h
ending_link endings.LogFault old new h = h
ending_link endings.AuthFault old new h = h
ending_link endings.Idle old new h = inl h
ending_link endings.NoRoute old new h = absurd h
ending_link endings.Spent old new h = h
ending_link endings.NoMemory old new h = h

ending_gate : (authorities : Authorities) (deeds : List Deed) (ending : Ending) (old new : WorldView) → EndingRose ending old new → GateRose authorities deeds ending old new
ending_gate authorities deeds endings.NoRoute old new h = h
ending_gate authorities deeds endings.AuthFault old new h = absurd h
ending_gate authorities deeds ending old new h = ending_link ending old new h

pub rose_for : (command : Command) (deeds : List Deed) (outcome : Outcome) (old new : WorldView) → CountRose outcome old new → RoseFor command deeds outcome old new
rose_for (PlugGw caller) deeds (Ended ending refused) old new h = ending_link ending old new h
rose_for (Gateway kind authorities peer) deeds (Ended ending refused) old new h = ending_gate authorities deeds ending old new h
rose_for (PlugGw caller) deeds Usage old new h = h
rose_for (PlugGw caller) deeds (Unread refusal) old new h = h
rose_for (PlugGw caller) deeds (Failed which) old new h = h
rose_for (PlugGw caller) deeds (NoMemory step) old new h = h
rose_for (PlugGw caller) deeds Done old new h = h
rose_for (PlugGw caller) deeds (Decided verdict) old new h = h
rose_for (Gateway kind authorities peer) deeds Usage old new h = h
rose_for (Gateway kind authorities peer) deeds (Unread refusal) old new h = h
rose_for (Gateway kind authorities peer) deeds (Failed which) old new h = h
rose_for (Gateway kind authorities peer) deeds (NoMemory step) old new h = h
rose_for (Gateway kind authorities peer) deeds Done old new h = h
rose_for (Gateway kind authorities peer) deeds (Decided verdict) old new h = h
rose_for (Smap peer) deeds Usage old new h = h
rose_for (Smap peer) deeds (Unread refusal) old new h = h
rose_for (Smap peer) deeds (Failed device.Table) old new h = h
rose_for (Smap peer) deeds (Failed device.Output) old new h = h
rose_for (Smap peer) deeds (Failed device.Log) old new h = h
rose_for (Smap peer) deeds (Failed device.Records) old new h = h
rose_for (Smap peer) deeds (Failed device.Program) old new h = h
rose_for (Smap peer) deeds (Failed device.Mailer) old new h = absurd h
rose_for (Smap peer) deeds (Failed device.Dictionary) old new h = h
rose_for (Smap peer) deeds (Failed device.Input) old new h = h
rose_for (Smap peer) deeds (Failed (device.Disk slot)) old new h = absurd h
rose_for (Smap peer) deeds (NoMemory step) old new h = h
rose_for (Smap peer) deeds Done old new h = h
rose_for (Smap peer) deeds (Decided verdict) old new h = h
rose_for (Smap peer) deeds (Ended ending refused) old new h = h
rose_for (Netacl query) deeds outcome old new h = h
rose_for (NetaclRun query) deeds outcome old new h = h
rose_for (Table query) deeds outcome old new h = h
rose_for (Authsrv client) deeds outcome old new h = h

-- what the session of a gateway did; of any other command nothing is said by it
abbrev pub works_deeds : (command : Command) (inputs : Inputs) (outcome : Outcome) (old new : WorldView) → Works command inputs outcome old new → List Deed
works_deeds (Gateway kind authorities peer) inputs outcome old new h = (gateway_course kind authorities peer inputs outcome old new h).deeds
works_deeds command inputs outcome old new h = []

works_rose : (command : Command) (inputs : Inputs) (outcome : Outcome) (old new : WorldView) (h : Works command inputs outcome old new) → RoseFor command (works_deeds command inputs outcome old new h) outcome old new
works_rose (Netacl query) inputs outcome old new h = after_rose h.logging (verdict_of inputs.rules query.peer) _ _ outcome old new h.logged h.printed
works_rose (NetaclRun query) inputs outcome old new h = run_rose query (verdict_of inputs.rules query.peer) _ _ outcome old new h
works_rose (Table query) inputs outcome old new h =
    subst (λ (o : Outcome). CountRose o old new) (sym h.printed.is) (shown_rose (verdict_of inputs.rules query.peer) h.printed.printing _ old new h.printed.gives)
works_rose (Authsrv client) inputs outcome old new h = attended_rose client inputs outcome old new h
works_rose (PlugGw caller) inputs outcome old new h = linked_rose caller inputs outcome old new h
works_rose (Gateway kind authorities peer) inputs outcome old new h = gateway_rose kind authorities peer inputs outcome old new h
works_rose (Smap peer) inputs outcome old new h = mailed_rose peer inputs outcome old new h

-- ---- from where the work began to where the run did

same_faults : (one other : KeeperView) (new : Option KeeperView) → one.faults ≡ other.faults → KeeperRose (Some one) new → KeeperRose (Some other) new
same_faults one other None is h = h
same_faults one other (Some view) is h = subst (λ (n : ℕ). Rose n view.faults) is h

keeper_from : (records : Bool) (old mid : SessionInputs) (new : Option KeeperView) → CallsIf records old mid → KeeperRose mid.keeper new → KeeperRose old.keeper new
keeper_from false old mid new is h = subst (λ (i : SessionInputs). KeeperRose i.keeper new) is h
keeper_from true old mid new calls h =
    let after : KeeperRose (Some calls.after) new = subst (λ (i : SessionInputs). KeeperRose i.keeper new) calls.is h in
    subst (λ (k : Option KeeperView). KeeperRose k new) (sym calls.keeper) (same_faults calls.after calls.before new (ap (λ (v : KeeperView). v.faults) calls.called.is) after)

device_from : (name : List ℕ) (records : Bool) (which : Device) (old mid new : WorldView) → ReadsOnly name records old mid → DeviceRose which mid new → DeviceRose which old new
device_from name records device.Table old mid new only h =
    subst (λ (f : FilesView). Rose f.missing new.files.missing ⊎ Rose f.read_faults new.files.read_faults) only.files.is h
device_from name records device.Output old mid new only h = subst (λ (s : SinkView). Rose s.faults new.output.faults) only.output h
device_from name records device.Log old mid new only h = subst (λ (s : SinkView). Rose s.faults new.logs.faults) only.logs h
device_from name records device.Records old mid new only h = keeper_from records old.inputs mid.inputs new.inputs.keeper only.inputs h
device_from name records device.Program old mid new only h =
    subst (λ (l : LauncherView). Rose l.faults new.inputs.launcher.faults) (calls_launcher records old.inputs mid.inputs only.inputs) h
device_from name records device.Mailer old mid new only h = absurd h
device_from name records device.Dictionary old mid new only h =
    subst (λ (f : FilesView). Rose f.missing new.files.missing ⊎ Rose f.read_faults new.files.read_faults) only.files.is h
device_from name records device.Input old mid new only h =
    subst (λ (s : SourceView). Rose s.faults new.inputs.input.faults ⊎ Rose s.idles new.inputs.input.idles) (only_left name records old mid only).input h
device_from name records (device.Disk slot) old mid new only h = absurd h

client_from : (old mid : WorldView) (new : WorldView) → mid.inputs.input ≡ old.inputs.input → mid.output ≡ old.output
    → Rose mid.inputs.input.faults new.inputs.input.faults ⊎ Rose mid.output.faults new.output.faults → Rose old.inputs.input.faults new.inputs.input.faults ⊎ Rose old.output.faults new.output.faults
client_from old mid new input output (inl h) = inl (subst (λ (s : SourceView). Rose s.faults new.inputs.input.faults) input h)
client_from old mid new input output (inr h) = inr (subst (λ (s : SinkView). Rose s.faults new.output.faults) output h)

ending_from : (ending : Ending) (old mid new : WorldView) → mid.inputs.input ≡ old.inputs.input → mid.output ≡ old.output → mid.logs ≡ old.logs → EndingRose ending mid new → EndingRose ending old new
ending_from endings.Done old mid new input output logs h = tt
ending_from (endings.Denied line) old mid new input output logs h = tt
ending_from endings.ClientFault old mid new input output logs h = client_from old mid new input output h
ending_from endings.ServerFault old mid new input output logs h = h
ending_from endings.LogFault old mid new input output logs h = subst (λ (s : SinkView). Rose s.faults new.logs.faults) logs h
ending_from endings.AuthFault old mid new input output logs h = h
ending_from endings.Idle old mid new input output logs h = subst (λ (s : SourceView). Rose s.idles new.inputs.input.idles) input h
ending_from endings.NoRoute old mid new input output logs h = h
ending_from endings.Spent old mid new input output logs h = tt
ending_from endings.NoMemory old mid new input output logs h = tt

-- what a link's ending has counted is of four devices
link_from : (ending : Ending) (old mid new : WorldView) → mid.inputs.input ≡ old.inputs.input → mid.inputs.dialer ≡ old.inputs.dialer → mid.output ≡ old.output → mid.logs ≡ old.logs → LinkRose ending mid new → LinkRose ending old new
link_from endings.Done old mid new input dialer output logs h = tt
link_from (endings.Denied line) old mid new input dialer output logs h = tt
link_from endings.ClientFault old mid new input dialer output logs h = client_from old mid new input output h
link_from endings.ServerFault old mid new input dialer output logs h = subst (λ (d : DialerView). Rose d.link_faults new.inputs.dialer.link_faults) dialer h
link_from endings.LogFault old mid new input dialer output logs h = subst (λ (s : SinkView). Rose s.faults new.logs.faults) logs h
link_from endings.AuthFault old mid new input dialer output logs h = h
link_from endings.Idle old mid new input dialer output logs (inl h) = inl (subst (λ (s : SourceView). Rose s.idles new.inputs.input.idles) input h)
link_from endings.Idle old mid new input dialer output logs (inr h) = inr (subst (λ (d : DialerView). Rose d.link_idles new.inputs.dialer.link_idles) dialer h)
link_from endings.NoRoute old mid new input dialer output logs h = subst (λ (d : DialerView). Rose d.refusals new.inputs.dialer.refusals) dialer h
link_from endings.Spent old mid new input dialer output logs h = tt
link_from endings.NoMemory old mid new input dialer output logs h = tt

link_only : (name : List ℕ) (records : Bool) (ending : Ending) (old mid new : WorldView) → ReadsOnly name records old mid → LinkRose ending mid new → LinkRose ending old new
link_only name records ending old mid new only h =
    let left = only_left name records old mid only in
    link_from ending old mid new left.input left.dialer only.output only.logs h

-- so is what the link to a server elsewhere has
auth_from : (authorities : Authorities) (deeds : List Deed) (old mid new : WorldView) → mid.inputs.remote ≡ old.inputs.remote → AuthRose authorities deeds mid new → AuthRose authorities deeds old new
auth_from Records deeds old mid new remote h = h
auth_from Remote deeds old mid new remote (inl ends) = inl (subst (λ (o : Option RemoteOrigin). EndsRose o new.inputs.remote) remote ends)
auth_from Remote deeds old mid new remote (inr strange) = inr strange

gate_only : (name : List ℕ) (records : Bool) (authorities : Authorities) (deeds : List Deed) (ending : Ending) (old mid new : WorldView) → ReadsOnly name records old mid → GateRose authorities deeds ending mid new → GateRose authorities deeds ending old new
gate_only name records authorities deeds endings.NoRoute old mid new only h = h
gate_only name records authorities deeds endings.AuthFault old mid new only h = auth_from authorities deeds old mid new (only_left name records old mid only).remote h
gate_only name records authorities deeds ending old mid new only h = link_only name records ending old mid new only h

count_from : (name : List ℕ) (records : Bool) (outcome : Outcome) (old mid new : WorldView) → ReadsOnly name records old mid → CountRose outcome mid new → CountRose outcome old new
count_from name records (Failed which) old mid new only h = device_from name records which old mid new only h
count_from name records (Ended ending refused) old mid new only h = ending_from ending old mid new (only_left name records old mid only).input only.output only.logs h
count_from name records outcome old mid new only h = tt

-- the disks are called behind the reading
slots_from : (name : List ℕ) (outcome : Outcome) (old mid new : WorldView) → ReadsOnly name false old mid → SlotsRose outcome mid new → SlotsRose outcome old new
slots_from name (Failed device.Table) old mid new only h = device_from name false device.Table old mid new only h
slots_from name (Failed device.Output) old mid new only h = device_from name false device.Output old mid new only h
slots_from name (Failed device.Log) old mid new only h = device_from name false device.Log old mid new only h
slots_from name (Failed device.Records) old mid new only h = device_from name false device.Records old mid new only h
slots_from name (Failed device.Program) old mid new only h = device_from name false device.Program old mid new only h
slots_from name (Failed device.Mailer) old mid new only h = absurd h
slots_from name (Failed device.Dictionary) old mid new only h = device_from name false device.Dictionary old mid new only h
slots_from name (Failed device.Input) old mid new only h = device_from name false device.Input old mid new only h
slots_from name (Failed (device.Disk slot)) old mid new only h = subst (λ (i : SessionInputs). DiskRose slot i.disks new.inputs.disks) only.inputs h
slots_from name Usage old mid new only h = tt
slots_from name (Unread refusal) old mid new only h = tt
slots_from name (NoMemory step) old mid new only h = tt
slots_from name Done old mid new only h = tt
slots_from name (Decided verdict) old mid new only h = tt
slots_from name (Ended ending refused) old mid new only h = count_from name false (Ended ending refused) old mid new only h

rose_from : (name : List ℕ) (command : Command) (deeds : List Deed) (outcome : Outcome) (old mid new : WorldView) → ReadsOnly name (needs_records command) old mid → RoseFor command deeds outcome mid new → RoseFor command deeds outcome old new
rose_from name (PlugGw caller) deeds (Ended ending refused) old mid new only h = link_only name false ending old mid new only h
rose_from name (Gateway kind authorities peer) deeds (Ended ending refused) old mid new only h = gate_only name (needs_records (Gateway kind authorities peer)) authorities deeds ending old mid new only h
rose_from name (PlugGw caller) deeds Usage old mid new only h = tt
rose_from name (PlugGw caller) deeds (Unread refusal) old mid new only h = tt
rose_from name (PlugGw caller) deeds (Failed which) old mid new only h = device_from name false which old mid new only h
rose_from name (PlugGw caller) deeds (NoMemory step) old mid new only h = tt
rose_from name (PlugGw caller) deeds Done old mid new only h = tt
rose_from name (PlugGw caller) deeds (Decided verdict) old mid new only h = tt
rose_from name (Gateway kind authorities peer) deeds Usage old mid new only h = tt
rose_from name (Gateway kind authorities peer) deeds (Unread refusal) old mid new only h = tt
rose_from name (Gateway kind authorities peer) deeds (Failed which) old mid new only h = device_from name (needs_records (Gateway kind authorities peer)) which old mid new only h
rose_from name (Gateway kind authorities peer) deeds (NoMemory step) old mid new only h = tt
rose_from name (Gateway kind authorities peer) deeds Done old mid new only h = tt
rose_from name (Gateway kind authorities peer) deeds (Decided verdict) old mid new only h = tt
rose_from name (Smap peer) deeds outcome old mid new only h = slots_from name outcome old mid new only h
rose_from name (Netacl query) deeds outcome old mid new only h = count_from name false outcome old mid new only h
rose_from name (NetaclRun query) deeds outcome old mid new only h = count_from name false outcome old mid new only h
rose_from name (Table query) deeds outcome old mid new only h = count_from name false outcome old mid new only h
rose_from name (Authsrv client) deeds outcome old mid new only h = count_from name true outcome old mid new only h

abbrev pub worked_deeds : (name : List ℕ) (command : Command) (outcome : Outcome) (old new : WorldView) → Worked name command outcome old new → List Deed
worked_deeds name command outcome old new h = works_deeds command h.inputs outcome h.middle new h.works

pub worked_rose : (name : List ℕ) (command : Command) (outcome : Outcome) (old new : WorldView) (h : Worked name command outcome old new) → RoseFor command (worked_deeds name command outcome old new h) outcome old new
worked_rose name command outcome old new h = rose_from name command (worked_deeds name command outcome old new h) outcome old h.middle new h.only (works_rose command h.inputs outcome h.middle new h.works)

pub some_later : (old mid new : WorldView) → Later mid new → SomeRose old mid → SomeRose old new
some_later old mid new h (inl files) = inl (subst (λ (f : FilesView). Rose old.files.missing f.missing ⊎ Rose old.files.read_faults f.read_faults) (sym h.files) files)
some_later old mid new h (inr (inl (inl output))) = inr (inl (inl (subst (λ (s : SinkView). Rose old.output.faults s.faults) (sym h.output) output)))
some_later old mid new h (inr (inl (inr logs))) = inr (inl (inr (rose_later old.logs.faults mid.logs.faults new.logs.faults logs h.logs)))
some_later old mid new h (inr (inr inputs)) =
    inr (inr (subst (λ (i : SessionInputs). (Rose old.inputs.input.faults i.input.faults ⊎ Rose old.inputs.input.idles i.input.idles) ⊎ (KeeperRose old.inputs.keeper i.keeper ⊎ Rose old.inputs.launcher.faults i.launcher.faults)) (sym h.inputs) inputs))

-- a device's own count rose, or one of the dialer's
abbrev SomeOrLinks : WorldView → WorldView → Type 0
SomeOrLinks old new = SomeRose old new ⊎ LinksRose old.inputs.dialer new.inputs.dialer

links_later : (old mid new : WorldView) → Later mid new → SomeOrLinks old mid → SomeOrLinks old new
links_later old mid new later (inl some) = inl (some_later old mid new later some)
links_later old mid new later (inr links) = inr (subst (λ (i : SessionInputs). LinksRose old.inputs.dialer i.dialer) (sym later.inputs) links)

-- or that of a link that had failed or been idle
abbrev SomeOrFailed : WorldView → WorldView → Type 0
SomeOrFailed old new = SomeRose old new ⊎ LinksFailed old.inputs.dialer new.inputs.dialer

failed_later : (old mid new : WorldView) → Later mid new → SomeOrFailed old mid → SomeOrFailed old new
failed_later old mid new later (inl some) = inl (some_later old mid new later some)
failed_later old mid new later (inr links) = inr (subst (λ (i : SessionInputs). LinksFailed old.inputs.dialer i.dialer) (sym later.inputs) links)

-- or that of a disk
abbrev SomeOrDisks : WorldView → WorldView → Type 0
SomeOrDisks old new = SomeRose old new ⊎ DisksRose old.inputs.disks new.inputs.disks

disks_later : (old mid new : WorldView) → Later mid new → SomeOrDisks old mid → SomeOrDisks old new
disks_later old mid new later (inl some) = inl (some_later old mid new later some)
disks_later old mid new later (inr disks) = inr (subst (λ (i : SessionInputs). DisksRose old.inputs.disks i.disks) (sym later.inputs) disks)

-- or that of the link to a server elsewhere
abbrev SomeOrEnds : WorldView → WorldView → Type 0
SomeOrEnds old new = SomeOrFailed old new ⊎ EndsRose old.inputs.remote new.inputs.remote

ends_later : (old mid new : WorldView) → Later mid new → SomeOrEnds old mid → SomeOrEnds old new
ends_later old mid new later (inl some) = inl (failed_later old mid new later some)
ends_later old mid new later (inr ends) = inr (subst (λ (i : SessionInputs). EndsRose old.inputs.remote i.remote) (sym later.inputs) ends)

pub by_later : (command : Command) (old mid new : WorldView) → Later mid new → RoseBy command old mid → RoseBy command old new
by_later (PlugGw caller) old mid new later h = links_later old mid new later h
by_later (Gateway kind Records peer) old mid new later h = failed_later old mid new later h
by_later (Gateway kind Remote peer) old mid new later h = ends_later old mid new later h
by_later (Smap peer) old mid new later h = disks_later old mid new later h
by_later (Netacl query) old mid new later h = some_later old mid new later h
by_later (NetaclRun query) old mid new later h = some_later old mid new later h
by_later (Table query) old mid new later h = some_later old mid new later h
by_later (Authsrv client) old mid new later h = some_later old mid new later h

-- ---- 4 is for a count that rose

pub some_by : (command : Command) (old new : WorldView) → SomeRose old new → RoseBy command old new
some_by (PlugGw caller) old new h = inl h
some_by (Gateway kind Records peer) old new h = inl h
some_by (Gateway kind Remote peer) old new h = inl (inl h)
some_by (Smap peer) old new h = inl h
some_by (Netacl query) old new h = h
some_by (NetaclRun query) old new h = h
some_by (Table query) old new h = h
some_by (Authsrv client) old new h = h

client_rose : (old new : WorldView) → Rose old.inputs.input.faults new.inputs.input.faults ⊎ Rose old.output.faults new.output.faults → SomeRose old new
client_rose old new (inl source) = inr (inr (inl (inl source)))
client_rose old new (inr output) = inr (inl (inl output))

limit_four : {A : Type 0} (refused : Bool) → status_of (Ended endings.Done refused) ≡ 4 → A
limit_four true is = absurd (omega (arith, is))
limit_four false is = absurd (omega (arith, is))

ending_some : (ending : Ending) (refused : Bool) (old new : WorldView) → EndingRose ending old new → status_of (Ended ending refused) ≡ 4 → SomeRose old new
ending_some endings.Done refused old new h is = limit_four refused is
ending_some (endings.Denied line) refused old new h is = absurd (omega (arith, is))
ending_some endings.ClientFault refused old new h is = client_rose old new h
ending_some endings.ServerFault refused old new h is = absurd h
ending_some endings.LogFault refused old new h is = inr (inl (inr h))
ending_some endings.AuthFault refused old new h is = absurd h
ending_some endings.Idle refused old new h is = inr (inr (inl (inr h)))
ending_some endings.NoRoute refused old new h is = absurd h
ending_some endings.Spent refused old new h is = absurd (omega (arith, is))
ending_some endings.NoMemory refused old new h is = absurd (omega (arith, is))

device_some : (which : Device) (old new : WorldView) → DeviceRose which old new → SomeRose old new
device_some device.Table old new h = inl h
device_some device.Output old new h = inr (inl (inl h))
device_some device.Log old new h = inr (inl (inr h))
device_some device.Records old new h = inr (inr (inr (inl h)))
device_some device.Program old new h = inr (inr (inr (inr h)))
device_some device.Mailer old new h = absurd h
device_some device.Dictionary old new h = inl h
device_some device.Input old new h = inr (inr (inl h))
device_some (device.Disk slot) old new h = absurd h

verdict_four : {A : Type 0} (verdict : Verdict) → verdict_status verdict ≡ 4 → A
verdict_four (Permit line) is = absurd (omega (arith, is))
verdict_four (Deny line) is = absurd (omega (arith, is))

pub count_some : (outcome : Outcome) (old new : WorldView) → CountRose outcome old new → status_of outcome ≡ 4 → SomeRose old new
count_some Usage old new h is = absurd (omega (arith, is))
count_some (Unread refusal) old new h is = absurd (omega (arith, is))
count_some (Failed which) old new h is = device_some which old new h
count_some (NoMemory step) old new h is = absurd (omega (arith, is))
count_some Done old new h is = absurd (omega (arith, is))
count_some (Decided verdict) old new h is = verdict_four verdict is
count_some (Ended ending refused) old new h is = ending_some ending refused old new h is

link_some : (ending : Ending) (refused : Bool) (old new : WorldView) → LinkRose ending old new → status_of (Ended ending refused) ≡ 4 → SomeOrLinks old new
link_some endings.Done refused old new h is = inl (ending_some endings.Done refused old new h is)
link_some (endings.Denied line) refused old new h is = inl (ending_some (endings.Denied line) refused old new h is)
link_some endings.ClientFault refused old new h is = inl (client_rose old new h)
link_some endings.ServerFault refused old new h is = inr (inr (inl h))
link_some endings.LogFault refused old new h is = inl (ending_some endings.LogFault refused old new h is)
link_some endings.AuthFault refused old new h is = absurd h
link_some endings.Idle refused old new (inl source) is = inl (ending_some endings.Idle refused old new source is)
link_some endings.Idle refused old new (inr link) is = inr (inr (inr link))
link_some endings.NoRoute refused old new h is = inr (inl h)
link_some endings.Spent refused old new h is = inl (ending_some endings.Spent refused old new h is)
link_some endings.NoMemory refused old new h is = inl (ending_some endings.NoMemory refused old new h is)

gate_some : (ending : Ending) (refused : Bool) (old new : WorldView) → LinkRose ending old new → ending ≢ endings.NoRoute → status_of (Ended ending refused) ≡ 4 → SomeOrFailed old new
gate_some endings.ServerFault refused old new h routed is = inr (inl h)
gate_some endings.Idle refused old new (inl source) routed is = inl (ending_some endings.Idle refused old new source is)
gate_some endings.Idle refused old new (inr link) routed is = inr (inr link)
gate_some endings.NoRoute refused old new h routed is = absurd (routed refl)
gate_some ending refused old new h routed is = inl (ending_some ending refused old new h is)

-- something strange came to the session of a gateway whose users a server elsewhere knows
abbrev pub StrangeIn : Command → List Deed → Type 0
StrangeIn (Gateway kind Remote peer) deeds = WasStrange deeds
StrangeIn command deeds = ⊥

pub none_strange : (command : Command) → StrangeIn command [] → ⊥
none_strange (Gateway kind Records peer) h = h
none_strange (Gateway kind Remote peer) h = absurd (cc)
none_strange (Netacl query) h = h
none_strange (NetaclRun query) h = h
none_strange (Table query) h = h
none_strange (Authsrv client) h = h
none_strange (PlugGw caller) h = h
none_strange (Smap peer) h = h

records_some : (deeds : List Deed) (ending : Ending) (refused : Bool) (old new : WorldView) → GateRose Records deeds ending old new → status_of (Ended ending refused) ≡ 4 → SomeOrFailed old new
records_some deeds endings.NoRoute refused old new h is = absurd h
records_some deeds endings.AuthFault refused old new h is = absurd h
records_some deeds ending refused old new h is = gate_some ending refused old new h (λ clash. absurd (cc)) is

remote_some : (deeds : List Deed) (ending : Ending) (refused : Bool) (old new : WorldView) → GateRose Remote deeds ending old new → status_of (Ended ending refused) ≡ 4 → WasStrange deeds ⊎ SomeOrEnds old new
remote_some deeds endings.NoRoute refused old new h is = absurd h
remote_some deeds endings.AuthFault refused old new (inl ends) is = inr (inr ends)
remote_some deeds endings.AuthFault refused old new (inr strange) is = inl strange
remote_some deeds ending refused old new h is = inr (inl (gate_some ending refused old new h (λ clash. absurd (cc)) is))

slots_some : (outcome : Outcome) (old new : WorldView) → SlotsRose outcome old new → status_of outcome ≡ 4 → SomeOrDisks old new
slots_some (Failed device.Table) old new h is = inl (device_some device.Table old new h)
slots_some (Failed device.Output) old new h is = inl (device_some device.Output old new h)
slots_some (Failed device.Log) old new h is = inl (device_some device.Log old new h)
slots_some (Failed device.Records) old new h is = inl (device_some device.Records old new h)
slots_some (Failed device.Program) old new h is = inl (device_some device.Program old new h)
slots_some (Failed device.Mailer) old new h is = absurd h
slots_some (Failed device.Dictionary) old new h is = inl (device_some device.Dictionary old new h)
slots_some (Failed device.Input) old new h is = inl (device_some device.Input old new h)
slots_some (Failed (device.Disk slot)) old new h is = inr (slot, h)
slots_some Usage old new h is = inl (count_some Usage old new h is)
slots_some (Unread refusal) old new h is = inl (count_some (Unread refusal) old new h is)
slots_some (NoMemory step) old new h is = inl (count_some (NoMemory step) old new h is)
slots_some Done old new h is = inl (count_some Done old new h is)
slots_some (Decided verdict) old new h is = inl (count_some (Decided verdict) old new h is)
slots_some (Ended ending refused) old new h is = inl (count_some (Ended ending refused) old new h is)

pub rose_some : (command : Command) (deeds : List Deed) (outcome : Outcome) (old new : WorldView) → RoseFor command deeds outcome old new → status_of outcome ≡ 4 → StrangeIn command deeds ⊎ RoseBy command old new
rose_some (PlugGw caller) deeds (Ended ending refused) old new h is = inr (link_some ending refused old new h is)
rose_some (PlugGw caller) deeds Usage old new h is = inr (inl (count_some Usage old new h is))
rose_some (PlugGw caller) deeds (Unread refusal) old new h is = inr (inl (count_some (Unread refusal) old new h is))
rose_some (PlugGw caller) deeds (Failed which) old new h is = inr (inl (count_some (Failed which) old new h is))
rose_some (PlugGw caller) deeds (NoMemory step) old new h is = inr (inl (count_some (NoMemory step) old new h is))
rose_some (PlugGw caller) deeds Done old new h is = inr (inl (count_some Done old new h is))
rose_some (PlugGw caller) deeds (Decided verdict) old new h is = inr (inl (count_some (Decided verdict) old new h is))
rose_some (Gateway kind Records peer) deeds (Ended ending refused) old new h is = inr (records_some deeds ending refused old new h is)
rose_some (Gateway kind Remote peer) deeds (Ended ending refused) old new h is = remote_some deeds ending refused old new h is
rose_some (Gateway kind authorities peer) deeds Usage old new h is = inr (some_by (Gateway kind authorities peer) old new (count_some Usage old new h is))
rose_some (Gateway kind authorities peer) deeds (Unread refusal) old new h is = inr (some_by (Gateway kind authorities peer) old new (count_some (Unread refusal) old new h is))
rose_some (Gateway kind authorities peer) deeds (Failed which) old new h is = inr (some_by (Gateway kind authorities peer) old new (count_some (Failed which) old new h is))
rose_some (Gateway kind authorities peer) deeds (NoMemory step) old new h is = inr (some_by (Gateway kind authorities peer) old new (count_some (NoMemory step) old new h is))
rose_some (Gateway kind authorities peer) deeds Done old new h is = inr (some_by (Gateway kind authorities peer) old new (count_some Done old new h is))
rose_some (Gateway kind authorities peer) deeds (Decided verdict) old new h is = inr (some_by (Gateway kind authorities peer) old new (count_some (Decided verdict) old new h is))
rose_some (Smap peer) deeds outcome old new h is = inr (slots_some outcome old new h is)
rose_some (Netacl query) deeds outcome old new h is = inr (count_some outcome old new h is)
rose_some (NetaclRun query) deeds outcome old new h is = inr (count_some outcome old new h is)
rose_some (Table query) deeds outcome old new h is = inr (count_some outcome old new h is)
rose_some (Authsrv client) deeds outcome old new h is = inr (count_some outcome old new h is)
