-- What `smap` does to the spool on its disks.
use Rattle.std.proofs.Common.{◌≡◌, ◌∙◌, ℕ, sym, ap, subst, inl, inr, List, [], length, map}
use Rattle.client_service.specs.MailService.{MailsBehind, mail_gate_of}
use Rattle.fw_disk.specs.DiskView.{DiskView}
use Rattle.fw_types.specs.declared.peer.Peer.{Peer}
use Rattle.session_acts.specs.Deeds.{gives}
use Rattle.session_acts.specs.Session.{deeds_of}
use Rattle.session_acts.specs.Stored.{KeptMail, kept}
use Rattle.session_acts.specs.World.{Devices}
use Rattle.slot_bytes.specs.Layout.{Mail}
use Rattle.spool_rack.specs.Opening.{IsRackFault}
use Rattle.spool_rack.specs.Store.{StoreView}
use Rattle.spool_slots.specs.declared.slot_why.SlotWhy.{SlotWhy}
use Rattle.spool_runs.specs.OnDisks.{RunsSpool}
use Rattle.spool_runs.proofs.HistoryLemmas.{stays_same}
use Rattle.spool_runs.proofs.SessionLemmas.{session_grows}
use Rattle.spool_runs.proofs.StoreLemmas.{Grows, grows_same, run_came_back, run_over_rack}
use Rattle.bastion.specs.Inputs.{Inputs}
use Rattle.bastion.specs.Mailing.{MailServed, SlotsUnread}
use Rattle.bastion.specs.WorldView.{WorldView}
use Rattle.bastion.specs.declared.outcome.Outcome.{Outcome}
use Rattle.bastion.proofs.MailedLemmas.{first_queues}

unopened_spool : (slot : ℕ) (why : SlotWhy) (old new : List DiskView) → IsRackFault (Unit {0}) old slot why new → RunsSpool [] [] old new
unopened_spool slot why old new (inl none) = subst (RunsSpool [] [] old) (sym none.0) (stays_same old)
unopened_spool slot why old new (inr came) = run_came_back (Unit {0}) slot why old new came

pub unread_spool : (out : Outcome) (old new : WorldView) → SlotsUnread out old new → RunsSpool [] [] old.inputs.disks new.inputs.disks
unread_spool out old new u = unopened_spool u.slot u.why old.inputs.disks new.inputs.disks u.fault

-- nothing was done to the slots but that they were opened
pub opened_spool : (peer : Peer) (inputs : Inputs) (out : Outcome) (old new : WorldView) (h : MailServed peer inputs out old new) → h.store ≡ h.first → RunsSpool [] [] old.inputs.disks new.inputs.disks
opened_spool peer inputs out old new h same =
    run_over_rack [] [] old.inputs.disks new.inputs.disks h.opened.slots h.first h.store h.opened.are (first_queues old.inputs.disks h.first h.opened) (grows_same (length old.inputs.disks) h.first h.store (ap (λ (s : StoreView). s.queues) same)) h.closed

-- the messages that a session kept were answered for
pub session_spool : (line : List ℕ) (peer : Peer) (inputs : Inputs) (out : Outcome) (old new : WorldView) (h : MailServed peer inputs out old new) (before behind : Devices (Unit {0})) → before.store ≡ h.first → behind.store ≡ h.store
    → (b : MailsBehind line (mail_gate_of inputs.rules peer) h.ending before behind) → RunsSpool (map (λ (one : KeptMail). one.mail) (gives kept (deeds_of b.session.held))) [] old.inputs.disks new.inputs.disks
session_spool line peer inputs out old new h before behind starts ends b =
    let mails : List Mail = map (λ (one : KeptMail). one.mail) (gives kept (deeds_of b.session.held)) in
    let count : ℕ = length old.inputs.disks in
    let last : b.session.last.store ≡ h.store = ap (λ (d : Devices (Unit {0})). d.store) b.session.leaves ∙ ends in
    let grows : Grows count mails [] before.store b.session.last.store = session_grows count b.session.held in
    run_over_rack mails [] old.inputs.disks new.inputs.disks h.opened.slots h.first h.store h.opened.are (first_queues old.inputs.disks h.first h.opened)
    (subst (λ (s : StoreView). Grows count mails [] s h.store) starts (subst (λ (s : StoreView). Grows count mails [] before.store s) last grows)) h.closed
