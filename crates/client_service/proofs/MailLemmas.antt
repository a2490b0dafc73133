-- What a client of `smap` comes to: what holds of the devices that it meets, and what the store is given.
use Rattle.std.proofs.Common.{◌≡◌, ◌∙◌, sym, ap, subst, ℕ, ◌+◌, ◌-◌, ◌^◌, ◌≤◌, List, ◌++◌, length, inl, inr}
use Rattle.std.specs.Prelude.{min}
use Rattle.auth_events.specs.Port.{Port}
use Rattle.fw_outside.specs.DialerView.{DialerView, dialer_waiting}
use Rattle.fw_outside.specs.ToldList.{grown}
use Rattle.fw_types.specs.declared.ending.Ending.{Ending}
use Rattle.fw_types.specs.declared.ending.Ending.TheVariants as endings
use Rattle.session_acts.specs.Causes.{SessionKeeps}
use Rattle.session_acts.specs.Client.{LogsFirst, with_line}
use Rattle.session_acts.specs.Deeds.{Deed, gives}
use Rattle.session_acts.specs.Dummies.{nowhere}
use Rattle.session_acts.specs.Laws.{logged, told}
use Rattle.session_acts.specs.Serverless.{CausedAlone, TakesExactly}
use Rattle.session_acts.specs.Session.{Session, deeds_of}
use Rattle.session_acts.specs.Stored.{faulted, unslotted}
use Rattle.session_acts.specs.World.{Devices, World, at_first}
use Rattle.session_acts.proofs.ClientLemmas.{logs_first}
use Rattle.session_acts.proofs.DeedLemmas.{all_gain, all_last, held_deeds}
use Rattle.session_acts.proofs.ServerlessLemmas.{logged_serverless, session_serverless}
use Rattle.session_acts.proofs.StoredLemmas.{back_lasts, faulted_gains, kept_gains, unslotted_gains}
use Rattle.session_acts.proofs.ToldLemmas.{by_both, logged_gains, told_gains}
use Rattle.smap_gate.specs.Dialogue.{smap_row, smap_rows}
use Rattle.smap_gate.specs.Gate.{Gate}
use Rattle.smap_gate.proofs.LoggingLemmas.{logs_due}
use Rattle.smap_gate.proofs.MessageLemmas.{keeps_messages}
use Rattle.smap_gate.proofs.ReplyLemmas.{told_in_order}
use Rattle.smap_gate.proofs.ServerlessLemmas.{keeps_serverless}
use Rattle.smap_gate.proofs.SessionLemmas.{never}
use Rattle.spool_rack.specs.Store.{PutGrew, StoreView}
use Rattle.client_service.specs.MailService.{MailsBehind, MailsOrFails, mail_devices}
use Rattle.client_service.specs.Meeting.{logged_row, patient}
use Rattle.client_service.proofs.SinkLemmas.{same_low}

-- ---- what holds of the devices that it meets holds of all

module _ {Origin : Type 0} where
  pub mail_caused : (seconds : ℕ) (ending : Ending) (old new : Devices Origin) → CausedAlone ending (mail_devices (patient seconds old)) (mail_devices new) → CausedAlone ending old new
  mail_caused seconds endings.Done old new h = tt
  mail_caused seconds (endings.Denied line) old new h = h
  mail_caused seconds endings.ClientFault old new h = h
  mail_caused seconds endings.ServerFault old new h = h
  mail_caused seconds endings.LogFault old new h = h
  mail_caused seconds endings.AuthFault old new h = absurd (never h)
  mail_caused seconds endings.Idle old new h = h
  mail_caused seconds endings.NoRoute old new h = h
  mail_caused seconds endings.Spent old new h = record { took = record { bytes = h.took.bytes; most = h.took.most; grew = h.took.grew; is = h.took.is }; all = h.all }
  mail_caused seconds endings.NoMemory old new h = tt

  pub mail_takes : (seconds : ℕ) (ending : Ending) (old new : Devices Origin) → TakesExactly ending (mail_devices (patient seconds old)) (mail_devices new) → TakesExactly ending old new
  mail_takes seconds ending old new h = record { took = record { bytes = h.took.bytes; most = h.took.most; grew = h.took.grew; is = h.took.is }; all = h.all }

  pub mail_keeps : (seconds : ℕ) (old new : Devices Origin) → new.port ≡ old.port → new.dialer ≡ dialer_waiting old.dialer seconds → SessionKeeps (mail_devices (patient seconds old)) (mail_devices new) → SessionKeeps (patient seconds old) new
  mail_keeps seconds old new port dialer h = record {
    faults = h.faults;
    idles = h.idles;
    amount = h.amount;
    drops = h.drops;
    log_drops = h.log_drops;
    breaks = same_low old.port.faults new.port.faults (ap (λ (p : Port Origin). p.faults) port);
    strays = same_low old.port.odd new.port.odd (ap (λ (p : Port Origin). p.odd) port);
    asks = same_low old.port.asks new.port.asks (ap (λ (p : Port Origin). p.asks) port);
    came = same_low old.dialer.came new.dialer.came (ap (λ (d : DialerView). d.came) dialer);
    refusals = same_low old.dialer.refusals new.dialer.refusals (ap (λ (d : DialerView). d.refusals) dialer);
    link_faults = same_low old.dialer.link_faults new.dialer.link_faults (ap (λ (d : DialerView). d.link_faults) dialer);
    link_idles = same_low old.dialer.link_idles new.dialer.link_idles (ap (λ (d : DialerView). d.link_idles) dialer);
    data_faults = same_low old.dialer.data_faults new.dialer.data_faults (ap (λ (d : DialerView). d.data_faults) dialer);
    data_idles = same_low old.dialer.data_idles new.dialer.data_idles (ap (λ (d : DialerView). d.data_idles) dialer);
    waits = h.waits;
    link_waits = ap (λ (d : DialerView). d.waits) dialer;
    shut = h.shut;
    log_shut = h.log_shut;
    origin = ap (λ (p : Port Origin). p.origin) port;
    home = ap (λ (p : Port Origin). p.home) port;
  }

-- ---- its dialer is nobody's

-- a session over a dialer that is as at first is one over `nowhere`, since it asks for nothing
pub over_nowhere : (line : List ℕ) (gate : Gate) (old new : Devices (Unit {0})) (ending : Ending) → old.dialer ≡ nowhere → Session (smap_rows gate) (logged_row line smap_row) old new ending
    → Session (smap_rows gate) (logged_row line smap_row) (record old { dialer = nowhere }) (record new { dialer = nowhere }) ending
over_nowhere line gate old new ending is session =
    let now : new.dialer ≡ nowhere = session_serverless (smap_rows gate) (logged_row line smap_row) old new ending session (logged_serverless line (keeps_serverless (Unit {0}) gate)) ∙ is in
    let first = subst (λ (d : DialerView). Session (smap_rows gate) (logged_row line smap_row) (record old { dialer = d }) new ending) is session in
    subst (λ (d : DialerView). Session (smap_rows gate) (logged_row line smap_row) (record old { dialer = nowhere }) (record new { dialer = d }) ending) now first

-- ---- what the store is given

-- what the client's sink and the log are given
client_given : (line : List ℕ) (gate : Gate) (ending : Ending) (old new : Devices (Unit {0})) (session : Session (smap_rows gate) smap_row (with_line line old) new ending)
    → new.outlet.given ≡ grown old.outlet.given (gives told (deeds_of session.held))
client_given line gate ending old new session =
    subst (λ (d : Devices (Unit {0})). d.outlet.given ≡ grown old.outlet.given (gives told (deeds_of session.held))) session.leaves
    (all_gain told_gains (deeds_of session.held) (at_first (with_line line old) session.names) session.last (held_deeds session.held))

log_given : (line : List ℕ) (gate : Gate) (ending : Ending) (old new : Devices (Unit {0})) (session : Session (smap_rows gate) smap_row (with_line line old) new ending)
    → new.logs.given ≡ grown old.logs.given (line ++ gives logged (deeds_of session.held))
log_given line gate ending old new session =
    subst (λ (d : Devices (Unit {0})). d.logs.given ≡ grown (grown old.logs.given line) (gives logged (deeds_of session.held))) session.leaves
    (all_gain logged_gains (deeds_of session.held) (at_first (with_line line old) session.names) session.last (held_deeds session.held))
    ∙ by_both old.logs.given line (gives logged (deeds_of session.held))

-- by the laws of all sessions and of the gateway
stored_by : (line : List ℕ) (gate : Gate) (ending : Ending) (old new : Devices (Unit {0})) → Session (smap_rows gate) smap_row (with_line line old) new ending → MailsBehind line gate ending old new
stored_by line gate ending old new session =
    let deeds : List Deed = deeds_of session.held in
    let begun : World (Unit {0}) = at_first (with_line line old) session.names in
    let all = held_deeds session.held in
    let same : session.last.store ≡ new.store = ap (λ (d : Devices (Unit {0})). d.store) session.leaves in
    let puts = all_gain kept_gains deeds begun session.last all in
    record {
      session = session;
      replies = told_in_order gate begun session.last ending session.held;
      asked = keeps_messages gate begun session.last ending session.held;
      due = logs_due gate begun session.last ending session.held;
      told = client_given line gate ending old new session;
      logged = log_given line gate ending old new session;
      stores = record {
        slots = puts.slots;
        grew = subst (λ (s : StoreView). PutGrew puts.slots old.store s) same puts.grew;
        are = puts.are;
        back = sym (ap (λ (s : StoreView). s.out) same) ∙ all_last back_lasts deeds begun session.last all;
      };
      unslotted = subst (λ (s : StoreView). min (old.store.no_free + length (gives unslotted deeds)) (2 ^ 64 - 1) ≤ s.no_free) same (all_gain unslotted_gains deeds begun session.last all);
      faulted = subst (λ (s : StoreView). min (old.store.broken + length (gives faulted deeds)) (2 ^ 64 - 1) ≤ s.broken) same (all_gain faulted_gains deeds begun session.last all);
    }

behind_by : (line : List ℕ) (gate : Gate) (ending : Ending) (old new : Devices (Unit {0})) (session : Session (smap_rows gate) (logged_row line smap_row) old new ending)
    → LogsFirst line (smap_rows gate) smap_row old new ending session → MailsOrFails line gate ending old new
behind_by line gate ending old new session (inl fails) = inl fails
behind_by line gate ending old new session (inr on) = inr (stored_by line gate ending old new on.rest)

pub mails_behind : (line : List ℕ) (gate : Gate) (ending : Ending) (old new : Devices (Unit {0})) → Session (smap_rows gate) (logged_row line smap_row) old new ending → MailsOrFails line gate ending old new
mails_behind line gate ending old new session = behind_by line gate ending old new session (logs_first line (smap_rows gate) smap_row old new ending session)
