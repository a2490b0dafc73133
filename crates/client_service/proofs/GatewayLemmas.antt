-- What a client of a gateway comes to that is let in: what is the same of Telnet and of FTP.
use Rattle.std.proofs.Common.{arith, ◌≡◌, ◌≢◌, ◌∙◌, refl, sym, ap, subst, ℕ, Bool, true, false, List, [], inl, inr, ◌⊎◌}
use Rattle.std.specs.Prelude.{Option}
use Rattle.fw_acts.specs.Acts.{Row, PlaceTable}
use Rattle.fw_outside.proofs.CountLemmas.{grew_none}
use Rattle.fw_outside.specs.Counts.{Grew, Rose}
use Rattle.fw_outside.specs.SinkView.{SinkView}
use Rattle.fw_types.specs.declared.ending.Ending.{Ending}
use Rattle.fw_types.specs.declared.ending.Ending.TheVariants.{Done, Denied, ClientFault, ServerFault, LogFault, AuthFault, Idle, NoRoute, Spent, NoMemory}
use Rattle.session_acts.specs.Causes.{Caused, KeepsAs, LinkTookMost, StaysShut, TakesAs, TookMost, WaitsFor}
use Rattle.session_acts.specs.Client.{LogFails, LogsFirst, with_line}
use Rattle.session_acts.specs.Deeds.{gives}
use Rattle.session_acts.specs.Laws.{Adds, called}
use Rattle.session_acts.specs.Met.{acts}
use Rattle.session_acts.specs.Session.{SessionAs, deeds_of}
use Rattle.session_acts.specs.World.{Devices, at_first, most_taken}
use Rattle.session_acts.proofs.CauseLemmas.{session_caused}
use Rattle.session_acts.proofs.ClientLemmas.{logs_first}
use Rattle.session_acts.proofs.DeedLemmas.{all_gain, held_deeds}
use Rattle.session_acts.proofs.DeviceLemmas.{by_nothing}
use Rattle.session_acts.proofs.LinkedLemmas.{called_gains}
use Rattle.session_acts.proofs.SpentLemmas.{session_spent}
use Rattle.session_acts.proofs.WaitedLemmas.{session_waited}
use Rattle.client_service.specs.Gateways.{CausedGated, HeldAs, StaysUnasked, gate_devices}
use Rattle.client_service.specs.Meeting.{logged_row, patient}
use Rattle.client_service.proofs.SinkLemmas.{rose_at, same_low}

-- no bytes aren't as many as may be
none_most : 0 ≡ most_taken → ⊥
none_most long = omega (arith, long)

shut_same : (relays : Bool) (old new : Option Bool) → new ≡ old → StaysShut relays old new
shut_same true old new is = inl is
shut_same false old new is = is

module _ {Origin : Type 0} where
  -- ---- the log failed within the line

  -- which it has counted
  fails_rose : (line : List ℕ) (old new : Devices Origin) (ending : Ending) → LogFails line old new ending → Rose old.logs.faults new.logs.faults
  fails_rose line old new ending fails = rose_at old.logs.faults fails.cut.count new.logs.faults fails.cut.rose (ap (λ (s : SinkView). s.faults) fails.cut.is)

  pub fails_caused : (line : List ℕ) (seconds : ℕ) (ending : Ending) (old new : Devices Origin) → LogFails line (patient seconds (gate_devices old)) (gate_devices new) ending → CausedGated ending old new
  fails_caused line seconds ending old new fails =
      subst (λ (e : Ending). CausedGated e old new) (sym fails.ends) (fails_rose line (patient seconds (gate_devices old)) (gate_devices new) ending fails)

  pub fails_unasked : (line : List ℕ) (seconds : ℕ) (ending : Ending) (old new : Devices Origin) → LogFails line (patient seconds (gate_devices old)) (gate_devices new) ending → StaysUnasked ending old new
  fails_unasked line seconds ending old new fails = record {
    port = ap (λ (d : Devices Origin). d.port) fails.same;
    clock = ap (λ (d : Devices Origin). d.clock) fails.same;
    unfailed = λ is. let clash : LogFault ≡ AuthFault = sym fails.ends ∙ is in absurd (cc);
    ample = λ is. let clash : LogFault ≡ NoMemory = sym fails.ends ∙ is in absurd (cc);
  }

  fails_take : (relays : Bool) (line : List ℕ) (seconds : ℕ) (ending : Ending) (old new : Devices Origin) → LogFails line (patient seconds (gate_devices old)) (gate_devices new) ending → TakesAs relays ending old new
  fails_take relays line seconds ending old new fails =
      let amount : new.inlet.amount ≡ old.inlet.amount = ap (λ (d : Devices Origin). d.inlet.amount) fails.same in
      let taken : new.inlet.taken ≡ old.inlet.taken = ap (λ (d : Devices Origin). d.inlet.taken) fails.same in
      record {
        took = record {
          bytes = [];
          most = omega (arith);
          grew = subst (λ (n : ℕ). Grew 0 old.inlet.amount n) (sym amount) (grew_none old.inlet.amount);
          is = taken ∙ by_nothing old.inlet.taken;
        };
        all = λ long. absurd (none_most long);
      }

  fails_keep : (relays : Bool) (line : List ℕ) (seconds : ℕ) (old new : Devices Origin) (ending : Ending) → LogFails line (patient seconds (gate_devices old)) (gate_devices new) ending → KeepsAs relays (patient seconds old) new
  fails_keep relays line seconds old new ending fails =
      let rose : Rose old.logs.faults new.logs.faults = fails_rose line (patient seconds (gate_devices old)) (gate_devices new) ending fails in
      record {
        faults = same_low old.inlet.faults new.inlet.faults (ap (λ (d : Devices Origin). d.inlet.faults) fails.same);
        idles = same_low old.inlet.idles new.inlet.idles (ap (λ (d : Devices Origin). d.inlet.idles) fails.same);
        amount = same_low old.inlet.amount new.inlet.amount (ap (λ (d : Devices Origin). d.inlet.amount) fails.same);
        drops = same_low old.outlet.faults new.outlet.faults (ap (λ (d : Devices Origin). d.outlet.faults) fails.same);
        log_drops = rose.0;
        breaks = same_low old.port.faults new.port.faults (ap (λ (d : Devices Origin). d.port.faults) fails.same);
        strays = same_low old.port.odd new.port.odd (ap (λ (d : Devices Origin). d.port.odd) fails.same);
        asks = same_low old.port.asks new.port.asks (ap (λ (d : Devices Origin). d.port.asks) fails.same);
        came = same_low old.dialer.came new.dialer.came (ap (λ (d : Devices Origin). d.dialer.came) fails.same);
        refusals = same_low old.dialer.refusals new.dialer.refusals (ap (λ (d : Devices Origin). d.dialer.refusals) fails.same);
        link_faults = same_low old.dialer.link_faults new.dialer.link_faults (ap (λ (d : Devices Origin). d.dialer.link_faults) fails.same);
        link_idles = same_low old.dialer.link_idles new.dialer.link_idles (ap (λ (d : Devices Origin). d.dialer.link_idles) fails.same);
        data_faults = same_low old.dialer.data_faults new.dialer.data_faults (ap (λ (d : Devices Origin). d.dialer.data_faults) fails.same);
        data_idles = same_low old.dialer.data_idles new.dialer.data_idles (ap (λ (d : Devices Origin). d.dialer.data_idles) fails.same);
        waits = ap (λ (d : Devices Origin). d.inlet.waits) fails.same;
        link_waits = ap (λ (d : Devices Origin). d.dialer.waits) fails.same;
        shut = shut_same relays old.outlet.shut new.outlet.shut (ap (λ (d : Devices Origin). d.outlet.shut) fails.same);
        log_shut = ap (λ (s : SinkView). s.shut) fails.cut.is;
        origin = ap (λ (d : Devices Origin). d.port.origin) fails.same;
        home = ap (λ (d : Devices Origin). d.port.home) fails.same;
      }

  -- ---- neither the wait nor the line before a session counts for what it says

  spent_with : (line : List ℕ) (seconds : ℕ) (old new : Devices Origin) → TookMost (with_line line (patient seconds (gate_devices old))).inlet (gate_devices new).inlet ⊎ LinkTookMost (gate_devices new) → TookMost old.inlet new.inlet ⊎ LinkTookMost new
  spent_with line seconds old new (inl h) = inl (record { took = record { bytes = h.took.bytes; most = h.took.most; grew = h.took.grew; is = h.took.is }; all = h.all })
  spent_with line seconds old new (inr h) = inr (record { link = h.link; last = h.last; all = h.all })

  caused_with : (line : List ℕ) (seconds : ℕ) (ending : Ending) (old new : Devices Origin) → Caused ending (with_line line (patient seconds (gate_devices old))) (gate_devices new) → Caused ending old new
  caused_with line seconds Done old new h = tt
  caused_with line seconds (Denied number) old new h = h
  caused_with line seconds ClientFault old new h = h
  caused_with line seconds ServerFault old new h = h
  caused_with line seconds LogFault old new h = h
  caused_with line seconds AuthFault old new h = h
  caused_with line seconds Idle old new h = h
  caused_with line seconds NoRoute old new h = h
  caused_with line seconds Spent old new h = spent_with line seconds old new h
  caused_with line seconds NoMemory old new h = tt

  -- a destination that couldn't be reached is no cause
  gated_only : (ending : Ending) (old new : Devices Origin) → ending ≢ NoRoute → Caused ending old new → CausedGated ending old new
  gated_only NoRoute old new routed h = absurd (routed refl)
  gated_only ending old new routed h = h

  waits_with : (line : List ℕ) (seconds : ℕ) (ending : Ending) (old new : Devices Origin) → WaitsFor ending (with_line line (patient seconds (gate_devices old))) (gate_devices new) → WaitsFor ending (patient seconds old) new
  waits_with line seconds Idle old new (inl h) = inl h
  waits_with line seconds Idle old new (inr h) = inr (record { rose = h.rose; link = h.link; last = h.last; waited = h.waited })
  waits_with line seconds Done old new h = tt
  waits_with line seconds (Denied number) old new h = tt
  waits_with line seconds ClientFault old new h = tt
  waits_with line seconds ServerFault old new h = tt
  waits_with line seconds LogFault old new h = tt
  waits_with line seconds AuthFault old new h = tt
  waits_with line seconds NoRoute old new h = tt
  waits_with line seconds Spent old new h = tt
  waits_with line seconds NoMemory old new h = tt

  keeps_with : (relays : Bool) (line : List ℕ) (seconds : ℕ) (old new : Devices Origin) → KeepsAs relays (with_line line (patient seconds (gate_devices old))) (gate_devices new) → KeepsAs relays (patient seconds old) new
  keeps_with relays line seconds old new h = record {
    faults = h.faults;
    idles = h.idles;
    amount = h.amount;
    drops = h.drops;
    log_drops = h.log_drops;
    breaks = h.breaks;
    strays = h.strays;
    asks = h.asks;
    came = h.came;
    refusals = h.refusals;
    link_faults = h.link_faults;
    link_idles = h.link_idles;
    data_faults = h.data_faults;
    data_idles = h.data_idles;
    waits = h.waits;
    link_waits = h.link_waits;
    shut = h.shut;
    log_shut = h.log_shut;
    origin = h.origin;
    home = h.home;
  }

  -- ---- a session behind a line

  module _ {P : Type 0} (relays : Bool) (rows : PlaceTable (acts Origin) P) (first : Row (acts Origin) P) (line : List ℕ) where
    behind_by : (old new : Devices Origin) (ending : Ending) (session : SessionAs relays rows (logged_row line first) old new ending) → LogsFirst line rows first old new ending session → HeldAs relays line rows first ending old new
    behind_by old new ending session (inl fails) = inl fails
    behind_by old new ending session (inr on) = inr on.rest

    pub held_as : (old new : Devices Origin) (ending : Ending) → SessionAs relays rows (logged_row line first) old new ending → HeldAs relays line rows first ending old new
    held_as old new ending session = behind_by old new ending session (logs_first line rows first old new ending session)

    -- what the dialer was asked for
    pub asked_behind : (ending : Ending) (old new : Devices Origin) (session : SessionAs relays rows first (with_line line old) new ending) → Adds (gives called (deeds_of session.held)) old.dialer.asked new.dialer.asked
    asked_behind ending old new session =
        subst (λ (d : Devices Origin). Adds (gives called (deeds_of session.held)) old.dialer.asked d.dialer.asked) session.leaves
        (all_gain called_gains (deeds_of session.held) (at_first (with_line line old) session.names) session.last (held_deeds session.held))

    pub session_gated : (seconds : ℕ) (ending : Ending) (old new : Devices Origin) → SessionAs relays rows first (with_line line (patient seconds (gate_devices old))) (gate_devices new) ending → ending ≢ NoRoute → CausedGated ending old new
    session_gated seconds ending old new session routed = gated_only ending old new routed (caused_with line seconds ending old new (session_caused session))

    pub behind_takes : (seconds : ℕ) (ending : Ending) (old new : Devices Origin) → HeldAs relays line rows first ending (patient seconds (gate_devices old)) (gate_devices new) → TakesAs relays ending old new
    behind_takes seconds ending old new (inl fails) = fails_take relays line seconds ending old new fails
    behind_takes seconds ending old new (inr session) =
        let h = session_spent session in
        record { took = record { bytes = h.took.bytes; most = h.took.most; grew = h.took.grew; is = h.took.is }; all = h.all }

    pub behind_waits : (seconds : ℕ) (ending : Ending) (old new : Devices Origin) → HeldAs relays line rows first ending (patient seconds (gate_devices old)) (gate_devices new) → WaitsFor ending (patient seconds old) new
    behind_waits seconds ending old new (inl fails) = subst (λ (e : Ending). WaitsFor e (patient seconds old) new) (sym fails.ends) tt
    behind_waits seconds ending old new (inr session) = waits_with line seconds ending old new (session_waited session)

    -- no count falls, by what a session keeps
    pub behind_keeps : (seconds : ℕ) (ending : Ending) (old new : Devices Origin)
        → (SessionAs relays rows first (with_line line (patient seconds (gate_devices old))) (gate_devices new) ending → KeepsAs relays (with_line line (patient seconds (gate_devices old))) (gate_devices new))
        → HeldAs relays line rows first ending (patient seconds (gate_devices old)) (gate_devices new) → KeepsAs relays (patient seconds old) new
    behind_keeps seconds ending old new keeps (inl fails) = fails_keep relays line seconds old new ending fails
    behind_keeps seconds ending old new keeps (inr session) = keeps_with relays line seconds old new (keeps session)
