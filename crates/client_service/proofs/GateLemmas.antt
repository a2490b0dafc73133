-- What a client of the Telnet gateway comes to that is let in.
use Rattle.std.proofs.Common.{◌≡◌, ◌∙◌, refl, sym, ap, ℕ, true, false, List, inl, inr}
use Rattle.fw_types.specs.declared.ending.Ending.{Ending}
use Rattle.session_acts.specs.Causes.{KeepsAs, RelayTakesFor, WaitsFor}
use Rattle.session_acts.specs.Client.{with_line}
use Rattle.session_acts.specs.Relayed.{relayed, then_relay}
use Rattle.session_acts.specs.Session.{RelaySession}
use Rattle.session_acts.specs.World.{Devices, Office, World, at_first}
use Rattle.session_acts.proofs.CauseLemmas.{relay_keeps}
use Rattle.session_acts.proofs.RelayFrontsLemmas.{session_fronts}
use Rattle.tn_gate.specs.Dialogue.{tn_row, tn_rows}
use Rattle.tn_gate.specs.Gate.{Gate, asks_login}
use Rattle.tn_gate.proofs.DueLawLemmas.{held_dialed, held_due, held_logged}
use Rattle.tn_gate.proofs.LawLemmas.{held_asks, held_cleared}
use Rattle.tn_gate.proofs.OwnLemmas.{held_ample, held_routed, held_unasked, held_unfailed}
use Rattle.tn_gate.proofs.QuietLemmas.{tn_keeps_quiet}
use Rattle.client_service.specs.GateService.{FrontsBehind, HeldBehind, RelaysBehind}
use Rattle.client_service.specs.Gateways.{CausedGated, StaysUnasked, gate_devices}
use Rattle.client_service.specs.Meeting.{logged_row, patient}
use Rattle.client_service.proofs.GatewayLemmas.{asked_behind, behind_keeps, behind_takes, behind_waits, fails_caused, fails_unasked, held_as, session_gated}
use Rattle.client_service.proofs.UnaskedLemmas.{unasked_office}

module _ {Origin : Type 0} where
  pub held_behind : (line : List ℕ) (gate : Gate) (old new : Devices Origin) (ending : Ending) → RelaySession (relayed (tn_rows gate)) (logged_row line (then_relay (tn_row gate))) old new ending → HeldBehind line gate ending old new
  held_behind line gate old new ending session = held_as true (relayed (tn_rows gate)) (then_relay (tn_row gate)) line old new ending session

  -- by the laws of the gateway
  relays_behind : (line : List ℕ) (gate : Gate) (ending : Ending) (old new : Devices Origin) → RelaySession (relayed (tn_rows gate)) (then_relay (tn_row gate)) (with_line line old) new ending → RelaysBehind line gate ending old new
  relays_behind line gate ending old new session =
      let begun : World Origin = at_first (with_line line old) session.names in
      record {
        session = session;
        unasked = λ none. held_unasked gate begun session.last ending session.held refl none;
        asked = asked_behind true (relayed (tn_rows gate)) (then_relay (tn_row gate)) line ending old new session;
        exactly = held_asks gate begun session.last ending session.held;
        cleared = held_cleared gate begun session.last ending session.held;
        dialed = held_dialed gate begun session.last ending session.held;
        due = held_due gate begun session.last ending session.held;
        denials = held_logged gate begun session.last ending session.held;
        fronts = session_fronts (tn_rows gate) (tn_row gate) (with_line line old) new ending session (tn_keeps_quiet gate);
      }

  pub fronts_behind : (line : List ℕ) (gate : Gate) (ending : Ending) (old new : Devices Origin) → HeldBehind line gate ending old new → FrontsBehind line gate ending old new
  fronts_behind line gate ending old new (inl fails) = inl fails
  fronts_behind line gate ending old new (inr session) = inr (relays_behind line gate ending old new session)

  pub gate_caused : (line : List ℕ) (gate : Gate) (seconds : ℕ) (ending : Ending) (old new : Devices Origin) → HeldBehind line gate ending (patient seconds (gate_devices old)) (gate_devices new) → CausedGated ending old new
  gate_caused line gate seconds ending old new (inl fails) = fails_caused line seconds ending old new fails
  gate_caused line gate seconds ending old new (inr session) =
      let begun : World Origin = at_first (with_line line (patient seconds (gate_devices old))) session.names in
      session_gated true (relayed (tn_rows gate)) (then_relay (tn_row gate)) line seconds ending old new session (held_routed gate begun session.last ending session.held)

  -- a line that asks for no login
  pub gate_unasked : (line : List ℕ) (gate : Gate) (seconds : ℕ) (ending : Ending) (old new : Devices Origin) → HeldBehind line gate ending (patient seconds (gate_devices old)) (gate_devices new) → asks_login gate.options ≡ false → StaysUnasked ending old new
  gate_unasked line gate seconds ending old new (inl fails) none = fails_unasked line seconds ending old new fails
  gate_unasked line gate seconds ending old new (inr session) none =
      let begun : World Origin = at_first (with_line line (patient seconds (gate_devices old))) session.names in
      let office : session.last.office ≡ begun.office = unasked_office session.held (held_unasked gate begun session.last ending session.held refl none) in
      record {
        port = sym (ap (λ (d : Devices Origin). d.port) session.leaves) ∙ ap (λ (o : Office Origin). o.port) office;
        clock = sym (ap (λ (d : Devices Origin). d.clock) session.leaves) ∙ ap (λ (o : Office Origin). o.clock) office;
        unfailed = held_unfailed gate begun session.last ending session.held refl none;
        ample = held_ample gate begun session.last ending session.held refl none;
      }

  pub gate_takes : (line : List ℕ) (gate : Gate) (seconds : ℕ) (ending : Ending) (old new : Devices Origin) → HeldBehind line gate ending (patient seconds (gate_devices old)) (gate_devices new) → RelayTakesFor ending old new
  gate_takes line gate seconds ending old new h = behind_takes true (relayed (tn_rows gate)) (then_relay (tn_row gate)) line seconds ending old new h

  pub gate_waits : (line : List ℕ) (gate : Gate) (seconds : ℕ) (ending : Ending) (old new : Devices Origin) → HeldBehind line gate ending (patient seconds (gate_devices old)) (gate_devices new) → WaitsFor ending (patient seconds old) new
  gate_waits line gate seconds ending old new h = behind_waits true (relayed (tn_rows gate)) (then_relay (tn_row gate)) line seconds ending old new h

  pub gate_keeps : (line : List ℕ) (gate : Gate) (seconds : ℕ) (ending : Ending) (old new : Devices Origin) → HeldBehind line gate ending (patient seconds (gate_devices old)) (gate_devices new) → KeepsAs true (patient seconds old) new
  gate_keeps line gate seconds ending old new h = behind_keeps true (relayed (tn_rows gate)) (then_relay (tn_row gate)) line seconds ending old new (λ session. relay_keeps session) h
