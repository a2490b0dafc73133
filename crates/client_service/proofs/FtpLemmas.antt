-- What a client of the FTP gateway comes to that is served.
use Rattle.std.proofs.Common.{ℕ, false, List, inl, inr}
use Rattle.ftp_gate.specs.Dialogue.{ftp_row, ftp_rows}
use Rattle.ftp_gate.specs.Gate.{Gate}
use Rattle.ftp_gate.proofs.UnnamedLemmas.{held_routed}
use Rattle.ftp_gate.proofs.LawLemmas.{held_asked, held_asks, held_cleared, held_copies, held_doors, held_gives, held_logged, held_own, held_unblocked}
use Rattle.fw_types.specs.declared.ending.Ending.{Ending}
use Rattle.session_acts.specs.Causes.{KeepsAs, TakesFor, WaitsFor}
use Rattle.session_acts.specs.Client.{with_line}
use Rattle.session_acts.specs.Session.{Session, deeds_of}
use Rattle.session_acts.specs.World.{Devices, World, at_first}
use Rattle.session_acts.proofs.CauseLemmas.{session_keeps}
use Rattle.session_acts.proofs.DeedLemmas.{all_gain, held_deeds}
use Rattle.session_acts.proofs.LinkedLemmas.{linked_gains}
use Rattle.client_service.specs.FtpService.{ServedBehind, ServesBehind, ServingBehind}
use Rattle.client_service.specs.Gateways.{CausedGated, gate_devices}
use Rattle.client_service.specs.Meeting.{logged_row, patient}
use Rattle.client_service.proofs.GatewayLemmas.{asked_behind, behind_keeps, behind_takes, behind_waits, fails_caused, held_as, session_gated}

module _ {Origin : Type 0} where
  pub served_behind : (line : List ℕ) (gate : Gate) (old new : Devices Origin) (ending : Ending) → Session (ftp_rows gate) (logged_row line ftp_row) old new ending → ServedBehind line gate ending old new
  served_behind line gate old new ending session = held_as false (ftp_rows gate) ftp_row line old new ending session

  -- by the laws of the gateway
  serves_behind : (line : List ℕ) (gate : Gate) (ending : Ending) (old new : Devices Origin) → Session (ftp_rows gate) ftp_row (with_line line old) new ending → ServesBehind line gate ending old new
  serves_behind line gate ending old new session =
      let begun : World Origin = at_first (with_line line old) session.names in
      record {
        session = session;
        asked = asked_behind false (ftp_rows gate) ftp_row line ending old new session;
        exactly = held_asks gate begun session.last ending session.held;
        cleared = held_cleared gate begun session.last ending session.held;
        passage = held_gives gate begun session.last ending session.held;
        unblocked = held_unblocked gate begun session.last ending session.held;
        joins = held_own gate begun session.last ending session.held;
        doors = held_doors gate begun session.last ending session.held;
        copies = held_copies gate begun session.last ending session.held;
        links = all_gain linked_gains (deeds_of session.held) begun session.last (held_deeds session.held);
        denials = held_logged gate begun session.last ending session.held;
        requests = held_asked gate begun session.last ending session.held;
      }

  pub serving_behind : (line : List ℕ) (gate : Gate) (ending : Ending) (old new : Devices Origin) → ServedBehind line gate ending old new → ServingBehind line gate ending old new
  serving_behind line gate ending old new (inl fails) = inl fails
  serving_behind line gate ending old new (inr session) = inr (serves_behind line gate ending old new session)

  pub ftp_caused : (line : List ℕ) (gate : Gate) (seconds : ℕ) (ending : Ending) (old new : Devices Origin) → ServedBehind line gate ending (patient seconds (gate_devices old)) (gate_devices new) → CausedGated ending old new
  ftp_caused line gate seconds ending old new (inl fails) = fails_caused line seconds ending old new fails
  ftp_caused line gate seconds ending old new (inr session) =
      let begun : World Origin = at_first (with_line line (patient seconds (gate_devices old))) session.names in
      session_gated false (ftp_rows gate) ftp_row line seconds ending old new session (held_routed gate begun session.last ending session.held)

  pub ftp_takes : (line : List ℕ) (gate : Gate) (seconds : ℕ) (ending : Ending) (old new : Devices Origin) → ServedBehind line gate ending (patient seconds (gate_devices old)) (gate_devices new) → TakesFor ending old new
  ftp_takes line gate seconds ending old new h = behind_takes false (ftp_rows gate) ftp_row line seconds ending old new h

  pub ftp_waits : (line : List ℕ) (gate : Gate) (seconds : ℕ) (ending : Ending) (old new : Devices Origin) → ServedBehind line gate ending (patient seconds (gate_devices old)) (gate_devices new) → WaitsFor ending (patient seconds old) new
  ftp_waits line gate seconds ending old new h = behind_waits false (ftp_rows gate) ftp_row line seconds ending old new h

  pub ftp_keeps : (line : List ℕ) (gate : Gate) (seconds : ℕ) (ending : Ending) (old new : Devices Origin) → ServedBehind line gate ending (patient seconds (gate_devices old)) (gate_devices new) → KeepsAs false (patient seconds old) new
  ftp_keeps line gate seconds ending old new h = behind_keeps false (ftp_rows gate) ftp_row line seconds ending old new (λ session. session_keeps session) h
