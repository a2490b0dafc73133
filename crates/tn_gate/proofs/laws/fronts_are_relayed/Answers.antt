use Rattle.session_acts.proofs.RelayFrontsLemmas.{held_fronts, session_fronts}
use Rattle.session_acts.specs.Relayed.{relayed, then_relay}
use Rattle.tn_gate.specs.Dialogue.{tn_row, tn_rows}
use Rattle.tn_gate.proofs.QuietLemmas.{tn_keeps_quiet}
use Rattle.tn_gate.proofs.laws.fronts_are_relayed.Goals as goal

pub returns : goal.returns
returns g c = record {
  held = λ gate old new ending held. held_fronts (tn_rows gate) (tn_row gate) old new ending held (tn_keeps_quiet gate);
  session = λ gate old new ending session. session_fronts (tn_rows gate) (tn_row gate) old new ending session (tn_keeps_quiet gate);
}
