use Rattle.authsrv_gate.specs.Dialogue.{rows, session_row}
use Rattle.authsrv_gate.proofs.laws.the_client_is_told.Goals as goal

pub returns : goal.returns
returns g c = λ console old new ending held. c.the_client_is_told.ensures rows (session_row console) old new ending held
