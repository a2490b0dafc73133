use Rattle.authsrv_gate.specs.Dialogue.{rows, session_row}
use Rattle.authsrv_gate.proofs.laws.the_requests_are_counted.Goals as goal

pub returns : goal.returns
returns g c = λ console old new ending held. c.the_requests_are_counted.ensures rows (session_row console) old new ending held
