use Rattle.authsrv_gate.specs.Dialogue.{rows, session_row}
use Rattle.authsrv_gate.proofs.laws.the_salts_are_thrown.Goals as goal

pub returns : goal.returns
returns g c = λ console old new ending held. c.the_salts_are_thrown.ensures rows (session_row console) old new ending held
