use Rattle.authsrv_gate.specs.Dialogue.{rows, session_row}
use Rattle.authsrv_gate.proofs.laws.the_talk_is_entered.Goals as goal

pub returns : goal.returns
returns g c = record {
  entered = λ console old new ending held. c.the_talk_is_entered.ensures.entered rows (session_row console) old new ending held;
  refused = λ console old new ending held. c.the_talk_is_entered.ensures.refused rows (session_row console) old new ending held;
  whole = λ console old new ending held none all. c.the_talk_is_entered.ensures.whole rows (session_row console) old new ending held none all;
}
