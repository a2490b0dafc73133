use Rattle.std.proofs.lemmas.Result.{IfOk-weaker}
use Rattle.authsrv_gate.proofs.TurnLemmas.{fresh_form}
use Rattle.authsrv_gate.proofs.script.AuthsrvScriptScript.begin.Goals as goal

pub returns-clause-form : goal.returns-clause-form
returns-clause-form g c = IfOk-weaker _ _ _ fresh_form c.session_row.ensures.at
