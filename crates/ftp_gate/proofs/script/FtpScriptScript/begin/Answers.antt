use Rattle.ftp_gate.proofs.TurnLemmas.{any_place}
use Rattle.ftp_gate.proofs.script.FtpScriptScript.begin.Goals as goal

pub returns-clause-ran : goal.returns-clause-ran
returns-clause-ran g c = c.first_row.ensures

pub returns-clause-form : goal.returns-clause-form
returns-clause-form g c = any_place c.first_row.result
