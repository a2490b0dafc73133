use Rattle.ftp_gate.proofs.TurnLemmas.{any_place}
use Rattle.ftp_gate.proofs.script.FtpScriptScript.turn.Goals as goal

pub returns-in-Listening-clause-ran : goal.returns-in-Listening-clause-ran
returns-in-Listening-clause-ran g c = rw c.in-Listening.is c.listening_turn.ensures.ran

pub returns-in-Listening-clause-form : goal.returns-in-Listening-clause-form
returns-in-Listening-clause-form g c = any_place c.listening_turn.result

pub returns-in-Answering-clause-ran : goal.returns-in-Answering-clause-ran
returns-in-Answering-clause-ran g c = rw c.in-Answering.is c.answering_turn.ensures.ran

pub returns-in-Answering-clause-form : goal.returns-in-Answering-clause-form
returns-in-Answering-clause-form g c = any_place c.answering_turn.result

pub returns-in-Dropping-clause-ran : goal.returns-in-Dropping-clause-ran
returns-in-Dropping-clause-ran g c = rw c.in-Dropping.is c.dropping_turn.ensures.ran

pub returns-in-Dropping-clause-form : goal.returns-in-Dropping-clause-form
returns-in-Dropping-clause-form g c = any_place c.dropping_turn.result
