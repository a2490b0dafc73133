use Rattle.tn_gate.proofs.TurnLemmas.{any_place}
use Rattle.tn_gate.proofs.script.TnScriptScript.turn.Goals as goal

pub returns-in-Naming-clause-ran : goal.returns-in-Naming-clause-ran
returns-in-Naming-clause-ran g c = rw c.in-Naming.is c.naming_turn.ensures.ran

pub returns-in-Naming-clause-form : goal.returns-in-Naming-clause-form
returns-in-Naming-clause-form g c = any_place c.naming_turn.result

pub returns-in-Answering-clause-ran : goal.returns-in-Answering-clause-ran
returns-in-Answering-clause-ran g c = rw c.in-Answering.is c.answering_turn.ensures.ran

pub returns-in-Answering-clause-form : goal.returns-in-Answering-clause-form
returns-in-Answering-clause-form g c = any_place c.answering_turn.result

pub returns-in-Commanding-clause-ran : goal.returns-in-Commanding-clause-ran
returns-in-Commanding-clause-ran g c = rw c.in-Commanding.is c.commanding_turn.ensures.ran

pub returns-in-Commanding-clause-form : goal.returns-in-Commanding-clause-form
returns-in-Commanding-clause-form g c = any_place c.commanding_turn.result
