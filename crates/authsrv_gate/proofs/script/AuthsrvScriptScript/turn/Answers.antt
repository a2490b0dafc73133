use Rattle.authsrv_gate.proofs.script.AuthsrvScriptScript.turn.Goals as goal

pub returns-in-Waiting-clause-ran : goal.returns-in-Waiting-clause-ran
returns-in-Waiting-clause-ran g c = rw c.in-Waiting.is c.line_turn.ensures.ran

pub returns-in-Listing-clause-ran : goal.returns-in-Listing-clause-ran
returns-in-Listing-clause-ran g c = rw c.in-Listing.is c.list_turn.ensures.ran
