use Rattle.session_rows.proofs.relay.RelayScript.turn.Goals as goal

pub returns-in-Waiting-clause-ran : goal.returns-in-Waiting-clause-ran
returns-in-Waiting-clause-ran g c = rw c.in-Waiting.is c.client_turn.ensures.ran

pub returns-in-Answering-clause-ran : goal.returns-in-Answering-clause-ran
returns-in-Answering-clause-ran g c = rw c.in-Answering.is c.server_turn.ensures.ran
