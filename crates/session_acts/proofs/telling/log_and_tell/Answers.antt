use Rattle.session_acts.proofs.Acting.{did}
use Rattle.session_acts.proofs.telling.log_and_tell.Goals as goal

pub returns-in-Ok-clause-ran : goal.returns-in-Ok-clause-ran
returns-in-Ok-clause-ran g c = λ rows. did c.in-Ok.ensures (c.tell.ensures.ran rows)
