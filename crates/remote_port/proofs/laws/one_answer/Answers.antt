use Rattle.remote_port.proofs.AnswerLemmas.{answers_one}
use Rattle.remote_port.proofs.laws.one_answer.Goals as goal

pub returns : goal.returns
returns c = answers_one c.inverse.ensures.one_reply
