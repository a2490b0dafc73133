use Rattle.session_acts.proofs.FillLemmas.{hears_settled, hears_unended}
use Rattle.std.proofs.Common.{subst, Option}
use Rattle.session_acts.proofs.depositing.hear_into.Goals as goal

pub returns-in-None : goal.returns-in-None
returns-in-None g c = λ sender rcpts words slot outlet filled. hears_settled sender rcpts words c.args.most slot _ _ _ _ outlet _ _ c.args.filling _ c.settle.result filled _ c.in-None.is c.hear_data-stop.ensures.heard c.settle.ensures

pub returns-in-Some : goal.returns-in-Some
returns-in-Some g c = λ sender rcpts words slot outlet filled. rw c.unended.ensures (hears_unended c.in-Some.stop sender rcpts words c.args.most slot _ _ _ _ outlet _ _ c.args.filling _ filled _ c.in-Some.is c.hear_data-stop.ensures.heard c.put_back.ensures)
