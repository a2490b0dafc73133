use Rattle.std.proofs.Common.{subst, sym}
use Rattle.std.specs.Prelude.{All, IfSome, Option}
use Rattle.std.proofs.lemmas.Result.{IfOk-weaker}
use Rattle.bastion_ready.specs.Words.{ServerLine}
use Rattle.bastion_ready.proofs.ServedLemmas.{AtDoor, words_served}
use Rattle.bastion_ready.proofs.words.ServerLine.read.Goals as goal

pub returns-clause-served : goal.returns-clause-served
returns-clause-served c =
    IfOk-weaker c.read_line.result _ _ (λ read h. subst (λ (l : Option ServerLine). IfSome l (λ line. All AtDoor line.plan.posts)) (sym h) (words_served c.args.words.now)) c.read_line.ensures.line
