use Rattle.std.proofs.Common.{subst, sym}
use Rattle.std.specs.Prelude.{All}
use Rattle.std.proofs.lemmas.Result.{IfOk-weaker}
use Rattle.bastion_ready.proofs.ServedLemmas.{MayBe, services_served}
use Rattle.bastion_ready.proofs.doors.services_for.Goals as goal

pub returns-clause-served : goal.returns-clause-served
returns-clause-served c =
    IfOk-weaker c.services_of.result _ _ (λ services h. subst (All MayBe) (sym h) (services_served c.args.posts.now c.requires)) c.services_of.ensures
