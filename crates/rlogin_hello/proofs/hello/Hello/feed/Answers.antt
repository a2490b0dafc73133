use Rattle.std.proofs.Common.{ap, ◌∙◌, ◌++◌, [], ◌∷◌}
use Rattle.rlogin_hello.specs.Hello.{hello_of, step_of}
use Rattle.rlogin_hello.specs.Texts.{step_at}
use Rattle.rlogin_hello.proofs.KeptLemmas.{kept_after, tells}
use Rattle.rlogin_hello.proofs.hello.Hello.feed.Goals as goal

pub invariant_of-self : goal.invariant_of-self
invariant_of-self c =
    kept_after c.self.inside.fed.value c.and.result.value c.self.inside.texts c.hear.new.self c.args.byte c.self.invariant
    (rw c.replace.ensures.value at c.and.ensures) c.hear.ensures

pub returns-clause-step : goal.returns-clause-step
returns-clause-step c =
    let fed_is = rw c.replace.ensures.value at c.and.ensures in
    let told = tells c.and.result.value c.hear.new.self (invariant_of-self c) in
    c.step_at.ensures ∙ ap step_at c.stage.ensures ∙ told.step
    ∙ ap (λ fed. step_of (hello_of fed)) (fed_is ∙ ap (λ fed. fed ++ c.args.byte ∷ []) c.self.view_is)
