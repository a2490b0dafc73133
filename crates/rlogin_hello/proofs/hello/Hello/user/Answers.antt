use Rattle.std.proofs.Common.{ap, ◌∙◌}
use Rattle.rlogin_hello.specs.Hello.{hello_of, user_in}
use Rattle.rlogin_hello.proofs.KeptLemmas.{tells}
use Rattle.rlogin_hello.proofs.hello.Hello.user.Goals as goal

pub returns-in-Some : goal.returns-in-Some
returns-in-Some c =
    let told = tells c.self.inside.fed.value c.self.inside.texts c.self.invariant in
    let of_user = told.some _ c.in-Some.ensures.is in
    of_user.user ∙ ap (λ fed. user_in (hello_of fed)) c.self.view_is

pub returns-in-None : goal.returns-in-None
returns-in-None c =
    let told = tells c.self.inside.fed.value c.self.inside.texts c.self.invariant in
    let of_none = told.none c.in-None.ensures.is in
    of_none.user ∙ ap (λ fed. user_in (hello_of fed)) c.self.view_is
