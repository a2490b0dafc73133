use Rattle.std.proofs.Common.{ap, ◌∙◌}
use Rattle.rlogin_hello.specs.Hello.{handed_on, hello_of, hello_text}
use Rattle.rlogin_hello.specs.Texts.{once_ready}
use Rattle.rlogin_hello.proofs.KeptLemmas.{tells}
use Rattle.rlogin_hello.proofs.hello.Hello.write_handed_on.Goals as goal

pub returns-in-Some : goal.returns-in-Some
returns-in-Some c =
    let told = tells c.self.inside.fed.value c.self.inside.texts c.self.invariant in
    let of_user = told.some _ c.in-Some.ensures.is in
    c.write_hello.ensures ∙ ap (λ x. hello_text x c.in-Some.at.user.now c.terminal.result.now) c.client.ensures.is
    ∙ ap (λ x. hello_text (once_ready c.self.inside.texts.stage c.self.inside.texts.client) c.in-Some.at.user.now x) c.terminal.ensures.is
    ∙ of_user.handed ∙ ap (λ fed. handed_on (hello_of fed)) c.self.view_is

pub returns-in-None : goal.returns-in-None
returns-in-None c =
    let told = tells c.self.inside.fed.value c.self.inside.texts c.self.invariant in
    let of_none = told.none c.in-None.ensures.is in
    c.clear.ensures ∙ of_none.handed ∙ ap (λ fed. handed_on (hello_of fed)) c.self.view_is
