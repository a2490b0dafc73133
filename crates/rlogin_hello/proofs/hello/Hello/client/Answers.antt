use Rattle.std.proofs.Common.{ap, ◌∙◌}
use Rattle.rlogin_hello.specs.Hello.{client_in, hello_of}
use Rattle.rlogin_hello.proofs.KeptLemmas.{tells}
use Rattle.rlogin_hello.proofs.hello.Hello.client.Goals as goal

pub returns : goal.returns
returns c =
    let told = tells c.self.inside.fed.value c.self.inside.texts c.self.invariant in
    c.client.ensures.is ∙ told.client ∙ ap (λ fed. client_in (hello_of fed)) c.self.view_is
