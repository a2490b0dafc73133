use Rattle.std.proofs.Common.{ap, ◌∙◌}
use Rattle.rlogin_hello.specs.Hello.{terminal_in, hello_of}
use Rattle.rlogin_hello.proofs.KeptLemmas.{tells}
use Rattle.rlogin_hello.proofs.hello.Hello.terminal.Goals as goal

pub returns : goal.returns
returns c =
    let told = tells c.self.inside.fed.value c.self.inside.texts c.self.invariant in
    c.terminal.ensures.is ∙ told.terminal ∙ ap (λ fed. terminal_in (hello_of fed)) c.self.view_is
