use Rattle.rlogin_hello.proofs.KeptLemmas.{kept_nothing}
use Rattle.rlogin_hello.proofs.hello.Hello.new.Goals as goal

pub invariant_of-result : goal.invariant_of-result
invariant_of-result c = rw c.new.ensures (kept_nothing c.nothing.result.value c.nothing.ensures)
