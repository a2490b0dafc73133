use Rattle.auth_remote.proofs.ExampleLemmas.{an_honest_server}
use Rattle.auth_remote.proofs.laws.a_server_is_honest.Goals as goal

pub returns : goal.returns
returns g c = λ origin policy. an_honest_server origin policy c.asked_again.ensures
