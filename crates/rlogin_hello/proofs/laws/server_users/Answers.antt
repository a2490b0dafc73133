use Rattle.rlogin_hello.proofs.UserLemmas.{names_exactly}
use Rattle.rlogin_hello.proofs.laws.server_users.Goals as goal

pub returns : goal.returns
returns c = names_exactly
