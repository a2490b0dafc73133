use Rattle.auth_machine.proofs.LoginLemmas.{login_is_so, login_is_someone}
use Rattle.auth_machine.proofs.SaidLemmas.{login_is_said}
use Rattle.auth_machine.proofs.laws.login_stands.Goals as goal

pub returns-clause-is_said : goal.returns-clause-is_said
returns-clause-is_said c = login_is_said

pub returns-clause-is_so : goal.returns-clause-is_so
returns-clause-is_so c = login_is_so

pub returns-clause-is_someone : goal.returns-clause-is_someone
returns-clause-is_someone c = login_is_someone
