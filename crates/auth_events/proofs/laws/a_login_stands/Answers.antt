use Rattle.auth_events.proofs.LoginLemmas.{found, has, then_stands}
use Rattle.auth_events.proofs.laws.a_login_stands.Goals as goal

pub returns-clause-is : goal.returns-clause-is
returns-clause-is c = λ talk. (found talk, has talk)

pub returns-clause-later : goal.returns-clause-later
returns-clause-later c = λ talk said. then_stands talk said
