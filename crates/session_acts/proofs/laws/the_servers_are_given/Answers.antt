use Rattle.session_acts.proofs.PassingLemmas.{servers_given}
use Rattle.session_acts.proofs.laws.the_servers_are_given.Goals as goal

pub returns : goal.returns
returns g c = servers_given
