use Rattle.session_acts.proofs.ServersHeardLemmas.{servers_heard}
use Rattle.session_acts.proofs.laws.the_servers_are_heard.Goals as goal

pub returns : goal.returns
returns g c = servers_heard
