use Rattle.session_acts.proofs.ServerlessLemmas.{held_serverless}
use Rattle.session_acts.proofs.laws.no_server_is_met.Goals as goal

pub returns : goal.returns
returns g c = held_serverless
