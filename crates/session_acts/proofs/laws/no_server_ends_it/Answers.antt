use Rattle.session_acts.proofs.AloneLemmas.{session_alone, session_exact}
use Rattle.session_acts.proofs.laws.no_server_ends_it.Goals as goal

pub returns : goal.returns
returns g c = record { caused = session_alone; spent = session_exact }
