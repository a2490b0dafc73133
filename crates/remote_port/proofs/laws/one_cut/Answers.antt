use Rattle.remote_port.proofs.StandingLemmas.{lines_one}
use Rattle.remote_port.proofs.laws.one_cut.Goals as goal

pub returns : goal.returns
returns c = lines_one
