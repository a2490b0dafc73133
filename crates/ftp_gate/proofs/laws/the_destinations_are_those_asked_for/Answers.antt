use Rattle.ftp_gate.proofs.LawLemmas.{held_asks}
use Rattle.ftp_gate.proofs.laws.the_destinations_are_those_asked_for.Goals as goal

pub returns : goal.returns
returns g c = λ gate old new ending held. held_asks gate old new ending held
