use Rattle.ftp_gate.proofs.LawLemmas.{held_gives, held_unblocked}
use Rattle.ftp_gate.proofs.laws.what_the_server_is_given.Goals as goal

pub returns-clause-passage : goal.returns-clause-passage
returns-clause-passage g c = λ gate old new ending held. held_gives gate old new ending held

pub returns-clause-unblocked : goal.returns-clause-unblocked
returns-clause-unblocked g c = λ gate old new ending held. held_unblocked gate old new ending held
