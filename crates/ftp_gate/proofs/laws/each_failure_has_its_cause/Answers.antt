use Rattle.ftp_gate.proofs.BreakLemmas.{held_breaks}
use Rattle.ftp_gate.proofs.LawLemmas.{held_caused}
use Rattle.ftp_gate.proofs.RefusalLemmas.{held_told}
use Rattle.ftp_gate.proofs.laws.each_failure_has_its_cause.Goals as goal

pub returns-clause-causes : goal.returns-clause-causes
returns-clause-causes g c = λ gate old new ending held. held_caused gate old new ending held

pub returns-clause-told : goal.returns-clause-told
returns-clause-told g c = λ gate old new ending held. held_told gate old new ending held

pub returns-clause-broken : goal.returns-clause-broken
returns-clause-broken g c = λ gate old new ending held. held_breaks gate old new ending held
