use Rattle.ftp_gate.proofs.BreakLemmas.{held_carries}
use Rattle.ftp_gate.proofs.LawLemmas.{held_copies, held_doors, held_own}
use Rattle.ftp_gate.proofs.ReadyLemmas.{held_joined}
use Rattle.ftp_gate.proofs.laws.data_links_are_the_sessions_own.Goals as goal

pub returns-clause-joins : goal.returns-clause-joins
returns-clause-joins g c = λ gate old new ending held. held_own gate old new ending held

pub returns-clause-asked : goal.returns-clause-asked
returns-clause-asked g c = λ gate old new ending held. held_joined gate old new ending held

pub returns-clause-doors : goal.returns-clause-doors
returns-clause-doors g c = λ gate old new ending held. held_doors gate old new ending held

pub returns-clause-copies : goal.returns-clause-copies
returns-clause-copies g c = λ gate old new ending held. held_copies gate old new ending held

pub returns-clause-carries : goal.returns-clause-carries
returns-clause-carries g c = λ gate old new ending held. held_carries gate old new ending held
