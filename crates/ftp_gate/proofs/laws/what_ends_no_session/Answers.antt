use Rattle.ftp_gate.proofs.UnnamedLemmas.{held_ample, held_routed, held_unasked, held_unfailed}
use Rattle.ftp_gate.proofs.laws.what_ends_no_session.Goals as goal

pub returns-clause-unasked : goal.returns-clause-unasked
returns-clause-unasked g c = λ gate old new ending held closed none. held_unasked gate old new ending held closed none

pub returns-clause-ample : goal.returns-clause-ample
returns-clause-ample g c = λ gate old new ending held closed none. held_ample gate old new ending held closed none

pub returns-clause-unfailed : goal.returns-clause-unfailed
returns-clause-unfailed g c = λ gate old new ending held closed none. held_unfailed gate old new ending held closed none

pub returns-clause-routed : goal.returns-clause-routed
returns-clause-routed g c = λ gate old new ending held. held_routed gate old new ending held
