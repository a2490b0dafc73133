use Rattle.tn_gate.proofs.DueLawLemmas.{held_due, held_logged}
use Rattle.tn_gate.proofs.laws.each_denial_is_logged.Goals as goal

pub returns-clause-told : goal.returns-clause-told
returns-clause-told g c = λ gate old new ending held. held_logged gate old new ending held

pub returns-clause-due : goal.returns-clause-due
returns-clause-due g c = λ gate old new ending held. held_due gate old new ending held
