use Rattle.std.proofs.Common.{ap}
use Rattle.session_acts.specs.World.{Names}
use Rattle.session_acts.proofs.KeptLemmas.{ran_names}
use Rattle.session_acts.proofs.session.dialogue.Goals as goal

pub returns-clause-names : goal.returns-clause-names
returns-clause-names g c = ap (λ (n : Names). n.devices) (ran_names c.turns.ensures)
