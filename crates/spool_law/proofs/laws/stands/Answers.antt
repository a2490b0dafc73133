use Rattle.spool_law.proofs.laws.stands.Goals as goal
use Rattle.spool_law.proofs.WorldLemmas.{always_safe}

pub returns : goal.returns
returns c = always_safe
