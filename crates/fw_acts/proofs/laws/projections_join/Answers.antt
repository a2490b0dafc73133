use Rattle.fw_acts.proofs.ProjectionLemmas.{projection_joined}
use Rattle.fw_acts.proofs.laws.projections_join.Goals as goal

pub returns : goal.returns
returns g c = λ gives first more. projection_joined gives first more
