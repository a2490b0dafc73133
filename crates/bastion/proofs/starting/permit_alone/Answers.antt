use Rattle.std.proofs.Common.{inr}
use Rattle.bastion.proofs.starting.permit_alone.Goals as goal

pub returns : goal.returns
returns g c = inr c.announce_alone.ensures
