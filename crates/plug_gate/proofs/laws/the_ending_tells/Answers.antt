use Rattle.plug_gate.proofs.EndLemmas.{plug_ends}
use Rattle.plug_gate.proofs.laws.the_ending_tells.Goals as goal

pub returns : goal.returns
returns g c = plug_ends
