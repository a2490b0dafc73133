use Rattle.plug_gate.proofs.EndLemmas.{plug_fronts}
use Rattle.plug_gate.proofs.laws.fronts_are_given.Goals as goal

pub returns : goal.returns
returns g c = plug_fronts
