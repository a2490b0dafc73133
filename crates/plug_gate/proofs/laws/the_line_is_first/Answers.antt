use Rattle.plug_gate.proofs.PlugLemmas.{held_plugs}
use Rattle.plug_gate.proofs.laws.the_line_is_first.Goals as goal

pub returns : goal.returns
returns g c = held_plugs
