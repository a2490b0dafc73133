use Rattle.plug_gate.proofs.PlugLemmas.{held_links}
use Rattle.plug_gate.proofs.laws.the_destination_is_the_lines.Goals as goal

pub returns : goal.returns
returns g c = held_links
