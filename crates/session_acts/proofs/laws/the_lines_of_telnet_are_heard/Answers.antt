use Rattle.session_acts.proofs.SaidLemmas.{held_says}
use Rattle.session_acts.proofs.laws.the_lines_of_telnet_are_heard.Goals as goal

pub returns : goal.returns
returns g c = held_says
