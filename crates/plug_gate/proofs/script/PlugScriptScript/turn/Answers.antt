use Rattle.std.proofs.Common.{refl}
use Rattle.fw_acts.proofs.RanLemmas.{ran_here}
use Rattle.session_acts.proofs.Acting.{did_at}
use Rattle.plug_gate.proofs.script.PlugScriptScript.turn.Goals as goal

pub returns-clause-ran : goal.returns-clause-ran
returns-clause-ran g c = did_at c.in_ok-hear.ensures (ran_here (refl, refl))
