use Rattle.session_acts.proofs.RelayFrontsLemmas.{held_fronts, session_fronts}
use Rattle.session_acts.proofs.laws.fronts_are_relayed.Goals as goal

pub returns : goal.returns
returns g c = record {
  held = λ rows first old new ending held. held_fronts rows first old new ending held;
  session = session_fronts;
}
