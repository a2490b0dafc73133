use Rattle.session_acts.proofs.RelayGivesLemmas.{gives_last, relay_carries, relay_conveys}
use Rattle.session_acts.proofs.laws.a_relay_carries.Goals as goal

pub returns : goal.returns
returns g c = record {
  conveys = relay_conveys;
  carries = relay_carries;
  given = λ rows first old new ending held last flow none is. gives_last rows first old new ending held last flow none is;
}
