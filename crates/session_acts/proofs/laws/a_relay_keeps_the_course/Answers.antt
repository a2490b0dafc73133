use Rattle.session_acts.proofs.RelayLemmas.{relayed_course}
use Rattle.session_acts.proofs.laws.a_relay_keeps_the_course.Goals as goal

pub returns : goal.returns
returns g c = λ console may_be rows first keeps. relayed_course rows console may_be first keeps
