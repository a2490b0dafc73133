use Rattle.session_acts.proofs.ClientLemmas.{denies, logs_first}
use Rattle.session_acts.proofs.laws.a_line_is_logged_first.Goals as goal

pub returns : goal.returns
returns g c = record {
  first = λ relays line rows first old new ending session. logs_first line rows first old new ending session;
  denied = denies;
}
