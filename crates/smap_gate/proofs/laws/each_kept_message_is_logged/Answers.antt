use Rattle.smap_gate.proofs.LoggingLemmas.{logs_due}
use Rattle.smap_gate.proofs.laws.each_kept_message_is_logged.Goals as goal

pub returns : goal.returns
returns g c = λ gate old new ending held. logs_due gate old new ending held
