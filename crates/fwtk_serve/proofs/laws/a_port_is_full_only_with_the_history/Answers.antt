use Rattle.fwtk_serve.proofs.FullLemmas.{full_served}
use Rattle.fwtk_serve.proofs.laws.a_port_is_full_only_with_the_history.Goals as goal

pub returns : goal.returns
returns c = λ rules lock first history old new door fits.
    full_served lock history fits rules first door.last new.sittings door.worked.serves.were door.seen
