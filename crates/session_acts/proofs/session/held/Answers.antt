use Rattle.session_acts.proofs.OwedLemmas.{held_by}
use Rattle.session_acts.proofs.session.held.Goals as goal

pub returns-clause-held : goal.returns-clause-held
returns-clause-held g c = held_by c.dialogue-dialogue.ensures.ran c.finish.ensures.finishing
