use Rattle.std.proofs.Common.{sym, ◌∙◌}
use Rattle.session_acts.proofs.OwedLemmas.{freed}
use Rattle.session_acts.proofs.session.free.Goals as goal

pub returns-then-is_linked : goal.returns-then-is_linked
returns-then-is_linked g c = freed _ _ _ (sym c.is_linked.ensures ∙ c.if-is_linked.true) c.hang_up.ensures
