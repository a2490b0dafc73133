use Rattle.std.proofs.Common.{◌∙◌}
use Rattle.tn_gate.proofs.RowLemmas.{told_as}
use Rattle.tn_gate.proofs.login.ask_name.Goals as goal

pub returns : goal.returns
returns g c = told_as (c.as_slice.ensures.value ∙ c.before_name-text.ensures) (c.tell.ensures.ran _)
