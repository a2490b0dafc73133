use Rattle.std.proofs.Common.{◌∙◌}
use Rattle.tn_gate.proofs.RowLemmas.{told_as}
use Rattle.tn_gate.proofs.login.shown_row.Goals as goal

pub returns : goal.returns
returns g c = told_as (c.as_slice.ensures.value ∙ c.challenge_asked-text.ensures) (c.tell.ensures.ran _)
