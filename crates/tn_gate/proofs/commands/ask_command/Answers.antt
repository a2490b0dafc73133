use Rattle.std.proofs.Common.{◌∙◌}
use Rattle.tn_gate.proofs.RowLemmas.{told_as}
use Rattle.tn_gate.proofs.commands.ask_command.Goals as goal

pub returns : goal.returns
returns g c = told_as (c.as_slice.ensures.value ∙ c.before_command-text.ensures) (c.tell.ensures.ran _)
