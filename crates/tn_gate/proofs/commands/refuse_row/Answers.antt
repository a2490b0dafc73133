use Rattle.std.proofs.Common.{ap, ◌∙◌, ◌++◌, List, ℕ}
use Rattle.tn_gate.specs.Texts.{command_prompt}
use Rattle.tn_gate.proofs.RowLemmas.{log_halted, logged_as, told_as}
use Rattle.tn_gate.proofs.commands.refuse_row.Goals as goal

pub returns-in_err-log : goal.returns-in_err-log
returns-in_err-log g c = log_halted (c.as_slice.ensures.value ∙ c.refuse_line-line.ensures) c.in_err-log.ensures c.from_residual.ensures.1

pub returns : goal.returns
returns g c =
    logged_as (c.as_slice.ensures.value ∙ c.refuse_line-line.ensures) c.in_ok-log.ensures
    (told_as (ap (λ (words : List ℕ). words ++ command_prompt) (c.as_slice-2.ensures.value ∙ c.refusal-words.ensures)) c.ask_command.ensures)
