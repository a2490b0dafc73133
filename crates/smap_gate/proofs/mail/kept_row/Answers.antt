use Rattle.std.proofs.Common.{ap, ◌∙◌}
use Rattle.fw_types.specs.declared.peer.Peer.{Peer}
use Rattle.smap_gate.specs.LogLines.{mail_line}
use Rattle.smap_gate.proofs.RowLemmas.{log_halted, logged_as, told_as}
use Rattle.smap_gate.proofs.mail.kept_row.Goals as goal

pub returns-in_err-log-clause-ran : goal.returns-in_err-log-clause-ran
returns-in_err-log-clause-ran g c = log_halted (c.as_slice.ensures.value ∙ c.mail_line-line.ensures ∙ ap (λ (p : Peer). mail_line p c.args.slot c.args.rcpts c.args.bytes) c.peer.ensures) c.in_err-log.ensures c.from_residual.ensures.1

pub returns-clause-ran : goal.returns-clause-ran
returns-clause-ran g c = logged_as (c.as_slice.ensures.value ∙ c.mail_line-line.ensures ∙ ap (λ (p : Peer). mail_line p c.args.slot c.args.rcpts c.args.bytes) c.peer.ensures) c.in_ok-log.ensures (told_as (c.as_slice-2.ensures.value ∙ c.kept-text.ensures) c.tell_at.ensures.ran)
