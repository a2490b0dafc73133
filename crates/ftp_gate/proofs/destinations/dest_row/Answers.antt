use Rattle.std.proofs.Common.{sym, ◌∙◌, ℕ}
use Rattle.ftp_gate.specs.Dialogue.{refuse_row}
use Rattle.ftp_gate.proofs.RowLemmas.{row_as}
use Rattle.ftp_gate.proofs.destinations.dest_row.Goals as goal

pub returns-then-is_allowed : goal.returns-then-is_allowed
returns-then-is_allowed g c = rw (sym c.is_allowed.ensures ∙ c.if-is_allowed.true) c.permitted_row.ensures

pub returns : goal.returns
returns g c = rw (sym c.is_allowed.ensures ∙ c.if-is_allowed.false) (row_as (λ (n : ℕ). refuse_row c.args.script.now c.args.state c.args.dest n) c.line.ensures c.refuse_row.ensures)
