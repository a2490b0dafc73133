use Rattle.std.proofs.Common.{refl, sym, ap, Ok, ◌∙◌}
use Rattle.fw_acts.proofs.RanLemmas.{ran_here}
use Rattle.authsrv_gate.proofs.CourseLemmas.{asks_other}
use Rattle.authsrv_gate.proofs.rows.line_row.Goals as goal

pub returns-in-Err-clause-ran : goal.returns-in-Err-clause-ran
returns-in-Err-clause-ran g c = rw (sym c.read_request.ensures ∙ c.in-Err.is) c.fault_row.ensures.ran

pub returns-in-Ok-Ask-clause-ran : goal.returns-in-Ok-Ask-clause-ran
returns-in-Ok-Ask-clause-ran g c = rw (sym c.read_request.ensures ∙ c.in-Ok-Ask.is, c.in-Ok-Ask.field-0-is) c.ask_row.ensures.ran

pub returns-in-Ok-Password-clause-ran : goal.returns-in-Ok-Password-clause-ran
returns-in-Ok-Password-clause-ran g c = rw (sym c.read_request.ensures ∙ c.in-Ok-Password.is, c.in-Ok-Password.field-0-is) c.password_row.ensures.ran

pub returns-in-Ok-List-clause-ran : goal.returns-in-Ok-List-clause-ran
returns-in-Ok-List-clause-ran g c = rw (sym c.read_request.ensures ∙ c.in-Ok-List.is, c.in-Ok-List.field-0-is) (ran_here (refl, refl))

pub returns-in-Ok-Quit-clause-ran : goal.returns-in-Ok-Quit-clause-ran
returns-in-Ok-Quit-clause-ran g c = rw (sym c.read_request.ensures ∙ c.in-Ok-Quit.is, c.in-Ok-Quit.field-0-is) c.quit_row.ensures.ran

pub ask_row-requires : goal.ask_row-requires
ask_row-requires g c = asks_other c.args.line.now c.in-Ok-Ask.request (sym c.read_request.ensures ∙ c.in-Ok-Ask.is ∙ ap Ok c.in-Ok-Ask.field-0-is)
