use Rattle.std.proofs.Common.{subst, ℕ}
use Rattle.fw_acts.specs.Ran.{Ran}
use Rattle.session_acts.specs.Session.{leads}
use Rattle.smap_gate.specs.Dialogue.{deposited_row, smap_rows}
use Rattle.smap_gate.proofs.RowLemmas.{deposit_halted, deposited_as}
use Rattle.smap_gate.proofs.mail.deposit_row.Goals as goal

pub returns-in_err-deposited-clause-ran : goal.returns-in_err-deposited-clause-ran
returns-in_err-deposited-clause-ran g c = deposit_halted c.text.ensures.text c.most_bytes-most.ensures.is c.in_err-deposited.ensures c.from_residual.ensures.1

pub returns-clause-ran : goal.returns-clause-ran
returns-clause-ran g c = deposited_as c.text.ensures.text c.most_bytes-most.ensures.is c.in_ok-deposited.ensures (subst (λ (n : ℕ). Ran (smap_rows c.args.script.now) (deposited_row c.args.script.now n c.in_ok-deposited.deposited) leads (g.D.Stage.world c.deposit.new.self) (g.D.Stage.world c.deposited_row.new.stage) c.deposited_row.result) c.count_of.ensures c.deposited_row.ensures.ran)
