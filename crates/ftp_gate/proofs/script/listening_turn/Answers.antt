use Rattle.std.proofs.lemmas.Result.{IfOk-weaker}
use Rattle.session_acts.proofs.Acting.{did_at, halted_at}
use Rattle.session_acts.proofs.AheadLemmas.{ran_ahead}
use Rattle.ftp_gate.proofs.ServerLemmas.{ran_no_more}
use Rattle.ftp_gate.proofs.TurnLemmas.{near_line}
use Rattle.ftp_gate.proofs.script.listening_turn.Goals as goal

pub returns-in_err-heard-clause-ran : goal.returns-in_err-heard-clause-ran
returns-in_err-heard-clause-ran g c = halted_at c.in_err-heard.ensures c.from_residual.ensures.1

pub returns-clause-ran : goal.returns-clause-ran
returns-clause-ran g c = did_at c.in_ok-heard.ensures c.heard_row.ensures.ran

pub returns-clause-nearer : goal.returns-clause-nearer
returns-clause-nearer g c =
    IfOk-weaker _ _ _ (λ next fresh. near_line c.in_ok-heard.heard (g.D.Stage.world c.args.stage.now) (g.D.Stage.world c.hear.new.self) (g.D.Stage.world c.heard_row.new.stage) next c.in_ok-heard.ensures (ran_ahead c.heard_row.ensures.ran) (ran_no_more c.heard_row.ensures.ran) fresh) c.heard_row.ensures.next
