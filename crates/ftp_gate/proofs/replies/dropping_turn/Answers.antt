use Rattle.std.proofs.lemmas.Result.{IfOk-weaker}
use Rattle.session_acts.proofs.Acting.{did_at, halted_at}
use Rattle.session_acts.proofs.AheadLemmas.{ran_ahead}
use Rattle.ftp_gate.proofs.TurnLemmas.{near_reply}
use Rattle.ftp_gate.proofs.replies.dropping_turn.Goals as goal

pub returns-in_err-replied-clause-ran : goal.returns-in_err-replied-clause-ran
returns-in_err-replied-clause-ran g c = halted_at c.in_err-replied.ensures c.from_residual.ensures.1

pub returns-clause-ran : goal.returns-clause-ran
returns-clause-ran g c = did_at c.in_ok-replied.ensures.met c.unanswered_row.ensures.ran

pub returns-clause-nearer : goal.returns-clause-nearer
returns-clause-nearer g c =
    IfOk-weaker _ _ _ (λ next behind. near_reply c.in_ok-replied.replied (g.D.Stage.world c.args.stage.now) (g.D.Stage.world c.take_reply.new.self) (g.D.Stage.world c.unanswered_row.new.stage) next c.in_ok-replied.ensures (ran_ahead c.unanswered_row.ensures.ran) behind) c.unanswered_row.ensures.near
