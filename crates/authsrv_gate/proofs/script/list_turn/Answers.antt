use Rattle.session_acts.proofs.Acting.{did_at, halted_at}
use Rattle.session_acts.proofs.AheadLemmas.{ran_ahead}
use Rattle.authsrv_gate.proofs.TurnLemmas.{near_next}
use Rattle.authsrv_gate.proofs.script.list_turn.Goals as goal

pub returns-in_err-reply-clause-ran : goal.returns-in_err-reply-clause-ran
returns-in_err-reply-clause-ran g c = halted_at c.in_err-reply.ensures c.from_residual.ensures.1

pub returns-clause-ran : goal.returns-clause-ran
returns-clause-ran g c = did_at c.in_ok-reply.ensures c.listed_row.ensures.ran

pub returns-clause-nearer : goal.returns-clause-nearer
returns-clause-nearer g c =
    near_next c.args.after c.in_ok-reply.reply (g.D.Stage.world c.args.stage.now) (g.D.Stage.world c.ask.new.self) (g.D.Stage.world c.listed_row.new.stage) c.listed_row.result c.requires c.in_ok-reply.ensures (ran_ahead c.listed_row.ensures.ran) c.listed_row.ensures.at c.listed_row.ensures.form
