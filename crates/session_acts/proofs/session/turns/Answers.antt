use Rattle.std.proofs.Common.{rules, subst, IfSome}
use Rattle.fw_acts.proofs.RanLemmas.{ran_on, ran_then}
use Rattle.session_acts.proofs.TurnLemmas.{at_end, at_place, still_less}
use Rattle.session_acts.proofs.session.turns.Goals as goal

pub returns-in_err-next : goal.returns-in_err-next
returns-in_err-next g c = ran_on c.in_err-next.ensures.ran c.from_residual.ensures.1

pub loop-next-init : goal.loop-next-init
loop-next-init g c = record { ran = c.in_ok-next.ensures.ran; form = c.in_ok-next.ensures.form }

pub turn-requires : goal.turn-requires
turn-requires g c = subst (λ n. IfSome n (g.T.Script.holds c.args.script.now)) c.in-Some.is c.loop-next.invariant.form

pub returns-in_err-next-2 : goal.returns-in_err-next-2
returns-in_err-next-2 g c = ran_on (ran_then (at_place c.loop-next.invariant c.in-Some.is) c.in_err-next-2.ensures.ran) c.from_residual-in_err-next-2.ensures.1

pub loop-next-smaller : goal.loop-next-smaller
loop-next-smaller g c = rw c.in-Some.is (still_less _ c.in_ok-next-2.next c.in-Some.place (g.D.Stage.world c.loop-next.stage) (g.D.Stage.world c.turn.new.stage) c.in_ok-next-2.ensures.nearer)

pub loop-next-preserved : goal.loop-next-preserved
loop-next-preserved g c = record { ran = ran_then (at_place c.loop-next.invariant c.in-Some.is) c.in_ok-next-2.ensures.ran; form = c.in_ok-next-2.ensures.form }

pub returns : goal.returns
returns g c = at_end c.loop-next.invariant (search rules)
