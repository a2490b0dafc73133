use Rattle.session_acts.proofs.TurnLemmas.{Talks, still}
use Rattle.session_acts.proofs.session.turns.Given as goal

abbrev pub invariant-loop-next : goal.invariant-loop-next
invariant-loop-next g l =
    Talks (g.T.Script.rows l.fn.script g.row.D-Origin.Denot) (g.T.Script.first l.fn.script g.row.D-Origin.Denot) (g.T.Script.holds l.fn.script) (g.D.Stage.world l.fn.stage) (g.D.Stage.world l.stage) l.next

abbrev pub decreases-loop-next : goal.decreases-loop-next
decreases-loop-next g l = still (g.T.Script.distance l.fn.script g.row.D-Origin.Denot) l.next (g.D.Stage.world l.stage)
