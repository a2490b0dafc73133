use Rattle.turn_lock.specs.Known.{IsPassOf}
use Rattle.shared_rows.proofs.turn.add_all.Given as goal

abbrev pub invariant-loop-round : goal.invariant-loop-round
invariant-loop-round g l = IsPassOf l.turns l.pass
