use Rattle.std.proofs.Common.{rules}
use Rattle.relay_ways.proofs.WayLemmas.{copies_on, copies_spent, going_from, going_some}
use Rattle.relay_ways.proofs.copying.copy_on.Goals as goal

pub loop-left-init : goal.loop-left-init
loop-left-init g c = going_from c.args.left.now _ _

pub loop-left-preserved : goal.loop-left-preserved
loop-left-preserved g c = going_some c.args.left.now c.loop-left.left _ _ _ _ _ _ _ c.loop-left.invariant c.in-Ok.ensures.moves

pub returns-in-Err : goal.returns-in-Err
returns-in-Err g c = copies_on c.in-Err.end _ c.loop-left.left _ _ _ _ _ _ _ c.loop-left.invariant c.in-Err.ensures.copies

pub returns : goal.returns
returns g c = copies_spent _ c.loop-left.left _ _ _ _ (search rules) c.loop-left.invariant
