use Rattle.turn_lock.proofs.Keeps.{ends}
use Rattle.turn_lock.proofs.ending.end.Goals as goal

pub returns : goal.returns
returns g c = let last = c.close_with-closed.ensures.values.2 in record { told = ends _ _ _ _ last.0 _ _ last.1.0 last.1.1 c.requires.hold }
