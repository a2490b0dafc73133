use Rattle.relay_ways.proofs.CarriedLemmas.{carried, carried_none}
use Rattle.relay_ways.proofs.carrying.carry_way.Goals as goal

pub returns-in-Ok : goal.returns-in-Ok
returns-in-Ok g c = carried c.args.ahead.now _ _ c.copy_on.result _ _ _ _ _ c.in-Ok.ensures c.copy_on.ensures

pub returns-in-Err : goal.returns-in-Err
returns-in-Err g c = carried_none c.args.ahead.now _ _ _ _ c.requires c.in-Err.ensures
