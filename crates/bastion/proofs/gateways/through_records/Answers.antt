use Rattle.bastion.proofs.ClientLemmas.{gateway_does, gateway_stops}
use Rattle.bastion.proofs.gateways.through_records.Goals as goal

pub returns-in-Ok : goal.returns-in-Ok
returns-in-Ok g c =
    gateway_does c.args.name.now c.args.kind c.args.peer.now c.service_of-service.result c.service_of-service.ensures c.in-Ok.rules c.in-Ok.book c.pass_over.result c.args.world.now c.open_for.new.world c.pass_over.new.world c.in-Ok.ensures.opens
    c.pass_over.ensures

pub returns-in-Err : goal.returns-in-Err
returns-in-Err g c =
    gateway_stops c.args.name.now c.args.kind c.args.peer.now c.service_of-service.result c.service_of-service.ensures c.in-Err.outcome c.args.world.now c.open_for.new.world c.in-Err.ensures.stops
