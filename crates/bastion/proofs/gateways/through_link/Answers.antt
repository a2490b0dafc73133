use Rattle.bastion.proofs.ClientLemmas.{link_does, link_stops}
use Rattle.bastion.proofs.gateways.through_link.Goals as goal

pub returns-in-Ok : goal.returns-in-Ok
returns-in-Ok g c =
    link_does c.args.name.now c.args.kind c.args.peer.now c.service_of-service.result c.service_of-service.ensures c.in-Ok.rules c.pass_link.result c.args.world.now c.rules_for.new.world c.pass_link.new.world c.in-Ok.ensures.found
    (record { output = c.in-Ok.ensures.output; logs = c.in-Ok.ensures.logs; inputs = c.in-Ok.ensures.inputs }) c.pass_link.ensures

pub returns-in-Err : goal.returns-in-Err
returns-in-Err g c =
    link_stops c.args.name.now c.args.kind c.args.peer.now c.service_of-service.result c.service_of-service.ensures c.in-Err.outcome c.args.world.now c.rules_for.new.world c.in-Err.ensures.found
    (record { output = c.in-Err.ensures.output; logs = c.in-Err.ensures.logs; inputs = c.in-Err.ensures.inputs })
