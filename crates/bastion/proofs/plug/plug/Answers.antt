use Rattle.gate_rules.specs.declared.service.Service.TheVariants as services
use Rattle.bastion.specs.declared.words.Command.TheVariants as commands
use Rattle.bastion.proofs.DoesLemmas.{linked_does, needs_plug, stops_rules}
use Rattle.bastion.proofs.plug.plug.Goals as goal

pub returns-in-Ok : goal.returns-in-Ok
returns-in-Ok g c = linked_does c.args.name.now c.args.caller.now c.in-Ok.rules c.link.result c.args.world.now c.rules_for.new.world c.link.new.world c.in-Ok.ensures.found
    (record { output = c.in-Ok.ensures.output; logs = c.in-Ok.ensures.logs; inputs = c.in-Ok.ensures.inputs }) c.link.ensures

pub returns-in-Err : goal.returns-in-Err
returns-in-Err g c = stops_rules c.args.name.now (commands.PlugGw c.args.caller.now) (services.PlugGw c.args.caller.now.port) (needs_plug c.args.caller.now) c.in-Err.outcome c.args.world.now c.rules_for.new.world c.in-Err.ensures.found
    (record { output = c.in-Err.ensures.output; logs = c.in-Err.ensures.logs; inputs = c.in-Err.ensures.inputs })
