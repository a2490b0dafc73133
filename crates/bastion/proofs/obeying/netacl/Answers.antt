use Rattle.bastion.proofs.DoesLemmas.{needs_netacl, netacl_does, stops_rules}
use Rattle.bastion.specs.declared.words.Command.TheVariants as commands
use Rattle.bastion.proofs.obeying.netacl.Goals as goal

pub returns-in-Ok : goal.returns-in-Ok
returns-in-Ok g c = netacl_does c.args.name.now c.args.query.now c.in-Ok.rules c.decide.result c.args.world.now c.rules_for.new.world c.decide.new.world c.in-Ok.ensures.found
    (record { output = c.in-Ok.ensures.output; logs = c.in-Ok.ensures.logs; inputs = c.in-Ok.ensures.inputs }) c.decide.ensures

pub returns-in-Err : goal.returns-in-Err
returns-in-Err g c = stops_rules c.args.name.now (commands.Netacl c.args.query.now) c.args.query.now.service (needs_netacl c.args.query.now) c.in-Err.outcome c.args.world.now c.rules_for.new.world c.in-Err.ensures.found
    (record { output = c.in-Err.ensures.output; logs = c.in-Err.ensures.logs; inputs = c.in-Err.ensures.inputs })
