use Rattle.gate_rules.specs.declared.service.Service.TheVariants as services
use Rattle.bastion.specs.declared.words.Command.TheVariants as commands
use Rattle.bastion.proofs.DoesLemmas.{mailed_does, needs_smap, stops_rules}
use Rattle.bastion.proofs.mailing.take_mail.Goals as goal

pub returns-in-Ok : goal.returns-in-Ok
returns-in-Ok g c = mailed_does c.args.name.now c.args.peer.now c.in-Ok.rules c.serve_mail.result c.args.world.now c.rules_for.new.world c.serve_mail.new.world c.in-Ok.ensures.found
    (record { output = c.in-Ok.ensures.output; logs = c.in-Ok.ensures.logs; inputs = c.in-Ok.ensures.inputs }) c.serve_mail.ensures

pub returns-in-Err : goal.returns-in-Err
returns-in-Err g c = stops_rules c.args.name.now (commands.Smap c.args.peer.now) services.Smap (needs_smap c.args.peer.now) c.in-Err.outcome c.args.world.now c.rules_for.new.world c.in-Err.ensures.found
    (record { output = c.in-Err.ensures.output; logs = c.in-Err.ensures.logs; inputs = c.in-Err.ensures.inputs })
