use Rattle.std.proofs.lemmas.Result.{IfErr-weaker, IfOk-weaker}
use Rattle.bastion.proofs.DoesLemmas.{opened_opens, unfound_stops, unopened_stops}
use Rattle.bastion.proofs.book.open_for.Goals as goal

pub returns-in-Ok-clause-opens : goal.returns-in-Ok-clause-opens
returns-in-Ok-clause-opens g c =
    IfOk-weaker c.open_by.result _ _
    (λ both h. opened_opens c.args.name.now c.args.service.now c.in-Ok.server_rules c.args.world.now c.server_rules_for.new.world c.in-Ok.ensures.found
    (record { output = c.in-Ok.ensures.output; logs = c.in-Ok.ensures.logs; inputs = c.in-Ok.ensures.inputs }) both.0 both.1 c.open_by.new.world h) c.open_by.ensures.opened

pub returns-in-Ok-clause-stops : goal.returns-in-Ok-clause-stops
returns-in-Ok-clause-stops g c =
    IfErr-weaker c.open_by.result _ _
    (λ outcome h. unopened_stops c.args.name.now c.args.service.now c.in-Ok.server_rules c.args.world.now c.server_rules_for.new.world c.in-Ok.ensures.found
    (record { output = c.in-Ok.ensures.output; logs = c.in-Ok.ensures.logs; inputs = c.in-Ok.ensures.inputs }) outcome c.open_by.new.world h) c.open_by.ensures.unopened

pub returns-in-Err-clause-stops : goal.returns-in-Err-clause-stops
returns-in-Err-clause-stops g c =
    unfound_stops c.args.name.now c.args.service.now c.in-Err.outcome c.args.world.now c.server_rules_for.new.world c.in-Err.ensures.found
    (record { output = c.in-Err.ensures.output; logs = c.in-Err.ensures.logs; inputs = c.in-Err.ensures.inputs })
