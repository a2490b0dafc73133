use Rattle.std.proofs.lemmas.Result.{IfErr-weaker, IfOk-weaker}
use Rattle.bastion_ready.proofs.ReadyLemmas.{behind_may, behind_ready, behind_stops, site_stops}
use Rattle.bastion_ready.proofs.readying.prepare_by.Goals as goal

pub returns-in-Ok-clause-ready : goal.returns-in-Ok-clause-ready
returns-in-Ok-clause-ready g c =
    IfOk-weaker c.open_behind.result _ _
    (λ ready h. behind_ready c.args.line.now c.args.name.now c.args.services.now c.requires.name c.requires.services c.in-Ok.ruled c.in-Ok.book c.args.world.now c.open_site.new.world c.in-Ok.ensures.opened
    c.args.doors.items ready.doors.items ready.rules.items ready.book ready.rack c.open_behind.new.world c.requires.doors h) c.open_behind.ensures.opened

pub returns-in-Ok-clause-may : goal.returns-in-Ok-clause-may
returns-in-Ok-clause-may g c =
    IfOk-weaker c.open_behind.result _ _
    (λ ready h. behind_may c.args.line.now c.args.name.now c.args.services.now c.requires.name c.requires.services c.in-Ok.ruled c.in-Ok.book c.args.world.now c.open_site.new.world c.in-Ok.ensures.opened
    c.requires.served ready.rules.items h.rules_are) c.open_behind.ensures.opened

pub returns-in-Ok-clause-stops : goal.returns-in-Ok-clause-stops
returns-in-Ok-clause-stops g c =
    IfErr-weaker c.open_behind.result _ _
    (λ outcome h. behind_stops c.args.line.now c.args.name.now c.args.services.now c.requires.name c.requires.services c.in-Ok.ruled c.in-Ok.book c.args.world.now c.open_site.new.world c.in-Ok.ensures.opened
    outcome c.open_behind.new.world h) c.open_behind.ensures.unopened

pub returns-in-Err-clause-stops : goal.returns-in-Err-clause-stops
returns-in-Err-clause-stops g c = site_stops c.args.line.now c.args.name.now c.args.services.now c.requires.name c.requires.services c.in-Err.outcome c.args.world.now c.open_site.new.world c.in-Err.ensures.unopened
