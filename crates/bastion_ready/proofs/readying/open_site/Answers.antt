use Rattle.std.proofs.Common.{refl}
use Rattle.std.specs.Prelude.{Ok, Err}
use Rattle.std.proofs.lemmas.Result.{IfErr-weaker, IfOk-weaker}
use Rattle.bastion_ready.proofs.readying.open_site.Goals as goal

pub returns-in-Ok-clause-opened : goal.returns-in-Ok-clause-opened
returns-in-Ok-clause-opened g c =
    IfOk-weaker c.open_by.result _ _ (λ both h. record { site = c.in-Ok.site; middle = c.site_for.new.world; found = c.in-Ok.ensures.found; said = c.in-Ok.ensures.said; output = c.in-Ok.ensures.output; logs = c.in-Ok.ensures.logs; inputs = c.in-Ok.ensures.inputs; rules_are = h.0; opened = h.1 }) c.open_by.ensures.opened

pub returns-in-Ok-clause-unopened : goal.returns-in-Ok-clause-unopened
returns-in-Ok-clause-unopened g c =
    IfErr-weaker c.open_by.result _ _ (λ outcome h. record { read = Ok c.in-Ok.site; middle = c.site_for.new.world; found = c.in-Ok.ensures.found; output = c.in-Ok.ensures.output; logs = c.in-Ok.ensures.logs; inputs = c.in-Ok.ensures.inputs; stops = h }) c.open_by.ensures.unopened

pub returns-in-Err-clause-unopened : goal.returns-in-Err-clause-unopened
returns-in-Err-clause-unopened g c =
    record { read = Err c.in-Err.outcome; middle = c.site_for.new.world; found = c.in-Err.ensures.found; output = c.in-Err.ensures.output; logs = c.in-Err.ensures.logs; inputs = c.in-Err.ensures.inputs; stops = (refl, refl) }
