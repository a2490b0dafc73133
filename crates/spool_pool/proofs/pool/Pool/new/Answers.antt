use Rattle.std.proofs.Common.{ap, ◌∙◌, Some, sym}
use Rattle.spool_pool.specs.Known.{PassView}
use Rattle.spool_rack.specs.Store.{Queues}
use Rattle.spool_pool.proofs.Begins.{begun_pass}
use Rattle.spool_pool.proofs.pool.Pool.new.Goals as goal

pub returns-in-Ok-clause-pass : goal.returns-in-Ok-clause-pass
returns-in-Ok-clause-pass g c =
    c.into_slots.ensures ∙ ap (λ (q : Queues). Some q)
    (sym (ap (λ (p : PassView). p.handed.began) (begun_pass c.in-Ok.pool.home c.into_slots.result c.begin-lanes.result c.none.result c.begin-lanes.ensures c.none.ensures)))
