use Rattle.std.proofs.Common.{◌∙◌, ◌-◌, drop, length, take}
use Rattle.bastion_ready.proofs.SiteLemmas.{adds_so_far, next_services}
use Rattle.bastion_ready.proofs.reading.read_each.Goals as goal

pub loop-services-preserved : goal.loop-services-preserved
loop-services-preserved c =
    let services = c.loop-services.services.now in
    let service = c.service-item.result in
    let rest = take (length services - 1) (drop 1 services) in
    let first = next_services services service c.args.table.now c.in-len1-up.len_at_least c.service-item.is in
    adds_so_far services rest service c.args.table.now c.loop-services.rules.items c.add_rules.new.rules.items first c.in-Ok.ensures.adds ∙ c.loop-services.invariant
