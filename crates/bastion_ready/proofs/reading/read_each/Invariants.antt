use Rattle.std.proofs.Common.{◌≡◌, length}
use Rattle.bastion_ready.specs.Inputs.{rules_of_each}
use Rattle.bastion_ready.proofs.SiteLemmas.{onto}
use Rattle.bastion_ready.proofs.reading.read_each.Given as goal

abbrev pub invariant-loop-services : goal.invariant-loop-services
invariant-loop-services l = onto l.rules.items (rules_of_each l.services l.table) ≡ rules_of_each l.fn.services l.table

abbrev pub decreases-loop-services : goal.decreases-loop-services
decreases-loop-services l = length l.services
