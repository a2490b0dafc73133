use Rattle.std.proofs.Common.{rules}
use Rattle.std.proofs.lemmas.List.Sorted.{IsNonDecreasingBy-from_sort_by_key}
use Rattle.spool_rack.specs.Opening.{HeldView}
use Rattle.spool_rack.proofs.closing.sort.Goals as goal

pub returns-clause-rise : goal.returns-clause-rise
returns-clause-rise g c =
    IsNonDecreasingBy-from_sort_by_key (λ (h : HeldView). h.number) _ c.sort_unstable_by_key.ensures.sorted
    (λ a r q k. search rules)
