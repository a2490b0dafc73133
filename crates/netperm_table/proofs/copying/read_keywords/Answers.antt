use Rattle.std.proofs.Common.{rules, tests, ap, ◌∙◌}
use Rattle.std.specs.Prelude.{filter}
use Rattle.std.proofs.lemmas.Iterator.Consumers.{YieldsList-at, YieldsList-end}
use Rattle.std.proofs.lemmas.Iterator.Splits.{YieldsList-from_slice_split}
use Rattle.netperm_table.specs.Words.{is_some_bytes}
use Rattle.netperm_table.proofs.copying.read_keywords.Goals as goal

pub returns : goal.returns
returns c =
    let split = c.split-part-items.ensures in
    let list = YieldsList-at c.into_iter-part-iterator.ensures.into_iter_gives (YieldsList-from_slice_split _ _ c.args.bytes.now split.rest split.done split.closure (λ x r q k. search (rules, tests))) in
    let all = YieldsList-end list c.loop-part.yielded _ c.loop-part.yielded_by _ _ c.in-None.is c.next.ensures.steps in
    c.loop-part.invariant ∙ ap (filter is_some_bytes) all.0
