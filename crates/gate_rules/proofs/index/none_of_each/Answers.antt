use Rattle.std.proofs.Common.{◌+◌, ◌∙◌, ◌++◌, [], ◌∷◌, ap, get_or, length}
use Rattle.std.proofs.lemmas.List.{length-append}
use Rattle.gate_rules.proofs.IndexLemmas.{more_none}
use Rattle.gate_rules.proofs.index.none_of_each.Goals as goal

pub loop-octet-preserved : goal.loop-octet-preserved
loop-octet-preserved c =
    let own = c.loop-octet.own.items in
    let items = c.in_ok-push.ensures.items in
    record {
      count = ap length items ∙ length-append own (c.none.result ∷ []) ∙ ap (λ n. n + 1) c.loop-octet.invariant.count;
      none = λ octet. ap (λ places. get_or places octet []) (items ∙ ap (λ x. own ++ x ∷ []) c.none.ensures) ∙ more_none own c.loop-octet.invariant.none octet;
    }
