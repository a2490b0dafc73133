use Rattle.std.specs.Prelude.{length, unwrap_or}
use Rattle.std.proofs.Common.{◌∙◌, ap, arith}
use Rattle.gate_rules.specs.Lists.{is_close}
use Rattle.gate_rules.proofs.WordsLemmas.{position_or_all, position_within}
use Rattle.gate_rules.proofs.words.count_before_close.Goals as goal

pub returns-clause-count : goal.returns-clause-count
returns-clause-count c =
    c.unwrap_or.ensures ∙ ap (λ r. unwrap_or r (length c.args.words.now)) c.find_close.ensures ∙ position_or_all is_close c.args.words.now

pub returns-clause-within : goal.returns-clause-within
returns-clause-within c =
    let is = returns-clause-count c in
    omega (arith, is, position_within is_close c.args.words.now)
