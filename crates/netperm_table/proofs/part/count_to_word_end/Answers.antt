use Rattle.std.specs.Prelude.{length, unwrap_or}
use Rattle.std.proofs.Common.{◌∙◌, ap, arith}
use Rattle.netperm_table.specs.Bytes.{ends_word}
use Rattle.netperm_table.proofs.WordLemmas.{counted, counted_within}
use Rattle.netperm_table.proofs.part.count_to_word_end.Goals as goal

pub returns-clause-count : goal.returns-clause-count
returns-clause-count c = c.unwrap_or.ensures ∙ ap (λ r. unwrap_or r (length c.args.bytes.now)) c.find_word_end.ensures ∙ counted ends_word c.args.bytes.now

pub returns-clause-within : goal.returns-clause-within
returns-clause-within c =
    let is = returns-clause-count c in
    omega (arith, is, counted_within ends_word c.args.bytes.now)
