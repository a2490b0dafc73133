use Rattle.std.specs.Prelude.{not, length, unwrap_or}
use Rattle.std.proofs.Common.{◌∙◌, ap, arith}
use Rattle.netperm_table.specs.Bytes.{is_blank}
use Rattle.netperm_table.proofs.WordLemmas.{counted, counted_within}
use Rattle.netperm_table.proofs.part.count_of_blanks.Goals as goal

pub returns-clause-count : goal.returns-clause-count
returns-clause-count c = c.unwrap_or.ensures ∙ ap (λ r. unwrap_or r (length c.args.bytes.now)) c.find_text.ensures ∙ counted (λ b. not (is_blank b)) c.args.bytes.now

pub returns-clause-within : goal.returns-clause-within
returns-clause-within c =
    let is = returns-clause-count c in
    omega (arith, is, counted_within (λ b. not (is_blank b)) c.args.bytes.now)
