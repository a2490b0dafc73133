use Rattle.std.proofs.Common.{sym, ap, ◌∙◌}
use Rattle.std.specs.Result.{result_err}
use Rattle.gate_rules.proofs.ListsLemmas.{members_bad, no_hosts, too_many_fault}
use Rattle.gate_rules.proofs.lists.patterns_fault.Goals as goal

pub returns-then-is_empty : goal.returns-then-is_empty
returns-then-is_empty c = no_hosts c.args.words.now (sym c.is_empty.ensures ∙ c.if-is_empty.true)

pub returns-in-Err : goal.returns-in-Err
returns-in-Err c = ap result_err (members_bad c.args.words.now c.at_most.result.now c.in-Err.field-0 c.at_most.ensures.words (sym c.is_empty.ensures ∙ c.if-is_empty.false) c.in-Err.ensures.err)

pub returns-in-Ok : goal.returns-in-Ok
returns-in-Ok c = c.too_many.ensures ∙ too_many_fault c.args.words.now c.at_most.result.now _ c.at_most.ensures.words (sym c.is_empty.ensures ∙ c.if-is_empty.false) c.in-Ok.ensures.ok
