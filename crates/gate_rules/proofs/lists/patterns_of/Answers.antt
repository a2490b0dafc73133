use Rattle.std.proofs.Common.{sym, ◌∙◌}
use Rattle.gate_rules.proofs.ListsLemmas.{members_bad, members_read}
use Rattle.gate_rules.proofs.lists.patterns_of.Goals as goal

pub returns-in_ok-cause_of-in-Err : goal.returns-in_ok-cause_of-in-Err
returns-in_ok-cause_of-in-Err c = rw c.in_ok-cause_of-in-Err.ensures.ok (members_bad c.args.words.now c.at_most.result.now c.in-Err.fault c.at_most.ensures.words (sym c.is_empty.ensures ∙ c.if-is_empty.false) (c.in-Err.ensures.err c.in_ok-cause_of-in-Err.ensures.own))

pub returns-in-Ok : goal.returns-in-Ok
returns-in-Ok c = c.unless_more.ensures ∙ members_read c.args.words.now c.at_most.result.now c.in-Ok.patterns c.at_most.ensures.words (sym c.is_empty.ensures ∙ c.if-is_empty.false) c.in-Ok.ensures.ok
