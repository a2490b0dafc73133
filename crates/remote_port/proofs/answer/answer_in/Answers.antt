use Rattle.std.proofs.Common.{sym, ◌∙◌}
use Rattle.remote_port.proofs.AnswerLemmas.{may_not}
use Rattle.remote_port.proofs.answer.answer_in.Goals as goal

pub returns-else-may_answer : goal.returns-else-may_answer
returns-else-may_answer c =
    may_not c.inverse.ensures.one_reply c.args.request.now c.args.place c.args.line.now c.in-Some.reply c.in-Some.ensures (sym c.may_answer.ensures ∙ c.if-may_answer.false)
