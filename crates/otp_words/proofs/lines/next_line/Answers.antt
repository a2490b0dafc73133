use Rattle.std.proofs.Common.{◌≡◌, ◌∷◌, ◌++◌, rules}
use Rattle.otp_words.proofs.LineLemmas.{lines_cut, lines_whole}
use Rattle.otp_words.proofs.lines.next_line.Goals as goal

pub returns-in-Some-clause-some : goal.returns-in-Some-clause-some
returns-in-Some-clause-some c =
    let cut : c.args.text.now ≡ c.cut_at_line_end.result.0.now ++ 10 ∷ c.in-Some.rest.now = rw c.in-Some.is at c.cut_at_line_end.ensures.more in
    rw c.without_return.ensures (lines_cut c.args.text.now c.cut_at_line_end.result.0.now c.in-Some.rest.now cut c.cut_at_line_end.ensures.line)

pub returns-in-None-clause-some : goal.returns-in-None-clause-some
returns-in-None-clause-some c =
    let whole : c.args.text.now ≡ c.cut_at_line_end.result.0.now = rw c.in-None.is at c.cut_at_line_end.ensures.whole in
    lines_whole c.args.text.now c.cut_at_line_end.result.0.now whole c.cut_at_line_end.ensures.line (search rules)
