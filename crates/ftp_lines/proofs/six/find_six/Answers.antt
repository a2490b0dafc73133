use Rattle.std.proofs.Common.{◌≡◌, drop, sym, ap, ◌∙◌}
use Rattle.std.specs.Prelude.{Some, None}
use Rattle.std.proofs.lemmas.List.{take_rest}
use Rattle.ftp_lines.specs.Six.{six_at}
use Rattle.ftp_lines.proofs.SixLemmas.{find_found, find_next}
use Rattle.ftp_lines.proofs.six.find_six.Goals as goal

pub returns-in-Some : goal.returns-in-Some
returns-in-Some c =
    let text = c.args.text.now in
    let at = c.loop-at.at in
    let here : six_at (drop at text) ≡ Some c.in-Some.found = ap six_at (sym (take_rest text at)) ∙ sym c.six_at.ensures ∙ c.in-Some.is in
    sym (find_found text at c.in-Some.found c.loop-at-test.true here) ∙ c.loop-at.invariant

pub loop-at-preserved : goal.loop-at-preserved
loop-at-preserved c =
    let text = c.args.text.now in
    let at = c.loop-at.at in
    let here : six_at (drop at text) ≡ None = ap six_at (sym (take_rest text at)) ∙ sym c.six_at.ensures ∙ c.in_default.is in
    sym (find_next text at c.loop-at-test.true here) ∙ c.loop-at.invariant
