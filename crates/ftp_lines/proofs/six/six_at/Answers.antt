use Rattle.std.proofs.Common.{sym, ◌∙◌}
use Rattle.ftp_lines.proofs.SixLemmas.{six_at_few, six_at_first}
use Rattle.ftp_lines.proofs.six.six_at.Goals as goal

pub returns-in_err-five : goal.returns-in_err-five
returns-in_err-five c =
    let told = c.in_err-five.ensures in
    c.from_residual.ensures ∙ sym (six_at_few c.args.text.now told.none)

pub returns : goal.returns
returns c =
    let told = c.in_ok-five.ensures in
    let five = c.in_ok-five.five in
    (rw c.run.ensures at c.six_octets.ensures)
    ∙ sym (six_at_first c.args.text.now five.a.now five.b.now five.c.now five.d.now five.e.now c.first_part.result.0.now five.rest.now c.first_part.result.1
    told.some c.first_part.ensures)
