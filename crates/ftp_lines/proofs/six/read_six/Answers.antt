use Rattle.std.proofs.Common.{sym, ◌∙◌}
use Rattle.ftp_lines.proofs.SixLemmas.{six_of_few, six_of_last, six_of_others}
use Rattle.ftp_lines.proofs.six.read_six.Goals as goal

pub returns-in_err-five : goal.returns-in_err-five
returns-in_err-five c =
    let told = c.in_err-five.ensures in
    c.from_residual.ensures ∙ sym (six_of_few c.args.text.now told.none)

pub returns-then-not-is_last : goal.returns-then-not-is_last
returns-then-not-is_last c =
    let told = c.in_ok-five.ensures in
    let five = c.in_ok-five.five in
    sym (six_of_others c.args.text.now five.a.now five.b.now five.c.now five.d.now five.e.now c.first_part-is_last.result.0.now five.rest.now c.first_part-is_last.result.1
    told.some c.first_part-is_last.ensures c.if-not-is_last.true)

pub returns : goal.returns
returns c =
    let told = c.in_ok-five.ensures in
    let five = c.in_ok-five.five in
    c.six_octets.ensures
    ∙ sym (six_of_last c.args.text.now five.a.now five.b.now five.c.now five.d.now five.e.now c.first_part-is_last.result.0.now five.rest.now c.first_part-is_last.result.1
    told.some c.first_part-is_last.ensures c.if-not-is_last.false)
