use Rattle.std.proofs.Common.{ap, ◌∙◌}
use Rattle.std.specs.Result.{result_ok}
use Rattle.authsrv_lines.proofs.NumberLemmas.{parsed, decimal_is_text}
use Rattle.authsrv_lines.proofs.number.parse.Goals as goal

pub returns-in-Ok : goal.returns-in-Ok
returns-in-Ok c = λ n small is.
    let same = c.in-Ok.ensures.cases.0 ∙ is in
    c.ok.ensures.value ∙ ap result_ok (parsed c.in-Ok.text.now n c.parse.result c.parse.ensures.value.0 small same)

pub returns-in-Err : goal.returns-in-Err
returns-in-Err c = λ n small is. absurd (c.in-Err.ensures.cases.0 (decimal_is_text c.args.text.now n small is))
