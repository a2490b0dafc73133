use Rattle.authsrv_lines.proofs.RequestLineLemmas.{line_read}
use Rattle.authsrv_lines.proofs.laws.asked_again.Goals as goal

pub returns : goal.returns
returns c = λ request line is e. line_read request is line e
