use Rattle.telnet.proofs.FirstLemmas.{first_is_told, told_is_first}
use Rattle.telnet.proofs.FrontLemmas.{first_is, is_first}
use Rattle.telnet.proofs.TurnLemmas.{first_and_rest}
use Rattle.telnet.proofs.laws.first_lines.Goals as goal

pub returns-clause-steps : goal.returns-clause-steps
returns-clause-steps c = λ old steps last line rest empty h. (
  told_is_first old steps last line rest empty h,
  first_is_told old steps last line rest empty h,
)

pub returns-clause-shortest : goal.returns-clause-shortest
returns-clause-shortest c = λ text first. (first_is text first, is_first text first)

pub returns-clause-lines : goal.returns-clause-lines
returns-clause-lines c = first_and_rest
