use Rattle.std.proofs.Common.{true}
use Rattle.telnet.proofs.LineLemmas.{lines_of-kept}
use Rattle.telnet.proofs.LawLemmas.{dropped_cr, ends_cr_lf, ends_cr_nul, ends_lf, rest_alone}
use Rattle.telnet.proofs.laws.line_ends.Goals as goal

pub returns-clause-lf : goal.returns-clause-lf
returns-clause-lf c = ends_lf

pub returns-clause-cr_lf : goal.returns-clause-cr_lf
returns-clause-cr_lf c = ends_cr_lf

pub returns-clause-cr_nul : goal.returns-clause-cr_nul
returns-clause-cr_nul c = ends_cr_nul

pub returns-clause-cr : goal.returns-clause-cr
returns-clause-cr c = dropped_cr

pub returns-clause-rest : goal.returns-clause-rest
returns-clause-rest c = rest_alone

pub returns-clause-rest_cr : goal.returns-clause-rest_cr
returns-clause-rest_cr c = λ line plain. lines_of-kept line true plain
