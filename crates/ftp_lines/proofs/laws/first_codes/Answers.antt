use Rattle.ftp_lines.proofs.FirstCodeLemmas.{code_is_last, code_of_line, code_stays}
use Rattle.ftp_lines.proofs.laws.first_codes.Goals as goal

pub returns-clause-stays : goal.returns-clause-stays
returns-clause-stays c = code_stays

pub returns-clause-reply : goal.returns-clause-reply
returns-clause-reply c = code_is_last

pub returns-clause-line : goal.returns-clause-line
returns-clause-line c = code_of_line
