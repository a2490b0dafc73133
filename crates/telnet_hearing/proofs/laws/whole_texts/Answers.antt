use Rattle.telnet_hearing.proofs.WholeLemmas.{lines_on, none_in}
use Rattle.telnet_hearing.proofs.laws.whole_texts.Goals as goal

pub returns-clause-lines : goal.returns-clause-lines
returns-clause-lines c = lines_on

pub returns-clause-rest : goal.returns-clause-rest
returns-clause-rest c = none_in
