use Rattle.telnet.proofs.LawLemmas.{plain_data, plain_lines}
use Rattle.telnet.proofs.laws.plain_texts.Goals as goal

pub returns-clause-bytes : goal.returns-clause-bytes
returns-clause-bytes c = plain_data

pub returns-clause-lines : goal.returns-clause-lines
returns-clause-lines c = plain_lines
