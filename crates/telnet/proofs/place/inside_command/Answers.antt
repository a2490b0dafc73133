use Rattle.telnet.proofs.ItemLemmas.{data_of-inside_end, data_of-inside_pair}
use Rattle.telnet.proofs.place.inside_command.Goals as goal

pub returns-then-byte-eq-SE-clause-strips : goal.returns-then-byte-eq-SE-clause-strips
returns-then-byte-eq-SE-clause-strips c = record { leads = λ rest. rw c.if-byte-eq-SE.true (data_of-inside_end rest) }

pub returns-else-byte-eq-SE-clause-strips : goal.returns-else-byte-eq-SE-clause-strips
returns-else-byte-eq-SE-clause-strips c = record { leads = λ rest. data_of-inside_pair c.args.byte rest c.if-byte-eq-SE.false }
