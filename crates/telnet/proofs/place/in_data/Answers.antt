use Rattle.telnet.proofs.ItemLemmas.{data_of-byte}
use Rattle.telnet.proofs.place.in_data.Goals as goal

pub returns-else-byte-eq-IAC-clause-strips : goal.returns-else-byte-eq-IAC-clause-strips
returns-else-byte-eq-IAC-clause-strips c = record { leads = λ rest. data_of-byte c.args.byte rest c.if-byte-eq-IAC.false }
