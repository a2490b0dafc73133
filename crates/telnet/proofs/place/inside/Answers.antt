use Rattle.telnet.proofs.ItemLemmas.{data_of-inside}
use Rattle.telnet.proofs.place.inside.Goals as goal

pub returns-else-byte-eq-IAC-clause-strips : goal.returns-else-byte-eq-IAC-clause-strips
returns-else-byte-eq-IAC-clause-strips c = record { leads = λ rest. data_of-inside c.args.byte rest c.if-byte-eq-IAC.false }
