use Rattle.byte_reader.proofs.FieldLemmas.{reads_byte, reads_bytes, reads_text}
use Rattle.byte_reader.proofs.NumberLemmas.{reads_short, reads_long_number}
use Rattle.byte_reader.proofs.CountedLemmas.{reads_counted}
use Rattle.byte_reader.proofs.laws.exact.Goals as goal

pub returns-clause-byte : goal.returns-clause-byte
returns-clause-byte c = reads_byte

pub returns-clause-short : goal.returns-clause-short
returns-clause-short c = reads_short

pub returns-clause-long : goal.returns-clause-long
returns-clause-long c = reads_long_number

pub returns-clause-bytes : goal.returns-clause-bytes
returns-clause-bytes c = reads_bytes

pub returns-clause-text : goal.returns-clause-text
returns-clause-text c = λ test n some passes small. reads_text test some passes small n

pub returns-clause-with_length : goal.returns-clause-with_length
returns-clause-with_length c = reads_counted
