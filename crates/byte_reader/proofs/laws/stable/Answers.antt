use Rattle.byte_reader.proofs.StableLemmas.{stable_byte, stable_bytes, stable_short, stable_long}
use Rattle.byte_reader.proofs.laws.stable.Goals as goal

pub returns-clause-byte : goal.returns-clause-byte
returns-clause-byte c = stable_byte

pub returns-clause-short : goal.returns-clause-short
returns-clause-short c = stable_short

pub returns-clause-long : goal.returns-clause-long
returns-clause-long c = stable_long

pub returns-clause-bytes : goal.returns-clause-bytes
returns-clause-bytes c = stable_bytes
