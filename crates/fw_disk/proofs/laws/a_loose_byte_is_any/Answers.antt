use Rattle.fw_disk.proofs.MediumLemmas.{loose_any}
use Rattle.fw_disk.proofs.laws.a_loose_byte_is_any.Goals as goal

pub returns : goal.returns
returns c = loose_any
