use Rattle.host_pattern.proofs.MaskLaws.{bit_by_bit}
use Rattle.host_pattern.proofs.laws.octets_agree_bit_by_bit.Goals as goal

pub returns : goal.returns
returns c = bit_by_bit
