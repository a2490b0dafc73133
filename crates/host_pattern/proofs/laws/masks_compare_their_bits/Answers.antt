use Rattle.host_pattern.proofs.MaskLaws.{mask_compares}
use Rattle.host_pattern.proofs.laws.masks_compare_their_bits.Goals as goal

pub returns : goal.returns
returns c = mask_compares
