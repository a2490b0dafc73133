use Rattle.host_pattern.proofs.MaskLaws.{mask_needs_address}
use Rattle.host_pattern.proofs.laws.masks_need_an_address.Goals as goal

pub returns : goal.returns
returns c = mask_needs_address
