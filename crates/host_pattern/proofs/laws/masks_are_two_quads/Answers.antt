use Rattle.host_pattern.proofs.MaskLaws.{written_so}
use Rattle.host_pattern.proofs.laws.masks_are_two_quads.Goals as goal

pub returns : goal.returns
returns c = written_so
