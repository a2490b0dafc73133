use Rattle.fw_disk.proofs.MediumLemmas.{settled_image, settled_only}
use Rattle.fw_disk.proofs.laws.a_sync_leaves_one_image.Goals as goal

pub returns-clause-is : goal.returns-clause-is
returns-clause-is c = settled_image

pub returns-clause-only : goal.returns-clause-only
returns-clause-only c = settled_only
