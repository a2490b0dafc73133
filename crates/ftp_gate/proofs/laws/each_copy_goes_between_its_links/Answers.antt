use Rattle.ftp_gate.proofs.CopiedLemmas.{held_marked}
use Rattle.ftp_gate.proofs.laws.each_copy_goes_between_its_links.Goals as goal

pub returns : goal.returns
returns g c = λ gate old new ending held unlinked. held_marked gate old new ending held unlinked
