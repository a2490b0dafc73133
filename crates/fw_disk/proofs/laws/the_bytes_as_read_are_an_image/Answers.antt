use Rattle.fw_disk.proofs.MediumLemmas.{written_seen, cut_seen}
use Rattle.fw_disk.proofs.laws.the_bytes_as_read_are_an_image.Goals as goal

pub returns-clause-written : goal.returns-clause-written
returns-clause-written c = written_seen

pub returns-clause-cut : goal.returns-clause-cut
returns-clause-cut c = cut_seen
