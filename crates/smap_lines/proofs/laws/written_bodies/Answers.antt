use Rattle.smap_lines.proofs.LawLemmas.{written_read}
use Rattle.smap_lines.proofs.laws.written_bodies.Goals as goal

pub returns : goal.returns
returns c = written_read
