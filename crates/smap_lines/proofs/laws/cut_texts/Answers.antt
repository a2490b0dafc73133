use Rattle.smap_lines.proofs.BodyLemmas.{spelled}
use Rattle.smap_lines.proofs.LawLemmas.{cut-lines}
use Rattle.smap_lines.proofs.laws.cut_texts.Goals as goal

pub returns-clause-whole : goal.returns-clause-whole
returns-clause-whole c = spelled

pub returns-clause-lines : goal.returns-clause-lines
returns-clause-lines c = cut-lines
