use Rattle.host_pattern.proofs.PatternLemmas.{reads_back}
use Rattle.host_pattern.proofs.laws.written_reads_back.Goals as goal

pub returns : goal.returns
returns c = λ p h. reads_back p.negated p.body h
