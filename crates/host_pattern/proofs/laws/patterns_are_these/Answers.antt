use Rattle.host_pattern.specs.Pattern.{begins_negated, body_of, parsed}
use Rattle.host_pattern.proofs.PatternLemmas.{reads_bodies}
use Rattle.host_pattern.proofs.laws.patterns_are_these.Goals as goal

pub returns : goal.returns
unfolding parsed
returns c = λ text. reads_bodies (begins_negated text) (body_of text)
