use Rattle.host_pattern.proofs.ListLemmas.{IsThrough}
use Rattle.host_pattern.proofs.list.PatternList.matches.Given as goal

abbrev pub invariant-loop-text : goal.invariant-loop-text
invariant-loop-text g l = IsThrough l.self l.text-items l.party l.text-index l.initial.steps l.steps
