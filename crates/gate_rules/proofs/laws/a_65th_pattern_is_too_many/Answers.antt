use Rattle.gate_rules.proofs.LawLemmas.{sixty_fifth}
use Rattle.gate_rules.proofs.laws.a_65th_pattern_is_too_many.Goals as goal

pub returns : goal.returns
returns c = sixty_fifth
