use Rattle.std.proofs.Common.{arith, refl, sym, ◌∙◌}
use Rattle.std.proofs.lemmas.Bool.Decides.{nat_tests}
use Rattle.host_pattern.proofs.PatternLemmas.{good_body}
use Rattle.host_pattern.proofs.pattern.check_body.Goals as goal

pub returns-in-None-clause-ok : goal.returns-in-None-clause-ok
returns-in-None-clause-ok c = good_body c.args.body.now c.args.body.now refl (grind (arith, nat_tests, c.if-is_empty.ensures)) (omega arith) (sym c.in-None.is ∙ c.bad_place.ensures) (sym c.if-is_well_masked.ensures)
