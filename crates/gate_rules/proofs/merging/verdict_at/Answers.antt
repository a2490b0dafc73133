use Rattle.std.proofs.Common.{rules, ◌≡◌, ◌<◌, ◌∙◌, arith, get_or, length, refl}
use Rattle.gate_rules.proofs.BucketLemmas.{same_answer}
use Rattle.gate_rules.proofs.merging.verdict_at.Goals as goal

pub returns-clause-answer : goal.returns-clause-answer
returns-clause-answer g c =
    let addr = c.args.addr in
    let four : length addr ≡ 4 = search rules in
    let small : get_or addr 0 0 < 256 = omega (arith, c.element_fits.fits) in
    c.verdict_among.ensures.answer ∙ same_answer c.args.peer.now c.args.rules.now addr (get_or addr 0 0) c.requires.addr four refl small
