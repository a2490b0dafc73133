use Rattle.std.proofs.Common.{◌<◌, length, arith, sym, ◌∙◌}
use Rattle.std.proofs.lemmas.Bool.{eqb-false, eqb-true}
use Rattle.telnet.specs.Cutting.{most_gathered}
use Rattle.telnet.proofs.LineLemmas.{kept_full, kept_more}
use Rattle.telnet.proofs.cutter.keep.Goals as goal

pub returns-then-not-is_full : goal.returns-then-not-is_full
returns-then-not-is_full c =
    let ne = eqb-false (length c.args.kept.now.items) 513 (sym c.is_full.ensures.value ∙ c.if-not-is_full.true) in
    let room : length c.args.kept.now.items < most_gathered = omega (arith, ne, c.is_full.ensures.fits) in
    c.push.ensures.items ∙ kept_more c.args.kept.now.items c.args.byte room

pub returns-else-not-is_full : goal.returns-else-not-is_full
returns-else-not-is_full c =
    kept_full c.args.kept.now.items c.args.byte (eqb-true (length c.args.kept.now.items) 513 (sym c.is_full.ensures.value ∙ c.if-not-is_full.false))
