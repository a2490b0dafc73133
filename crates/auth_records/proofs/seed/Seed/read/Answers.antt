use Rattle.std.proofs.Common.{◌≡◌, ◌∙◌, ap, true}
use Rattle.auth_records.specs.Texts.{is_seed, is_seed_text}
use Rattle.auth_records.proofs.SeedLemmas.{lower_is}
use Rattle.auth_records.proofs.seed.Seed.read.Goals as goal

pub invariant_of-result : goal.invariant_of-result
invariant_of-result c =
    let read : is_seed_text c.args.text.now ≡ true = cc in
    ap is_seed c.lower_copy_of.ensures ∙ lower_is c.args.text.now read
