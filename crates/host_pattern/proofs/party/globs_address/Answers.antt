use Rattle.std.proofs.Common.{◌∙◌, refl}
use Rattle.host_pattern.proofs.PartyLemmas.{addresses_are_low}
use Rattle.host_pattern.proofs.party.globs_address.Goals as goal

-- a body for addresses is in lower case already
pub returns-in-Some : goal.returns-in-Some
returns-in-Some c =
    let low = addresses_are_low c.args.body.now c.requires in
    rw (c.in-Some.is) (c.globs.ensures ∙ rw (low, c.as_slice.ensures.value, c.dotted_quad.ensures) refl)
