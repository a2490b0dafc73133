use Rattle.std.proofs.Common.{◌≡◌, sym, ap, subst, ◌∙◌}
use Rattle.fw_disk.specs.Laws.{AreBytes}
use Rattle.fw_disk.specs.Medium.{Medium, IsImage, settled}
use Rattle.fw_disk.proofs.MediumLemmas.{settled_image}
use Rattle.fw_memory.proofs.tape.HeldTape.of.Goals as goal

pub invariant_of-result : goal.invariant_of-result
invariant_of-result c =
    let seen : c.seen.result.now ≡ c.of-medium.result.seen = c.seen.ensures in
    let is : c.of-medium.result ≡ settled c.args.bytes = c.of-medium.ensures in
    let are : AreBytes c.args.bytes = subst AreBytes (seen ∙ ap (λ (m : Medium). m.seen) is) c.are_bytes.ensures in
    subst (λ (m : Medium). IsImage m m.seen) (sym is) (settled_image c.args.bytes are)
