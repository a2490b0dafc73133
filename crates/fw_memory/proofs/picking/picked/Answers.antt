use Rattle.std.proofs.Common.{◌≡◌, sym, ap, subst, ◌∙◌, arith}
use Rattle.fw_disk.specs.Laws.{AreBytes}
use Rattle.fw_disk.specs.Medium.{IsImage}
use Rattle.fw_memory.specs.MemDiskView.{picked, picked_from, picked_len}
use Rattle.fw_memory.proofs.MemDiskLemmas.{picked_image}
use Rattle.fw_memory.proofs.picking.picked.Goals as goal

pub returns-clause-image : goal.returns-clause-image
returns-clause-image c =
    let end : c.loop-place.place ≡ picked_len c.args.medium.now c.args.pick = omega (arith, c.loop-place-test.false, c.loop-place.auto.place-end, c.picked_len-len.ensures) in
    let is : c.loop-place.bytes.items ≡ picked c.args.medium.now c.args.pick = c.loop-place.invariant ∙ ap (picked_from c.args.medium.now c.args.pick 0) end in
    let synced : AreBytes c.args.medium.now.synced = subst AreBytes c.synced.ensures c.are_bytes.ensures in
    subst (IsImage c.args.medium.now) (sym is) (picked_image c.args.medium.now c.args.pick c.requires synced)
