use Rattle.std.proofs.Common.{◌≡◌, length, sym, ap, subst, ◌∙◌, arith}
use Rattle.fw_disk.specs.Medium.{written_at}
use Rattle.fw_disk.specs.DiskView.{Tape, IsTorn, onward}
use Rattle.fw_memory.specs.Noted.{noted_at}
use Rattle.fw_memory.proofs.MemDiskLemmas.{noted_torn, laid_image}
use Rattle.fw_memory.proofs.tape.HeldTape.write.Goals as goal

pub returns-then-failing-clause-err : goal.returns-then-failing-clause-err
returns-then-failing-clause-err c =
    let is : c.begin.new.self ≡ onward (noted_at c.args.at (length c.args.piece.now) c.args.self.now.now) c.args.self.now = c.in_ok-begin.ensures.ok in
    subst (λ (t : Tape). IsTorn (written_at c.args.at c.args.piece.now) c.args.self.now t) (sym is) (noted_torn c.args.at c.args.piece.now c.args.self.now c.begin.ensures.sound)

pub invariant_of-self : goal.invariant_of-self
invariant_of-self c =
    let is : c.begin.new.self ≡ onward (noted_at c.args.at (length c.args.piece.now) c.args.self.now.now) c.args.self.now = c.in_ok-begin.ensures.ok in
    let noted = ap (λ (t : Tape). t.now) (c.self.view_is ∙ is) in
    laid_image c.args.at c.args.piece.now c.args.self.now.now c.self.inside.medium c.lay.new.self c.lay.result noted (λ i. omega (arith, c.type_inv.piece i)) c.requires c.begin.ensures.sound c.lay.ensures.ok c.lay.ensures.err
