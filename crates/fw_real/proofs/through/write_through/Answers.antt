use Rattle.std.proofs.Common.{refl}
use Rattle.fw_real.proofs.FileLemmas.{lays_on}
use Rattle.fw_real.proofs.through.write_through.Goals as goal

pub loop-rest-preserved : goal.loop-rest-preserved
loop-rest-preserved g c = λ new h. c.loop-rest.invariant new
    (lays_on c.loop-rest.place c.in_ok-count.count c.in_ok-place.place _ c.loop-rest.rest.now (g.F.RawFile.file_view c.loop-rest.file) (g.F.RawFile.file_view c.write_once.new.file) new
    c.in_ok-count.ensures.bound c.in_ok-place.ensures refl c.in_ok-count.ensures.bytes h)
