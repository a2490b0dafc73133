use Rattle.std.proofs.Common.{refl}
use Rattle.real_links.proofs.remote_source.RemoteSourceSource.take.Goals as goal

pub returns-in-Down-clause-takes : goal.returns-in-Down-clause-takes
returns-in-Down-clause-takes g c = rw c.in-Down.is record { count = c.miss.new.faults; rose = c.miss.ensures; is = refl }
