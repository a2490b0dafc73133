use Rattle.std.proofs.Common.{refl}
use Rattle.real_links.proofs.remote_sink.RemoteSinkSink.end.Goals as goal

pub returns-in-Down-clause-ends : goal.returns-in-Down-clause-ends
returns-in-Down-clause-ends g c = rw c.in-Down.is record { count = c.miss.new.faults; rose = c.miss.ensures; is = refl }
