use Rattle.std.proofs.Common.{[], refl}
use Rattle.real_links.proofs.remote_sink.RemoteSinkSink.give.Goals as goal

pub returns-in-Down-clause-gives : goal.returns-in-Down-clause-gives
returns-in-Down-clause-gives g c = rw c.in-Down.is record {
  part = [];
  rest = c.args.piece.now;
  count = c.miss.new.faults;
  cut = refl;
  short = λ some. some;
  rose = c.miss.ensures;
  is = refl;
}
