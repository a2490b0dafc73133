use Rattle.std.proofs.Common.{[], ap, refl}
use Rattle.fw_outside.specs.declared.mark.Mark.{Mark}
use Rattle.real_links.specs.Links.{untold_sink}
use Rattle.real_links.proofs.link_sink.LinkSink.write.Goals as goal

pub returns-in-Err-clause-gives : goal.returns-in-Err-clause-gives
returns-in-Err-clause-gives g c = record {
  part = [];
  rest = c.args.piece.now;
  count = c.fail.new.self.faults;
  cut = refl;
  short = λ some. some;
  rose = c.fail.ensures.rose;
  is = ap (λ (mark : Mark). untold_sink c.fail.new.self.faults mark) c.fail.ensures.mark;
}
