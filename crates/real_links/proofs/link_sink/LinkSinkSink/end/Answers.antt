use Rattle.std.proofs.Common.{ap}
use Rattle.fw_outside.specs.declared.mark.Mark.{Mark}
use Rattle.real_links.specs.Links.{untold_sink}
use Rattle.real_links.proofs.link_sink.LinkSinkSink.end.Goals as goal

pub returns-in-Err-clause-ends : goal.returns-in-Err-clause-ends
returns-in-Err-clause-ends g c = record {
  count = c.fail.new.self.faults;
  rose = c.fail.ensures.rose;
  is = ap (λ (mark : Mark). untold_sink c.fail.new.self.faults mark) c.fail.ensures.mark;
}
