use Rattle.std.proofs.Common.{ap, ◌∙◌}
use Rattle.telnet.specs.Lines.{lines_of}
use Rattle.telnet.proofs.LineLemmas.{lines_of-nothing}
use Rattle.telnet.proofs.reader.Telnet.new.Goals as goal

pub invariant_of-result : goal.invariant_of-result
invariant_of-result c = ap (λ r. lines_of r.pending) c.new.ensures ∙ lines_of-nothing
