use Rattle.std.proofs.Common.{All}
use Rattle.fw_memory.specs.MemDialerView.{IsNewLink}
use Rattle.outside_rows.proofs.dialing.links_of.Given as goal

abbrev pub invariant-loop-text : goal.invariant-loop-text
invariant-loop-text l = All IsNewLink l.links.items
