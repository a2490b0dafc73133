use Rattle.std.proofs.Common.{All}
use Rattle.fw_memory.specs.MemDialerView.{IsNewLink}
use Rattle.runs_of_rows.proofs.devices.links_of.Given as goal

abbrev pub invariant-loop-link : goal.invariant-loop-link
invariant-loop-link l = All IsNewLink l.links.items
