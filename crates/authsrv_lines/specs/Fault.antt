-- What the client is told of a line that asks for nothing.
use Rattle.std.specs.Prelude.{ℕ, List, codes}
use Rattle.authsrv_lines.specs.declared.wire.WireFault.{WireFault}
use Rattle.authsrv_lines.specs.declared.wire.WireFault.TheVariants.{LongLine, Empty, Unknown, Words, BadName}

abbrev pub wire_fault_text : WireFault → List ℕ
wire_fault_text LongLine = codes "error long line"
wire_fault_text Empty = codes "error empty line"
wire_fault_text Unknown = codes "error unknown command"
wire_fault_text Words = codes "error wrong words"
wire_fault_text BadName = codes "error bad name"
