-- Which lines of a table are about operations, and their host lists.
use Rattle.std.specs.Prelude.{Bool, ◌&&◌, List, Option, None, if◌then◌else◌}
use Rattle.std.specs.Result.{result_ok}
use Rattle.host_pattern.specs.Pattern.{Written}
use Rattle.netperm_table.specs.declared.line.Line.{Line}
use Rattle.gate_rules.specs.declared.service.Service.TheVariants.{Authsrv}
use Rattle.gate_rules.specs.Attribute.{is_operation}
use Rattle.gate_rules.specs.Operation.{read_operation}
use Rattle.gate_rules.specs.Reading.{is_of}
use Rattle.gate_rules.specs.Service.{keyword}

-- a line of `authsrv` that permits or denies an operation
abbrev pub is_about_operations : Line → Bool
is_about_operations line = is_of (keyword Authsrv) line && is_operation line.attribute

-- the host list of such a line, where the whole line can be read
unfoldable pub hosts_of_operation : Line → Option (List Written)
hosts_of_operation line = if is_about_operations line then result_ok (read_operation line.words) else None
