use Rattle.std.proofs.Common.{◌≡◌, drop}
use Rattle.std.specs.Prelude.{filter}
use Rattle.auth_machine.specs.Operations.{first_decides, fits}
use Rattle.auth_machine.proofs.operations.verdict_in.Given as goal

abbrev pub invariant-loop-line : goal.invariant-loop-line
invariant-loop-line g l =
    first_decides (filter (fits l.user l.group l.service l.party l.moment) (drop l.line-index l.lines)) ≡ first_decides (filter (fits l.user l.group l.service l.party l.moment) l.lines)
