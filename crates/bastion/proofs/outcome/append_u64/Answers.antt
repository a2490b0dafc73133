use Rattle.std.proofs.Common.{arith, lit<}
use Rattle.std.proofs.lemmas.Fmt.{length-decimal-le}
use Rattle.bastion.proofs.outcome.append_u64.Goals as goal

pub append_decimal-requires : goal.append_decimal-requires
append_decimal-requires c = omega (arith, length-decimal-le 20 c.args.number (lit< tt) (omega arith) (omega arith))

pub returns-clause-room : goal.returns-clause-room
returns-clause-room c = omega (arith, length-decimal-le 20 c.args.number (lit< tt) (omega arith) (omega arith))
