use Rattle.std.proofs.Common.{◌<◌, ◌^◌, arith, lit<}
use Rattle.std.proofs.lemmas.Fmt.{length-decimal-le}
use Rattle.fw_types.proofs.bytes.append_u32.Goals as goal

pub append_decimal-requires : goal.append_decimal-requires
append_decimal-requires g c =
    let small : c.from.result < 2 ^ 32 = omega arith in
    omega (arith, length-decimal-le 10 c.from.result (lit< tt) (omega arith) (omega arith))

pub returns-clause-room : goal.returns-clause-room
returns-clause-room g c =
    let small : c.from.result < 2 ^ 32 = omega arith in
    omega (arith, length-decimal-le 10 c.from.result (lit< tt) (omega arith) (omega arith))
