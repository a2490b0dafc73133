use Rattle.std.proofs.Common.{◌<◌, arith}
use Rattle.fw_types.proofs.QuadLemmas.{octet_short}
use Rattle.ftp_lines.proofs.six.append_octet.Goals as goal

pub append_decimal-requires : goal.append_decimal-requires
append_decimal-requires c =
    let small : c.from.result < 256 = omega arith in omega (arith, octet_short c.from.result small)

pub returns-clause-room : goal.returns-clause-room
returns-clause-room c =
    let small : c.from.result < 256 = omega arith in omega (arith, octet_short c.from.result small)
