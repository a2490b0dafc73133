use Rattle.std.proofs.Common.{sym}
use Rattle.fw_types.proofs.QuadLemmas.{quad_of-IsDotted, quad_of-none}
use Rattle.fw_types.proofs.quad.read_quad.Goals as goal

pub returns-in-Ok : goal.returns-in-Ok
returns-in-Ok c =
    rw c.octets.ensures (sym (quad_of-IsDotted c.args.text.now c.in-Ok.address.octets c.in-Ok.ensures))

pub returns-in-Err : goal.returns-in-Err
returns-in-Err c =
    sym (quad_of-none c.args.text.now (λ addr h. c.in-Err.ensures (record { octets = addr }) h))
