use Rattle.std.proofs.Common.{arith}
use Rattle.fwtk_serve.proofs.serving.serve_all.Goals as goal

pub hand_on-requires : goal.hand_on-requires
hand_on-requires g c = omega (arith, c.requires.some, c.serve_meanwhile-workers.ensures.many)

pub returns-clause-hands : goal.returns-clause-hands
returns-clause-hands g c = record { middle = _; more = c.serve_meanwhile-workers.ensures.hands; last = c.hand_on.ensures.hands }
