use Rattle.std.proofs.Common.{arith, refl, ◌^◌, ◌-◌, []}
use Rattle.std.specs.Prelude.{None}
use Rattle.auth_events.specs.Port.{RanOutOfMemory}
use Rattle.smap_gate.specs.Dummies.{no_port}
use Rattle.smap_gate.proofs.dummies.NoPortAuthPort.ask.Goals as goal

refused : RanOutOfMemory no_port no_port
refused = record { others = []; full = None; asks = 2 ^ 64 - 1; counts = record { least = omega arith; most = omega arith; later = omega arith }; stays = tt; is = refl }

pub returns : goal.returns
returns g = refused
