-- Doors: who waits for clients at a port.
use Rattle.std.specs.Prelude.{◌≡◌, ℕ, None, IfSome}
use Rattle.std.specs.Arc.{arc_value}
use Rattle.acceptors.specs.AcceptorView.{AcceptorView}
use Rattle.gate_rules.specs.declared.service.Service.{Service}
use Rattle.real_doors.specs.declared.tcp_acceptor.TcpAcceptor.{TcpAcceptor}

-- a door tells only counts, and whether it is over
abbrev pub tcp_acceptor_view : TcpAcceptor → AcceptorView
tcp_acceptor_view door = record {
  handed = None;
  took = None;
  came = door.came;
  returned = door.returned;
  out = None;
  over = door.over;
  ends = door.ends;
  faults = door.faults;
}

-- the service, and the port
abbrev pub place_of : TcpAcceptor → Service × ℕ
place_of door = (door.service, door.port)

-- the listener, where there is one, was opened at the door's port
abbrev pub IsAtItsPort : TcpAcceptor → Type 0
IsAtItsPort door = IfSome door.entrance (λ entrance. (arc_value entrance).port ≡ door.port)

-- the same service, the same listener, and the same names
pub record IsSamePlace (old new : TcpAcceptor) : Type 0 where
  pub service : new.service ≡ old.service
  pub port : new.port ≡ old.port
  pub entrance : new.entrance ≡ old.entrance
  pub names : new.names ≡ old.names
