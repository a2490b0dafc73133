-- Clients over TCP.
use Rattle.std.specs.Prelude.{◌≡◌, List, ℕ, Some}
use Rattle.acceptors.specs.AcceptorView.{IsFresh, Visit}
use Rattle.acceptors.specs.declared.caller.Caller.{Caller}
use Rattle.fw_real.specs.Moving.{unseen, untold_source}
use Rattle.fw_real.specs.Salts.{untold_throws}
use Rattle.fw_real.specs.Seconds.{untold_moments}
use Rattle.fw_real.specs.declared.clock.SystemClock.{SystemClock}
use Rattle.fw_real.specs.declared.dice.Salts.{Salts}
use Rattle.fw_real.specs.declared.reading.Reading.{Reading}
use Rattle.fw_real.specs.declared.writing.Writing.{Writing}
use Rattle.fw_types.specs.declared.peer.Peer.{Peer}
use Rattle.gate_rules.specs.declared.service.Service.{Service}
use Rattle.real_links.specs.Links.{untold_sink}
use Rattle.real_links.specs.TcpDialerView.{tcp_dialer_view}
use Rattle.real_links.specs.declared.dialer.TcpDialer.{TcpDialer}
use Rattle.real_links.specs.declared.link_sink.LinkSink.{LinkSink}
use Rattle.real_doors.specs.HostNames.{name_in}

module _ {S T W R C : Type 0} where
  -- a client with what its devices mean
  abbrev pub visit_of : Caller (Reading S) (LinkSink T) (Writing W) (TcpDialer R) (SystemClock C) Salts → Visit
  visit_of c = record {
    guest = record { service = c.service; peer = c.peer };
    from = untold_source c.from.amount c.from.faults c.from.idles c.from.waits c.from.waited;
    to = untold_sink c.to.faults c.to.mark;
    logs = unseen c.logs.faults;
    dialer = tcp_dialer_view c.dialer;
    clock = untold_moments;
    dice = untold_throws;
  }

-- an address, and the name that stands beside it in the hosts file
pub record IsNamedBy (names : List ℕ) (peer : Peer) : Type 0 where
  pub host : List ℕ
  pub at : peer.addr ≡ Some host
  pub named : peer.name ≡ name_in host names

-- a new client of this service, with the name from the hosts file
pub record Greets (service : Service) (names : List ℕ) (visit : Visit) : Type 0 where
  pub fresh : IsFresh visit
  pub asks : visit.guest.service ≡ service
  pub by_name : IsNamedBy names visit.guest.peer
