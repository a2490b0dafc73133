-- What a session meets, in five parts: the client, the log, the office where it asks, the server, and the mail store.
use Rattle.std.specs.Prelude.{◌≡◌, ℕ, ◌-◌, ◌^◌, Bool, false, List, [], Option, None}
use Rattle.auth_events.specs.Port.{Port}
use Rattle.fw_outside.specs.ClockView.{ClockView}
use Rattle.fw_outside.specs.DialerView.{DialerView, LinkView}
use Rattle.fw_outside.specs.DiceView.{DiceView}
use Rattle.fw_outside.specs.LineReaderView.{LineReaderView}
use Rattle.fw_outside.specs.SinkView.{SinkView}
use Rattle.fw_outside.specs.SourceView.{SourceView}
use Rattle.spool_rack.specs.Store.{StoreView}

-- who says lines and is told texts, the client or the server: what comes from there, the buffer behind which it is heard,
-- and what goes there
pub record Speaker : Type 0 where
  pub inlet : SourceView
  pub reader : LineReaderView
  pub outlet : SinkView

-- where a session asks: the port, the clock and the dice, and the number of the session that it opened last there, if it
-- wasn't asked to close
pub record Office (Origin : Type 0) : Type 0 where
  pub port : Port Origin
  pub clock : ClockView
  pub dice : DiceView
  pub opened : Option ℕ

-- a pair of data links: one to the server, and one to the client
pub record Pair : Type 0 where
  pub far : LinkView
  pub near : LinkView

-- the dialer, and the server at the other end of the main link that is up, if one is; whether a door stands at which the
-- client's data link can be accepted; and the data links that are up, if a pair is
pub record Server : Type 0 where
  pub dialer : DialerView
  pub link : Option Speaker
  pub door : Bool
  pub pair : Option Pair

-- no link is up
pub record IsUnlinked (server : Server) : Type 0 where
  pub main : server.link ≡ None
  pub side : server.pair ≡ None

-- what stays: the names of the references to the devices, and whether the session is lent threads, so that it may relay
pub record Names : Type 0 where
  pub devices : List ℕ
  pub relays : Bool

pub record World (Origin : Type 0) : Type 0 where
  pub client : Speaker
  pub logs : SinkView
  pub office : Office Origin
  pub server : Server
  pub store : StoreView
  pub names : Names

-- no more bytes than these are taken from a client, or from a server over one link
abbrev pub most_taken : ℕ
most_taken = 2 ^ 40

-- nothing was heard yet
abbrev pub unheard : LineReaderView
unheard = record { pending = []; room = most_taken }

-- ---- the devices that a session is lent

pub record Devices (Origin : Type 0) : Type 0 where
  pub inlet : SourceView
  pub outlet : SinkView
  pub logs : SinkView
  pub port : Port Origin
  pub clock : ClockView
  pub dice : DiceView
  pub dialer : DialerView
  pub store : StoreView

abbrev pub mail_devices_with : {Origin : Type 0} → Port Origin → SourceView → SinkView → SinkView → DialerView → ClockView → DiceView → StoreView → Devices Origin
mail_devices_with port inlet outlet logs dialer clock dice store = record { inlet = inlet; outlet = outlet; logs = logs; port = port; clock = clock; dice = dice; dialer = dialer; store = store }

-- the store of a session that has none: it tells nothing, has no slot, and its counts stand at their last value
abbrev pub no_store : StoreView
no_store = record { queues = None; handed = None; out = []; no_free = 2 ^ 64 - 1; no_full = 2 ^ 64 - 1; broken = 2 ^ 64 - 1 }

abbrev pub devices_with : {Origin : Type 0} → Port Origin → SourceView → SinkView → SinkView → DialerView → ClockView → DiceView → Devices Origin
devices_with port inlet outlet logs dialer clock dice = mail_devices_with port inlet outlet logs dialer clock dice no_store

-- at first nothing was heard, no session is open, no link is up and no door stands
abbrev pub at_first : {Origin : Type 0} → Devices Origin → Names → World Origin
at_first devices names = record {
  client = record { inlet = devices.inlet; reader = unheard; outlet = devices.outlet };
  logs = devices.logs;
  office = record { port = devices.port; clock = devices.clock; dice = devices.dice; opened = None };
  server = record { dialer = devices.dialer; link = None; door = false; pair = None };
  store = devices.store;
  names = names;
}

abbrev pub devices_of : {Origin : Type 0} → World Origin → Devices Origin
devices_of world = record {
  inlet = world.client.inlet;
  outlet = world.client.outlet;
  logs = world.logs;
  port = world.office.port;
  clock = world.office.clock;
  dice = world.office.dice;
  dialer = world.server.dialer;
  store = world.store;
}
