-- Who waits for clients in memory.
use Rattle.std.specs.Prelude.{◌≡◌, ℕ, ◌+◌, ◌-◌, ◌≤◌, Bool, true, false, List, [], ◌∷◌, ◌++◌, length, map, take, Some}
use Rattle.fw_memory.specs.CallsView.{CallsView, comes_at}
use Rattle.fw_memory.specs.MemClockView.{MemClockView, clock_view_of}
use Rattle.fw_memory.specs.MemDialerView.{MemDialerView, dialer_view_of}
use Rattle.fw_memory.specs.MemDiceView.{MemDiceView, dice_view_of}
use Rattle.fw_memory.specs.MemSinkView.{MemSinkView, sink_view_of}
use Rattle.fw_memory.specs.MemSourceView.{MemSourceView, source_view_of}
use Rattle.fw_outside.specs.Counts.{counted}
use Rattle.acceptors.specs.AcceptorView.{AcceptorView, IsFresh, Visit}
use Rattle.acceptors.specs.declared.caller.Caller.{Caller}
use Rattle.acceptors.specs.declared.caller.Guest.{Guest}
use Rattle.acceptors.specs.declared.caller.Knock.{Knock}
use Rattle.acceptors.specs.declared.caller.Knock.TheVariants.{Session, End, Failed}

-- a client with devices in memory
abbrev pub MemCaller : Type 0
MemCaller = Caller MemSourceView MemSinkView MemSinkView MemDialerView MemClockView MemDiceView

abbrev pub guest_of : MemCaller → Guest
guest_of c = record { service = c.service; peer = c.peer }

-- with what its devices mean
abbrev pub visit_of : MemCaller → Visit
visit_of c = record {
  guest = guest_of c;
  from = source_view_of c.from;
  to = sink_view_of c.to;
  logs = sink_view_of c.logs;
  dialer = dialer_view_of c.dialer;
  clock = clock_view_of c.clock;
  dice = dice_view_of c.dice;
}

-- a client that may be handed out
abbrev pub IsNewCaller : MemCaller → Type 0
IsNewCaller caller = IsFresh (visit_of caller)

-- the clients to come, the calls that fail, and how many calls there were; the clients as they came, and as they were taken
-- back; whether it was answered that no more come or that waiting failed, how often, and the count of failures
pub record MemAcceptorView : Type 0 where
  pub callers : List MemCaller
  pub fails : CallsView
  pub calls : ℕ
  pub handed : List MemCaller
  pub took : List MemCaller
  pub over : Bool
  pub ends : ℕ
  pub faults : ℕ

-- those of all that came, where these are still to come
abbrev pub came_of : List MemCaller → List MemCaller → List MemCaller
came_of all to_come = take (length all - length to_come) all

-- those that came and those to come are all; and there is room for all among those that were taken back, each of which came
pub record HasPlace (all : List MemCaller) (m : MemAcceptorView) (took_room : ℕ) : Type 0 where
  pub in_order : all ≡ m.handed ++ m.callers
  pub to_come : length m.handed + length m.callers ≤ took_room
  pub back : length m.took ≤ length m.handed

-- it tells all
abbrev pub acceptor_view_of : MemAcceptorView → AcceptorView
acceptor_view_of m = record {
  handed = Some (map visit_of m.handed);
  took = Some (map visit_of m.took);
  came = length m.handed;
  returned = length m.took;
  out = Some (length m.handed - length m.took);
  over = m.over;
  ends = m.ends;
  faults = m.faults;
}

-- the first of the clients to come has come
pub record GivesFirst (caller : MemCaller) (old new : MemAcceptorView) : Type 0 where
  pub next : old.callers ≡ caller ∷ new.callers
  pub is : new ≡ record old { callers = new.callers; handed = old.handed ++ caller ∷ [] }

-- the next client came
pub record GivesNext (caller : MemCaller) (old new : MemAcceptorView) : Type 0 where
  pub untold : comes_at old.fails old.calls ≡ false
  pub next : old.callers ≡ caller ∷ new.callers
  pub is : new ≡ record old { callers = new.callers; calls = counted old.calls; handed = old.handed ++ caller ∷ [] }

-- none is left
pub record GivesNone (old new : MemAcceptorView) : Type 0 where
  pub untold : comes_at old.fails old.calls ≡ false
  pub none : old.callers ≡ []
  pub is : new ≡ record old { calls = counted old.calls; over = true; ends = counted old.ends }

-- the call fails as told
pub record FailsAsTold (old new : MemAcceptorView) : Type 0 where
  pub told : comes_at old.fails old.calls ≡ true
  pub is : new ≡ record old { calls = counted old.calls; over = true; ends = counted old.ends; faults = counted old.faults }

-- a call fails exactly as told; else the next client comes, as long as one is left
abbrev pub AnswersNext : Knock MemCaller → MemAcceptorView → MemAcceptorView → Type 0
AnswersNext (Session caller) old new = GivesNext caller old new
AnswersNext End old new = GivesNone old new
AnswersNext Failed old new = FailsAsTold old new
