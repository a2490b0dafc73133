-- An honest server: it was told `quit`, said that it is ready, and then `ok`.
use Rattle.std.proofs.Common.{arith, ◌≡◌, refl, sym, subst, ℕ, ◌-◌, ◌<◌, ◌^◌, Bool, true, false, List, [], ◌∷◌, ◌++◌, length, Option, Some, None, Result, Ok, Err}
use Rattle.std.specs.Prelude.{codes}
use Rattle.fw_acts.specs.Acts.{Row, Step, PlaceTable}
use Rattle.fw_acts.specs.Acts.Row.{At, Over}
use Rattle.fw_acts.specs.Ran.{Ran}
use Rattle.fw_acts.specs.Runs.{DoesAll, Run}
use Rattle.fw_outside.specs.ClockView.{ClockView}
use Rattle.fw_outside.specs.Counts.{Grew}
use Rattle.fw_outside.specs.DiceView.{DiceView}
use Rattle.fw_outside.specs.SinkView.{SinkView}
use Rattle.fw_outside.specs.SourceView.{SourceView, fresh}
use Rattle.fw_outside.specs.declared.heard.Heard.{Heard}
use Rattle.fw_outside.specs.declared.heard.Heard.TheVariants.{Line}
use Rattle.fw_outside.specs.declared.mark.Mark.TheVariants.{Own}
use Rattle.fw_types.specs.declared.ending.Ending.TheVariants.{Done}
use Rattle.auth_events.specs.Port.{Port}
use Rattle.auth_events.specs.declared.entry.Entry.{Entry}
use Rattle.auth_events.specs.declared.reply.Reply.{Reply}
use Rattle.auth_events.specs.declared.reply.Reply.TheVariants as replies
use Rattle.auth_events.specs.declared.request.Request.{Request}
use Rattle.auth_events.specs.declared.request.Request.TheVariants as requests
use Rattle.auth_machine.specs.History as histories
use Rattle.auth_machine.specs.History.{IsLegal}
use Rattle.auth_machine.specs.Policy.{PolicyView}
use Rattle.auth_machine.specs.Step.{proposed}
use Rattle.authsrv_gate.specs.Dialogue.{line_row, rows, session_row}
use Rattle.authsrv_gate.specs.declared.place.Place.{Place}
use Rattle.authsrv_lines.specs.Request.{request_of}
use Rattle.authsrv_lines.specs.RequestLine.{request_line}
use Rattle.authsrv_lines.specs.declared.wire.Wire.{Wire}
use Rattle.authsrv_lines.specs.declared.wire.Wire.TheVariants as wires
use Rattle.authsrv_lines.specs.declared.wire.WireFault.{WireFault}
use Rattle.session_acts.specs.Acts.Act.{Ask, Hear, Say}
use Rattle.session_acts.specs.Dummies.{nowhere, silent}
use Rattle.session_acts.specs.Met.{Met, acts}
use Rattle.session_acts.specs.Session.{Held, Session}
use Rattle.session_acts.specs.World.{Devices, Names, Office, Speaker, World, devices_with, no_store, unheard}
use Rattle.session_acts.specs.declared.form.Form.TheVariants.{Lines}
use Rattle.auth_remote.specs.HonestServer.{HonestServer}
use Rattle.auth_remote.proofs.SameLemmas.{AskedAgain}

-- ---- the texts

abbrev pub quit_text : List ℕ
quit_text = codes "quit" ++ 10 ∷ []

abbrev pub ready_text : List ℕ
ready_text = codes "authsrv ready" ++ 10 ∷ []

abbrev pub ok_text : List ℕ
ok_text = codes "ok" ++ 10 ∷ []

quits_again : AskedAgain → request_of (codes "quit") ≡ Ok wires.Quit
unfolding request_line
quits_again again = again requests.Close (codes "quit") tt refl

module _ {Origin : Type 0} (origin : Origin) (policy : PolicyView) (again : AskedAgain) where
  -- ---- what it meets, before and after each act

  abbrev opening : Entry
  opening = record { sid = 0; at = 0; request = requests.Open false; kept = true; reply = replies.Opened 0 }

  abbrev closing : Entry
  closing = record { sid = 0; at = 0; request = requests.Close; kept = true; reply = replies.Ok }

  abbrev clock : ClockView
  clock = record { told = None }

  abbrev dice : DiceView
  dice = record { told = None }

  abbrev office_with : List Entry → List ℕ → ℕ → Option ℕ → Office Origin
  office_with seen mine asks opened = record {
    port = record { seen = seen; mine = mine; full = None; refused = false; asks = asks; faults = 0; odd = 0; origin = origin; home = [] };
    clock = clock;
    dice = dice;
    opened = opened;
  }

  abbrev unopened : Office Origin
  unopened = office_with [] [] 0 None

  abbrev opened : Office Origin
  opened = office_with (opening ∷ []) (0 ∷ []) 1 (Some 0)

  abbrev closed : Office Origin
  closed = office_with (opening ∷ closing ∷ []) (0 ∷ 1 ∷ []) 2 None

  abbrev outlet_with : List ℕ → SinkView
  outlet_with given = record { given = Some given; shut = Some false; faults = 0; mark = Own }

  abbrev heard_inlet : SourceView
  heard_inlet = record (fresh (Some quit_text)) { taken = Some quit_text; left = Some []; amount = 5 }

  abbrev silent_client : List ℕ → Speaker
  silent_client given = record { inlet = fresh (Some quit_text); reader = unheard; outlet = outlet_with given }

  abbrev heard_client : List ℕ → Speaker
  heard_client given = record { inlet = heard_inlet; reader = record { pending = []; room = 2 ^ 40 - 5 }; outlet = outlet_with given }

  abbrev names : Names
  names = record { devices = []; relays = false }

  abbrev world_with : Speaker → Office Origin → World Origin
  world_with client office = record {
    client = client;
    logs = silent;
    office = office;
    server = record { dialer = nowhere; link = None; door = false; pair = None };
    store = no_store;
    names = names;
  }

  abbrev devices_at : Speaker → Office Origin → Devices Origin
  devices_at client office = devices_with office.port client.inlet client.outlet silent nowhere clock dice

  -- ---- what it does

  opens : Met (Ask (requests.Open false)) (Ok (replies.Opened 0)) (world_with (silent_client []) unopened) (world_with (silent_client []) opened)
  opens = record {
    client = refl;
    logs = refl;
    office = record {
      other = refl;
      asking = record {
        moment = 0;
        clock = clock;
        port = opened.port;
        gave_time = tt;
        asks = record {
          others = [];
          place = 0;
          kept = true;
          full = None;
          asks = 1;
          counts = record { least = omega (arith); most = omega (arith); later = omega (arith) };
          open_before = refl;
          is_place = refl;
          fits = refl;
          is = refl;
        };
        is = refl;
      };
    };
    server = refl;
    store = refl;
    names = refl;
    may = tt;
  }

  greets : Met (Say ready_text) (Ok tt) (world_with (silent_client []) opened) (world_with (silent_client ready_text) opened)
  greets = record {
    client = record { outlet = outlet_with ready_text; gets = refl; is = refl };
    logs = refl;
    office = refl;
    server = refl;
    store = refl;
    names = refl;
    may = tt;
  }

  abbrev quit_heard : Heard
  quit_heard = Line (record { items = codes "quit" })

  hears : Met (Hear Lines) (Ok quit_heard) (world_with (silent_client ready_text) opened) (world_with (heard_client ready_text) opened)
  hears = record {
    client = record {
      inlet = heard_inlet;
      reader = record { pending = []; room = 2 ^ 40 - 5 };
      listens = record {
        bytes = quit_text;
        middle = heard_inlet;
        is_heard = record { is = refl; fits = omega (arith) };
        rest = refl;
        reads = record {
          taken_now = quit_text;
          takes = record { left = Some []; next = refl; count = 5; grew = record { least = omega (arith); most = omega (arith); later = omega (arith) }; is = refl };
          reader = refl;
          room = refl;
        };
        closes = refl;
        spent = refl;
        behind = λ is. absurd (cc);
      };
      near = omega (arith);
      is = refl;
    };
    logs = refl;
    office = refl;
    server = refl;
    store = refl;
    names = refl;
    may = tt;
  }

  closes : Met (Ask requests.Close) (Ok replies.Ok) (world_with (heard_client ready_text) opened) (world_with (heard_client ready_text) closed)
  closes = record {
    client = refl;
    logs = refl;
    office = record {
      other = refl;
      asking = record {
        moment = 0;
        clock = clock;
        port = closed.port;
        gave_time = tt;
        asks = record {
          others = [];
          place = 1;
          kept = true;
          full = None;
          asks = 2;
          counts = record { least = omega (arith); most = omega (arith); later = omega (arith) };
          open_before = refl;
          is_place = refl;
          fits = tt;
          is = refl;
        };
        is = refl;
      };
    };
    server = refl;
    store = refl;
    names = refl;
    may = tt;
  }

  answers : Met (Say ok_text) (Ok tt) (world_with (heard_client ready_text) closed) (world_with (heard_client (ready_text ++ ok_text)) closed)
  answers = record {
    client = record { outlet = outlet_with (ready_text ++ ok_text); gets = refl; is = refl };
    logs = refl;
    office = refl;
    server = refl;
    store = refl;
    names = refl;
    may = tt;
  }

  -- ---- all of it

  abbrev last_steps : List (Step (acts Origin))
  last_steps = record { act = Ask requests.Close; answer = replies.Ok } ∷ record { act = Say ok_text; answer = tt } ∷ []

  abbrev steps : List (Step (acts Origin))
  steps = record { act = Ask (requests.Open false); answer = replies.Opened 0 } ∷ record { act = Say ready_text; answer = tt } ∷ record { act = Hear Lines; answer = quit_heard } ∷ last_steps

  abbrev own_rows : PlaceTable (acts Origin) Place
  own_rows = rows

  quits : Run own_rows (line_row (request_of (codes "quit"))) last_steps Over
  quits = subst (λ (w : Result Wire WireFault). Run own_rows (line_row w) last_steps Over) (sym (quits_again again)) (replies.Ok, refl, (tt, refl, refl))

  abbrev first_world : World Origin
  first_world = world_with (silent_client []) unopened

  abbrev last_world : World Origin
  last_world = world_with (heard_client (ready_text ++ ok_text)) closed

  held : Held own_rows (session_row false) first_world last_world Done
  held = record {
    dialogue = Ok tt;
    mid = last_world;
    ran = record {
      steps = steps;
      left = Over;
      mid = last_world;
      run = (replies.Opened 0, refl, (tt, refl, (quit_heard, refl, quits)));
      does = (world_with (silent_client []) opened, opens, (world_with (silent_client ready_text) opened, greets, (world_with (heard_client ready_text) opened, hears, (world_with (heard_client ready_text) closed, closes, (last_world, answers, refl)))));
      comes = (refl, refl);
    };
    answer = Ok replies.Ok;
    after = refl;
    ends = refl;
  }

  legal : IsLegal (record { policy = policy; records = [] }) (opening ∷ closing ∷ [])
  unfolding proposed
  legal = (record { reply = refl; kept = λ none. refl; sid = refl }, (record { reply = refl; kept = λ none. refl; sid = refl }, tt))

  pub an_honest_server : HonestServer Origin quit_text (ready_text ++ ok_text)
  unfolding held
  an_honest_server = record {
    console = false;
    old = devices_at (silent_client []) unopened;
    new = devices_at (heard_client (ready_text ++ ok_text)) closed;
    ending = Done;
    session = record { names = names; lent = refl; last = last_world; held = held; leaves = refl };
    heard = quit_text;
    heard_none = refl;
    heard_all = refl;
    hears = ([], refl);
    said = ready_text ++ ok_text;
    said_none = refl;
    said_all = refl;
    says = ([], refl);
    origin = record { policy = policy; records = [] };
    legal = legal;
    replies = (omega (arith), (tt, tt));
  }
