-- What was done to data links, as acts.
use Rattle.std.proofs.Common.{◌≡◌, refl, sym, ap, subst, ◌∙◌, ℕ, Bool, true, false, is_some, List, [], Option, Some, None, Result, Ok, Err}
use Rattle.std.specs.Option.{option_map}
use Rattle.fw_outside.specs.DialerView.{ComesUp, DialerView, LetsGo, LinkView, Refuses}
use Rattle.fw_outside.specs.declared.ask.Ask.TheVariants as asks
use Rattle.fw_types.specs.declared.dest.Dest.{Dest}
use Rattle.relay_ways.specs.Carried.{Way}
use Rattle.relay_ways.specs.declared.way_end.WayEnd.{WayEnd}
use Rattle.session_acts.specs.Acts.Act.{Copy, Join, Part}
use Rattle.session_acts.specs.Joining.{CopiesBy, JoinsSo, LetsBothGo, NearRefused, NearUp, door_after, is_unready, no_door, pair_after}
use Rattle.session_acts.specs.Met.{CopyDone, Met}
use Rattle.session_acts.specs.Side.{CarriedSo}
use Rattle.session_acts.specs.World.{Pair, Server, Speaker, World}
use Rattle.session_acts.specs.declared.joined.Joined.{Joined}
use Rattle.session_acts.specs.declared.joined.Joined.TheVariants.{Up, NoSide, NoNear, Unready}
use Rattle.session_acts.specs.declared.target.Target.{Target}
use Rattle.session_acts.specs.declared.target.Target.TheVariants.{Addr, AtDoor}
use Rattle.session_acts.specs.declared.toward.Toward.{Toward}

-- ---- what was asked for

-- both links came up
pub record BothUp (dest : Dest) (target : Target) (old new : DialerView) (new_pair : Option Pair) : Type 0 where
  pub both : Pair
  pub middle : DialerView
  pub far : ComesUp (asks.Side dest) both.far.from both.far.to old middle
  pub near : NearUp target both.near.from both.near.to middle new
  pub is : new_pair ≡ Some both

-- the server's came up, the client's was refused, and the server's let go
pub record FarLetGo (dest : Dest) (target : Target) (old new : DialerView) (pair new_pair : Option Pair) : Type 0 where
  pub link : LinkView
  pub middle : DialerView
  pub later : DialerView
  pub far : ComesUp (asks.Side dest) link.from link.to old middle
  pub refused : NearRefused target middle later
  pub lets : LetsGo link.from link.to later new
  pub same : new_pair ≡ pair

-- links were asked for
abbrev pub JoinsOver : Dest → Target → Joined → DialerView → DialerView → Option Pair → Option Pair → Type 0
JoinsOver dest target Up old new pair new_pair = BothUp dest target old new new_pair
JoinsOver dest target NoSide old new pair new_pair = Refuses (asks.Side dest) old new × (new_pair ≡ pair)
JoinsOver dest target NoNear old new pair new_pair = FarLetGo dest target old new pair new_pair
JoinsOver dest target Unready old new pair new_pair = ⊥

abbrev after_asking : Server → Target → DialerView → Option Pair → Server
after_asking server target dialer pair = record server { dialer = dialer; door = door_after target server.door; pair = pair }

asks_so : (dest : Dest) (target : Target) (joined : Joined) (old : Server) (dialer : DialerView) (pair : Option Pair) → is_unready target old.door old.link ≡ false → JoinsOver dest target joined old.dialer dialer old.pair pair → JoinsSo dest target joined old (after_asking old target dialer pair)
asks_so dest target Up old dialer pair ready h =
    let b : BothUp dest target old.dialer dialer pair = h in
    record { ready = ready; joins = record { pair = b.both; middle = b.middle; dialer = dialer; far = b.far; near = b.near; is = ap (λ (p : Option Pair). after_asking old target dialer p) b.is } }
asks_so dest target NoSide old dialer pair ready h = record { ready = ready; joins = record { dialer = dialer; refused = h.0; is = ap (λ (p : Option Pair). after_asking old target dialer p) h.1 } }
asks_so dest target NoNear old dialer pair ready h =
    let f : FarLetGo dest target old.dialer dialer old.pair pair = h in
    record { ready = ready; joins = record { link = f.link; middle = f.middle; later = f.later; dialer = dialer; far = f.far; refused = f.refused; lets = f.lets; is = ap (λ (p : Option Pair). after_asking old target dialer p) f.same } }
asks_so dest target Unready old dialer pair ready h = absurd h

ready_by : (target : Target) (door : Bool) (link : Option Speaker) → is_some link ≡ true → no_door target door ≡ false → is_unready target door link ≡ false
ready_by target door None linked stands = absurd (cc)
ready_by target door (Some link) linked stands = stands

stood_open : (door : Bool) → door ≡ true → no_door AtDoor door ≡ false
stood_open true is = refl
stood_open false is = absurd (cc)

module _ {Origin : Type 0} where
  -- a pair was let go, and then links were asked for
  joins_on : (dest : Dest) (target : Target) (joined : Joined) (old mid : World Origin) (server : Server) → Met Part (Ok tt) old mid → JoinsSo dest target joined mid.server server → Met (Join dest target) (Ok joined) old (record mid { server = server })
  joins_on dest target joined old mid server parts joins = record {
    client = parts.client;
    logs = parts.logs;
    office = parts.office;
    server = record { apart = mid.server; parts = parts.server; joins = joins };
    store = parts.store;
    names = parts.names;
    may = tt;
  }

  joins_asked : (dest : Dest) (target : Target) (joined : Joined) (old mid : World Origin) (dialer : DialerView) (pair : Option Pair) → Met Part (Ok tt) old mid → is_some mid.server.link ≡ true → no_door target mid.server.door ≡ false
      → JoinsOver dest target joined mid.server.dialer dialer mid.server.pair pair → Met (Join dest target) (Ok joined) old (record mid { server = after_asking mid.server target dialer pair })
  joins_asked dest target joined old mid dialer pair parts linked stands h =
      joins_on dest target joined old mid (after_asking mid.server target dialer pair) parts (asks_so dest target joined mid.server dialer pair (ready_by target mid.server.door mid.server.link linked stands) h)

  -- at an address
  pub joins_back : (dest : Dest) (target : Target) (addr : List ℕ) (port : ℕ) (joined : Joined) (old mid : World Origin) (dialer : DialerView) (pair : Option Pair) → target ≡ Addr addr port → Met Part (Ok tt) old mid → is_some mid.server.link ≡ true
      → JoinsOver dest (Addr addr port) joined mid.server.dialer dialer mid.server.pair pair → Met (Join dest target) (Ok joined) old (record mid { server = record (mid.server) { dialer = dialer; pair = pair } })
  joins_back dest target addr port joined old mid dialer pair is parts linked h =
      subst (λ (t : Target). Met (Join dest t) (Ok joined) old (record mid { server = record (mid.server) { dialer = dialer; pair = pair } })) (sym is) (joins_asked dest (Addr addr port) joined old mid dialer pair parts linked refl h)

  -- or at a door, which is closed then
  pub joins_door : (dest : Dest) (target : Target) (joined : Joined) (old mid : World Origin) (dialer : DialerView) (door : Bool) (pair : Option Pair) → target ≡ AtDoor → Met Part (Ok tt) old mid → is_some mid.server.link ≡ true → mid.server.door ≡ true → door ≡ false
      → JoinsOver dest AtDoor joined mid.server.dialer dialer mid.server.pair pair → Met (Join dest target) (Ok joined) old (record mid { server = record (mid.server) { dialer = dialer; door = door; pair = pair } })
  joins_door dest target joined old mid dialer door pair is parts linked stood closed h =
      let here = joins_asked dest AtDoor joined old mid dialer pair parts linked (stood_open mid.server.door stood) h in
      let shut = subst (λ (d : Bool). Met (Join dest AtDoor) (Ok joined) old (record mid { server = record (mid.server) { dialer = dialer; door = d; pair = pair } })) (sym closed) here in
      subst (λ (t : Target). Met (Join dest t) (Ok joined) old (record mid { server = record (mid.server) { dialer = dialer; door = door; pair = pair } })) (sym is) shut

  -- a copy was made, and both links let go
  copied : (toward : Toward) (how : WayEnd) (pair after : Pair) (old : World Origin) (dialer : DialerView) → old.server.pair ≡ Some pair → CarriedSo toward how pair after → LetsBothGo after old.server.dialer dialer
      → CopyDone toward (Some how) old (record old { server = record (old.server) { dialer = dialer; pair = None } })
  copied toward how pair after old dialer up c lets = record {
    carried = Some c.way;
    is = ap (λ (e : WayEnd). Some e) (sym c.is);
    met = record {
      client = refl;
      logs = refl;
      office = refl;
      server = subst (λ (p : Option Pair). CopiesBy toward (Some c.way) p old.server (record (old.server) { dialer = dialer; pair = None })) (sym up) (record {
        from = c.from;
        to = c.to;
        room = c.room;
        drains = c.drains;
        supplies = c.supplies;
        dialer = dialer;
        lets = subst (λ (p : Pair). LetsBothGo p old.server.dialer dialer) c.moved lets;
        is = refl;
      });
      store = refl;
      names = refl;
      may = tt;
    };
  }

  pub copies_on : (toward : Toward) (how : WayEnd) (pair after : Pair) (old : World Origin) (dialer : DialerView) (new_pair : Option Pair) → old.server.pair ≡ Some pair → new_pair ≡ None → CarriedSo toward how pair after → LetsBothGo after old.server.dialer dialer
      → CopyDone toward (Some how) old (record old { server = record (old.server) { dialer = dialer; pair = new_pair } })
  copies_on toward how pair after old dialer new_pair up none c lets =
      subst (λ (p : Option Pair). CopyDone toward (Some how) old (record old { server = record (old.server) { dialer = dialer; pair = p } })) (sym none) (copied toward how pair after old dialer up c lets)
