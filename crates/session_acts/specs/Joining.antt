-- Data links: how a pair comes up beside the main link, what is copied from one to the other, and how both are let go.
use Rattle.std.specs.Prelude.{◌≡◌, ℕ, Bool, true, false, List, [], Option, Some, None, Result, Ok, Err}
use Rattle.fw_outside.specs.DialerView.{Accepts, ComesUp, DialerView, LetsGo, LinkView, Opens, Refuses, TurnsAway}
use Rattle.fw_outside.specs.SinkView.{SinkView}
use Rattle.fw_outside.specs.SourceView.{SourceView}
use Rattle.fw_outside.specs.declared.ask.Ask.TheVariants as asks
use Rattle.fw_types.specs.declared.dest.Dest.{Dest}
use Rattle.relay_ways.specs.Carried.{Drains, Supplies, Way}
use Rattle.session_acts.specs.World.{Pair, Server, most_taken}
use Rattle.session_acts.specs.declared.joined.Joined.{Joined}
use Rattle.session_acts.specs.declared.joined.Joined.TheVariants.{Up, NoSide, NoNear, Unready}
use Rattle.session_acts.specs.declared.target.Target.{Target}
use Rattle.session_acts.specs.declared.target.Target.TheVariants.{Addr, AtDoor}
use Rattle.session_acts.specs.declared.toward.Toward.{Toward}
use Rattle.session_acts.specs.declared.toward.Toward.TheVariants as toward

-- ---- letting go

-- both data links were let go
pub record LetsBothGo (pair : Pair) (old new : DialerView) : Type 0 where
  pub middle : DialerView
  pub far : LetsGo pair.far.from pair.far.to old middle
  pub near : LetsGo pair.near.from pair.near.to middle new

-- so they were, if a pair is up
abbrev pub LetsPairGo : Option Pair → DialerView → DialerView → Type 0
LetsPairGo None old new = new ≡ old
LetsPairGo (Some pair) old new = LetsBothGo pair old new

pub record Parting (old new : Server) : Type 0 where
  pub dialer : DialerView
  pub lets : LetsPairGo old.pair old.dialer dialer
  pub is : new ≡ record old { dialer = dialer; pair = None }

abbrev pub Parts : Result (Unit {0}) ⊥ → Server → Server → Type 0
Parts (Ok done) old new = Parting old new
Parts (Err never) old new = ⊥

-- ---- the door

-- a door opened, and replaces one that stood
pub record OpensDoor (addr : List ℕ) (port : ℕ) (old new : Server) : Type 0 where
  pub dialer : DialerView
  pub opens : Opens addr port old.dialer dialer
  pub is : new ≡ record old { dialer = dialer; door = true }

-- none opened, and one that stood is left
pub record OpensNone (old new : Server) : Type 0 where
  pub dialer : DialerView
  pub refused : Refuses (asks.Door None) old.dialer dialer
  pub is : new ≡ record old { dialer = dialer }

abbrev pub OpensAt : Result (Option (List ℕ × ℕ)) ⊥ → Server → Server → Type 0
OpensAt (Ok (Some at)) old new = OpensDoor at.0 at.1 old new
OpensAt (Ok None) old new = OpensNone old new
OpensAt (Err never) old new = ⊥

-- ---- joining

-- a door at which a link is accepted is closed then
abbrev pub door_after : Target → Bool → Bool
door_after (Addr addr port) door = door
door_after AtDoor door = false

-- the client's data link came up
abbrev pub NearUp : Target → SourceView → SinkView → DialerView → DialerView → Type 0
NearUp (Addr addr port) from to old new = ComesUp (asks.Back addr port) from to old new
NearUp AtDoor from to old new = Accepts from to old new

-- or was refused
abbrev pub NearRefused : Target → DialerView → DialerView → Type 0
NearRefused (Addr addr port) old new = Refuses (asks.Back addr port) old new
NearRefused AtDoor old new = TurnsAway old new

-- no data link can be asked for: no main link is up, or no door stands where one is wanted
abbrev pub no_door : Target → Bool → Bool
no_door (Addr addr port) door = false
no_door AtDoor true = false
no_door AtDoor false = true

abbrev pub is_unready : {A : Type 0} → Target → Bool → Option A → Bool
is_unready target door None = true
is_unready target door (Some link) = no_door target door

-- both data links came up
pub record JoinsUp (dest : Dest) (target : Target) (old new : Server) : Type 0 where
  pub pair : Pair
  pub middle : DialerView
  pub dialer : DialerView
  pub far : ComesUp (asks.Side dest) pair.far.from pair.far.to old.dialer middle
  pub near : NearUp target pair.near.from pair.near.to middle dialer
  pub is : new ≡ record old { dialer = dialer; door = door_after target old.door; pair = Some pair }

-- the one to the server was refused, and the client's not asked for
pub record JoinsNoSide (dest : Dest) (target : Target) (old new : Server) : Type 0 where
  pub dialer : DialerView
  pub refused : Refuses (asks.Side dest) old.dialer dialer
  pub is : new ≡ record old { dialer = dialer; door = door_after target old.door }

-- the client's was refused, and the one to the server let go
pub record JoinsNoNear (dest : Dest) (target : Target) (old new : Server) : Type 0 where
  pub link : LinkView
  pub middle : DialerView
  pub later : DialerView
  pub dialer : DialerView
  pub far : ComesUp (asks.Side dest) link.from link.to old.dialer middle
  pub refused : NearRefused target middle later
  pub lets : LetsGo link.from link.to later dialer
  pub is : new ≡ record old { dialer = dialer; door = door_after target old.door }

-- no link was asked for
pub record JoinsNone (target : Target) (old new : Server) : Type 0 where
  pub unready : is_unready target old.door old.link ≡ true
  pub is : new ≡ old

-- links were asked for
pub record Asked (Joins : Server → Server → Type 0) (target : Target) (old new : Server) : Type 0 where
  pub ready : is_unready target old.door old.link ≡ false
  pub joins : Joins old new

abbrev pub JoinsSo : Dest → Target → Joined → Server → Server → Type 0
JoinsSo dest target Up old new = Asked (JoinsUp dest target) target old new
JoinsSo dest target NoSide old new = Asked (JoinsNoSide dest target) target old new
JoinsSo dest target NoNear old new = Asked (JoinsNoNear dest target) target old new
JoinsSo dest target Unready old new = JoinsNone target old new

-- a pair that is up is let go first
pub record Joining (dest : Dest) (target : Target) (joined : Joined) (old new : Server) : Type 0 where
  pub apart : Server
  pub parts : Parting old apart
  pub joins : JoinsSo dest target joined apart new

abbrev pub Joins : Dest → Target → Result Joined ⊥ → Server → Server → Type 0
Joins dest target (Ok joined) old new = Joining dest target joined old new
Joins dest target (Err never) old new = ⊥

-- ---- copying

-- what is copied from, and what to
abbrev pub copied_from : Toward → Pair → SourceView
copied_from toward.Client pair = pair.far.from
copied_from toward.Server pair = pair.near.from

abbrev pub copied_to : Toward → Pair → SinkView
copied_to toward.Client pair = pair.near.to
copied_to toward.Server pair = pair.far.to

-- the pair behind a copy
abbrev pub pair_after : Toward → SourceView → SinkView → Pair → Pair
pair_after toward.Client from to pair = record { far = record { from = from; to = pair.far.to }; near = record { from = pair.near.from; to = to } }
pair_after toward.Server from to pair = record { far = record { from = pair.far.from; to = to }; near = record { from = from; to = pair.near.to } }

-- What was taken of one data link went this way to the other, at most `most_taken` bytes, and then both were let go.
pub record Copying (toward : Toward) (way : Way) (pair : Pair) (old new : Server) : Type 0 where
  pub from : SourceView
  pub to : SinkView
  pub room : ℕ
  pub drains : Drains way [] most_taken room (copied_from toward pair) from
  pub supplies : Supplies way (copied_to toward pair) to
  pub dialer : DialerView
  pub lets : LetsBothGo (pair_after toward from to pair) old.dialer dialer
  pub is : new ≡ record old { dialer = dialer; pair = None }

-- something was carried exactly where a pair is up
abbrev pub CopiesBy : Toward → Option Way → Option Pair → Server → Server → Type 0
CopiesBy toward None None old new = new ≡ old
CopiesBy toward (Some way) (Some pair) old new = Copying toward way pair old new
CopiesBy toward _ _ old new = ⊥

abbrev pub Copies : Toward → Result (Option Way) ⊥ → Option Pair → Server → Server → Type 0
Copies toward (Ok carried) pair old new = CopiesBy toward carried pair old new
Copies toward (Err never) pair old new = ⊥
