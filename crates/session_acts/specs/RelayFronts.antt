-- What reached each side of a session with a relay, where the rows before it take nothing of a server and give it nothing.
use Rattle.std.specs.Prelude.{◌≡◌, ℕ, ◌≤◌, Bool, true, false, List, [], ◌∷◌, ◌++◌, length, Option, Some, None, IfSome}
use Rattle.std.specs.List.{AllByRecursion, concat}
use Rattle.std.specs.Option.{option_map}
use Rattle.fw_acts.specs.Acts.{Row, PlaceTable}
use Rattle.fw_acts.specs.Histories.{Keeps, Leaves, Watch}
use Rattle.fw_outside.specs.Counts.{Grew}
use Rattle.fw_outside.specs.DialerView.{LinkView}
use Rattle.fw_outside.specs.SourceView.{SourceView}
use Rattle.fw_outside.specs.ToldList.{IsOver, grown}
use Rattle.fw_types.specs.declared.ending.Ending.{Ending}
use Rattle.fw_types.specs.declared.ending.Ending.TheVariants as endings
use Rattle.relay_ways.specs.Way.{most_in_piece}
use Rattle.session_acts.specs.Acts.{Act, Outcome}
use Rattle.session_acts.specs.Acts.Act.{Copy, Join, OpenDoor, Part, Pass, Relay, Take, TakeReply}
use Rattle.session_acts.specs.Deeds.{Deed, gives}
use Rattle.session_acts.specs.Hearing.{AreHeard, Fate, heard_in}
use Rattle.session_acts.specs.Laws.{Adds, told}
use Rattle.session_acts.specs.Met.{acts}
use Rattle.session_acts.specs.Passing.{IsGiven}
use Rattle.session_acts.specs.Relaying.{Flow, flow_of}
use Rattle.session_acts.specs.World.{Devices}

-- ---- what rows keep

-- an act that takes nothing of a server and gives nothing to one, and has nothing to do with data links
abbrev pub is_quiet : Act → Bool
is_quiet Take = false
is_quiet (Pass text) = false
is_quiet Relay = false
is_quiet (TakeReply how) = false
is_quiet OpenDoor = false
is_quiet (Join dest target) = false
is_quiet (Copy toward) = false
is_quiet Part = false
is_quiet act = true

-- only such acts may come
abbrev pub quiet_watch : (Origin P : Type 0) → Watch (acts Origin) P
quiet_watch Origin P = record {
  Noted = Unit {0};
  note = λ noted act answer. tt;
  may = λ noted act. is_quiet act ≡ true;
  holds = λ noted place. Unit {0};
  over = λ noted. Unit {0};
}

-- from the first row on, and from each place
pub record KeepsQuiet {Origin P : Type 0} (rows : PlaceTable (acts Origin) P) (first : Row (acts Origin) P) : Type 0 where
  pub begins : Leaves (quiet_watch Origin P) first tt
  pub goes_on : Keeps rows (quiet_watch Origin P)

-- ---- fronts

-- What was given is a front of what was taken, at most 4,096 bytes short; and all of it, unless it may be short.
pub record IsFront (may_lose : Bool) (given taken : List ℕ) : Type 0 where
  pub lost : List ℕ
  pub cut : taken ≡ given ++ lost
  pub short : length lost ≤ most_in_piece
  pub whole : may_lose ≡ false → given ≡ taken

-- the server may be given less than was taken of the client only if a sink or a source failed, and the client less than was
-- taken of the server only if its own sink did
abbrev pub may_lose_up : Ending → Bool
may_lose_up endings.ClientFault = true
may_lose_up endings.ServerFault = true
may_lose_up _ = false

abbrev pub may_lose_down : Ending → Bool
may_lose_down endings.ClientFault = true
may_lose_down _ = false

-- over a link that was hung up, the server was given these bytes, and these were taken of it
abbrev pub OverLink : (given taken : List ℕ) → LinkView → Type 0
OverLink given taken link = IsGiven given link.to.given × IsGiven taken link.from.taken

-- nothing is left of what either side says, and each was told that no more comes
pub record AllIsSaid {Origin : Type 0} (old new : Devices Origin) (link : LinkView) : Type 0 where
  pub client : IsOver new.inlet.left
  pub server : IsOver link.from.left
  pub client_told : new.outlet.shut ≡ option_map (λ _. true) old.outlet.shut
  pub server_told : IfSome link.to.shut (λ shut. shut ≡ true)

-- ---- the relay of a session

abbrev pub flow_by : (act : Act) → Outcome act → Option Flow → Option Flow
flow_by Relay outcome later = flow_of outcome
flow_by act outcome later = later

-- what the first relay among these deeds carried, if there was one, and over a link
abbrev pub flow_in : List Deed → Option Flow
flow_in [] = None
flow_in (deed ∷ deeds) = flow_by deed.act deed.outcome (flow_in deeds)

abbrev pub unless_relay : Act → List Deed → List Deed
unless_relay Relay deeds = []
unless_relay act deeds = deeds

-- the deeds before it
abbrev pub before_relay : List Deed → List Deed
before_relay [] = []
before_relay (deed ∷ deeds) = unless_relay deed.act (deed ∷ before_relay deeds)

-- ---- what reached each side

-- of the client were taken the pieces that were heard, one after another, and then these bytes
pub record TakesThen (heards : List Fate) (more : List ℕ) (old new : SourceView) : Type 0 where
  pub pieces : List (List ℕ)
  pub are_heard : AreHeard heards pieces
  pub took : new.taken ≡ grown old.taken (concat pieces ++ more)
  pub grew : Grew (length (concat pieces ++ more)) old.amount new.amount

-- Nothing was relayed. Of the client was taken what the session heard, and then at most 4,096 bytes; it was given what the
-- session told. Over no link that was hung up, where the dialer tells, anything was given or taken.
pub record StaysApart {Origin : Type 0} (deeds : List Deed) (old new : Devices Origin) : Type 0 where
  pub behind : List ℕ
  pub of_client : TakesThen (gives heard_in deeds) behind old.inlet new.inlet
  pub near : length behind ≤ 4096
  pub to_client : new.outlet.given ≡ grown old.outlet.given (gives told deeds)
  pub links : List LinkView
  pub ended : Adds links old.dialer.ended new.dialer.ended
  pub unused : AllByRecursion (OverLink [] []) links

-- After this talk bytes were relayed. Of the client was taken what the talk heard, and then, from the first byte that it
-- didn't hear, what was taken for the way to the server; it was given what the talk told, and then what was relayed to it.
-- The last link that was hung up, where the dialer tells, is that of the relay: the server was given what was relayed to it,
-- and of it was taken what was taken for the way to the client, and nothing else. Over the links before it nothing was given
-- or taken. What each side was given of the relay is a front of what was taken of the other; of a session that is done all
-- of it, and nothing is left on either side.
pub record PutsThrough {Origin : Type 0} (talk : List Deed) (flow : Flow) (old new : Devices Origin) (ending : Ending) : Type 0 where
  pub of_client : TakesThen (gives heard_in talk) flow.up.taken old.inlet new.inlet
  pub to_client : new.outlet.given ≡ grown old.outlet.given (gives told talk ++ flow.down.given)
  pub earlier : List LinkView
  pub link : LinkView
  pub ended : Adds (earlier ++ link ∷ []) old.dialer.ended new.dialer.ended
  pub unused : AllByRecursion (OverLink [] []) earlier
  pub over : OverLink flow.up.given flow.down.taken link
  pub up : IsFront (may_lose_up ending) flow.up.given flow.up.taken
  pub down : IsFront (may_lose_down ending) flow.down.given flow.down.taken
  pub done : ending ≡ endings.Done → AllIsSaid old new link

abbrev pub FrontsOf : {Origin : Type 0} → Option Flow → List Deed → Devices Origin → Devices Origin → Ending → Type 0
FrontsOf None deeds old new ending = StaysApart deeds old new
FrontsOf (Some flow) deeds old new ending = PutsThrough (before_relay deeds) flow old new ending

-- what reached each side of a session that did these deeds
abbrev pub RelaysFronts : {Origin : Type 0} → List Deed → Devices Origin → Devices Origin → Ending → Type 0
RelaysFronts deeds old new ending = FrontsOf (flow_in deeds) deeds old new ending
