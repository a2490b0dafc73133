-- A whole session: its dialogue, what is owed after it, and how it ends.
use Rattle.std.specs.Prelude.{◌≡◌, ℕ, Bool, true, false, List, [], ◌∷◌, ◌++◌, Option, Some, None, Result, Ok, Err}
use Rattle.auth_events.specs.declared.port.PortFault.{PortFault}
use Rattle.auth_events.specs.declared.reply.Reply.{Reply}
use Rattle.auth_events.specs.declared.request.Request.TheVariants as requests
use Rattle.fw_acts.specs.Acts.{Row, PlaceTable}
use Rattle.fw_acts.specs.Acts.Row.{At, Over}
use Rattle.fw_acts.specs.Ran.{Ran}
use Rattle.fw_types.specs.declared.ending.Ending.{Ending}
use Rattle.fw_types.specs.declared.ending.Ending.TheVariants as endings
use Rattle.session_acts.specs.Acts.{fault_cause}
use Rattle.session_acts.specs.Acts.Act.{Ask, HangUp}
use Rattle.session_acts.specs.Deeds.{Deed, DeedsAll, deeds_ran}
use Rattle.session_acts.specs.Met.{acts}
use Rattle.session_acts.specs.World.{Devices, Names, Speaker, World, at_first, devices_of}
use Rattle.session_acts.specs.declared.cause.Cause.{Cause}
use Rattle.session_acts.specs.declared.cause.Cause.TheVariants as causes

-- where a row led: to a place, or to the end
abbrev pub leads : {Origin P : Type 0} → Option P → Row (acts Origin) P
leads None = Over
leads (Some place) = At place

-- ---- what is owed after a dialogue

-- a link that is up is hung up
abbrev pub freeing : Option Speaker → List Deed
freeing None = []
freeing (Some link) = record { act = HangUp; outcome = Ok tt } ∷ []

-- a session that is open is asked to close, which is answered so
abbrev pub closing : Option ℕ → Result Reply PortFault → List Deed
closing None answer = []
closing (Some sid) answer = record { act = Ask requests.Close; outcome = answer } ∷ []

abbrev pub owed : {Origin : Type 0} → World Origin → Result Reply PortFault → List Deed
owed world answer = freeing world.server.link ++ closing world.office.opened answer

-- ---- endings

abbrev pub ending_by : Cause → Ending
ending_by causes.ClientFault = endings.ClientFault
ending_by causes.ServerFault = endings.ServerFault
ending_by causes.LogFault = endings.LogFault
ending_by causes.AuthFault = endings.AuthFault
ending_by causes.Idle = endings.Idle
ending_by causes.NoRoute = endings.NoRoute
ending_by causes.Spent = endings.Spent
ending_by causes.NoMemory = endings.NoMemory

-- done, unless the close that was owed got no answer
abbrev pub ending_closed : Option ℕ → Result Reply PortFault → Ending
ending_closed None answer = endings.Done
ending_closed (Some sid) (Ok reply) = endings.Done
ending_closed (Some sid) (Err fault) = ending_by (fault_cause fault)

-- a dialogue that stopped ends by its cause
abbrev pub ending_of : Result (Unit {0}) Cause → Option ℕ → Result Reply PortFault → Ending
ending_of (Ok done) opened answer = ending_closed opened answer
ending_of (Err cause) opened answer = ending_by cause

-- ---- the session

-- the rows were run to their end, or to the act at which they stopped, and then what was owed was done
pub record Held {Origin P : Type 0} (rows : PlaceTable (acts Origin) P) (first : Row (acts Origin) P) (old new : World Origin) (ending : Ending) : Type 0 where
  pub dialogue : Result (Unit {0}) Cause
  pub mid : World Origin
  pub ran : Ran rows first (λ (done : Unit {0}). Over) old mid dialogue
  pub answer : Result Reply PortFault
  pub after : DeedsAll (owed mid answer) mid new
  pub ends : ending ≡ ending_of dialogue mid.office.opened answer

-- all that the session did
abbrev pub deeds_of : {Origin P : Type 0} {rows : PlaceTable (acts Origin) P} {first : Row (acts Origin) P} {old new : World Origin} {ending : Ending} → Held rows first old new ending → List Deed
deeds_of held = deeds_ran held.ran ++ owed held.mid held.answer

-- a session over these devices, lent threads or not, which leaves them so
pub record SessionAs {Origin P : Type 0} (relays : Bool) (rows : PlaceTable (acts Origin) P) (first : Row (acts Origin) P) (old new : Devices Origin) (ending : Ending) : Type 0 where
  pub names : Names
  pub lent : names.relays ≡ relays
  pub last : World Origin
  pub held : Held rows first (at_first old names) last ending
  pub leaves : devices_of last ≡ new

-- one without a relay, and one that may end with a relay
abbrev pub Session : {Origin P : Type 0} → PlaceTable (acts Origin) P → Row (acts Origin) P → Devices Origin → Devices Origin → Ending → Type 0
Session rows first old new ending = SessionAs false rows first old new ending

abbrev pub RelaySession : {Origin P : Type 0} → PlaceTable (acts Origin) P → Row (acts Origin) P → Devices Origin → Devices Origin → Ending → Type 0
RelaySession rows first old new ending = SessionAs true rows first old new ending
