-- What a session asks, and what that comes to at the port, the clock and the dice.
use Rattle.std.specs.Prelude.{◌≡◌, ◌≤◌, ◌||◌, ℕ, suc, Bool, true, false, not, List, [], ◌∷◌, ◌++◌, filter, length, map, slice_get, Option, Some, None, Result, Ok, Err, if◌then◌else◌}
use Rattle.std.specs.List.{filter_map, list_any}
use Rattle.auth_events.specs.Fits.{Fits}
use Rattle.auth_events.specs.Port.{Port, session_at}
use Rattle.auth_events.specs.declared.denial.Denial.{Denial}
use Rattle.auth_events.specs.declared.denial.Denial.TheVariants.{Full}
use Rattle.auth_events.specs.declared.entry.Entry.{Entry}
use Rattle.auth_events.specs.declared.port.PortFault.{PortFault}
use Rattle.auth_events.specs.declared.reply.Reply.{Reply}
use Rattle.auth_events.specs.declared.reply.Reply.TheVariants.{Denied}
use Rattle.auth_events.specs.declared.request.Request.{Request}
use Rattle.auth_events.specs.declared.request.Request.TheVariants.{Password}
use Rattle.fw_outside.specs.Counts.{Grew}
use Rattle.session_acts.specs.Acts.{Act, Outcome}
use Rattle.session_acts.specs.Acts.Act.{Ask, Renew}
use Rattle.session_acts.specs.Laws.{Adds}
use Rattle.session_acts.specs.Met.{number_told, opened_then, reply_of}
use Rattle.session_acts.specs.World.{Office, World}

-- ---- what was asked: requests, each with its reply, where there was one

abbrev pub renewed : List ℕ → List ℕ → Result (List ℕ × Reply) (List ℕ × PortFault) → List (Request × Option Reply)
renewed name hash (Ok salts) = (Password name salts.0 hash, Some salts.1) ∷ []
renewed name hash (Err salts) = (Password name salts.0 hash, None) ∷ []

abbrev pub asked : (act : Act) → Outcome act → List (Request × Option Reply)
asked (Ask request) outcome = (request, reply_of outcome) ∷ []
asked (Renew name hash) outcome = renewed name hash outcome
asked act outcome = []

-- the port's count grew by one for each of these, answered or not
abbrev pub CountsAsks : {Origin : Type 0} → List (Request × Option Reply) → World Origin → World Origin → Type 0
CountsAsks asks old new = Grew (length asks) old.office.port.asks new.office.port.asks

-- the salts with which new passwords were asked for
abbrev pub salt_of : Request → List (List ℕ)
salt_of (Password name salt hash) = salt ∷ []
salt_of _ = []

abbrev pub salted : Result (List ℕ × Reply) (List ℕ × PortFault) → List (List ℕ)
salted (Ok salts) = salts.0 ∷ []
salted (Err salts) = salts.0 ∷ []

abbrev pub thrown : (act : Act) → Outcome act → List (List ℕ)
thrown (Ask request) outcome = salt_of request
thrown (Renew name hash) outcome = salted outcome
thrown act outcome = []

abbrev pub ThrowsSalts : {Origin : Type 0} → List (List ℕ) → World Origin → World Origin → Type 0
ThrowsSalts salts old new = Adds salts old.office.dice.told new.office.dice.told

-- ---- what was answered

abbrev pub replied : Request → Option Reply → Option (Request × Reply)
replied request None = None
replied request (Some reply) = Some (request, reply)

-- the requests that were answered, with their replies
abbrev pub answered : List (Request × Option Reply) → List (Request × Reply)
answered asks = filter_map (λ ask. replied ask.0 ask.1) asks

-- ---- what was entered

-- the denial that says that no more entries fit
abbrev pub is_full : Denial → Bool
is_full (Full limit) = true
is_full _ = false

abbrev pub says_full : Reply → Bool
says_full (Denied denial) = is_full denial
says_full _ = false

-- a request was refused since no more entries fit
abbrev pub is_refused_as_full : Request × Reply → Bool
is_refused_as_full ask = says_full ask.1

-- every other one was entered
abbrev pub is_entered : Request × Reply → Bool
is_entered ask = not (is_refused_as_full ask)

-- an entry says this
abbrev pub said_of : Entry → Request × Reply
said_of entry = (entry.request, entry.reply)

-- of what goes with each of these requests, what goes with those that were entered
abbrev pub if_entered : Option Reply → ℕ → List ℕ
if_entered None one = []
if_entered (Some reply) one = if says_full reply then [] else one ∷ []

abbrev pub of_entered : List ℕ → List (Request × Option Reply) → List ℕ
of_entered (one ∷ more) (ask ∷ asks) = if_entered ask.1 one ++ of_entered more asks
of_entered [] asks = []
of_entered more [] = []

-- from a place on, these entries stand at these places of a history, one behind another
abbrev pub AreAt : ℕ → List ℕ → List Entry → List Entry → Type 0
AreAt from [] [] seen = Unit {0}
AreAt from (place ∷ places) (entry ∷ entries) seen =
    (from ≤ place) × (slice_get seen place ≡ Some entry) × AreAt (suc place) places entries seen
AreAt from _ _ seen = ⊥

-- at these places the entries are of the sessions of these numbers, or open one, and their replies fit
abbrev pub AreOf : List ℕ → List ℕ → List Entry → Type 0
AreOf [] [] [] = Unit {0}
AreOf (number ∷ numbers) (place ∷ places) (entry ∷ entries) =
    (entry.sid ≡ session_at entry.request place number) × Fits entry.request place entry.reply × AreOf numbers places entries
AreOf _ _ _ = ⊥

-- ---- the session that is open

-- after these were
abbrev pub opened_after : Option ℕ → List (Request × Option Reply) → Option ℕ
opened_after opened [] = opened
opened_after opened (ask ∷ asks) = opened_after (opened_then ask.0 ask.1 opened) asks

-- the numbers that are told with these
abbrev pub numbers_told : Option ℕ → List (Request × Option Reply) → List ℕ
numbers_told opened [] = []
numbers_told opened (ask ∷ asks) = number_told opened ∷ numbers_told (opened_then ask.0 ask.1 opened) asks

-- ---- what it comes to

-- what asking these came to at a port, with these numbers and at these moments: an entry for each request that was
-- answered, but for those that were refused, behind all that was seen before; and it is noted whether one was refused
pub record AtPort {Origin : Type 0} (numbers moments : List ℕ) (asks : List (Request × Option Reply)) (old new : Port Origin) : Type 0 where
  pub more : List Entry
  pub places : List ℕ
  pub entries : List Entry
  pub seen : new.seen ≡ old.seen ++ more
  pub mine : new.mine ≡ old.mine ++ places
  pub stand : AreAt (length old.seen) places entries new.seen
  pub said : map said_of entries ≡ filter is_entered (answered asks)
  pub timed : map (λ entry. entry.at) entries ≡ of_entered moments asks
  pub numbered : AreOf (of_entered numbers asks) places entries
  pub refused : new.refused ≡ (old.refused || list_any is_refused_as_full (answered asks))
  pub origin : new.origin ≡ old.origin
  pub home : new.home ≡ old.home

-- each of these was asked for the session that was open, at a moment of the clock, answered or not, and came to this at
-- the port
pub record Entered {Origin : Type 0} (asks : List (Request × Option Reply)) (old new : Office Origin) : Type 0 where
  pub moments : List ℕ
  pub one_each : length moments ≡ length asks
  pub told : Adds moments old.clock.told new.clock.told
  pub opened : new.opened ≡ opened_after old.opened asks
  pub port : AtPort (numbers_told old.opened asks) moments asks old.port new.port
