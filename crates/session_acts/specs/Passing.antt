-- What servers were given: what was passed and relayed over each link, from where it came up to where it was hung up; and what
-- was copied to each data link.
use Rattle.std.specs.Prelude.{◌≡◌, ℕ, Bool, true, false, List, [], ◌∷◌, ◌++◌, Option, Some, None, Result, Ok, Err}
use Rattle.fw_outside.specs.DialerView.{LinkView}
use Rattle.relay_ways.specs.Carried.{Way}
use Rattle.session_acts.specs.Acts.{Act, Outcome}
use Rattle.session_acts.specs.Acts.Act.{Copy, Dial, HangUp, Join, Part, Pass, Reach, Relay}
use Rattle.session_acts.specs.Deeds.{Deed}
use Rattle.session_acts.specs.Laws.{Adds, got}
use Rattle.session_acts.specs.Relaying.{flow_of, given_up}
use Rattle.session_acts.specs.World.{World}
use Rattle.session_acts.specs.declared.joined.Joined.{Joined}
use Rattle.session_acts.specs.declared.joined.Joined.TheVariants.{Up, NoSide, NoNear, Unready}
use Rattle.session_acts.specs.declared.toward.Toward.{Toward}
use Rattle.session_acts.specs.declared.toward.Toward.TheVariants as toward

-- ---- what is known of each link

-- what is known of the link that is up, if one is, and this more
abbrev pub up_with : {A : Type 0} → Option (List A) → List A → Option (List A)
up_with None more = None
up_with (Some known) more = Some (known ++ more)

-- nothing is known yet of a link that came up
abbrev pub up_if_dialed : {A Never : Type 0} → Result Bool Never → Option (List A)
up_if_dialed (Ok true) = Some []
up_if_dialed (Ok false) = None
up_if_dialed (Err never) = None

abbrev pub up_if_reached : {A Done Halted : Type 0} → Result Done Halted → Option (List A)
up_if_reached (Ok up) = Some []
up_if_reached (Err halt) = None

-- a link that was up is hung up
abbrev pub hung : {A : Type 0} → Option (List A) → List (List A)
hung None = []
hung (Some known) = known ∷ []

-- ---- data links

-- a pair of data links over which nothing went, the one to the server first, is let go, if one is up
abbrev pub pair_gone : {A : Type 0} → Bool → List (List A)
pair_gone false = []
pair_gone true = [] ∷ [] ∷ []

-- whether a pair is up after two links were to be joined
abbrev pub is_up : {Never : Type 0} → Result Joined Never → Bool
is_up (Ok Up) = true
is_up (Ok NoSide) = false
is_up (Ok NoNear) = false
is_up (Ok Unready) = false
is_up (Err never) = false

-- the link to the server is let go where the client's was refused
abbrev pub side_gone : {A Never : Type 0} → Result Joined Never → List (List A)
side_gone (Ok Up) = []
side_gone (Ok NoSide) = []
side_gone (Ok NoNear) = [] ∷ []
side_gone (Ok Unready) = []
side_gone (Err never) = []

-- what is known of both links behind a copy, where it is known what is known of both behind a way
abbrev pub copy_gone : {A Never : Type 0} → (Toward → Way → List A × List A) → Toward → Result (Option Way) Never → List (List A)
copy_gone beside toward (Ok None) = []
copy_gone beside toward (Ok (Some way)) = (beside toward way).0 ∷ (beside toward way).1 ∷ []
copy_gone beside toward (Err never) = []

-- what is known of the links that an act hung up and let go, in order
abbrev pub hung_by : {A : Type 0} → (Toward → Way → List A × List A) → (act : Act) → Outcome act → Option (List A) → Bool → List (List A)
hung_by beside (Dial dest) outcome up paired = pair_gone paired ++ hung up
hung_by beside (Reach dest) outcome up paired = pair_gone paired ++ hung up
hung_by beside HangUp outcome up paired = pair_gone paired ++ hung up
hung_by beside (Join dest target) outcome up paired = pair_gone paired ++ side_gone outcome
hung_by beside (Copy toward) outcome up paired = copy_gone beside toward outcome
hung_by beside Part outcome up paired = pair_gone paired
hung_by beside act outcome up paired = []

-- whether a pair is up after an act
abbrev pub paired_after : (act : Act) → Outcome act → Bool → Bool
paired_after (Dial dest) outcome paired = false
paired_after (Reach dest) outcome paired = false
paired_after HangUp outcome paired = false
paired_after (Join dest target) outcome paired = is_up outcome
paired_after (Copy toward) outcome paired = false
paired_after Part outcome paired = false
paired_after act outcome paired = paired

-- how more is known after an act of the main link that is up, and what is known of two data links behind a copy
pub record Known (A : Type 0) : Type 1 where
  pub after : (act : Act) → Outcome act → Option (List A) → Option (List A)
  pub beside : Toward → Way → List A × List A

-- what is known of each link that these deeds hung up or let go, one after another
abbrev pub over_each : {A : Type 0} → Known A → Option (List A) → Bool → List Deed → List (List A)
over_each known up paired [] = []
over_each known up paired (deed ∷ deeds) =
    hung_by known.beside deed.act deed.outcome up paired ++ over_each known (known.after deed.act deed.outcome up) (paired_after deed.act deed.outcome paired) deeds

-- and of the link that is up behind them, if one is
abbrev pub over_last : {A : Type 0} → ((act : Act) → Outcome act → Option (List A) → Option (List A)) → Option (List A) → List Deed → Option (List A)
over_last after up [] = up
over_last after up (deed ∷ deeds) = over_last after (after deed.act deed.outcome up) deeds

abbrev pub paired_last : Bool → List Deed → Bool
paired_last paired [] = paired
paired_last paired (deed ∷ deeds) = paired_last (paired_after deed.act deed.outcome paired) deeds

-- what is known of each of these links holds of it
abbrev pub AreOver : {A : Type 0} → (List A → LinkView → Type 0) → List (List A) → List LinkView → Type 0
AreOver Is [] [] = Unit {0}
AreOver Is (known ∷ more) (link ∷ links) = Is known link × AreOver Is more links
AreOver Is _ _ = ⊥

-- ---- what was passed

-- what was passed over the link that is up after an act, if one is
abbrev pub up_after : (act : Act) → Outcome act → Option (List ℕ) → Option (List ℕ)
up_after (Dial dest) outcome up = up_if_dialed outcome
up_after (Reach dest) outcome up = up_if_reached outcome
up_after HangUp outcome up = None
up_after (Pass text) outcome up = up_with up (got outcome)
up_after Relay outcome up = up_with up (given_up (flow_of outcome))
up_after act outcome up = up

-- what each data link was given by a copy
abbrev pub copy_given : Toward → Way → List ℕ × List ℕ
copy_given toward.Client way = ([], way.given)
copy_given toward.Server way = (way.given, [])

abbrev pub passing_known : Known ℕ
passing_known = record { after = up_after; beside = copy_given }

-- what was passed over each link that these deeds hung up, and what was copied to each data link that they let go, one after
-- another, where no pair of data links was up before
abbrev pub passed_over : Option (List ℕ) → List Deed → List (List ℕ)
passed_over up deeds = over_each passing_known up false deeds

-- a sink has these bytes, where it tells
abbrev pub IsGiven : List ℕ → Option (List ℕ) → Type 0
IsGiven bytes None = Unit {0}
IsGiven bytes (Some all) = all ≡ bytes

-- who is at the other end of a link was given these bytes
abbrev pub WasGiven : List ℕ → LinkView → Type 0
WasGiven bytes link = IsGiven bytes link.to.given

-- these links were hung up or let go, where the dialer tells, and over them these bytes were given
pub record GivesServers {Origin : Type 0} (passed : List (List ℕ)) (old new : World Origin) : Type 0 where
  pub links : List LinkView
  pub ended : Adds links old.server.dialer.ended new.server.dialer.ended
  pub given : AreOver WasGiven passed links
