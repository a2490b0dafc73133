-- Whether data links can be asked for: a main link that is up, and a door that stands, behind each deed of a session.
use Rattle.std.specs.Prelude.{◌≡◌, ℕ, ◌||◌, Bool, true, false, not, is_some, List, [], ◌∷◌, Option, Some, None, Result, Ok, Err}
use Rattle.session_acts.specs.Acts.{Act, Outcome}
use Rattle.session_acts.specs.Acts.Act.{Dial, Reach, HangUp, OpenDoor, Join}
use Rattle.session_acts.specs.Deeds.{Deed}
use Rattle.session_acts.specs.Joining.{door_after, no_door}
use Rattle.session_acts.specs.World.{Server}
use Rattle.session_acts.specs.declared.joined.Joined.{Joined}
use Rattle.session_acts.specs.declared.joined.Joined.TheVariants.{Up, NoSide, NoNear, Unready}
use Rattle.session_acts.specs.declared.target.Target.{Target}

-- whether a main link is up, and a door stands
pub record Standing : Type 0 where
  pub linked : Bool
  pub door : Bool

abbrev pub standing_of : Server → Standing
standing_of server = record { linked = is_some server.link; door = server.door }

-- a main link that was dialed or reached
abbrev pub up_then : {Never : Type 0} → Result Bool Never → Bool
up_then (Ok up) = up
up_then (Err never) = false

abbrev pub reached_then : {Done Halted : Type 0} → Result Done Halted → Bool
reached_then (Ok up) = true
reached_then (Err halt) = false

-- a door that was asked for
abbrev pub door_opened : {Never : Type 0} → Result (Option (List ℕ × ℕ)) Never → Bool → Bool
door_opened (Ok (Some at)) door = true
door_opened (Ok None) door = door
door_opened (Err never) door = door

-- or used
abbrev pub door_used : Target → Joined → Bool → Bool
door_used target Up door = door_after target door
door_used target NoSide door = door_after target door
door_used target NoNear door = door_after target door
door_used target Unready door = door

abbrev pub door_joined : {Never : Type 0} → Target → Result Joined Never → Bool → Bool
door_joined target (Ok joined) door = door_used target joined door
door_joined target (Err never) door = door

-- what stands behind a deed
abbrev pub standing_then : (act : Act) → Outcome act → Standing → Standing
standing_then (Dial dest) outcome old = record { linked = up_then outcome; door = false }
standing_then (Reach dest) outcome old = record { linked = reached_then outcome; door = false }
standing_then HangUp outcome old = record { linked = false; door = false }
standing_then OpenDoor outcome old = record old { door = door_opened outcome old.door }
standing_then (Join dest target) outcome old = record old { door = door_joined target outcome old.door }
standing_then act outcome old = old

-- no link was asked for
abbrev pub is_unasked : Joined → Bool
is_unasked Up = false
is_unasked NoSide = false
is_unasked NoNear = false
is_unasked Unready = true

-- none can be: no main link is up, or no door stands where one is wanted
abbrev pub is_lacking : Target → Standing → Bool
is_lacking target standing = not standing.linked || no_door target standing.door

-- data links aren't asked for exactly where they can't be
abbrev pub IsAskedAt : {Never : Type 0} → Target → Result Joined Never → Standing → Type 0
IsAskedAt target (Ok joined) standing = is_unasked joined ≡ is_lacking target standing
IsAskedAt target (Err never) standing = Unit {0}

abbrev pub IsReadyAt : (act : Act) → Outcome act → Standing → Type 0
IsReadyAt (Join dest target) outcome standing = IsAskedAt target outcome standing
IsReadyAt act outcome standing = Unit {0}

-- so it is at each of these deeds
abbrev pub AreReady : Standing → List Deed → Type 0
AreReady standing [] = Unit {0}
AreReady standing (deed ∷ deeds) = IsReadyAt deed.act deed.outcome standing × AreReady (standing_then deed.act deed.outcome standing) deeds
