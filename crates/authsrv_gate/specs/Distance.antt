-- How far a session is from its end, at most: by the bytes that it may still hear, and in a list by the names that may still
-- follow.
use Rattle.std.specs.Prelude.{◌≡◌, ℕ, zero, suc, ◌+◌, ◌-◌, List, [], ◌∷◌, Option, Some, None, IsTrue}
use Rattle.auth_events.specs.declared.reply.Reply.{Reply}
use Rattle.fw_types.specs.Name.{is_name}
use Rattle.fw_outside.specs.declared.heard.Heard.{Heard}
use Rattle.fw_outside.specs.declared.heard.Heard.TheVariants.{Line, TooLong, Stopped}
use Rattle.session_acts.specs.Distance.{ahead_of_client}
use Rattle.session_acts.specs.World.{World}
use Rattle.authsrv_gate.specs.Dialogue.{shown_name}
use Rattle.authsrv_gate.specs.declared.place.Place.{Place}
use Rattle.authsrv_gate.specs.declared.place.Place.TheVariants.{Waiting, Listing}

-- so many of one number
unfoldable pub times : ℕ → ℕ → ℕ
times zero w = 0
times (suc n) w = w + times n w

-- how many texts there are of so many bytes at most, or more
unfoldable pub wide : ℕ → ℕ
wide zero = 1
wide (suc n) = times 257 (wide n)

-- the place of a text of so many bytes at most among all of them
unfoldable pub rank : ℕ → List ℕ → ℕ
rank zero text = 0
rank (suc n) [] = 0
rank (suc n) (b ∷ text) = wide n + times b (wide n) + rank n text

-- the place of a name, or of none, among all names
abbrev pub rank_of : Option (List ℕ) → ℕ
rank_of None = 0
rank_of (Some name) = rank 32 name

abbrev pub left_at : Place → ℕ
left_at Waiting = 0
left_at (Listing after) = wide 32 - rank_of after

abbrev pub distance : {Origin : Type 0} → Place → World Origin → ℕ
distance place world = times (ahead_of_client world) (suc (wide 32)) + left_at place

-- where a list goes on from a reply
abbrev pub listing_from : Option (List ℕ) → Place
listing_from None = Waiting
listing_from (Some name) = Listing (Some name)

abbrev pub listed_place : Reply → Place
listed_place reply = listing_from (shown_name reply)

-- a place that a line leads to: the next line, or the beginning of a list
abbrev pub IsFresh : Option Place → Type 0
IsFresh None = Unit {0}
IsFresh (Some Waiting) = Unit {0}
IsFresh (Some (Listing None)) = Unit {0}
IsFresh (Some (Listing (Some name))) = ⊥

-- after the end of what the client says nothing follows
abbrev pub IsNext : Heard → Option Place → Type 0
IsNext (Line line) next = IsFresh next
IsNext TooLong next = IsFresh next
IsNext (Stopped stop) next = next ≡ None

-- a list goes on from a name
abbrev pub IsPlace : Place → Type 0
IsPlace Waiting = Unit {0}
IsPlace (Listing None) = Unit {0}
IsPlace (Listing (Some name)) = IsTrue (is_name name)
