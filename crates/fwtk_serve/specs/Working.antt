-- What a worker does at its door.
use Rattle.std.specs.Prelude.{◌≡◌, ℕ, ◌^◌, ◌-◌, ◌≤◌, ◌⊎◌, min, Bool, true, false, List, [], ◌∷◌, length, map, flat_map, sum_by, count_by}
use Rattle.std.specs.List.Sorted.{IsStrictlyIncreasing}
use Rattle.acceptors.specs.AcceptorView.{AcceptorView}
use Rattle.auth_events.specs.declared.entry.Entry.{Entry}
use Rattle.auth_machine.specs.Port.{BookOrigin}
use Rattle.fw_outside.specs.Counts.{Grew, Rose}
use Rattle.fw_outside.specs.ToldList.{grown}
use Rattle.gate_rules.specs.Reading.{RuleBook}
use Rattle.gate_rules.specs.declared.service.Service.{Service}
use Rattle.spool_pool.specs.Known.{PassView, bare}
use Rattle.spool_rack.specs.Store.{Queues}
use Rattle.turn_lock.specs.Known.{Known, Lock, knowing}
use Rattle.turn_lock.specs.Places.{AreWithin, Fill, NoneTwice}
use Rattle.fwtk_serve.specs.Sessions.{Both, ServedView, Sitting, WereServed, places_of}
use mathlib.Core.List.{IsPrefix}

-- a door, with the sessions that were held at it, and whether its worker ended before it, for want of memory
pub record DoorView : Type 0 where
  pub door : AcceptorView
  pub sittings : List Sitting
  pub short : Bool

-- Some clients came at a door; each was served, in order, and taken back as its session left it, and these are all that came and
-- that were taken back. No other session was held. This is so at every moment between two clients.
pub record Serves (rules : List (Service × RuleBook)) (lock : Lock BookOrigin) (first last : Both) (old new : AcceptorView) (sittings : List Sitting) : Type 0 where
  pub handed : new.handed ≡ grown old.handed (map (λ sitting. sitting.fresh) sittings)
  pub took : new.took ≡ grown old.took (map (λ sitting. sitting.back) sittings)
  pub come : Grew (length sittings) old.came new.came
  pub returned : Grew (length sittings) old.returned new.returned
  pub out : new.out ≡ old.out
  pub were : WereServed rules lock first last sittings

-- the door answered once that nobody comes, since no more do or since waiting failed, and its count of failures stands or rose;
-- or memory was short, and it answered neither
abbrev pub EndsBy : (short : Bool) → AcceptorView → AcceptorView → Type 0
EndsBy false old new = Grew 1 old.ends new.ends × (new.over ≡ true) × ((new.faults ≡ old.faults) ⊎ Rose old.faults new.faults)
EndsBy true old new = (new.ends ≡ old.ends) × (new.over ≡ old.over) × (new.faults ≡ old.faults)

-- and at the end no more come, unless memory was short
pub record Worked (rules : List (Service × RuleBook)) (lock : Lock BookOrigin) (first last : Both) (old : AcceptorView) (new : DoorView) : Type 0 where
  pub serves : Serves rules lock first last old new.door new.sittings
  pub ends : EndsBy new.short old new.door

-- ---- all doors

-- what a worker's pass of the book knows before its first session: all entries that were there when the server began; it has one
-- part of the lock
abbrev pub split_off : Lock BookOrigin → List Entry → Known Entry BookOrigin
split_off lock seen = knowing lock 1 seen [] []

-- and so its two passes; that of the pool has one part, too, and has put nothing
abbrev pub at_first : Lock BookOrigin → List Entry → List (List ℕ) → Queues → Both
at_first lock seen home began = record { book = split_off lock seen; mail = bare home 1 began }

-- one door of a server whose history is this in the end: all that its sessions saw is a front of it, and the places of their
-- entries rise, from session to session
pub record ServedDoor (rules : List (Service × RuleBook)) (lock : Lock BookOrigin) (first : Both) (history : List Entry) (old : AcceptorView) (new : DoorView) : Type 0 where
  pub last : Both
  pub worked : Worked rules lock first last old new
  pub seen : IsPrefix last.book.seen history
  pub rise : IsStrictlyIncreasing (places_of new.sittings)

abbrev pub ServedDoors : List (Service × RuleBook) → Lock BookOrigin → Both → List Entry → List AcceptorView → List DoorView → Type 0
ServedDoors rules lock first history [] [] = Unit {0}
ServedDoors rules lock first history (old ∷ olds) (new ∷ news) =
    ServedDoor rules lock first history old new × ServedDoors rules lock first history olds news
ServedDoors rules lock first history _ _ = ⊥

-- all sessions, in order of the doors
abbrev pub all_sittings : List DoorView → List Sitting
all_sittings doors = flat_map (λ door. door.sittings) doors

-- what is reported of each session at a door
abbrev pub reported : DoorView → List ServedView
reported door = map (λ sitting. sitting.served) door.sittings

-- how many workers were short of memory, as a count of 32 bits
abbrev pub short_count : List DoorView → ℕ
short_count doors = min (count_by (λ door. door.short) doors) (2 ^ 32 - 1)

-- What a server did over a book that had these entries before, in order of the doors: what became of each, and the sessions of
-- each. All were of one book: what each saw is a front of the one history, no place stands twice among those of all sessions, and
-- these are places of entries that came to those before, and of each of them. So no entry came that is not of one session. All were
-- of one pool: what was put into it are the slots that the sessions put full, in their order, and no other; and each message for
-- which no slot was free was counted, and each at which a disk failed, as far as the counts go.
pub record ServedAll (rules : List (Service × RuleBook)) (before history : List Entry) (limit : ℕ) (origin : BookOrigin) (olds doors : List AcceptorView) (sessions : List (List ServedView)) (short : ℕ) (mail : PassView) : Type 0 where
  pub home : List ℕ
  pub pool : List (List ℕ)
  pub began : Queues
  pub news : List DoorView
  pub doors_are : map (λ new. new.door) news ≡ doors
  pub sessions_are : map reported news ≡ sessions
  pub short_is : short ≡ short_count news
  pub served : ServedDoors rules (record { home = home; begun = length before; limit = limit; origin = origin })
      (at_first (record { home = home; begun = length before; limit = limit; origin = origin }) before pool began) history olds news
  pub apart : NoneTwice (places_of (all_sittings news))
  pub within : AreWithin (length before) (length history) (places_of (all_sittings news))
  pub whole : Fill (length before) (length history) (places_of (all_sittings news))
  pub put : mail.handed.put ≡ flat_map (λ sitting. sitting.mailed.put) (all_sittings news)
  pub no_free : min (sum_by (λ sitting. sitting.mailed.unslotted) (all_sittings news)) (2 ^ 64 - 1) ≤ mail.no_free
  pub broken : min (sum_by (λ sitting. sitting.mailed.faulted) (all_sittings news)) (2 ^ 64 - 1) ≤ mail.broken
