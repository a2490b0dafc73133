-- What a session with a relay is made up of: its dialogue, the relay, and what is owed.
use Rattle.std.specs.Prelude.{◌≡◌, ℕ, true, List, [], ◌∷◌, ◌++◌, length, Option, Some, None, Result, Ok, Err}
use Rattle.std.specs.Option.{option_map}
use Rattle.fw_acts.specs.Acts.{Row, PlaceTable}
use Rattle.fw_acts.specs.Acts.Row.{Over}
use Rattle.fw_acts.specs.Ran.{Ran}
use Rattle.fw_outside.specs.Counts.{Grew}
use Rattle.fw_outside.specs.DialerView.{LinkView}
use Rattle.fw_outside.specs.ToldList.{IsOver, grown}
use Rattle.fw_types.specs.declared.ending.Ending.{Ending}
use Rattle.relay_ways.specs.Carried.{Way}
use Rattle.session_acts.specs.Acts.{Outcome}
use Rattle.session_acts.specs.Acts.Act.{Relay}
use Rattle.session_acts.specs.Deeds.{Deed, deeds_ran}
use Rattle.session_acts.specs.Laws.{Adds}
use Rattle.session_acts.specs.Met.{Met, acts}
use Rattle.session_acts.specs.Relayed.{relayed, then_relay}
use Rattle.session_acts.specs.Passing.{WasGiven, over_last, up_after}
use Rattle.session_acts.specs.Relaying.{Flow, Stuck, Through}
use Rattle.session_acts.specs.Session.{Held, deeds_of, owed}
use Rattle.session_acts.specs.World.{Speaker, World}
use Rattle.session_acts.specs.declared.cause.Cause.{Cause}

-- the dialogue stopped, and there was no relay
pub record StopsBefore {Origin P : Type 0} (rows : PlaceTable (acts Origin) P) (first : Row (acts Origin) P) {old new : World Origin} {ending : Ending} (held : Held (relayed rows) (then_relay first) old new ending) : Type 0 where
  pub cause : Cause
  pub talk : Ran rows first (λ (done : Unit {0}). Over) old held.mid (Err cause)
  pub is : held.dialogue ≡ Err cause
  pub deeds : deeds_of held ≡ deeds_ran talk ++ owed held.mid held.answer

-- whether a session goes on to what is owed, or stopped at the relay
abbrev pub told_by : Result (Option Through) Stuck → Result (Unit {0}) Cause
told_by (Ok through) = Ok tt
told_by (Err stuck) = Err stuck.cause

-- the dialogue came to its end, then there was one relay, and then nothing but what was owed
pub record RelaysLast {Origin P : Type 0} (rows : PlaceTable (acts Origin) P) (first : Row (acts Origin) P) {old new : World Origin} {ending : Ending} (held : Held (relayed rows) (then_relay first) old new ending) : Type 0 where
  pub before : World Origin
  pub talk : Ran rows first (λ (done : Unit {0}). Over) old before (Ok (tt {0}))
  pub outcome : Outcome Relay
  pub met : Met Relay outcome before held.mid
  pub is : held.dialogue ≡ told_by outcome
  pub deeds : deeds_of held ≡ deeds_ran talk ++ (record { act = Relay; outcome = outcome } ∷ owed held.mid held.answer)

-- nothing is left of what one says, all of it was given to the other, and each was told that no more comes
pub record IsThrough (off on : Way) (old new : Speaker) : Type 0 where
  pub over : IsOver new.inlet.left
  pub given : off.given ≡ off.taken
  pub shut : new.outlet.shut ≡ option_map (λ _. true) old.outlet.shut

-- One was taken of for a way, and the other given: the way began with what was pending of the one, and went on with what the
-- relay took of it, and what it gave is what the other was given. Nothing of the one is pending then.
pub record Conveys (way : Way) (one other one_after other_after : Speaker) : Type 0 where
  pub bytes : List ℕ
  pub took : one_after.inlet.taken ≡ grown one.inlet.taken bytes
  pub grew : Grew (length bytes) one.inlet.amount one_after.inlet.amount
  pub all : way.taken ≡ one.reader.pending ++ bytes
  pub none : one_after.reader.pending ≡ []
  pub gave : other_after.outlet.given ≡ grown other.outlet.given way.given

-- both ways of a relay, over the link that is up
pub record ConveysBoth {Origin : Type 0} (flow : Flow) (old new : World Origin) : Type 0 where
  pub link : Speaker
  pub link_after : Speaker
  pub was : old.server.link ≡ Some link
  pub is : new.server.link ≡ Some link_after
  pub up : Conveys flow.up old.client link new.client link_after
  pub down : Conveys flow.down link old.client link_after new.client

-- Nothing is left of what either side says, all of it was given to the other, and each was told that no more comes.
pub record CarriesAll {Origin : Type 0} (flow : Flow) (old new : World Origin) : Type 0 where
  pub both : ConveysBoth flow old new
  pub client : IsThrough flow.up flow.down old.client new.client
  pub server : IsThrough flow.down flow.up both.link both.link_after

-- The link over which was relayed is the last that was hung up, where the dialer tells. Its server was given what the
-- dialogue passed to it, and then a front of what was taken of the client for the way.
pub record GivesLast {Origin : Type 0} (talk : List Deed) (way : Way) (old new : World Origin) : Type 0 where
  pub passed : List ℕ
  pub is_passed : over_last up_after None talk ≡ Some passed
  pub earlier : List LinkView
  pub link : LinkView
  pub ended : Adds (earlier ++ link ∷ []) old.server.dialer.ended new.server.dialer.ended
  pub given : WasGiven (passed ++ way.given) link
