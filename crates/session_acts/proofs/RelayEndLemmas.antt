-- How a session ends at its relay, and what that says of the ways.
use Rattle.std.proofs.Common.{◌≡◌, refl, sym, ap, subst, ◌∙◌, ℕ, Bool, true, false, List, ◌++◌, ◌⊎◌, inl, inr, Option, Some, None, Result, Ok, Err, append-nil}
use Rattle.std.specs.Option.{option_map}
use Rattle.std.specs.Prelude.{IfSome}
use Rattle.auth_events.specs.declared.port.PortFault.{PortFault}
use Rattle.auth_events.specs.declared.reply.Reply.{Reply}
use Rattle.fw_types.specs.declared.ending.Ending.{Ending}
use Rattle.fw_types.specs.declared.ending.Ending.TheVariants as endings
use Rattle.relay_ways.specs.Carried.{Way, is_write_fault}
use Rattle.relay_ways.specs.Ending as two_ways
use Rattle.relay_ways.specs.declared.way_end.WayEnd.{WayEnd}
use Rattle.relay_ways.specs.declared.way_end.WayEnd.TheVariants as ways
use Rattle.session_acts.specs.Acts.{Outcome}
use Rattle.session_acts.specs.Acts.Act.{Relay}
use Rattle.session_acts.specs.RelayFronts.{IsFront, may_lose_down, may_lose_up}
use Rattle.session_acts.specs.RelayLast.{told_by}
use Rattle.session_acts.specs.Relaying.{Flow, Through, flow_of, stops_by}
use Rattle.session_acts.specs.Session.{ending_by, ending_of}
use Rattle.session_acts.specs.declared.cause.Cause.{Cause}
use Rattle.session_acts.specs.declared.cause.Cause.TheVariants as causes
use Rattle.session_acts.proofs.RelayLemmas.{both_done}

-- ---- endings

-- a session that stops for the cause of an ending ends so
pub stopped_ending : (ending : Ending) (cause : Cause) → stops_by ending ≡ Err cause → ending_by cause ≡ ending
stopped_ending endings.Done cause is = absurd (cc)
stopped_ending (endings.Denied line) cause is = absurd (cc)
stopped_ending endings.ClientFault cause is = let same : cause ≡ causes.ClientFault = cc in ap ending_by same
stopped_ending endings.ServerFault cause is = let same : cause ≡ causes.ServerFault = cc in ap ending_by same
stopped_ending endings.LogFault cause is = let same : cause ≡ causes.LogFault = cc in ap ending_by same
stopped_ending endings.AuthFault cause is = let same : cause ≡ causes.AuthFault = cc in ap ending_by same
stopped_ending endings.Idle cause is = let same : cause ≡ causes.Idle = cc in ap ending_by same
stopped_ending endings.NoRoute cause is = let same : cause ≡ causes.NoRoute = cc in ap ending_by same
stopped_ending endings.Spent cause is = let same : cause ≡ causes.Spent = cc in ap ending_by same
stopped_ending endings.NoMemory cause is = let same : cause ≡ causes.NoMemory = cc in ap ending_by same

abbrev pub ends_by_ways : (flow : Flow) → Ending
ends_by_ways flow = two_ways.ending_of flow.up.end flow.down.end

through_ends : (through : Through) → endings.Done ≡ ends_by_ways through.flow
through_ends through = sym (ap (λ (e : WayEnd). two_ways.ending_of e through.flow.down.end) through.up ∙ ap (λ (e : WayEnd). two_ways.ending_of ways.Done e) through.down)

some_same : (one other : Flow) → Some one ≡ Some other → one ≡ other
some_same one other same = cc

-- a session that ends at its relay, with none open at the port, ends by the ends of the ways
pub relay_ends : (outcome : Outcome Relay) (flow : Flow) (answer : Result Reply PortFault) → flow_of outcome ≡ Some flow → ending_of (told_by outcome) None answer ≡ ends_by_ways flow
relay_ends (Ok None) flow answer is = absurd (cc)
relay_ends (Ok (Some through)) flow answer is = through_ends through ∙ ap ends_by_ways (some_same through.flow flow is)
relay_ends (Err stuck) flow answer is = stopped_ending (ends_by_ways stuck.flow) stuck.cause stuck.is ∙ ap ends_by_ways (some_same stuck.flow flow is)

-- both ways are done
pub record WaysDone (flow : Flow) : Type 0 where
  pub up : flow.up.end ≡ ways.Done
  pub down : flow.down.end ≡ ways.Done

-- where one may be open there, either both ways are done, or it ends by their ends
abbrev pub EndsSo : Flow → Ending → Type 0
EndsSo flow ending = WaysDone flow ⊎ (ending ≡ ends_by_ways flow)

pub relay_ends_so : (outcome : Outcome Relay) (flow : Flow) (opened : Option ℕ) (answer : Result Reply PortFault) (ending : Ending) → flow_of outcome ≡ Some flow → ending ≡ ending_of (told_by outcome) opened answer → EndsSo flow ending
relay_ends_so (Ok None) flow opened answer ending is ends = absurd (cc)
relay_ends_so (Ok (Some through)) flow opened answer ending is ends =
    inl (subst (λ (f : Flow). WaysDone f) (some_same through.flow flow is) (record { up = through.up; down = through.down }))
relay_ends_so (Err stuck) flow opened answer ending is ends = inr (ends ∙ relay_ends (Err stuck) flow answer is)

-- and then it is done only if both are
pub done_ways : (flow : Flow) (ending : Ending) → EndsSo flow ending → ending ≡ endings.Done → WaysDone flow
done_ways flow ending (inl done) is = done
done_ways flow ending (inr ends) is =
    let both = both_done flow.up.end flow.down.end (ap stops_by (sym ends ∙ is)) in
    record { up = both.first; down = both.second }

-- ---- fronts

pub front_by : (may_lose : Bool) (way : Way) → (may_lose ≡ false → is_write_fault way.end ≡ false) → IsFront may_lose way.given way.taken
front_by may_lose way lost = record {
  lost = way.lost;
  cut = way.cut;
  short = way.short;
  whole = λ none. sym (way.cut ∙ ap (λ (z : List ℕ). way.given ++ z) (way.whole (lost none)) ∙ append-nil way.given);
}

pub up_lost : (up down : WayEnd) → may_lose_up (two_ways.ending_of up down) ≡ false → is_write_fault up ≡ false
up_lost ways.Done down is = refl
up_lost ways.ReadFault down is = refl
up_lost ways.Idle down is = refl
up_lost ways.Spent down is = refl
up_lost ways.WriteFault ways.Done is = absurd (cc)
up_lost ways.WriteFault ways.ReadFault is = absurd (cc)
up_lost ways.WriteFault ways.WriteFault is = absurd (cc)
up_lost ways.WriteFault ways.Idle is = absurd (cc)
up_lost ways.WriteFault ways.Spent is = absurd (cc)

pub down_lost : (up down : WayEnd) → may_lose_down (two_ways.ending_of up down) ≡ false → is_write_fault down ≡ false
down_lost up ways.Done is = refl
down_lost up ways.ReadFault is = refl
down_lost up ways.Idle is = refl
down_lost up ways.Spent is = refl
down_lost ways.Done ways.WriteFault is = absurd (cc)
down_lost ways.ReadFault ways.WriteFault is = absurd (cc)
down_lost ways.WriteFault ways.WriteFault is = absurd (cc)
down_lost ways.Idle ways.WriteFault is = absurd (cc)
down_lost ways.Spent ways.WriteFault is = absurd (cc)

-- each way gives a front, whatever the ending
pub front_up : (flow : Flow) (ending : Ending) → EndsSo flow ending → IsFront (may_lose_up ending) flow.up.given flow.up.taken
front_up flow ending (inl done) = front_by (may_lose_up ending) flow.up (λ none. ap is_write_fault done.up)
front_up flow ending (inr ends) = front_by (may_lose_up ending) flow.up (λ none. up_lost flow.up.end flow.down.end (ap may_lose_up (sym ends) ∙ none))

pub front_down : (flow : Flow) (ending : Ending) → EndsSo flow ending → IsFront (may_lose_down ending) flow.down.given flow.down.taken
front_down flow ending (inl done) = front_by (may_lose_down ending) flow.down (λ none. ap is_write_fault done.down)
front_down flow ending (inr ends) = front_by (may_lose_down ending) flow.down (λ none. down_lost flow.up.end flow.down.end (ap may_lose_down (sym ends) ∙ none))

-- a sink that was told the end, if it tells
pub is_shut : (before : Option Bool) → IfSome (option_map (λ (shut : Bool). true) before) (λ (shut : Bool). shut ≡ true)
is_shut None = tt
is_shut (Some shut) = refl
