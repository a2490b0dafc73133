-- What the dialer was asked, and which links it got back.
use Rattle.std.proofs.Common.{arith, ◌≡◌, refl, sym, ap, subst, ◌∙◌, ℕ, ◌+◌, Bool, true, false, List, [], ◌∷◌, ◌++◌, length, Option, Some, None, Result, Ok, Err, append_assoc, append-nil}
use Rattle.std.proofs.lemmas.List.{length-append}
use Rattle.std.proofs.lemmas.Option.{none-some}
use Rattle.fw_outside.specs.DialerView.{ComesUp, DialerView, LetsGo, LinkView, Refuses}
use Rattle.fw_outside.specs.SinkView.{SinkView}
use Rattle.fw_outside.specs.SourceView.{SourceView}
use Rattle.fw_outside.specs.ToldList.{AddsOne, grown}
use Rattle.fw_outside.specs.declared.ask.Ask as asks
use Rattle.fw_outside.specs.declared.ask.Ask.TheVariants.{Back, Door, Main, Side}
use Rattle.fw_outside.specs.declared.heard.Heard.{Heard}
use Rattle.fw_types.specs.declared.dest.Dest.{Dest}
use Rattle.session_acts.specs.Relaying.{Flow, flow_of}
use Rattle.session_acts.specs.Acts.{Act, Front, Outcome, Unreplied}
use Rattle.session_acts.specs.Acts.Act.{Hear, Say, Try, Log, Note, Ask, Renew, Dial, Reach, Take, Pass, HangUp, Relay, Deposit, Allot, TakeReply, OpenDoor, Join, Copy, Part}
use Rattle.session_acts.specs.Deeds.{Gains}
use Rattle.session_acts.specs.Laws.{Adds, CallsDialer, LinksDialer, Wanted, called, linked, near_asked, pair_asked, pair_came, pair_now, up_if, up_now, ups_now}
use Rattle.session_acts.specs.Laws.Wanted.{ForMain, ForDoor, ForSide, ForNear}
use Rattle.session_acts.specs.Met.{Clears, ConnectsIf, Dialing, Hanging, Met, Passes, ServerRelays, ServerReplies, Takes}
use Rattle.session_acts.specs.World.{Pair, Server, Speaker, World}
use Rattle.session_acts.specs.declared.silence.Silence.{Silence}
use Rattle.relay_ways.specs.Carried.{Way}
use Rattle.session_acts.specs.Joining.{CopiesBy, Joining, JoinsNoNear, JoinsNoSide, JoinsSo, JoinsUp, LetsBothGo, LetsPairGo, NearRefused, NearUp, OpensDoor, OpensNone, Parting, pair_after}
use Rattle.session_acts.specs.declared.joined.Joined.{Joined}
use Rattle.session_acts.specs.declared.joined.Joined.TheVariants.{Up, NoSide, NoNear, Unready}
use Rattle.session_acts.specs.declared.replied.Replied.{Replied}
use Rattle.session_acts.specs.declared.reply_use.ReplyUse.{ReplyUse}
use Rattle.session_acts.specs.declared.target.Target.{Target}
use Rattle.session_acts.specs.declared.target.Target.TheVariants.{Addr, AtDoor}
use Rattle.session_acts.specs.declared.toward.Toward.{Toward}
use Rattle.session_acts.proofs.CameLemmas.{came_one}
use Rattle.fw_outside.proofs.CountLemmas.{grew_by, grew_none}

-- ---- lists that are told

pub adds_none : {A : Type 0} (all : Option (List A)) → Adds [] all all
adds_none None = tt
adds_none {A} (Some all) = ap (λ (z : List A). Some z) (append-nil all)

pub grown_both : {A : Type 0} (all : Option (List A)) (first more : List A) → grown (grown all first) more ≡ grown all (first ++ more)
grown_both None first more = refl
grown_both {A} (Some all) first more = ap (λ (z : List A). Some z) (append_assoc all first more)

pub adds_both : {A : Type 0} (first more : List A) (old mid new : Option (List A)) → Adds first old mid → Adds more mid new → Adds (first ++ more) old new
adds_both first more old mid None a b = tt
adds_both first more old None (Some all) a b = absurd (none-some all b)
adds_both {A} first more old (Some between) (Some all) a b =
    sym (grown_both old first more) ∙ ap (λ (z : Option (List A)). grown z more) a ∙ b

pub adds_one : {A : Type 0} (one : A) (old new : Option (List A)) → AddsOne one old new → Adds (one ∷ []) old new
adds_one one old None a = tt
adds_one one old (Some all) a = a

-- ---- hanging up and dialing

-- a dialer was asked for these, and got these links back
record Turned (calls : List asks.Ask) (links : List LinkView) (old new : DialerView) : Type 0 where
  asked : Adds calls old.asked new.asked
  ended : Adds links old.ended new.ended

turned_none : (dialer : DialerView) → Turned [] [] dialer dialer
turned_none dialer = record { asked = adds_none dialer.asked; ended = adds_none dialer.ended }

-- hanging up a link that is up
record Cleared (link : Option Speaker) (old new : DialerView) : Type 0 where
  links : List LinkView
  turned : Turned [] links old new
  each : length links ≡ up_now link

cleared : (link : Option Speaker) (old new : DialerView) → Clears link old new → Cleared link old new
cleared None old new clears = record { links = []; turned = subst (λ (d : DialerView). Turned [] [] old d) (sym clears) (turned_none old); each = refl }
cleared (Some link) old new clears = record {
  links = record { from = link.inlet; to = link.outlet } ∷ [];
  turned =
      subst (λ (d : DialerView). Turned [] (record { from = link.inlet; to = link.outlet } ∷ []) old d) (sym clears.is) (record { asked = adds_none old.asked; ended = adds_one (record { from = link.inlet; to = link.outlet }) old.ended clears.ended clears.adds });
  each = refl;
}

-- one behind the other
turned_both : (calls more : List asks.Ask) (links others : List LinkView) (old mid new : DialerView) → Turned calls links old mid → Turned more others mid new → Turned (calls ++ more) (links ++ others) old new
turned_both calls more links others old mid new a b = record { asked = adds_both calls more old.asked mid.asked new.asked a.asked b.asked; ended = adds_both links others old.ended mid.ended new.ended a.ended b.ended }

-- a data link was let go
let_go : (from : SourceView) (to : SinkView) (old new : DialerView) → LetsGo from to old new → Turned [] (record { from = from; to = to } ∷ []) old new
let_go from to old new h =
    subst (λ (d : DialerView). Turned [] (record { from = from; to = to } ∷ []) old d) (sym h.is) (record { asked = adds_none old.asked; ended = adds_one (record { from = from; to = to }) old.ended h.ended h.adds })

both_gone : (pair : Pair) (old new : DialerView) → LetsBothGo pair old new → Turned [] (pair.far ∷ pair.near ∷ []) old new
both_gone pair old new h =
    turned_both [] [] (pair.far ∷ []) (pair.near ∷ []) old h.middle new (let_go pair.far.from pair.far.to old h.middle h.far) (let_go pair.near.from pair.near.to h.middle new h.near)

-- letting a pair go that is up
record Apart (pair : Option Pair) (old new : DialerView) : Type 0 where
  links : List LinkView
  turned : Turned [] links old new
  each : length links ≡ pair_now pair

set_apart : (pair : Option Pair) (old new : DialerView) → LetsPairGo pair old new → Apart pair old new
set_apart None old new lets = record { links = []; turned = subst (λ (d : DialerView). Turned [] [] old d) (sym lets) (turned_none old); each = refl }
set_apart (Some pair) old new lets = record { links = pair.far ∷ pair.near ∷ []; turned = both_gone pair old new lets; each = refl }

-- both, before a main link is dialed
record AllCleared (server : Server) (new : DialerView) : Type 0 where
  links : List LinkView
  turned : Turned [] links server.dialer new
  each : length links ≡ ups_now server

all_cleared : (server : Server) (apart new : DialerView) → LetsPairGo server.pair server.dialer apart → Clears server.link apart new → AllCleared server new
all_cleared server apart new lets clears =
    let first = set_apart server.pair server.dialer apart lets in
    let then_cleared = cleared server.link apart new clears in
    let lengths = length-append first.links then_cleared.links in
    let one : length first.links ≡ pair_now server.pair = first.each in
    let two : length then_cleared.links ≡ up_now server.link = then_cleared.each in
    record { links = first.links ++ then_cleared.links; turned = turned_both [] [] first.links then_cleared.links server.dialer apart new first.turned then_cleared.turned; each = omega (arith, lengths, one, two) }

-- dialing, where no link is up
record Called (dest : Dest) (up : Bool) (old : DialerView) (new : Server) : Type 0 where
  turned : Turned (Main dest ∷ []) [] old new.dialer
  each : ups_now new ≡ length (up_if dest up)

connected : (dest : Dest) (up : Bool) (old : DialerView) (new : Server) → ConnectsIf up dest old new → Called dest up old new
connected dest true old new connects =
    subst (λ (s : Server). Called dest true old s) (sym connects.is) (record {
      turned =
          subst (λ (d : DialerView). Turned (Main dest ∷ []) [] old d) (sym connects.up.is) (record { asked = adds_one (Main dest) old.asked connects.up.asked connects.up.adds; ended = adds_none old.ended });
      each = refl;
    })
connected dest false old new connects =
    subst (λ (s : Server). Called dest false old s) (sym connects.is) (record {
      turned =
          subst (λ (d : DialerView). Turned (Main dest ∷ []) [] old d) (sym connects.refused.is) (record { asked = adds_one (Main dest) old.asked connects.refused.asked connects.refused.adds; ended = adds_none old.ended });
      each = refl;
    })

-- what an act came to at the server
record Served (calls : List asks.Ask) (ups : List Wanted) (old new : Server) : Type 0 where
  links : List LinkView
  turned : Turned calls links old.dialer new.dialer
  each : length links + ups_now new ≡ ups_now old + length ups

served_same : (old new : Server) → new ≡ old → Served [] [] old new
served_same old new is = subst (λ (s : Server). Served [] [] old s) (sym is) (record { links = []; turned = turned_none old.dialer; each = omega (arith) })

-- the link that is up stays so
served_link : (old new : Server) (link speaker : Speaker) → old.link ≡ Some link → new ≡ record old { link = Some speaker } → Served [] [] old new
served_link old new link speaker up is =
    let one : up_now old.link ≡ 1 = ap up_now up in
    subst (λ (s : Server). Served [] [] old s) (sym is) (record { links = []; turned = turned_none old.dialer; each = omega (arith, one) })

served_dial : (dest : Dest) (up : Bool) (old new : Server) → Dialing dest up old new → Served (Main dest ∷ []) (up_if dest up) old new
served_dial dest up old new dialing =
    let first = all_cleared old dialing.apart dialing.cleared dialing.lets dialing.clears in
    let then_called = connected dest up dialing.cleared new dialing.connects in
    let nothing = append-nil first.links in
    let before : length first.links ≡ ups_now old = first.each in
    let after : ups_now new ≡ length (up_if dest up) = then_called.each in
    record {
      links = first.links;
      turned = record {
        asked = adds_both [] (Main dest ∷ []) old.dialer.asked dialing.cleared.asked new.dialer.asked first.turned.asked then_called.turned.asked;
        ended = subst (λ (l : List LinkView). Adds l old.dialer.ended new.dialer.ended) nothing (adds_both first.links [] old.dialer.ended dialing.cleared.ended new.dialer.ended first.turned.ended then_called.turned.ended);
      };
      each = omega (arith, before, after);
    }

served_hanging : (old new : Server) → Hanging old new → Served [] [] old new
served_hanging old new hanging =
    let first = all_cleared old hanging.apart hanging.dialer hanging.lets hanging.clears in
    let before : length first.links ≡ ups_now old = first.each in
    subst (λ (s : Server). Served [] [] old s) (sym hanging.is) (record { links = first.links; turned = first.turned; each = omega (arith, before) })

served_takes : (outcome : Result Heard Silence) (link : Option Speaker) (old new : Server) → old.link ≡ link → Takes outcome link old new → Served [] [] old new
served_takes outcome None old new is takes = served_same old new takes.1
served_takes outcome (Some link) old new is takes = served_link old new link takes.speaker is takes.is

served_passes : (text : List ℕ) (outcome : Result (Unit {0}) (Front text)) (link : Option Speaker) (old new : Server) → old.link ≡ link → Passes text outcome link old new → Served [] [] old new
served_passes text outcome None old new is passes = served_same old new passes.1
served_passes text outcome (Some link) old new is passes = served_link old new link passes.speaker is passes.is

served_relays : (flow : Option Flow) (link : Option Speaker) (old new : Server) → old.link ≡ link → ServerRelays flow link old new → Served [] [] old new
served_relays None None old new is h = served_same old new h
served_relays None (Some link) old new is h = absurd h
served_relays (Some flow) None old new is h = absurd h
served_relays (Some flow) (Some link) old new is h = served_link old new link h.speaker is h.is

-- a reply leaves the link up
served_replies : {how : ReplyUse} (outcome : Result (Replied × List ℕ) (Unreplied how)) (link : Option Speaker) (old new : Server) → old.link ≡ link → ServerReplies outcome link old new → Served [] [] old new
served_replies outcome None old new is h = served_same old new h.1
served_replies outcome (Some link) old new is h = served_link old new link h.speaker is h.is

-- ---- data links

served_parting : (old new : Server) → Parting old new → Served [] [] old new
served_parting old new h =
    let first = set_apart old.pair old.dialer h.dialer h.lets in
    let before : length first.links ≡ pair_now old.pair = first.each in
    subst (λ (s : Server). Served [] [] old s) (sym h.is) (record { links = first.links; turned = first.turned; each = omega (arith, before) })

served_opens : (addr : List ℕ) (port : ℕ) (old new : Server) → OpensDoor addr port old new → Served (Door (Some (addr, port)) ∷ []) [] old new
served_opens addr port old new h =
    subst (λ (s : Server). Served (Door (Some (addr, port)) ∷ []) [] old s) (sym h.is) (record {
      links = [];
      turned =
          subst (λ (d : DialerView). Turned (Door (Some (addr, port)) ∷ []) [] old.dialer d) (sym h.opens.is) (record { asked = adds_one (Door (Some (addr, port))) old.dialer.asked h.opens.asked h.opens.adds; ended = adds_none old.dialer.ended });
      each = omega (arith);
    })

turned_refused : (ask : asks.Ask) (old new : DialerView) → Refuses ask old new → Turned (ask ∷ []) [] old new
turned_refused ask old new h =
    subst (λ (d : DialerView). Turned (ask ∷ []) [] old d) (sym h.is) (record { asked = adds_one ask old.asked h.asked h.adds; ended = adds_none old.ended })

turned_up : (ask : asks.Ask) (from : SourceView) (to : SinkView) (old new : DialerView) → ComesUp ask from to old new → Turned (ask ∷ []) [] old new
turned_up ask from to old new h =
    subst (λ (d : DialerView). Turned (ask ∷ []) [] old d) (sym h.is) (record { asked = adds_one ask old.asked h.asked h.adds; ended = adds_none old.ended })

served_opens_none : (old new : Server) → OpensNone old new → Served (Door None ∷ []) [] old new
served_opens_none old new h =
    subst (λ (s : Server). Served (Door None ∷ []) [] old s) (sym h.is) (record { links = []; turned = turned_refused (Door None) old.dialer h.dialer h.refused; each = omega (arith) })

turned_near : (target : Target) (from : SourceView) (to : SinkView) (old new : DialerView) → NearUp target from to old new → Turned (near_asked target) [] old new
turned_near (Addr addr port) from to old new h = turned_up (Back addr port) from to old new h
turned_near AtDoor from to old new h = subst (λ (d : DialerView). Turned [] [] old d) (sym h.is) (record { asked = adds_none old.asked; ended = adds_none old.ended })

turned_away : (target : Target) (old new : DialerView) → NearRefused target old new → Turned (near_asked target) [] old new
turned_away (Addr addr port) old new h = turned_refused (Back addr port) old new h
turned_away AtDoor old new h = subst (λ (d : DialerView). Turned [] [] old d) (sym h.is) (record { asked = adds_none old.asked; ended = adds_none old.ended })

-- two links come up where no pair is
served_joins : (dest : Dest) (target : Target) (joined : Joined) (old new : Server) → old.pair ≡ None → JoinsSo dest target joined old new → Served (pair_asked dest target joined) (pair_came dest target joined) old new
served_joins dest target Up old new none h =
    let j : JoinsUp dest target old new = h.joins in
    let zero_up : pair_now old.pair ≡ 0 = ap pair_now none in
    subst (λ (s : Server). Served (Side dest ∷ near_asked target) (ForSide dest ∷ ForNear target ∷ []) old s) (sym j.is) (record {
      links = [];
      turned = turned_both (Side dest ∷ []) (near_asked target) [] [] old.dialer j.middle j.dialer (turned_up (Side dest) j.pair.far.from j.pair.far.to old.dialer j.middle j.far) (turned_near target j.pair.near.from j.pair.near.to j.middle j.dialer j.near);
      each = omega (arith, zero_up);
    })
served_joins dest target NoSide old new none h =
    let j : JoinsNoSide dest target old new = h.joins in
    subst (λ (s : Server). Served (Side dest ∷ []) [] old s) (sym j.is) (record { links = []; turned = turned_refused (Side dest) old.dialer j.dialer j.refused; each = omega (arith) })
served_joins dest target NoNear old new none h =
    let j : JoinsNoNear dest target old new = h.joins in
    let first = turned_both (Side dest ∷ []) (near_asked target) [] [] old.dialer j.middle j.later (turned_up (Side dest) j.link.from j.link.to old.dialer j.middle j.far) (turned_away target j.middle j.later j.refused) in
    let all : Turned ((Side dest ∷ near_asked target) ++ []) (j.link ∷ []) old.dialer j.dialer = turned_both (Side dest ∷ near_asked target) [] [] (j.link ∷ []) old.dialer j.later j.dialer first (let_go j.link.from j.link.to j.later j.dialer j.lets) in
    subst (λ (s : Server). Served (Side dest ∷ near_asked target) (ForSide dest ∷ []) old s) (sym j.is) (record {
      links = j.link ∷ [];
      turned = subst (λ (c : List asks.Ask). Turned c (j.link ∷ []) old.dialer j.dialer) (append-nil (Side dest ∷ near_asked target)) all;
      each = omega (arith);
    })
served_joins dest target Unready old new none h = served_same old new h.is

served_joining : (dest : Dest) (target : Target) (joined : Joined) (old new : Server) → Joining dest target joined old new → Served (pair_asked dest target joined) (pair_came dest target joined) old new
served_joining dest target joined old new h =
    let first = served_parting old h.apart h.parts in
    let second = served_joins dest target joined h.apart new (ap (λ (s : Server). s.pair) h.parts.is) h.joins in
    let lengths = length-append first.links second.links in
    let before = first.each in
    let after = second.each in
    record { links = first.links ++ second.links; turned = turned_both [] (pair_asked dest target joined) first.links second.links old.dialer h.apart.dialer new.dialer first.turned second.turned; each = omega (arith, lengths, before, after) }

served_copies : (toward : Toward) (carried : Option Way) (pair : Option Pair) (old new : Server) → old.pair ≡ pair → CopiesBy toward carried pair old new → Served [] [] old new
served_copies toward None None old new is h = served_same old new h
served_copies toward None (Some pair) old new is h = absurd h
served_copies toward (Some way) None old new is h = absurd h
served_copies toward (Some way) (Some pair) old new is h =
    let after = pair_after toward h.from h.to pair in
    let two : pair_now old.pair ≡ 2 = ap pair_now is in
    subst (λ (s : Server). Served [] [] old s) (sym h.is) (record { links = after.far ∷ after.near ∷ []; turned = both_gone after old.dialer h.dialer h.lets; each = omega (arith, two) })

module _ {Origin : Type 0} where
  served_one : (a : Act) (outcome : Outcome a) (old new : World Origin) → Met a outcome old new → Served (called a outcome) (linked a outcome) old.server new.server
  served_one (Dial dest) (Ok up) old new met = served_dial dest up old.server new.server met.server
  served_one (Dial dest) (Err never) old new met = absurd never
  served_one (Reach dest) (Ok up) old new met = served_dial dest true old.server new.server met.server
  served_one (Reach dest) (Err halt) old new met = served_dial dest false old.server new.server met.server
  served_one Take outcome old new met = served_takes outcome old.server.link old.server new.server refl met.server
  served_one (Pass text) outcome old new met = served_passes text outcome old.server.link old.server new.server refl met.server
  served_one HangUp (Ok done) old new met = served_hanging old.server new.server met.server
  served_one HangUp (Err never) old new met = absurd never
  served_one Relay outcome old new met = served_relays (flow_of outcome) old.server.link old.server new.server refl met.server
  served_one (Hear form) outcome old new met = served_same old.server new.server met.server
  served_one (Say text) outcome old new met = served_same old.server new.server met.server
  served_one (Try text) outcome old new met = served_same old.server new.server met.server
  served_one (Log text) outcome old new met = served_same old.server new.server met.server
  served_one (Deposit sender rcpts words most) outcome old new met = served_same old.server new.server met.server
  served_one Allot outcome old new met = served_same old.server new.server met.server
  served_one (TakeReply how) outcome old new met = served_replies outcome old.server.link old.server new.server refl met.server
  served_one OpenDoor (Ok (Some at)) old new met = served_opens at.0 at.1 old.server new.server met.server
  served_one OpenDoor (Ok None) old new met = served_opens_none old.server new.server met.server
  served_one OpenDoor (Err never) old new met = absurd never
  served_one (Join dest target) (Ok joined) old new met = served_joining dest target joined old.server new.server met.server
  served_one (Join dest target) (Err never) old new met = absurd never
  served_one (Copy toward) (Ok carried) old new met = served_copies toward carried old.server.pair old.server new.server refl met.server
  served_one (Copy toward) (Err never) old new met = absurd never
  served_one Part (Ok done) old new met = served_parting old.server new.server met.server
  served_one Part (Err never) old new met = absurd never
  served_one (Note text) outcome old new met = served_same old.server new.server met.server
  served_one (Ask request) outcome old new met = served_same old.server new.server met.server
  served_one (Renew name hash) outcome old new met = served_same old.server new.server met.server

  pub called_gains : Gains Origin called CallsDialer
  called_gains = record {
    none = λ world. adds_none world.server.dialer.asked;
    both = λ first more old mid new a b. adds_both first more old.server.dialer.asked mid.server.dialer.asked new.server.dialer.asked a b;
    one = λ a outcome old new met. (served_one a outcome old new met).turned.asked;
  }

  linked_both : (first more : List Wanted) (old mid new : World Origin) → LinksDialer first old mid → LinksDialer more mid new → LinksDialer (first ++ more) old new
  linked_both first more old mid new a b =
      let lengths = length-append a.links b.links in
      let ups = length-append first more in
      let before = a.each in
      let after = b.each in
      record {
        links = a.links ++ b.links;
        ended = adds_both a.links b.links old.server.dialer.ended mid.server.dialer.ended new.server.dialer.ended a.ended b.ended;
        each = omega (arith, lengths, ups, before, after);
        came = grew_by (length first) (length more) (length (first ++ more)) old.server.dialer.came mid.server.dialer.came new.server.dialer.came ups a.came b.came;
      }

  pub linked_gains : Gains Origin linked LinksDialer
  linked_gains = record {
    none = λ world. record { links = []; ended = adds_none world.server.dialer.ended; each = omega (arith); came = grew_none world.server.dialer.came };
    both = linked_both;
    one = λ a outcome old new met. let served = served_one a outcome old new met in record { links = served.links; ended = served.turned.ended; each = served.each; came = came_one a outcome old new met };
  }
