-- What servers were given is what was passed over their links.
use Rattle.std.proofs.Common.{◌≡◌, refl, sym, ap, subst, ◌∙◌, ℕ, Bool, true, false, List, [], ◌∷◌, ◌++◌, Option, Some, None, Result, Ok, Err}
use Rattle.fw_outside.specs.SinkView.{SinkView}
use Rattle.fw_outside.specs.ToldList.{IsOver, grown}
use Rattle.fw_outside.specs.declared.heard.Heard.{Heard}
use Rattle.fw_types.specs.declared.ending.Ending.{Ending}
use Rattle.fw_acts.specs.Acts.{Row, PlaceTable}
use Rattle.session_acts.specs.Relaying.{Flow, flow_of, given_up}
use Rattle.session_acts.proofs.DeviceLemmas.{supplies_given}
use Rattle.session_acts.specs.Acts.{Act, Front, Outcome, Unreplied}
use Rattle.session_acts.specs.Acts.Act.{Hear, Say, Try, Log, Note, Ask, Renew, Dial, Reach, Take, Pass, HangUp, Relay, Deposit, Allot, TakeReply, OpenDoor, Join, Copy, Part}
use Rattle.session_acts.specs.Laws.{got}
use Rattle.session_acts.specs.Met.{Carrying, IsTold, Met, Passes, ServerRelays, ServerReplies, Takes, acts}
use Rattle.session_acts.specs.Passing.{GivesServers, IsGiven, WasGiven, copy_given, hung_by, paired_after, passed_over, up_after, up_with}
use Rattle.session_acts.specs.Session.{Held, deeds_of}
use Rattle.session_acts.specs.World.{IsUnlinked, Pair, Server, Speaker, World}
use Rattle.session_acts.specs.declared.form.Form.TheVariants.{Lines}
use Rattle.session_acts.specs.declared.silence.Silence.{Silence}
use Rattle.session_acts.proofs.DeedLemmas.{held_deeds}
use Rattle.session_acts.proofs.OverLinksLemmas.{Holds, IsFresh, PairHolds, Step, Tale, all_steps, dial_step, hang_step, link_step, same_step, unlinked}
use Rattle.session_acts.proofs.ToldLemmas.{gets_grew, hears_outlet}
use Rattle.fw_outside.specs.SourceView.{SourceView}
use Rattle.relay_ways.specs.Carried.{Supplies, Way}
use Rattle.session_acts.specs.ServersHeard.{reply_text}
use Rattle.session_acts.proofs.DepositLemmas.{draws_outlet}
use Rattle.session_acts.specs.Joining.{copied_from, copied_to, pair_after}
use Rattle.session_acts.specs.declared.joined.Joined.TheVariants.{Up, NoSide, NoNear, Unready}
use Rattle.session_acts.specs.declared.replied.Replied.{Replied}
use Rattle.session_acts.specs.declared.reply_use.ReplyUse.{ReplyUse}
use Rattle.session_acts.specs.declared.toward.Toward.{Toward}
use Rattle.session_acts.specs.declared.toward.Toward.TheVariants as towards
use Rattle.session_acts.proofs.OverSideLemmas.{CopiedSo, copy_step, door_step, join_step, no_door_step, part_step}
use Rattle.session_acts.proofs.ReplyLemmas.{reply_draws}

-- a new sink has nothing
pub new_given : (given : Option (List ℕ)) → IsOver given → IsGiven [] given
new_given None over = tt
new_given (Some all) over = over

-- a sink that was given more
pub more_given : (passed bytes : List ℕ) (old new : Option (List ℕ)) → IsGiven passed old → new ≡ grown old bytes → IsGiven (passed ++ bytes) new
more_given passed bytes None None given is = tt
more_given passed bytes (Some all) None given is = tt
more_given passed bytes None (Some now) given is = absurd (cc)
more_given passed bytes (Some all) (Some now) given is = some_same now (all ++ bytes) is ∙ ap (λ (z : List ℕ). z ++ bytes) given
  where
    some_same : (one other : List ℕ) → Some one ≡ Some other → one ≡ other
    some_same one other same = cc

-- behind a copy one data link was given that, and the other nothing
copied_given : (toward : Toward) (way : Way) (pair : Pair) (from : SourceView) (to : SinkView) → IsFresh pair.far → IsFresh pair.near → Supplies way (copied_to toward pair) to
    → WasGiven (copy_given toward way).0 (pair_after toward from to pair).far × WasGiven (copy_given toward way).1 (pair_after toward from to pair).near
copied_given towards.Client way pair from to far near h =
    (new_given pair.far.to.given far.given, more_given [] way.given pair.near.to.given to.given (new_given pair.near.to.given near.given) (supplies_given way pair.near.to to h))
copied_given towards.Server way pair from to far near h =
    (more_given [] way.given pair.far.to.given to.given (new_given pair.far.to.given far.given) (supplies_given way pair.far.to to h), new_given pair.near.to.given near.given)

-- the server of the link that is up, if one is, was given this
abbrev pub passing : Tale ℕ
passing = record {
  IsUp = λ passed link. IsGiven passed link.outlet.given;
  WasUp = WasGiven;
  begins = λ ask inlet outlet old new up. new_given outlet.given up.new_sink.given;
  ends = λ passed link given. given;
  beside = copy_given;
  unused = λ link is. new_given link.to.given is.given;
}

passing_copied : CopiedSo passing
passing_copied = λ toward way pair from to room far near drains supplies. copied_given toward way pair from to far near supplies

abbrev Given : Option (List ℕ) → Option Speaker → Type 0
Given up link = Holds passing up link

abbrev Gave : List (List ℕ) → Option (List ℕ) → Bool → Server → Server → Type 0
Gave passed up paired old new = Step passing passed up paired old new

-- ---- hearing and passing

outlet_holds : (up : Option (List ℕ)) (link speaker : Speaker) → speaker.outlet ≡ link.outlet → Given up (Some link) → Given up (Some speaker)
outlet_holds None link speaker same holds = absurd holds
outlet_holds (Some passed) link speaker same holds = subst (λ (s : SinkView). IsGiven passed s.given) (sym same) holds

take_step : (up : Option (List ℕ)) (paired : Bool) (outcome : Result Heard Silence) (link : Option Speaker) (old new : Server) → old.link ≡ link → Given up link → PairHolds paired old.pair → Takes outcome link old new → Gave [] up paired old new
take_step up paired outcome None old new is holds pairs h = same_step passing up paired old new (subst (λ (l : Option Speaker). Given up l) (sym is) holds) pairs h.1
take_step up paired outcome (Some link) old new is holds pairs h =
    link_step passing up paired old new h.speaker (outlet_holds up link h.speaker (hears_outlet Lines outcome link h.speaker h.hears) holds) pairs h.is

told_holds : (up : Option (List ℕ)) (text : List ℕ) (outcome : Result (Unit {0}) (Front text)) (link speaker : Speaker) → IsTold text outcome link speaker → Given up (Some link) → Given (up_with up (got outcome)) (Some speaker)
told_holds None text outcome link speaker told holds = absurd holds
told_holds (Some passed) text outcome link speaker told holds =
    subst (λ (s : Speaker). IsGiven (passed ++ got outcome) s.outlet.given) (sym told.is) (more_given passed (got outcome) link.outlet.given told.outlet.given holds (gets_grew text outcome link.outlet told.outlet told.gets))

pass_step : (up : Option (List ℕ)) (paired : Bool) (text : List ℕ) (outcome : Result (Unit {0}) (Front text)) (link : Option Speaker) (old new : Server) → old.link ≡ link → Given up link → PairHolds paired old.pair → Passes text outcome link old new
    → Gave [] (up_with up (got outcome)) paired old new
pass_step up paired text outcome None old new is holds pairs h =
    subst (λ (u : Option (List ℕ)). Gave [] u paired old new) (unlinked passing up (got outcome) holds) (same_step passing up paired old new (subst (λ (l : Option Speaker). Given up l) (sym is) holds) pairs h.1)
pass_step up paired text outcome (Some link) old new is holds pairs h = link_step passing (up_with up (got outcome)) paired old new h.speaker (told_holds up text outcome link h.speaker h.told holds) pairs h.is

carried_holds : (up : Option (List ℕ)) (flow : Flow) (link speaker : Speaker) → Carrying flow.down flow.up link speaker → Given up (Some link) → Given (up_with up flow.up.given) (Some speaker)
carried_holds None flow link speaker h holds = absurd holds
carried_holds (Some passed) flow link speaker h holds =
    subst (λ (s : Speaker). IsGiven (passed ++ flow.up.given) s.outlet.given) (sym h.is) (more_given passed flow.up.given link.outlet.given h.outlet.given holds (supplies_given flow.up link.outlet h.outlet h.supplies))

relay_step : (up : Option (List ℕ)) (paired : Bool) (flow : Option Flow) (link : Option Speaker) (old new : Server) → old.link ≡ link → Given up link → PairHolds paired old.pair → ServerRelays flow link old new → Gave [] (up_with up (given_up flow)) paired old new
relay_step up paired None None old new is holds pairs h =
    subst (λ (u : Option (List ℕ)). Gave [] u paired old new) (unlinked passing up [] holds) (same_step passing up paired old new (subst (λ (l : Option Speaker). Given up l) (sym is) holds) pairs h)
relay_step up paired None (Some link) old new is holds pairs h = absurd h
relay_step up paired (Some flow) None old new is holds pairs h = absurd h
relay_step up paired (Some flow) (Some link) old new is holds pairs h = link_step passing (up_with up flow.up.given) paired old new h.speaker (carried_holds up flow link h.speaker h.carries holds) pairs h.is

reply_step : {how : ReplyUse} (up : Option (List ℕ)) (paired : Bool) (outcome : Result (Replied × List ℕ) (Unreplied how)) (link : Option Speaker) (old new : Server) → old.link ≡ link → Given up link → PairHolds paired old.pair → ServerReplies outcome link old new → Gave [] up paired old new
reply_step up paired outcome None old new is holds pairs h = same_step passing up paired old new (subst (λ (l : Option Speaker). Given up l) (sym is) holds) pairs h.1
reply_step up paired outcome (Some link) old new is holds pairs h =
    let drawn = reply_draws outcome link h.speaker h.draws in
    link_step passing up paired old new h.speaker (outlet_holds up link h.speaker (draws_outlet drawn.stop (reply_text outcome) link h.speaker drawn.draws) holds) pairs h.is

-- ---- one act

module _ {Origin : Type 0} where
  pub passing_step : (act : Act) (outcome : Outcome act) (up : Option (List ℕ)) (paired : Bool) (old new : World Origin) → Met act outcome old new → Given up old.server.link → PairHolds paired old.server.pair
      → Gave (hung_by copy_given act outcome up paired) (up_after act outcome up) (paired_after act outcome paired) old.server new.server
  passing_step (Dial dest) (Ok true) up paired old new met holds pairs = dial_step passing up paired true dest old.server new.server holds pairs met.server
  passing_step (Dial dest) (Ok false) up paired old new met holds pairs = dial_step passing up paired false dest old.server new.server holds pairs met.server
  passing_step (Dial dest) (Err never) up paired old new met holds pairs = absurd never
  passing_step (Reach dest) (Ok done) up paired old new met holds pairs = dial_step passing up paired true dest old.server new.server holds pairs met.server
  passing_step (Reach dest) (Err halt) up paired old new met holds pairs = dial_step passing up paired false dest old.server new.server holds pairs met.server
  passing_step Take outcome up paired old new met holds pairs = take_step up paired outcome old.server.link old.server new.server refl holds pairs met.server
  passing_step (Pass text) outcome up paired old new met holds pairs = pass_step up paired text outcome old.server.link old.server new.server refl holds pairs met.server
  passing_step HangUp (Ok done) up paired old new met holds pairs = hang_step passing up paired old.server new.server holds pairs met.server
  passing_step HangUp (Err never) up paired old new met holds pairs = absurd never
  passing_step Relay outcome up paired old new met holds pairs = relay_step up paired (flow_of outcome) old.server.link old.server new.server refl holds pairs met.server
  passing_step (Hear form) outcome up paired old new met holds pairs = same_step passing up paired old.server new.server holds pairs met.server
  passing_step (Say text) outcome up paired old new met holds pairs = same_step passing up paired old.server new.server holds pairs met.server
  passing_step (Try text) outcome up paired old new met holds pairs = same_step passing up paired old.server new.server holds pairs met.server
  passing_step (Log text) outcome up paired old new met holds pairs = same_step passing up paired old.server new.server holds pairs met.server
  passing_step (Deposit sender rcpts words most) outcome up paired old new met holds pairs = same_step passing up paired old.server new.server holds pairs met.server
  passing_step Allot outcome up paired old new met holds pairs = same_step passing up paired old.server new.server holds pairs met.server
  passing_step (TakeReply how) outcome up paired old new met holds pairs = reply_step up paired outcome old.server.link old.server new.server refl holds pairs met.server
  passing_step OpenDoor (Ok (Some at)) up paired old new met holds pairs = door_step passing up paired at.0 at.1 old.server new.server holds pairs met.server
  passing_step OpenDoor (Ok None) up paired old new met holds pairs = no_door_step passing up paired old.server new.server holds pairs met.server
  passing_step OpenDoor (Err never) up paired old new met holds pairs = absurd never
  passing_step (Join dest target) (Ok Up) up paired old new met holds pairs = join_step passing up paired dest target Up old.server new.server holds pairs met.server
  passing_step (Join dest target) (Ok NoSide) up paired old new met holds pairs = join_step passing up paired dest target NoSide old.server new.server holds pairs met.server
  passing_step (Join dest target) (Ok NoNear) up paired old new met holds pairs = join_step passing up paired dest target NoNear old.server new.server holds pairs met.server
  passing_step (Join dest target) (Ok Unready) up paired old new met holds pairs = join_step passing up paired dest target Unready old.server new.server holds pairs met.server
  passing_step (Join dest target) (Err never) up paired old new met holds pairs = absurd never
  passing_step (Copy toward) (Ok None) up paired old new met holds pairs = copy_step passing passing_copied up paired toward None old.server.pair old.server new.server refl holds pairs met.server
  passing_step (Copy toward) (Ok (Some way)) up paired old new met holds pairs = copy_step passing passing_copied up paired toward (Some way) old.server.pair old.server new.server refl holds pairs met.server
  passing_step (Copy toward) (Err never) up paired old new met holds pairs = absurd never
  passing_step Part (Ok done) up paired old new met holds pairs = part_step passing up paired old.server new.server holds pairs met.server
  passing_step Part (Err never) up paired old new met holds pairs = absurd never
  passing_step (Note text) outcome up paired old new met holds pairs = same_step passing up paired old.server new.server holds pairs met.server
  passing_step (Ask request) outcome up paired old new met holds pairs = same_step passing up paired old.server new.server holds pairs met.server
  passing_step (Renew name hash) outcome up paired old new met holds pairs = same_step passing up paired old.server new.server holds pairs met.server

  -- ---- all deeds

  pub servers_given : {P : Type 0} (rows : PlaceTable (acts Origin) P) (first : Row (acts Origin) P) (old new : World Origin) (ending : Ending) (held : Held rows first old new ending)
      → IsUnlinked old.server → GivesServers (passed_over None (deeds_of held)) old new
  servers_given rows first old new ending held none =
      let all = all_steps passing up_after passing_step (deeds_of held) None false old new (held_deeds held) (subst (λ (l : Option Speaker). Given None l) (sym none.main) tt) (subst (λ (p : Option Pair). PairHolds false p) (sym none.side) tt) in
      record { links = all.links; ended = all.ended; given = all.each }
