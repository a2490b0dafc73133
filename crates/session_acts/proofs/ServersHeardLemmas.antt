-- What was heard of servers is what their links gave.
use Rattle.std.proofs.Common.{arith, ◌≡◌, refl, sym, ap, subst, ◌∙◌, ℕ, ◌≤◌, Bool, true, false, List, [], ◌∷◌, ◌++◌, length, Option, Some, None, Result, Ok, Err, append-nil}
use Rattle.std.specs.List.{concat}
use Rattle.fw_acts.specs.Acts.{Row, PlaceTable}
use Rattle.fw_outside.specs.Counts.{Grew}
use Rattle.fw_outside.specs.DialerView.{ComesUp, DialerView, LinkView}
use Rattle.fw_outside.specs.SinkView.{SinkView}
use Rattle.fw_outside.specs.SourceView.{SourceView, fresh}
use Rattle.fw_outside.specs.ToldList.{IsOver, grown}
use Rattle.fw_outside.specs.declared.ask.Ask as asks
use Rattle.fw_outside.specs.declared.heard.Heard.{Heard}
use Rattle.fw_outside.specs.declared.heard.Heard.TheVariants.{Stopped}
use Rattle.fw_types.specs.declared.ending.Ending.{Ending}
use Rattle.session_acts.specs.Acts.{Act, Front, Outcome, Unreplied}
use Rattle.session_acts.specs.Acts.Act.{Hear, Say, Try, Log, Note, Ask, Renew, Dial, Reach, Take, Pass, HangUp, Relay, Deposit, Allot, TakeReply, OpenDoor, Join, Copy, Part}
use Rattle.session_acts.specs.Hearing.{Fate, heard_by}
use Rattle.session_acts.specs.Hearing.Fate.{IsCarried, IsHeard}
use Rattle.session_acts.specs.Met.{Hears, Met, Passes, ServerRelays, ServerReplies, Takes, acts, stop_of}
use Rattle.session_acts.specs.Passing.{IsGiven, hung_by, paired_after, up_with}
use Rattle.session_acts.specs.Relaying.{Flow, flow_of}
use Rattle.session_acts.specs.ServersHeard.{HearsServers, WasHeard, carried_down, copy_heard, heard_after, heard_over, reply_text}
use Rattle.session_acts.specs.Session.{Held, deeds_of}
use Rattle.session_acts.specs.World.{IsUnlinked, Pair, Server, Speaker, World, most_taken, unheard}
use Rattle.session_acts.specs.declared.form.Form.{Form}
use Rattle.session_acts.specs.declared.form.Form.TheVariants.{Lines}
use Rattle.session_acts.specs.declared.silence.Silence.{Silence}
use Rattle.session_acts.proofs.DeedLemmas.{held_deeds}
use Rattle.session_acts.proofs.HearingLemmas.{HearsOn, carrying_hearing, draws_hearing, hears_both, hears_nothing, heeds_hearing, line_hearing, told_hearing}
use Rattle.session_acts.proofs.OverLinksLemmas.{Holds, IsFresh, PairHolds, Step, Tale, all_steps, dial_step, hang_step, link_step, same_step, unlinked}
use Rattle.fw_outside.proofs.CountLemmas.{grew_none}
use Rattle.relay_ways.specs.Carried.{Drains, Way}
use Rattle.session_acts.proofs.DeviceLemmas.{by_nothing, drains_grew, drains_took}
use Rattle.session_acts.specs.Joining.{copied_from, copied_to, pair_after}
use Rattle.session_acts.specs.declared.joined.Joined.TheVariants.{Up, NoSide, NoNear, Unready}
use Rattle.session_acts.specs.declared.replied.Replied.{Replied}
use Rattle.session_acts.specs.declared.reply_use.ReplyUse.{ReplyUse}
use Rattle.session_acts.specs.declared.toward.Toward.{Toward}
use Rattle.session_acts.specs.declared.toward.Toward.TheVariants as towards
use Rattle.session_acts.proofs.OverSideLemmas.{CopiedSo, copy_step, door_step, join_step, no_door_step, part_step}
use Rattle.session_acts.proofs.ReplyLemmas.{reply_draws}

-- ---- a link

-- so much was heard over a link since it came up
record Listened (heards : List Fate) (link : Speaker) : Type 0 where
  start : Speaker
  amount : start.inlet.amount ≡ 0
  taken : IsOver start.inlet.taken
  pending : start.reader.pending ≡ []
  on : HearsOn heards start link

-- of a new source nothing was taken
pub none_taken : (left : Option (List ℕ)) → IsOver (fresh left).taken
none_taken None = tt
none_taken (Some left) = refl

came_up : (ask : asks.Ask) (inlet : SourceView) (outlet : SinkView) (old new : DialerView) → ComesUp ask inlet outlet old new → Listened [] (record { inlet = inlet; reader = unheard; outlet = outlet })
came_up ask inlet outlet old new up = record {
  start = record { inlet = inlet; reader = unheard; outlet = outlet };
  amount = ap (λ (s : SourceView). s.amount) up.new_source;
  taken = subst (λ (s : SourceView). IsOver s.taken) (sym up.new_source) (none_taken up.left);
  pending = refl;
  on = hears_nothing (record { inlet = inlet; reader = unheard; outlet = outlet });
}

pub all_taken : (start now : Option (List ℕ)) (bytes : List ℕ) → IsOver start → now ≡ grown start bytes → IsGiven bytes now
all_taken None None bytes over is = tt
all_taken (Some first) None bytes over is = tt
all_taken None (Some now) bytes over is = absurd (cc)
all_taken (Some first) (Some now) bytes over is = some_same now (first ++ bytes) is ∙ ap (λ (z : List ℕ). z ++ bytes) over
  where
    some_same : (one other : List ℕ) → Some one ≡ Some other → one ≡ other
    some_same one other same = cc

went_down : (heards : List Fate) (link : Speaker) → Listened heards link → WasHeard heards (record { from = link.inlet; to = link.outlet })
went_down heards link h =
    let none_few : 0 ≤ 4096 = omega (arith) in
    record {
      bytes = h.on.bytes;
      pieces = h.on.pieces;
      unheard = link.reader.pending;
      grew = subst (λ (n : ℕ). Grew (length h.on.bytes) n link.inlet.amount) h.amount h.on.grew;
      took = all_taken h.start.inlet.taken link.inlet.taken h.on.bytes h.taken h.on.took;
      are_heard = h.on.are_heard;
      all = ap (λ (z : List ℕ). z ++ h.on.bytes) (sym h.pending) ∙ h.on.all;
      near = h.on.near (subst (λ (z : List ℕ). length z ≤ 4096) (sym h.pending) none_few);
    }

-- a data link over which nothing went
fresh_heard : (link : LinkView) → IsFresh link → WasHeard [] link
fresh_heard link is = record {
  bytes = [];
  pieces = [];
  unheard = [];
  grew = subst (λ (n : ℕ). Grew 0 0 n) (sym is.amount) (grew_none 0);
  took = all_taken link.from.taken link.from.taken [] is.taken (by_nothing link.from.taken);
  are_heard = tt;
  all = refl;
  near = omega (arith);
}

-- and one of which a copy took that
copied_heard : (way : Way) (link : LinkView) (from : SourceView) (to : SinkView) (room : ℕ) → IsFresh link → Drains way [] most_taken room link.from from → WasHeard (IsCarried way.taken ∷ []) (record { from = from; to = to })
copied_heard way link from to room is h = record {
  bytes = h.bytes;
  pieces = way.taken ∷ [];
  unheard = [];
  grew = subst (λ (n : ℕ). Grew (length h.bytes) n from.amount) is.amount (drains_grew way [] most_taken room link.from from h);
  took = all_taken link.from.taken from.taken h.bytes is.taken (drains_took way [] most_taken room link.from from h);
  are_heard = (refl, tt);
  all = sym h.all ∙ sym (append-nil way.taken) ∙ sym (append-nil (way.taken ++ []));
  near = omega (arith);
}

-- what is given to a link doesn't matter
heard_with : (heards : List Fate) (link : LinkView) (to : SinkView) → WasHeard heards link → WasHeard heards (record { from = link.from; to = to })
heard_with heards link to h = record { bytes = h.bytes; pieces = h.pieces; unheard = h.unheard; grew = h.grew; took = h.took; are_heard = h.are_heard; all = h.all; near = h.near }

copies_heard : (toward : Toward) (way : Way) (pair : Pair) (from : SourceView) (to : SinkView) (room : ℕ) → IsFresh pair.far → IsFresh pair.near → Drains way [] most_taken room (copied_from toward pair) from
    → WasHeard (copy_heard toward way).0 (pair_after toward from to pair).far × WasHeard (copy_heard toward way).1 (pair_after toward from to pair).near
copies_heard towards.Client way pair from to room far near h = (copied_heard way pair.far from pair.far.to room far h, heard_with [] pair.near to (fresh_heard pair.near near))
copies_heard towards.Server way pair from to room far near h = (heard_with [] pair.far to (fresh_heard pair.far far), copied_heard way pair.near from pair.near.to room near h)

abbrev listening : Tale Fate
listening = record { IsUp = Listened; WasUp = WasHeard; begins = came_up; ends = went_down; beside = copy_heard; unused = fresh_heard }

listening_copied : CopiedSo listening
listening_copied = λ toward way pair from to room far near drains supplies. copies_heard toward way pair from to room far near drains

abbrev Hold : Option (List Fate) → Option Speaker → Type 0
Hold up link = Holds listening up link

abbrev HeardStep : List (List Fate) → Option (List Fate) → Bool → Server → Server → Type 0
HeardStep heards up paired old new = Step listening heards up paired old new

-- ---- one act

listened_on : (heards more : List Fate) (link speaker : Speaker) → Listened heards link → HearsOn more link speaker → Listened (heards ++ more) speaker
listened_on heards more link speaker h on = record { start = h.start; amount = h.amount; taken = h.taken; pending = h.pending; on = hears_both heards more h.start link speaker h.on on }

more_heard : (up : Option (List Fate)) (more : List Fate) (link speaker : Speaker) → Hold up (Some link) → HearsOn more link speaker → Hold (up_with up more) (Some speaker)
more_heard None more link speaker holds on = absurd holds
more_heard (Some heards) more link speaker holds on = listened_on heards more link speaker holds on

none_heard : (up : Option (List Fate)) (link speaker : Speaker) → Hold up (Some link) → HearsOn [] link speaker → Hold up (Some speaker)
none_heard None link speaker holds on = absurd holds
none_heard (Some heards) link speaker holds on = subst (λ (z : List Fate). Listened z speaker) (append-nil heards) (listened_on heards [] link speaker holds on)

no_link : (up : Option (List Fate)) (paired : Bool) (more : List Fate) (link : Option Speaker) (old new : Server) → old.link ≡ link → link ≡ None → Hold up link → PairHolds paired old.pair → new ≡ old → HeardStep [] (up_with up more) paired old new
no_link up paired more link old new is none holds pairs same =
    let unheld : Hold up None = subst (λ (l : Option Speaker). Hold up l) none holds in
    subst (λ (u : Option (List Fate)). HeardStep [] u paired old new) (unlinked listening up more unheld) (same_step listening up paired old new (subst (λ (l : Option Speaker). Hold up l) (sym is) holds) pairs same)

hears_on : (outcome : Result Heard Silence) (link speaker : Speaker) → Hears Lines outcome link speaker → HearsOn (IsHeard Lines (heard_by outcome) ∷ []) link speaker
hears_on (Ok heard) link speaker h = line_hearing Lines heard link speaker h
hears_on (Err silence) link speaker h = heeds_hearing Lines (Stopped (stop_of silence)) link speaker h

take_step : (up : Option (List Fate)) (paired : Bool) (outcome : Result Heard Silence) (link : Option Speaker) (old new : Server) → old.link ≡ link → Hold up link → PairHolds paired old.pair → Takes outcome link old new → HeardStep [] (up_with up (IsHeard Lines (heard_by outcome) ∷ [])) paired old new
take_step up paired outcome None old new is holds pairs h = no_link up paired (IsHeard Lines (heard_by outcome) ∷ []) None old new is refl holds pairs h.1
take_step up paired outcome (Some link) old new is holds pairs h =
    link_step listening (up_with up (IsHeard Lines (heard_by outcome) ∷ [])) paired old new h.speaker (more_heard up (IsHeard Lines (heard_by outcome) ∷ []) link h.speaker holds (hears_on outcome link h.speaker h.hears)) pairs h.is

pass_step : (up : Option (List Fate)) (paired : Bool) (text : List ℕ) (outcome : Result (Unit {0}) (Front text)) (link : Option Speaker) (old new : Server) → old.link ≡ link → Hold up link → PairHolds paired old.pair → Passes text outcome link old new → HeardStep [] up paired old new
pass_step up paired text outcome None old new is holds pairs h = same_step listening up paired old new (subst (λ (l : Option Speaker). Hold up l) (sym is) holds) pairs h.1
pass_step up paired text outcome (Some link) old new is holds pairs h = link_step listening up paired old new h.speaker (none_heard up link h.speaker holds (told_hearing text outcome link h.speaker h.told)) pairs h.is

relay_step : (up : Option (List Fate)) (paired : Bool) (flow : Option Flow) (link : Option Speaker) (old new : Server) → old.link ≡ link → Hold up link → PairHolds paired old.pair → ServerRelays flow link old new → HeardStep [] (up_with up (carried_down flow)) paired old new
relay_step up paired None None old new is holds pairs h = no_link up paired [] None old new is refl holds pairs h
relay_step up paired None (Some link) old new is holds pairs h = absurd h
relay_step up paired (Some flow) None old new is holds pairs h = absurd h
relay_step up paired (Some flow) (Some link) old new is holds pairs h =
    link_step listening (up_with up (carried_down (Some flow))) paired old new h.speaker (more_heard up (carried_down (Some flow)) link h.speaker holds (carrying_hearing flow.down flow.up link h.speaker h.carries)) pairs h.is

reply_step : {how : ReplyUse} (up : Option (List Fate)) (paired : Bool) (outcome : Result (Replied × List ℕ) (Unreplied how)) (link : Option Speaker) (old new : Server) → old.link ≡ link → Hold up link → PairHolds paired old.pair → ServerReplies outcome link old new
    → HeardStep [] (up_with up (IsCarried (reply_text outcome) ∷ [])) paired old new
reply_step up paired outcome None old new is holds pairs h = no_link up paired (IsCarried (reply_text outcome) ∷ []) None old new is refl holds pairs h.1
reply_step up paired outcome (Some link) old new is holds pairs h =
    let drawn = reply_draws outcome link h.speaker h.draws in
    let more = IsCarried (reply_text outcome) ∷ [] in
    link_step listening (up_with up more) paired old new h.speaker (more_heard up more link h.speaker holds (draws_hearing drawn.stop (reply_text outcome) link h.speaker drawn.draws)) pairs h.is

module _ {Origin : Type 0} where
  listening_step : (act : Act) (outcome : Outcome act) (up : Option (List Fate)) (paired : Bool) (old new : World Origin) → Met act outcome old new → Hold up old.server.link → PairHolds paired old.server.pair
      → HeardStep (hung_by copy_heard act outcome up paired) (heard_after act outcome up) (paired_after act outcome paired) old.server new.server
  listening_step (Dial dest) (Ok true) up paired old new met holds pairs = dial_step listening up paired true dest old.server new.server holds pairs met.server
  listening_step (Dial dest) (Ok false) up paired old new met holds pairs = dial_step listening up paired false dest old.server new.server holds pairs met.server
  listening_step (Dial dest) (Err never) up paired old new met holds pairs = absurd never
  listening_step (Reach dest) (Ok done) up paired old new met holds pairs = dial_step listening up paired true dest old.server new.server holds pairs met.server
  listening_step (Reach dest) (Err halt) up paired old new met holds pairs = dial_step listening up paired false dest old.server new.server holds pairs met.server
  listening_step Take outcome up paired old new met holds pairs = take_step up paired outcome old.server.link old.server new.server refl holds pairs met.server
  listening_step (Pass text) outcome up paired old new met holds pairs = pass_step up paired text outcome old.server.link old.server new.server refl holds pairs met.server
  listening_step HangUp (Ok done) up paired old new met holds pairs = hang_step listening up paired old.server new.server holds pairs met.server
  listening_step HangUp (Err never) up paired old new met holds pairs = absurd never
  listening_step Relay outcome up paired old new met holds pairs = relay_step up paired (flow_of outcome) old.server.link old.server new.server refl holds pairs met.server
  listening_step (Hear form) outcome up paired old new met holds pairs = same_step listening up paired old.server new.server holds pairs met.server
  listening_step (Say text) outcome up paired old new met holds pairs = same_step listening up paired old.server new.server holds pairs met.server
  listening_step (Try text) outcome up paired old new met holds pairs = same_step listening up paired old.server new.server holds pairs met.server
  listening_step (Log text) outcome up paired old new met holds pairs = same_step listening up paired old.server new.server holds pairs met.server
  listening_step (Deposit sender rcpts words most) outcome up paired old new met holds pairs = same_step listening up paired old.server new.server holds pairs met.server
  listening_step Allot outcome up paired old new met holds pairs = same_step listening up paired old.server new.server holds pairs met.server
  listening_step (TakeReply how) outcome up paired old new met holds pairs = reply_step up paired outcome old.server.link old.server new.server refl holds pairs met.server
  listening_step OpenDoor (Ok (Some at)) up paired old new met holds pairs = door_step listening up paired at.0 at.1 old.server new.server holds pairs met.server
  listening_step OpenDoor (Ok None) up paired old new met holds pairs = no_door_step listening up paired old.server new.server holds pairs met.server
  listening_step OpenDoor (Err never) up paired old new met holds pairs = absurd never
  listening_step (Join dest target) (Ok Up) up paired old new met holds pairs = join_step listening up paired dest target Up old.server new.server holds pairs met.server
  listening_step (Join dest target) (Ok NoSide) up paired old new met holds pairs = join_step listening up paired dest target NoSide old.server new.server holds pairs met.server
  listening_step (Join dest target) (Ok NoNear) up paired old new met holds pairs = join_step listening up paired dest target NoNear old.server new.server holds pairs met.server
  listening_step (Join dest target) (Ok Unready) up paired old new met holds pairs = join_step listening up paired dest target Unready old.server new.server holds pairs met.server
  listening_step (Join dest target) (Err never) up paired old new met holds pairs = absurd never
  listening_step (Copy toward) (Ok None) up paired old new met holds pairs = copy_step listening listening_copied up paired toward None old.server.pair old.server new.server refl holds pairs met.server
  listening_step (Copy toward) (Ok (Some way)) up paired old new met holds pairs = copy_step listening listening_copied up paired toward (Some way) old.server.pair old.server new.server refl holds pairs met.server
  listening_step (Copy toward) (Err never) up paired old new met holds pairs = absurd never
  listening_step Part (Ok done) up paired old new met holds pairs = part_step listening up paired old.server new.server holds pairs met.server
  listening_step Part (Err never) up paired old new met holds pairs = absurd never
  listening_step (Note text) outcome up paired old new met holds pairs = same_step listening up paired old.server new.server holds pairs met.server
  listening_step (Ask request) outcome up paired old new met holds pairs = same_step listening up paired old.server new.server holds pairs met.server
  listening_step (Renew name hash) outcome up paired old new met holds pairs = same_step listening up paired old.server new.server holds pairs met.server

  pub servers_heard : {P : Type 0} (rows : PlaceTable (acts Origin) P) (first : Row (acts Origin) P) (old new : World Origin) (ending : Ending) (held : Held rows first old new ending)
      → IsUnlinked old.server → HearsServers (heard_over None (deeds_of held)) old new
  servers_heard rows first old new ending held none =
      let all = all_steps listening heard_after listening_step (deeds_of held) None false old new (held_deeds held) (subst (λ (l : Option Speaker). Hold None l) (sym none.main) tt) (subst (λ (p : Option Pair). PairHolds false p) (sym none.side) tt) in
      record { links = all.links; ended = all.ended; heard = all.each }
