-- What is known of data links, from where they came up to where they were let go.
use Rattle.std.proofs.Common.{◌≡◌, refl, sym, ap, subst, ◌∙◌, ℕ, Bool, true, false, List, [], ◌∷◌, ◌++◌, Option, Some, None, Ok}
use Rattle.fw_outside.specs.DialerView.{Accepts, ComesUp, DialerView, LinkView, Refuses}
use Rattle.fw_outside.specs.SinkView.{SinkView}
use Rattle.fw_outside.specs.SourceView.{SourceView, fresh}
use Rattle.fw_outside.specs.ToldList.{IsOver}
use Rattle.fw_outside.specs.declared.ask.Ask.{Ask}
use Rattle.fw_types.specs.declared.dest.Dest.{Dest}
use Rattle.relay_ways.specs.Carried.{Drains, Supplies, Way}
use Rattle.session_acts.specs.Joining.{CopiesBy, Joining, JoinsNoNear, JoinsNoSide, JoinsSo, JoinsUp, NearRefused, NearUp, OpensDoor, OpensNone, Parting, copied_from, copied_to, pair_after}
use Rattle.session_acts.specs.Laws.{Adds}
use Rattle.session_acts.specs.Passing.{copy_gone, is_up, pair_gone, side_gone}
use Rattle.session_acts.specs.World.{Pair, Server, Speaker, most_taken}
use Rattle.session_acts.specs.declared.joined.Joined.{Joined}
use Rattle.session_acts.specs.declared.joined.Joined.TheVariants.{Up, NoSide, NoNear, Unready}
use Rattle.session_acts.specs.declared.target.Target.{Target}
use Rattle.session_acts.specs.declared.target.Target.TheVariants.{Addr, AtDoor}
use Rattle.session_acts.specs.declared.toward.Toward.{Toward}
use Rattle.session_acts.proofs.LinkedLemmas.{adds_none}
use Rattle.session_acts.proofs.OverLinksLemmas.{Holds, IsFresh, PairHolds, Step, Tale, both_gone, let_go, pair_cleared, same_step, steps_both}

-- ---- links that come up

-- of a new source nothing was taken
pub fresh_taken : (left : Option (List ℕ)) → IsOver (fresh left).taken
fresh_taken None = tt
fresh_taken (Some left) = refl

up_fresh : (ask : Ask) (from : SourceView) (to : SinkView) (old new : DialerView) → ComesUp ask from to old new → IsFresh (record { from = from; to = to })
up_fresh ask from to old new h = record {
  taken = subst (λ (s : SourceView). IsOver s.taken) (sym h.new_source) (fresh_taken h.left);
  amount = ap (λ (s : SourceView). s.amount) h.new_source;
  given = h.new_sink.given;
}

near_fresh : (target : Target) (from : SourceView) (to : SinkView) (old new : DialerView) → NearUp target from to old new → IsFresh (record { from = from; to = to })
near_fresh (Addr addr port) from to old new h = up_fresh _ from to old new h
near_fresh AtDoor from to old new h = record {
  taken = subst (λ (s : SourceView). IsOver s.taken) (sym h.new_source) (fresh_taken h.left);
  amount = ap (λ (s : SourceView). s.amount) h.new_source;
  given = h.new_sink.given;
}

-- which takes none back
up_ended : (ask : Ask) (from : SourceView) (to : SinkView) (old new : DialerView) → ComesUp ask from to old new → new.ended ≡ old.ended
up_ended ask from to old new h = ap (λ (d : DialerView). d.ended) h.is

near_ended : (target : Target) (from : SourceView) (to : SinkView) (old new : DialerView) → NearUp target from to old new → new.ended ≡ old.ended
near_ended (Addr addr port) from to old new h = up_ended _ from to old new h
near_ended AtDoor from to old new h = ap (λ (d : DialerView). d.ended) h.is

away_ended : (target : Target) (old new : DialerView) → NearRefused target old new → new.ended ≡ old.ended
away_ended (Addr addr port) old new h = ap (λ (d : DialerView). d.ended) h.is
away_ended AtDoor old new h = ap (λ (d : DialerView). d.ended) h.is

module _ {A : Type 0} (tale : Tale A) where
  -- nothing was let go
  none_ended : (up : Option (List A)) (paired : Bool) (old new : Server) → Holds tale up new.link → PairHolds paired new.pair → new.dialer.ended ≡ old.dialer.ended → Step tale [] up paired old new
  none_ended up paired old new holds pairs same = record {
    links = [];
    ended = subst (λ (e : Option (List LinkView)). Adds [] old.dialer.ended e) (sym same) (adds_none old.dialer.ended);
    each = tt;
    holds = holds;
    pairs = pairs;
  }

  pub part_step : (up : Option (List A)) (paired : Bool) (old new : Server) → Holds tale up old.link → PairHolds paired old.pair → Parting old new → Step tale (pair_gone paired) up false old new
  part_step up paired old new holds pairs h =
      let first = pair_cleared tale paired old.pair old.dialer h.dialer pairs h.lets in
      subst (λ (s : Server). Step tale (pair_gone paired) up false old s) (sym h.is) (record { links = first.links; ended = first.ended; each = first.each; holds = holds; pairs = tt })

  pub door_step : (up : Option (List A)) (paired : Bool) (addr : List ℕ) (port : ℕ) (old new : Server) → Holds tale up old.link → PairHolds paired old.pair → OpensDoor addr port old new → Step tale [] up paired old new
  door_step up paired addr port old new holds pairs h =
      subst (λ (s : Server). Step tale [] up paired old s) (sym h.is) (none_ended up paired old (record old { dialer = h.dialer; door = true }) holds pairs (ap (λ (d : DialerView). d.ended) h.opens.is))

  pub no_door_step : (up : Option (List A)) (paired : Bool) (old new : Server) → Holds tale up old.link → PairHolds paired old.pair → OpensNone old new → Step tale [] up paired old new
  no_door_step up paired old new holds pairs h =
      subst (λ (s : Server). Step tale [] up paired old s) (sym h.is) (none_ended up paired old (record old { dialer = h.dialer }) holds pairs (ap (λ (d : DialerView). d.ended) h.refused.is))

  -- where no pair is up
  joins_step : (up : Option (List A)) (dest : Dest) (target : Target) (joined : Joined) (old new : Server) → Holds tale up old.link → PairHolds false old.pair → JoinsSo dest target joined old new → Step tale (side_gone {Never = ⊥} (Ok joined)) up (is_up {Never = ⊥} (Ok joined)) old new
  joins_step up dest target Up old new holds none h =
      let j : JoinsUp dest target old new = h.joins in
      let far = up_fresh _ j.pair.far.from j.pair.far.to old.dialer j.middle j.far in
      let near = near_fresh target j.pair.near.from j.pair.near.to j.middle j.dialer j.near in
      let same = near_ended target j.pair.near.from j.pair.near.to j.middle j.dialer j.near ∙ up_ended _ j.pair.far.from j.pair.far.to old.dialer j.middle j.far in
      subst (λ (s : Server). Step tale [] up true old s) (sym j.is) (none_ended up true old (record old { dialer = j.dialer; door = _; pair = Some j.pair }) holds (far, near) same)
  joins_step up dest target NoSide old new holds none h =
      let j : JoinsNoSide dest target old new = h.joins in
      subst (λ (s : Server). Step tale [] up false old s) (sym j.is) (none_ended up false old (record old { dialer = j.dialer; door = _ }) holds none (ap (λ (d : DialerView). d.ended) j.refused.is))
  joins_step up dest target NoNear old new holds none h =
      let j : JoinsNoNear dest target old new = h.joins in
      let same = away_ended target j.middle j.later j.refused ∙ up_ended _ j.link.from j.link.to old.dialer j.middle j.far in
      let gone = let_go tale [] j.link j.later j.dialer (tale.unused j.link (up_fresh _ j.link.from j.link.to old.dialer j.middle j.far)) j.lets in
      subst (λ (s : Server). Step tale ([] ∷ []) up false old s) (sym j.is) (record {
        links = gone.links;
        ended = subst (λ (e : Option (List LinkView)). Adds gone.links e j.dialer.ended) same gone.ended;
        each = gone.each;
        holds = holds;
        pairs = none;
      })
  joins_step up dest target Unready old new holds none h = same_step tale up false old new holds none h.is

  pub join_step : (up : Option (List A)) (paired : Bool) (dest : Dest) (target : Target) (joined : Joined) (old new : Server) → Holds tale up old.link → PairHolds paired old.pair → Joining dest target joined old new
      → Step tale (pair_gone paired ++ side_gone {Never = ⊥} (Ok joined)) up (is_up {Never = ⊥} (Ok joined)) old new
  join_step up paired dest target joined old new holds pairs h =
      let first = part_step up paired old h.apart holds pairs h.parts in
      steps_both tale (pair_gone paired) (side_gone {Never = ⊥} (Ok joined)) up up false (is_up {Never = ⊥} (Ok joined)) old h.apart new first (joins_step up dest target joined h.apart new first.holds first.pairs h.joins)

  -- what is known of two data links behind a copy
  abbrev pub CopiedSo : Type 0
  CopiedSo = (toward : Toward) (way : Way) (pair : Pair) (from : SourceView) (to : SinkView) (room : ℕ) → IsFresh pair.far → IsFresh pair.near → Drains way [] most_taken room (copied_from toward pair) from → Supplies way (copied_to toward pair) to
      → tale.WasUp (tale.beside toward way).0 (pair_after toward from to pair).far × tale.WasUp (tale.beside toward way).1 (pair_after toward from to pair).near

  pub copy_step : CopiedSo → (up : Option (List A)) (paired : Bool) (toward : Toward) (carried : Option Way) (pair : Option Pair) (old new : Server) → old.pair ≡ pair → Holds tale up old.link → PairHolds paired pair → CopiesBy toward carried pair old new
      → Step tale (copy_gone {Never = ⊥} tale.beside toward (Ok carried)) up false old new
  copy_step copied up false toward None None old new is holds pairs h = same_step tale up false old new holds (subst (λ (p : Option Pair). PairHolds false p) (sym is) pairs) h
  copy_step copied up true toward None None old new is holds pairs h = absurd pairs
  copy_step copied up paired toward None (Some pair) old new is holds pairs h = absurd h
  copy_step copied up paired toward (Some way) None old new is holds pairs h = absurd h
  copy_step copied up false toward (Some way) (Some pair) old new is holds pairs h = absurd pairs
  copy_step copied up true toward (Some way) (Some pair) old new is holds pairs h =
      let after = pair_after toward h.from h.to pair in
      let was = copied toward way pair h.from h.to h.room pairs.0 pairs.1 h.drains h.supplies in
      let gone = both_gone tale (tale.beside toward way).0 (tale.beside toward way).1 after old.dialer h.dialer was.0 was.1 h.lets in
      subst (λ (s : Server). Step tale ((tale.beside toward way).0 ∷ (tale.beside toward way).1 ∷ []) up false old s) (sym h.is) (record { links = gone.links; ended = gone.ended; each = gone.each; holds = holds; pairs = tt })
