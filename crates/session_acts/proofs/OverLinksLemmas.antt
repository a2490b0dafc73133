-- What is known of each link, from where it came up to where it was hung up.
use Rattle.std.proofs.Common.{◌≡◌, refl, sym, ap, subst, ◌∙◌, ℕ, Bool, true, false, List, [], ◌∷◌, ◌++◌, Option, Some, None, append_assoc}
use Rattle.fw_outside.specs.DialerView.{ComesUp, DialerView, LetsGo, LinkView}
use Rattle.fw_outside.specs.SinkView.{SinkView}
use Rattle.fw_outside.specs.SourceView.{SourceView}
use Rattle.fw_outside.specs.ToldList.{IsOver}
use Rattle.fw_outside.specs.declared.ask.Ask.{Ask}
use Rattle.fw_types.specs.declared.dest.Dest.{Dest}
use Rattle.session_acts.specs.Acts.{Act, Outcome}
use Rattle.session_acts.specs.Deeds.{Deed, DeedsAll}
use Rattle.session_acts.specs.Laws.{Adds}
use Rattle.session_acts.specs.Met.{Clears, ConnectsIf, Dialing, Hanging, Met}
use Rattle.session_acts.specs.Passing.{AreOver, Known, hung, hung_by, over_each, over_last, pair_gone, paired_after, paired_last, up_with}
use Rattle.relay_ways.specs.Carried.{Way}
use Rattle.session_acts.specs.Joining.{LetsBothGo, LetsPairGo}
use Rattle.session_acts.specs.World.{Pair, Server, Speaker, World, unheard}
use Rattle.session_acts.specs.declared.toward.Toward.{Toward}
use Rattle.session_acts.proofs.LinkedLemmas.{adds_both, adds_none, adds_one}

-- a data link over which nothing went
pub record IsFresh (link : LinkView) : Type 0 where
  pub taken : IsOver link.from.taken
  pub amount : link.from.amount ≡ 0
  pub given : IsOver link.to.given

-- what it means that this is known of a link that is up, and of one that was hung up, or let go as it came up
pub record Tale (A : Type 0) : Type 1 where
  pub IsUp : List A → Speaker → Type 0
  pub WasUp : List A → LinkView → Type 0
  pub begins : (ask : Ask) (inlet : SourceView) (outlet : SinkView) (old new : DialerView) → ComesUp ask inlet outlet old new → IsUp [] (record { inlet = inlet; reader = unheard; outlet = outlet })
  pub ends : (known : List A) (link : Speaker) → IsUp known link → WasUp known (record { from = link.inlet; to = link.outlet })
  pub beside : Toward → Way → List A × List A
  pub unused : (link : LinkView) → IsFresh link → WasUp [] link

abbrev pub fresh_if : {A : Type 0} → Bool → Option (List A)
fresh_if true = Some []
fresh_if false = None

-- whether a pair of data links is up, over which nothing went
abbrev pub PairHolds : Bool → Option Pair → Type 0
PairHolds false None = Unit {0}
PairHolds true (Some pair) = IsFresh pair.far × IsFresh pair.near
PairHolds _ _ = ⊥

module _ {A : Type 0} (tale : Tale A) where
  -- so it is of the link that is up, if one is
  abbrev pub Holds : Option (List A) → Option Speaker → Type 0
  Holds None None = Unit {0}
  Holds (Some known) (Some link) = tale.IsUp known link
  Holds _ _ = ⊥

  -- what an act comes to at the server: links were hung up of which this was known, and that is known of the one that is up
  pub record Step (knowns : List (List A)) (up : Option (List A)) (paired : Bool) (old new : Server) : Type 0 where
    pub links : List LinkView
    pub ended : Adds links old.dialer.ended new.dialer.ended
    pub each : AreOver tale.WasUp knowns links
    pub holds : Holds up new.link
    pub pairs : PairHolds paired new.pair

  -- ---- lists

  pub over_both : (first more : List (List A)) (links others : List LinkView) → AreOver tale.WasUp first links → AreOver tale.WasUp more others → AreOver tale.WasUp (first ++ more) (links ++ others)
  over_both [] more [] others a b = b
  over_both [] more (link ∷ links) others a b = absurd a
  over_both (known ∷ first) more [] others a b = absurd a
  over_both (known ∷ first) more (link ∷ links) others a b = (a.0, over_both first more links others a.1 b)

  -- ---- hanging up and dialing

  pub record Cleared (knowns : List (List A)) (old new : DialerView) : Type 0 where
    pub links : List LinkView
    pub ended : Adds links old.ended new.ended
    pub each : AreOver tale.WasUp knowns links

  cleared_both : (first more : List (List A)) (old mid new : DialerView) → Cleared first old mid → Cleared more mid new → Cleared (first ++ more) old new
  cleared_both first more old mid new a b = record { links = a.links ++ b.links; ended = adds_both a.links b.links old.ended mid.ended new.ended a.ended b.ended; each = over_both first more a.links b.links a.each b.each }

  nothing_cleared : (old new : DialerView) → new ≡ old → Cleared [] old new
  nothing_cleared old new is = subst (λ (d : DialerView). Cleared [] old d) (sym is) (record { links = []; ended = adds_none old.ended; each = tt })

  cleared : (up : Option (List A)) (link : Option Speaker) (old new : DialerView) → Holds up link → Clears link old new → Cleared (hung up) old new
  cleared None None old new holds clears = nothing_cleared old new clears
  cleared (Some known) None old new holds clears = absurd holds
  cleared None (Some link) old new holds clears = absurd holds
  cleared (Some known) (Some link) old new holds clears =
      subst (λ (d : DialerView). Cleared (known ∷ []) old d) (sym clears.is) (record {
        links = record { from = link.inlet; to = link.outlet } ∷ [];
        ended = adds_one (record { from = link.inlet; to = link.outlet }) old.ended clears.ended clears.adds;
        each = (tale.ends known link holds, tt);
      })

  -- a data link is let go
  pub let_go : (known : List A) (link : LinkView) (old new : DialerView) → tale.WasUp known link → LetsGo link.from link.to old new → Cleared (known ∷ []) old new
  let_go known link old new was h =
      subst (λ (d : DialerView). Cleared (known ∷ []) old d) (sym h.is) (record { links = link ∷ []; ended = adds_one link old.ended h.ended h.adds; each = (was, tt) })

  pub both_gone : (far near : List A) (pair : Pair) (old new : DialerView) → tale.WasUp far pair.far → tale.WasUp near pair.near → LetsBothGo pair old new → Cleared (far ∷ near ∷ []) old new
  both_gone far near pair old new one other h =
      cleared_both (far ∷ []) (near ∷ []) old h.middle new (let_go far pair.far old h.middle one h.far) (let_go near pair.near h.middle new other h.near)

  pub pair_cleared : (paired : Bool) (pair : Option Pair) (old new : DialerView) → PairHolds paired pair → LetsPairGo pair old new → Cleared (pair_gone paired) old new
  pair_cleared false None old new pairs lets = nothing_cleared old new lets
  pair_cleared true None old new pairs lets = absurd pairs
  pair_cleared false (Some pair) old new pairs lets = absurd pairs
  pair_cleared true (Some pair) old new pairs lets = both_gone [] [] pair old new (tale.unused pair.far pairs.0) (tale.unused pair.near pairs.1) lets

  all_cleared : (up : Option (List A)) (paired : Bool) (server : Server) (apart new : DialerView) → Holds up server.link → PairHolds paired server.pair → LetsPairGo server.pair server.dialer apart → Clears server.link apart new → Cleared (pair_gone paired ++ hung up) server.dialer new
  all_cleared up paired server apart new holds pairs lets clears =
      cleared_both (pair_gone paired) (hung up) server.dialer apart new (pair_cleared paired server.pair server.dialer apart pairs lets) (cleared up server.link apart new holds clears)

  -- after dialing, where no link was up
  record Dialed (up : Option (List A)) (old : DialerView) (new : Server) : Type 0 where
    ended : new.dialer.ended ≡ old.ended
    holds : Holds up new.link
    pairs : PairHolds false new.pair

  dialed : (up : Bool) (dest : Dest) (old : DialerView) (new : Server) → ConnectsIf up dest old new → Dialed (fresh_if up) old new
  dialed true dest old new h =
      subst (λ (s : Server). Dialed (Some []) old s) (sym h.is) (record { ended = ap (λ (d : DialerView). d.ended) h.up.is; holds = tale.begins _ h.inlet h.outlet old h.dialer h.up; pairs = tt })
  dialed false dest old new h =
      subst (λ (s : Server). Dialed None old s) (sym h.is) (record { ended = ap (λ (d : DialerView). d.ended) h.refused.is; holds = tt; pairs = tt })

  pub dial_step : (up : Option (List A)) (paired comes : Bool) (dest : Dest) (old new : Server) → Holds up old.link → PairHolds paired old.pair → Dialing dest comes old new → Step (pair_gone paired ++ hung up) (fresh_if comes) false old new
  dial_step up paired comes dest old new holds pairs h =
      let first = all_cleared up paired old h.apart h.cleared holds pairs h.lets h.clears in
      let then_dialed = dialed comes dest h.cleared new h.connects in
      record {
        links = first.links;
        ended = subst (λ (e : Option (List LinkView)). Adds first.links old.dialer.ended e) (sym then_dialed.ended) first.ended;
        each = first.each;
        holds = then_dialed.holds;
        pairs = then_dialed.pairs;
      }

  pub hang_step : (up : Option (List A)) (paired : Bool) (old new : Server) → Holds up old.link → PairHolds paired old.pair → Hanging old new → Step (pair_gone paired ++ hung up) None false old new
  hang_step up paired old new holds pairs h =
      let first = all_cleared up paired old h.apart h.dialer holds pairs h.lets h.clears in
      subst (λ (s : Server). Step (pair_gone paired ++ hung up) None false old s) (sym h.is) (record { links = first.links; ended = first.ended; each = first.each; holds = tt; pairs = tt })

  -- ---- what leaves the links

  pub same_step : (up : Option (List A)) (paired : Bool) (old new : Server) → Holds up old.link → PairHolds paired old.pair → new ≡ old → Step [] up paired old new
  same_step up paired old new holds pairs is = subst (λ (s : Server). Step [] up paired old s) (sym is) (record { links = []; ended = adds_none old.dialer.ended; each = tt; holds = holds; pairs = pairs })

  -- over a link that stays up
  pub link_step : (up : Option (List A)) (paired : Bool) (old new : Server) (speaker : Speaker) → Holds up (Some speaker) → PairHolds paired old.pair → new ≡ record old { link = Some speaker } → Step [] up paired old new
  link_step up paired old new speaker holds pairs is =
      subst (λ (s : Server). Step [] up paired old s) (sym is) (record { links = []; ended = adds_none old.dialer.ended; each = tt; holds = holds; pairs = pairs })

  -- where none is up, nothing more is known
  pub unlinked : (up : Option (List A)) (more : List A) → Holds up None → up ≡ up_with up more
  unlinked None more holds = refl
  unlinked (Some known) more holds = absurd holds

  -- of links of which so much is known, the last one
  pub record LastOver (known : List A) (links : List LinkView) : Type 0 where
    pub earlier : List LinkView
    pub link : LinkView
    pub is : links ≡ earlier ++ (link ∷ [])
    pub was_up : tale.WasUp known link

  pub last_over : (first : List (List A)) (known : List A) (links : List LinkView) → AreOver tale.WasUp (first ++ (known ∷ [])) links → LastOver known links
  last_over [] known [] over = absurd over
  last_over [] known (link ∷ []) over = record { earlier = []; link = link; is = refl; was_up = over.0 }
  last_over [] known (link ∷ other ∷ links) over = absurd over.1
  last_over (one ∷ first) known [] over = absurd over
  last_over (one ∷ first) known (link ∷ links) over =
      let rest = last_over first known links over.1 in
      record { earlier = link ∷ rest.earlier; link = rest.link; is = ap (λ (z : List LinkView). link ∷ z) rest.is; was_up = rest.was_up }

  -- ---- all deeds

  abbrev pub Known_of : ((act : Act) → Outcome act → Option (List A) → Option (List A)) → Known A
  Known_of after = record { after = after; beside = tale.beside }

  -- what each act comes to
  abbrev pub Steps : (Origin : Type 0) → ((act : Act) → Outcome act → Option (List A) → Option (List A)) → Type 0
  Steps Origin after = (act : Act) (outcome : Outcome act) (up : Option (List A)) (paired : Bool) (old new : World Origin) → Met act outcome old new → Holds up old.server.link → PairHolds paired old.server.pair
      → Step (hung_by tale.beside act outcome up paired) (after act outcome up) (paired_after act outcome paired) old.server new.server

  -- one step, and then others
  pub steps_both : (first more : List (List A)) (up last : Option (List A)) (paired left : Bool) (old mid new : Server) → Step first up paired old mid → Step more last left mid new → Step (first ++ more) last left old new
  steps_both first more up last paired left old mid new a b = record {
    links = a.links ++ b.links;
    ended = adds_both a.links b.links old.dialer.ended mid.dialer.ended new.dialer.ended a.ended b.ended;
    each = over_both first more a.links b.links a.each b.each;
    holds = b.holds;
    pairs = b.pairs;
  }

  pub all_steps : {Origin : Type 0} (after : (act : Act) → Outcome act → Option (List A) → Option (List A)) → Steps Origin after → (deeds : List Deed) (up : Option (List A)) (paired : Bool) (old new : World Origin) → DeedsAll deeds old new → Holds up old.server.link → PairHolds paired old.server.pair
      → Step (over_each (Known_of after) up paired deeds) (over_last after up deeds) (paired_last paired deeds) old.server new.server
  all_steps {Origin} after steps [] up paired old new all holds pairs = same_step up paired old.server new.server holds pairs (sym (ap (λ (w : World Origin). w.server) all))
  all_steps after steps (deed ∷ deeds) up paired old new all holds pairs =
      let step = steps deed.act deed.outcome up paired old all.0 all.1 holds pairs in
      let later = after deed.act deed.outcome up in
      let left = paired_after deed.act deed.outcome paired in
      let rest = all_steps after steps deeds later left all.0 new all.2 step.holds step.pairs in
      steps_both (hung_by tale.beside deed.act deed.outcome up paired) (over_each (Known_of after) later left deeds) later (over_last after later deeds) left (paired_last left deeds) old.server all.0.server new.server step rest

-- some deeds, and then others
pub each_both : {A : Type 0} (known : Known A) (up : Option (List A)) (paired : Bool) (first more : List Deed)
    → over_each known up paired (first ++ more) ≡ over_each known up paired first ++ over_each known (over_last known.after up first) (paired_last paired first) more
each_both known up paired [] more = refl
each_both {A} known up paired (deed ∷ first) more =
    let here = hung_by known.beside deed.act deed.outcome up paired in
    let later = known.after deed.act deed.outcome up in
    let left = paired_after deed.act deed.outcome paired in
    ap (λ (z : List (List A)). here ++ z) (each_both known later left first more) ∙ sym (append_assoc here (over_each known later left first) (over_each known (over_last known.after later first) (paired_last left first) more))
