-- What a round keeps of a rack: whatever holds of each full slot, and how many slots have each number.
use Rattle.std.proofs.Common.{◌≡◌, refl, sym, ap, subst, ◌∙◌, ℕ, List, [], ◌∷◌, ◌++◌, take, drop, Option, Some, None, Result}
use Rattle.std.specs.List.{AllByRecursion}
use Rattle.spool_rack.specs.Opening.{HeldView, held_broken, held_full, held_slot}
use Rattle.spool_rack.specs.Store.{HasTakenFull, Queues, StoreView, put_full, with_aside, with_broken, with_free, with_full, without_full}
use Rattle.spool_slots.specs.States.{BrokenView, FullView, SlotView}
use Rattle.smapd_queue.specs.Meeting.{End, EndsSo, Meeting, PutsBy, TakesTurn, TakesTurns, last_turn}
use Rattle.smapd_queue.specs.Meeting.End.{AllTaken, NoneFull, Unlogged, Lacked}
use Rattle.smapd_queue.specs.Round.{HandsOn}
use Rattle.smapd_queue.specs.Slots.{IsFateOf}
use Rattle.smapd_queue.specs.Turns.{Fate, Turn}
use Rattle.smapd_queue.specs.Turns.Fate.{Freed, NotFreed, PutAside, NotAside, PutBack, Unread}
use Rattle.smapd_queue.specs.declared.round.Round.{Round}
use Rattle.smapd_queue.specs.declared.round.RoundFault.{RoundFault}
use Rattle.spool_runs.proofs.NumberLemmas.{count_in}
use Rattle.spool_runs.proofs.RackLemmas.{IsMoved, moved_count}
use Rattle.spool_runs.proofs.RoundLemmas.{front_full}
use Rattle.spool_runs.proofs.StoreLemmas.{LentFull, full_to_aside, full_to_broken, full_to_free, full_to_full, lent_full, put_aside_queues, put_broken_queues, put_free_queues, put_full_queues}
use Rattle.spool_runs.proofs.TapeLemmas.{each_both}

-- this holds of the slot of each turn, and of each slot that is full then
pub record Keeps (P : FullView → Type 0) (turns : List Turn) (q : Queues) (queues : Option Queues) : Type 0 where
  pub after : Queues
  pub is : queues ≡ Some after
  pub each : AllByRecursion (λ turn. P turn.slot) turns
  pub full : AllByRecursion P after.full
  pub counts : (k : ℕ) → count_in k after ≡ count_in k q

module _ (P : FullView → Type 0) (slot : FullView) (old lent : StoreView) (takes : HasTakenFull slot old lent) (q : Queues) (queues : old.queues ≡ Some q) (all : AllByRecursion P q.full) where
  lent_so : LentFull slot q lent
  lent_so = lent_full slot old lent q takes queues

  rest_so : P slot × AllByRecursion P (drop 1 q.full)
  rest_so = front_full P slot q.full lent_so.front all

  keeps_by : (turn : Turn) → turn.slot ≡ slot → (new : StoreView) (r : Queues) (held : HeldView) → IsMoved (held_full slot) held q r → new.queues ≡ Some r → AllByRecursion P r.full → Keeps P (turn ∷ []) q new.queues
  keeps_by turn same new r held moved is full = record {
    after = r;
    is = is;
    each = (subst P (sym same) rest_so.0, tt);
    full = full;
    counts = λ k. moved_count k (held_full slot) held q r moved;
  }

  pub keeps_back : (turn : Turn) → turn.slot ≡ slot → (new : StoreView) → new ≡ put_full slot lent → Keeps P (turn ∷ []) q new.queues
  keeps_back turn same new is =
      keeps_by turn same new (with_full slot (without_full q)) (held_full slot) (full_to_full q slot lent_so.front slot refl) (put_full_queues slot lent new (without_full q) is lent_so.queues) (each_both P (drop 1 q.full) (slot ∷ []) rest_so.1 (rest_so.0, tt))

  keeps_fate : (turn : Turn) → turn.slot ≡ slot → (fate : Fate) (new : StoreView) → IsFateOf slot fate → PutsBy slot fate lent new → Keeps P (turn ∷ []) q new.queues
  keeps_fate turn same (Freed message free) new so puts =
      keeps_by turn same new (with_free free (without_full q)) (held_slot free) (full_to_free q slot lent_so.front free so.1.onward.number_is) (put_free_queues free lent new (without_full q) puts lent_so.queues) rest_so.1
  keeps_fate turn same (NotFreed message broken) new so puts =
      keeps_by turn same new (with_broken broken (without_full q)) (held_broken broken) (full_to_broken q slot lent_so.front broken so.1.broke.number_is) (put_broken_queues broken lent new (without_full q) puts lent_so.queues) rest_so.1
  keeps_fate turn same (PutAside message aside) new so puts =
      keeps_by turn same new (with_aside aside (without_full q)) (held_slot aside) (full_to_aside q slot lent_so.front aside so.1.onward.number_is) (put_aside_queues aside lent new (without_full q) puts lent_so.queues) rest_so.1
  keeps_fate turn same (NotAside message broken) new so puts =
      keeps_by turn same new (with_broken broken (without_full q)) (held_broken broken) (full_to_broken q slot lent_so.front broken so.1.broke.number_is) (put_broken_queues broken lent new (without_full q) puts lent_so.queues) rest_so.1
  keeps_fate turn same (PutBack message) new so puts = keeps_back turn same new puts
  keeps_fate turn same (Unread broken) new so puts =
      keeps_by turn same new (with_broken broken (without_full q)) (held_broken broken) (full_to_broken q slot lent_so.front broken so.broke.number_is) (put_broken_queues broken lent new (without_full q) puts lent_so.queues) rest_so.1

keeps_turn : (P : FullView → Type 0) (turn : Turn) (old new : Meeting) (q : Queues) → TakesTurn turn old new → old.store.queues ≡ Some q → AllByRecursion P q.full → Keeps P (turn ∷ []) q new.store.queues
keeps_turn P turn old new q t queues all = keeps_fate P turn.slot old.store t.lent t.takes q queues all turn refl turn.fate new.store t.slot_so t.puts

keeps_here : (P : FullView → Type 0) (q : Queues) (queues : Option Queues) → queues ≡ Some q → AllByRecursion P q.full → Keeps P [] q queues
keeps_here P q queues is all = record { after = q; is = is; each = tt; full = all; counts = λ k. refl }

keeps_both : (P : FullView → Type 0) (a b : List Turn) (q : Queues) (mid last : Option Queues) (x : Keeps P a q mid) → Keeps P b x.after last → Keeps P (a ++ b) q last
keeps_both P a b q mid last x y = record {
  after = y.after;
  is = y.is;
  each = each_both (λ (turn : Turn). P turn.slot) a b x.each y.each;
  full = y.full;
  counts = λ k. y.counts k ∙ x.counts k;
}

keeps_turns : (P : FullView → Type 0) (turns : List Turn) (old new : Meeting) (q : Queues) → TakesTurns turns old new → old.store.queues ≡ Some q → AllByRecursion P q.full → Keeps P turns q new.store.queues
keeps_turns P [] old new q is queues all = keeps_here P q new.store.queues (ap (λ (m : Meeting). m.store.queues) is ∙ queues) all
keeps_turns P (turn ∷ turns) old new q t queues all =
    let x = keeps_turn P turn old t.middle q t.takes queues all in
    keeps_both P (turn ∷ []) turns q t.middle.store.queues new.store.queues x (keeps_turns P turns _ new x.after t.more x.is x.full)

keeps_end : (P : FullView → Type 0) (ending : End) (old new : Meeting) (q : Queues) → EndsSo ending old new → old.store.queues ≡ Some q → AllByRecursion P q.full → Keeps P (last_turn ending) q new.store.queues
keeps_end P AllTaken old new q is queues all = keeps_here P q new.store.queues (ap (λ (m : Meeting). m.store.queues) is ∙ queues) all
keeps_end P NoneFull old new q h queues all = keeps_here P q new.store.queues (ap (λ (s : StoreView). s.queues) h.none.is ∙ queues) all
keeps_end P (Unlogged turn) old new q h queues all =
    subst (λ (s : StoreView). Keeps P (turn ∷ []) q s.queues) (sym h.store) (keeps_turn P turn old h.middle q h.takes queues all)
keeps_end P (Lacked slot message) old new q h queues all =
    let k = keeps_back P slot old.store h.lent h.takes q queues all (record { slot = slot; fate = Unread (record { number = 0; disk = slot.disk; from_full = slot.unread; from_fault = slot.unread }) }) refl new.store h.puts in
    record { after = k.after; is = k.is; each = tt; full = k.full; counts = k.counts }

pub round_keeps : (P : FullView → Type 0) (most : ℕ) (result : Result Round RoundFault) (old new : Meeting) (q : Queues) (h : HandsOn most result old new) → old.store.queues ≡ Some q → AllByRecursion P q.full → Keeps P (h.turns ++ last_turn h.ending) q new.store.queues
round_keeps P most result old new q h queues all =
    let x = keeps_turns P h.turns old h.middle q h.took queues all in
    keeps_both P h.turns (last_turn h.ending) q h.middle.store.queues new.store.queues x (keeps_end P h.ending h.middle new x.after h.ends x.is x.full)
