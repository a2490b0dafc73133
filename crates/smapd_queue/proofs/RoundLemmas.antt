-- A round, from its steps.
use Rattle.std.proofs.Common.{arith, ◌≡◌, refl, sym, ap, subst, ◌∙◌, ℕ, ◌<◌, ◌≤◌, List, [], ◌∷◌, ◌++◌, length, map, append-nil, Option, Some, None, Result, Ok, Err}
use Rattle.std.specs.List.{AllByRecursion}
use Rattle.std.specs.Prelude.{IfSome}
use Rattle.std.proofs.lemmas.List.{length-map}
use Rattle.fw_mail.specs.MailerView.{MailerView}
use Rattle.fw_types.specs.declared.message.Message.{Message}
use Rattle.spool_rack.specs.Store.{HasNoFull, Queues, StoreView}
use Rattle.spool_slots.specs.States.{FullView}
use Rattle.smapd_queue.specs.declared.round.Round.{Round}
use Rattle.smapd_queue.specs.declared.round.RoundFault.{RoundFault}
use Rattle.smapd_queue.specs.declared.round.RoundFault.TheVariants as faults
use Rattle.smapd_queue.specs.declared.round.Trouble.{Trouble}
use Rattle.smapd_queue.specs.declared.tally.Tally.{Tally}
use Rattle.smapd_queue.specs.Turns.{Turn, line_of, or_else, trouble_of}
use Rattle.smapd_queue.specs.Words.{trouble_in, word_by}
use Rattle.smapd_queue.specs.Meeting.{End, EndsSo, FailsToLog, FindsNone, Lacks, MailersLack, Meeting, TakesTurn, TakesTurns, lacked_of, last_turn, with_text}
use Rattle.smapd_queue.specs.Meeting.End.{AllTaken, NoneFull, Unlogged, Lacked}
use Rattle.smapd_queue.specs.Round.{CountsNone, HandsOnTelling, IsTurn, NoneIsFull, TurnsFit, answer_of, round_of}
use Rattle.smapd_queue.specs.Steps.{IsSoFar, StopsAtLog, StopsEmpty, StopsForMemory}
use Rattle.smapd_queue.specs.Sums.{LogGoes, MailersGo, StoreGoes}
use Rattle.smapd_queue.proofs.FateLemmas.{is_turn}
use Rattle.smapd_queue.proofs.LogLemmas.{logs_cut, logs_first, logs_here}
use Rattle.smapd_queue.proofs.MailerLemmas.{HasFirst, has_after, mailers_first, mailers_here, mailers_lacked, met_by}
use Rattle.smapd_queue.proofs.TurnLemmas.{trouble_more}
use Rattle.smapd_queue.proofs.StoreLemmas.{Turned, lacked_count, store_first, store_here, store_lacked, store_none, turned_by}

-- what steps come to
pub record ComesTo (turns : List Turn) (ending : End) (old new : Meeting) : Type 0 where
  pub each : AllByRecursion IsTurn (turns ++ last_turn ending)
  pub store : StoreGoes (turns ++ last_turn ending) (lacked_of ending) old.store new.store
  pub none : CountsNone ending old.store new.store
  pub mailers : MailersGo (turns ++ last_turn ending) old.mailers new.mailers
  pub logs : LogGoes turns ending old.logs new.logs

-- ---- the end

none_told : (queues now : Option Queues) → now ≡ queues → IfSome queues (λ q. q.full ≡ []) → IfSome now (λ q. q.full ≡ [])
none_told queues now same h = subst (λ (o : Option Queues). IfSome o (λ q. q.full ≡ [])) (sym same) h

none_is_full : (old new : StoreView) → HasNoFull old new → NoneIsFull old new
none_is_full old new h =
    let count : new.no_full ≡ h.count = ap (λ (s : StoreView). s.no_full) h.is in
    let low = h.rose.0 in
    let high = h.rose.1 in
    ((omega (arith, count, low), omega (arith, count, high)), none_told old.queues new.queues (ap (λ (s : StoreView). s.queues) h.is) h.none)

-- the counts after a turn that was taken
turned_of : (turn : Turn) (old new : Meeting) → (t : TakesTurn turn old new) → Turned turn.slot turn.fate old.store new.store
turned_of turn old new t = turned_by turn.slot turn.fate old.store t.lent new.store t.takes t.slot_so t.puts

lack_mailers : (slot : FullView) (message : Option Message) (old new : List MailerView) → HasFirst old → MailersLack slot message old new → MailersGo [] old new
lack_mailers slot None old new some h = mailers_here old new some h
lack_mailers slot (Some message) old new some h = mailers_lacked message old new h.1

end_all : (old new : Meeting) → HasFirst old.mailers → new ≡ old → ComesTo [] AllTaken old new
end_all old new some h = subst (ComesTo [] AllTaken old) (sym h) (record {
  each = tt;
  store = store_here old.store;
  none = refl;
  mailers = mailers_here old.mailers old.mailers some refl;
  logs = logs_here old.logs old.logs refl;
})

end_none : (old new : Meeting) → HasFirst old.mailers → FindsNone old new → ComesTo [] NoneFull old new
end_none old new some h = record {
  each = tt;
  store = store_none old.store new.store h.none;
  none = none_is_full old.store new.store h.none;
  mailers = mailers_here old.mailers new.mailers some h.mailers;
  logs = logs_here old.logs new.logs h.logs;
}

end_unlogged : (turn : Turn) (old new : Meeting) → HasFirst old.mailers → FailsToLog turn old new → ComesTo [] (Unlogged turn) old new
end_unlogged turn old new some h =
    let t = turned_of turn old h.middle h.takes in
    let m = met_by turn.fate old.mailers h.middle.mailers some h.takes.mailers in
    record {
      each = (is_turn turn h.takes.slot_so, tt);
      store = store_first turn [] [] old.store h.takes.lent h.middle.store new.store h.takes.takes t (subst (StoreGoes [] [] h.middle.store) (sym h.store) (store_here h.middle.store));
      none = ap (λ (s : StoreView). s.no_full) h.store ∙ t.no_full;
      mailers = mailers_first turn [] old.mailers h.middle.mailers new.mailers m (mailers_here h.middle.mailers new.mailers (has_after turn.fate old.mailers h.middle.mailers m) h.mailers);
      logs = logs_cut turn old.logs h.middle.logs new.logs h.takes.logs h.cut;
    }

end_lacked : (slot : FullView) (message : Option Message) (old new : Meeting) → HasFirst old.mailers → Lacks slot message old new → ComesTo [] (Lacked slot message) old new
end_lacked slot message old new some h = record {
  each = tt;
  store = store_lacked slot old.store h.lent new.store h.takes h.puts;
  none = lacked_count slot old.store h.lent new.store h.takes h.puts;
  mailers = lack_mailers slot message old.mailers new.mailers some h.mailers;
  logs = logs_here old.logs new.logs h.logs;
}

end_comes : (ending : End) (old new : Meeting) → HasFirst old.mailers → EndsSo ending old new → ComesTo [] ending old new
end_comes AllTaken old new some h = end_all old new some h
end_comes NoneFull old new some h = end_none old new some h
end_comes (Unlogged turn) old new some h = end_unlogged turn old new some h
end_comes (Lacked slot message) old new some h = end_lacked slot message old new some h

-- ---- one more in front

counts_on : (ending : End) (old middle new : StoreView) → middle.no_full ≡ old.no_full → CountsNone ending middle new → CountsNone ending old new
counts_on AllTaken old middle new same h = h ∙ same
counts_on NoneFull old middle new same h =
    let low = h.0.0 in
    let high = h.0.1 in
    ((omega (arith, same, low), omega (arith, same, high)), h.1)
counts_on (Unlogged turn) old middle new same h = h ∙ same
counts_on (Lacked slot message) old middle new same h = h ∙ same

comes_first : (turn : Turn) (turns : List Turn) (ending : End) (old middle new : Meeting) → HasFirst old.mailers → TakesTurn turn old middle
    → (HasFirst middle.mailers → ComesTo turns ending (with_text (line_of turn) middle) new) → ComesTo (turn ∷ turns) ending old new
comes_first turn turns ending old middle new some takes more =
    let t = turned_of turn old middle takes in
    let m = met_by turn.fate old.mailers middle.mailers some takes.mailers in
    let c = more (has_after turn.fate old.mailers middle.mailers m) in
    record {
      each = (is_turn turn takes.slot_so, c.each);
      store = store_first turn (turns ++ last_turn ending) (lacked_of ending) old.store takes.lent middle.store new.store takes.takes t c.store;
      none = counts_on ending old.store middle.store new.store t.no_full c.none;
      mailers = mailers_first turn (turns ++ last_turn ending) old.mailers middle.mailers new.mailers m c.mailers;
      logs = logs_first turn turns ending old.logs middle.logs new.logs takes.logs c.logs;
    }

comes : (turns : List Turn) (ending : End) (old middle new : Meeting) → HasFirst old.mailers → TakesTurns turns old middle → EndsSo ending middle new → ComesTo turns ending old new
comes [] ending old middle new some h e = end_comes ending old new some (subst (λ (m : Meeting). EndsSo ending m new) h e)
comes (turn ∷ turns) ending old middle new some h e =
    comes_first turn turns ending old h.middle new some h.takes (λ there. comes turns ending (with_text (line_of turn) h.middle) middle new there h.more e)

-- ---- the round

pub some_mapped : {A B : Type 0} (f : A → B) (xs : List A) → 0 < length xs → 0 < length (map f xs)
some_mapped f xs lt = let long = length-map xs f in omega (arith, long, lt)

has_first : (mailers : List MailerView) → 0 < length mailers → HasFirst mailers
has_first [] lt = absurd (omega (arith, lt))
has_first (first ∷ others) lt = record { first = first; others = others; is = refl }

hands_on : (most : ℕ) (turns : List Turn) (ending : End) (result : Result Round RoundFault) (trouble : Option Trouble) (old middle new : Meeting) → 0 < length old.mailers → TakesTurns turns old middle → EndsSo ending middle new
    → TurnsFit ending (length turns) most → result ≡ answer_of ending (round_of turns) → trouble ≡ trouble_of (turns ++ last_turn ending) → HandsOnTelling most result trouble old new
hands_on most turns ending result trouble old middle new some took ends fits answer told =
    let c = comes turns ending old middle new (has_first old.mailers some) took ends in
    record {
      hands = record {
        turns = turns;
        ending = ending;
        middle = middle;
        took = took;
        ends = ends;
        fits = fits;
        answer = answer;
        each = c.each;
        store = c.store;
        none = c.none;
        mailers = c.mailers;
        logs = c.logs;
      };
      told = told;
    }

no_last : (turns : List Turn) (trouble : Option Trouble) → trouble ≡ trouble_of turns → trouble ≡ trouble_of (turns ++ [])
no_last turns trouble is = is ∙ ap trouble_of (sym (append-nil turns))

-- all turns were taken
pub round_all : (most left : ℕ) (tally : Tally) (old new : Meeting) → 0 < length old.mailers → left ≤ 0 → IsSoFar most left tally old new → HandsOnTelling most (Ok tally.round) tally.trouble old new
round_all most left tally old new some none s =
    let number = s.number in
    hands_on most s.turns AllTaken (Ok tally.round) tally.trouble old new new some s.took refl (omega (arith, none, number)) (ap (λ (r : Round). Ok r) s.round) (no_last s.turns tally.trouble s.trouble)

-- no slot was full
pub round_none : (most left : ℕ) (tally counted : Tally) (old now new : Meeting) → 0 < length old.mailers → 0 < left → IsSoFar most left tally old now → StopsEmpty tally counted now new
    → HandsOnTelling most (Ok counted.round) counted.trouble old new
round_none most left tally counted old now new some more s e =
    let number = s.number in
    hands_on most s.turns NoneFull (Ok counted.round) counted.trouble old now new some s.took e.finds (omega (arith, more, number)) (ap (λ (t : Tally). Ok t.round) e.same ∙ ap (λ (r : Round). Ok r) s.round) (no_last s.turns counted.trouble (ap (λ (t : Tally). t.trouble) e.same ∙ s.trouble))

-- the log failed
pub round_unlogged : (most left : ℕ) (tally counted : Tally) (old now new : Meeting) → 0 < length old.mailers → 0 < left → IsSoFar most left tally old now → StopsAtLog tally counted now new
    → HandsOnTelling most (Err (faults.LogFault counted.round)) counted.trouble old new
round_unlogged most left tally counted old now new some more s e =
    let number = s.number in
    hands_on most s.turns (Unlogged e.turn) (Err (faults.LogFault counted.round)) counted.trouble old now new some s.took e.fails (omega (arith, more, number)) (ap (λ (t : Tally). Err (faults.LogFault t.round)) e.counts ∙ ap (λ (r : Round). Err (faults.LogFault r)) s.round)
    (ap (λ (t : Tally). t.trouble) e.counts ∙ ap (λ (o : Option Trouble). or_else o (trouble_in e.turn.slot.number (word_by e.turn.fate))) s.trouble ∙ sym (trouble_more s.turns e.turn))

-- there was no memory
pub round_lacked : (most left : ℕ) (tally counted : Tally) (old now new : Meeting) → 0 < length old.mailers → 0 < left → IsSoFar most left tally old now → StopsForMemory tally counted now new
    → HandsOnTelling most (Err (faults.NoMemory counted.round)) counted.trouble old new
round_lacked most left tally counted old now new some more s e =
    let number = s.number in
    hands_on most s.turns (Lacked e.slot e.message) (Err (faults.NoMemory counted.round)) counted.trouble old now new some s.took e.lacks (omega (arith, more, number)) (ap (λ (t : Tally). Err (faults.NoMemory t.round)) e.same ∙ ap (λ (r : Round). Err (faults.NoMemory r)) s.round) (no_last s.turns counted.trouble (ap (λ (t : Tally). t.trouble) e.same ∙ s.trouble))
