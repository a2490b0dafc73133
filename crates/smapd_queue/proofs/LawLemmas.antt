-- What follows of a round.
use Rattle.std.proofs.Common.{arith, ◌≡◌, refl, sym, ap, subst, ◌∙◌, ℕ, ◌+◌, inl, inr, List, [], ◌∷◌, ◌++◌, length, take, drop, Option, Some, None, option_map, Result, Ok, Err, lit<}
use Rattle.std.specs.List.{AllByRecursion, Contains}
use Rattle.std.specs.Prelude.{IfSome}
use Rattle.std.proofs.lemmas.List.{length-append}
use Rattle.std.proofs.lemmas.List.Elements.{Contains-append_left, Contains-append_right}
use Rattle.spool_rack.specs.Store.{Queues}
use Rattle.spool_slots.specs.States.{FullView}
use Rattle.smapd_queue.specs.declared.round.Round.{Round}
use Rattle.smapd_queue.specs.declared.round.RoundFault.{RoundFault}
use Rattle.smapd_queue.specs.Turns.{Fate, Turn, broken_by, broken_of, freed_by, freed_of, line_of, put_aside_by, put_aside_of, put_back_by, put_back_of}
use Rattle.smapd_queue.specs.Turns.Fate.{Freed, NotFreed, PutAside, NotAside, PutBack, Unread}
use Rattle.smapd_queue.specs.Laws.{AddsUp, WereFull}
use Rattle.smapd_queue.specs.Meeting.{End, EndsSo, Meeting, TakesTurn, TakesTurns, last_turn, with_text}
use Rattle.smapd_queue.specs.Meeting.End.{AllTaken, NoneFull, Unlogged, Lacked}
use Rattle.smapd_queue.specs.Round.{CountsNone, HandsOn, TurnsFit, answer_of, round_of}
use Rattle.smapd_queue.proofs.StoreLemmas.{front_of, turned, turned_by}

-- ---- the numbers

one_way : (slot : FullView) (fate : Fate) → length (freed_by fate) + length (put_aside_by fate) + length (put_back_by slot fate) + length (broken_by fate) ≡ 1
one_way slot (Freed message free) = omega arith
one_way slot (NotFreed message broken) = omega arith
one_way slot (PutAside message aside) = omega arith
one_way slot (NotAside message broken) = omega arith
one_way slot (PutBack message) = omega arith
one_way slot (Unread broken) = omega arith

all_ways : (turns : List Turn) → length (freed_of turns) + length (put_aside_of turns) + length (put_back_of turns) + length (broken_of turns) ≡ length turns
all_ways [] = refl
all_ways (turn ∷ turns) =
    let a = length-append (freed_by turn.fate) (freed_of turns) in
    let b = length-append (put_aside_by turn.fate) (put_aside_of turns) in
    let c = length-append (put_back_by turn.slot turn.fate) (put_back_of turns) in
    let d = length-append (broken_by turn.fate) (broken_of turns) in
    let one = one_way turn.slot turn.fate in
    let more = all_ways turns in
    omega (arith, a, b, c, d, one, more)

ok_is : (r s : Round) → (let x : Result Round RoundFault = Ok r in x ≡ Ok s) → r ≡ s
ok_is r s e = cc

not_err : (r : Round) (f : RoundFault) → (let x : Result Round RoundFault = Ok r in x ≡ Err f) → ⊥
not_err r f e = absurd cc

adds_up_by : (most : ℕ) (round : Round) (turns : List Turn) (ending : End) (old new : Meeting) → Ok round ≡ answer_of ending (round_of turns) → TurnsFit ending (length turns) most
    → CountsNone ending old.store new.store → AddsUp most round old new
adds_up_by most round turns AllTaken old new answer fits none =
    let is : round ≡ round_of turns = ok_is round (round_of turns) answer in
    inl (subst (λ (r : Round). r.accepted + r.refused + r.failed + r.broken ≡ most) (sym is) (all_ways turns ∙ fits))
adds_up_by most round turns NoneFull old new answer fits none = inr none
adds_up_by most round turns (Unlogged turn) old new answer fits none = absurd (not_err round _ answer)
adds_up_by most round turns (Lacked slot message) old new answer fits none = absurd (not_err round _ answer)

pub adds_up : (most : ℕ) (round : Round) (old new : Meeting) → HandsOn most (Ok round) old new → AddsUp most round old new
adds_up most round old new h = adds_up_by most round h.turns h.ending old new h.answer h.fits h.none

-- ---- the slots

abbrev AreIn : List FullView → List FullView → Type 0
AreIn base slots = AllByRecursion (Contains base) slots

both_in : (base xs ys : List FullView) → AreIn base xs → AreIn base ys → AreIn base (xs ++ ys)
both_in base [] ys a b = b
both_in base (x ∷ xs) ys a b = (a.0, both_in base xs ys a.1 b)

-- the first is one of them, and so are the others
first_in : (base slots : List FullView) (slot : FullView) → take 1 slots ≡ slot ∷ [] → AreIn base slots → Contains base slot × AreIn base (drop 1 slots)
first_in base slots slot front all = let there : AreIn base (slot ∷ drop 1 slots) = subst (AreIn base) (front_of slot slots front) all in there

back_in : (base : List FullView) (slot : FullView) (fate : Fate) → Contains base slot → AreIn base (put_back_by slot fate)
back_in base slot (Freed message free) h = tt
back_in base slot (NotFreed message broken) h = tt
back_in base slot (PutAside message aside) h = tt
back_in base slot (NotAside message broken) h = tt
back_in base slot (PutBack message) h = (h, tt)
back_in base slot (Unread broken) h = tt

abbrev TakenIn : List FullView → List Turn → Type 0
TakenIn base turns = AllByRecursion (λ turn. Contains base turn.slot) turns

-- a turn takes one of them, and leaves only such
record TurnIn (base : List FullView) (turn : Turn) (new : Meeting) : Type 0 where
  one : Contains base turn.slot
  q : Queues
  queues : new.store.queues ≡ Some q
  full : AreIn base q.full

turn_in : (base : List FullView) (turn : Turn) (q : Queues) (old new : Meeting) → old.store.queues ≡ Some q → AreIn base q.full → TakesTurn turn old new → TurnIn base turn new
turn_in base turn q old new told all t =
    let front : take 1 q.full ≡ turn.slot ∷ [] = subst (λ (o : Option Queues). IfSome o (λ r. take 1 r.full ≡ turn.slot ∷ [])) told t.takes.front in
    let m = turned_by turn.slot turn.fate old.store t.lent new.store t.takes t.slot_so t.puts in
    let parts = first_in base q.full turn.slot front all in
    record {
      one = parts.0;
      q = turned turn.slot turn.fate q;
      queues = m.queues ∙ ap (option_map (turned turn.slot turn.fate)) told;
      full = both_in base (drop 1 q.full) (put_back_by turn.slot turn.fate) parts.1 (back_in base turn.slot turn.fate parts.0);
    }

ends_in : (base : List FullView) (ending : End) (q : Queues) (old new : Meeting) → old.store.queues ≡ Some q → AreIn base q.full → EndsSo ending old new → TakenIn base (last_turn ending)
ends_in base AllTaken q old new told all h = tt
ends_in base NoneFull q old new told all h = tt
ends_in base (Unlogged turn) q old new told all h = ((turn_in base turn q old h.middle told all h.takes).one, tt)
ends_in base (Lacked slot message) q old new told all h = tt

turns_in : (base : List FullView) (turns : List Turn) (ending : End) (q : Queues) (old middle new : Meeting) → old.store.queues ≡ Some q → AreIn base q.full → TakesTurns turns old middle → EndsSo ending middle new
    → TakenIn base (turns ++ last_turn ending)
turns_in base [] ending q old middle new told all h e = ends_in base ending q old new told all (subst (λ (m : Meeting). EndsSo ending m new) h e)
turns_in base (turn ∷ turns) ending q old middle new told all h e =
    let t = turn_in base turn q old h.middle told all h.takes in
    (t.one, turns_in base turns ending t.q (with_text (line_of turn) h.middle) middle new t.queues t.full h.more e)

later : (base : List FullView) (x : FullView) (slots : List FullView) → AreIn base slots → AreIn (x ∷ base) slots
later base x [] h = tt
later base x (slot ∷ slots) h = (Contains-append_right (x ∷ []) base slot h.0, later base x slots h.1)

all_in : (slots : List FullView) → AreIn slots slots
all_in [] = tt
all_in (slot ∷ slots) = (Contains-append_left (slot ∷ []) slots slot (0, lit< tt, refl), later slots slot slots (all_in slots))

were_full_by : (turns : List Turn) (ending : End) (queues : Option Queues) (old middle new : Meeting) → old.store.queues ≡ queues → TakesTurns turns old middle → EndsSo ending middle new
    → IfSome queues (λ q. TakenIn q.full (turns ++ last_turn ending))
were_full_by turns ending None old middle new is h e = tt
were_full_by turns ending (Some q) old middle new is h e = turns_in q.full turns ending q old middle new is (all_in q.full) h e

pub were_full : (most : ℕ) (result : Result Round RoundFault) (old new : Meeting) (hands : HandsOn most result old new) → WereFull (hands.turns ++ last_turn hands.ending) old
were_full most result old new hands = were_full_by hands.turns hands.ending old.store.queues old hands.middle new refl hands.took hands.ends
