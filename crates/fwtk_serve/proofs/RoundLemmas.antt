-- What rounds that follow one another come to.
use Rattle.std.proofs.Common.{arith, ◌≡◌, refl, sym, ap, ap₂, subst, ◌∙◌, ℕ, ◌+◌, ◌-◌, ◌^◌, ◌<◌, ◌≤◌, ◌⊎◌, inl, inr, min, cond, Bool, true, List, [], ◌∷◌, ◌++◌, length, map, sum_by, count_by, Option, Some, None, Result, Ok, Err, append_assoc, append-nil}
use Rattle.std.proofs.lemmas.List.{length-append, length-map}
use Rattle.std.proofs.lemmas.List.Sums.{sum_by-cons, sum_by_push}
use Rattle.std.proofs.lemmas.List.Elements.{Contains-append_right}
use Rattle.std.specs.List.{AllByRecursion, Contains}
use mathlib.Core.List.{head-eq_of_cons-eq, tail-eq_of_cons-eq}
use Rattle.fw_disk.specs.Moments.{EachImage}
use Rattle.fw_disk.proofs.MomentLemmas.{through_now}
use Rattle.fw_mail.specs.MailerView.{MailerView}
use Rattle.fw_outside.specs.Counts.{Rose}
use Rattle.fw_outside.specs.SinkView.{SinkView}
use Rattle.fw_outside.specs.ToldList.{grown}
use Rattle.fw_types.specs.declared.message.Message.{Message}
use Rattle.smapd_queue.specs.Meeting.{End, Meeting, last_turn, lacked_of, meeting_with}
use Rattle.smapd_queue.specs.Meeting.End.{AllTaken, NoneFull, Unlogged, Lacked}
use Rattle.smapd_queue.specs.Round.{CountsNone, HandsOn, IsTurn, TurnsFit, answer_of, round_of}
use Rattle.smapd_queue.specs.Sums.{ListsGo, LogGoes, MailersGo, StoreGoes, ToldListsGo, failures_of, refusals_of, released_by, released_of}
use Rattle.smapd_queue.specs.Turns.{Fate, Turn, accepted_by, accepted_of, broken_by, broken_of, freed_by, freed_of, put_aside_by, put_aside_of, put_back_by, put_back_of}
use Rattle.smapd_queue.specs.Turns.Fate.{Freed, NotFreed, PutAside, NotAside, PutBack, Unread}
use Rattle.smapd_queue.specs.declared.round.Round.{Round}
use Rattle.smapd_queue.specs.declared.round.RoundFault.{RoundFault}
use Rattle.smapd_queue.specs.declared.round.RoundFault.TheVariants as faults
use Rattle.spool_pool.specs.Known.{PassView, bare}
use Rattle.spool_rack.specs.Store.{Handed, Loan, Queues, StoreView}
use Rattle.spool_slots.specs.Images.{IsWholeOrAside}
use Rattle.spool_slots.specs.States.{BrokenView, FullView, SlotView}
use Rattle.fwtk_serve.specs.Clerks.{ClerkView, HandsMore, HandsOnce, HandsToEnd, no_sums, with_answer, with_rounds}
use Rattle.fwtk_serve.specs.Sessions.{store_at}
use Rattle.fwtk_serve.specs.Rounds.{BrokeSafely, HandsOnAll, IsRound, RoundView, WereRounds, all_turns, is_starved, numbers_in, starved_count, total_by, total_of, turns_of}
use Rattle.fwtk_serve.specs.declared.sums.Sums.{Sums}

-- ---- one after the other

pub rounds_more : (most : ℕ) (first more : List RoundView) (old mid new : Meeting) → WereRounds most first old mid → WereRounds most more mid new → WereRounds most (first ++ more) old new
rounds_more most [] more old mid new a b = subst (λ (m : Meeting). WereRounds most more m new) a b
rounds_more most (r ∷ rs) more old mid new a b = record { middle = a.middle; first = a.first; more = rounds_more most rs more a.middle mid new a.more b }

-- the turns of a round are those that it says
turns_same : (most : ℕ) (round : RoundView) (old new : Meeting) → (h : IsRound most round old new) → (h.hands.turns ++ last_turn h.hands.ending) ≡ turns_of round
turns_same most round old new h = ap₂ (λ (t : List Turn) (e : End). t ++ last_turn e) (sym h.turns_are) (sym h.ending_is)

-- ---- turns behind turns

released_both : (a b : List Turn) → released_of (a ++ b) ≡ released_of a ++ released_of b
released_both [] b = refl
released_both (t ∷ a) b = ap (λ (l : List Loan). released_by t.slot t.fate ++ l) (released_both a b) ∙ sym (append_assoc (released_by t.slot t.fate) (released_of a) (released_of b))

aside_both : (a b : List Turn) → put_aside_of (a ++ b) ≡ put_aside_of a ++ put_aside_of b
aside_both [] b = refl
aside_both (t ∷ a) b = ap (λ (l : List SlotView). put_aside_by t.fate ++ l) (aside_both a b) ∙ sym (append_assoc (put_aside_by t.fate) (put_aside_of a) (put_aside_of b))

broken_both : (a b : List Turn) → broken_of (a ++ b) ≡ broken_of a ++ broken_of b
broken_both [] b = refl
broken_both (t ∷ a) b = ap (λ (l : List BrokenView). broken_by t.fate ++ l) (broken_both a b) ∙ sym (append_assoc (broken_by t.fate) (broken_of a) (broken_of b))

accepted_both : (a b : List Turn) → accepted_of (a ++ b) ≡ accepted_of a ++ accepted_of b
accepted_both [] b = refl
accepted_both (t ∷ a) b = ap (λ (l : List Message). accepted_by t.fate ++ l) (accepted_both a b) ∙ sym (append_assoc (accepted_by t.fate) (accepted_of a) (accepted_of b))

refusals_both : (a b : List Turn) → refusals_of (a ++ b) ≡ refusals_of a + refusals_of b
refusals_both [] b = omega arith
refusals_both (t ∷ a) b = omega (arith, refusals_both a b)

failures_both : (a b : List Turn) → failures_of (a ++ b) ≡ failures_of a + failures_of b
failures_both [] b = omega arith
failures_both (t ∷ a) b = omega (arith, failures_both a b)

each_both : (a b : List Turn) → AllByRecursion IsTurn a → AllByRecursion IsTurn b → AllByRecursion IsTurn (a ++ b)
each_both [] b x y = y
each_both (t ∷ a) b x y = (x.0, each_both a b x.1 y)

-- ---- the store

-- a store that tells lists, after these turns; the numbers of what wasn't found, and of what broke, don't fall
pub record Grows (turns : List Turn) (before : Handed) (old new : StoreView) : Type 0 where
  pub after : Handed
  pub is : new.handed ≡ Some after
  pub lists : ListsGo turns before after
  pub out : new.out ≡ old.out
  pub no_free : new.no_free ≡ old.no_free
  pub no_full : min old.no_full (2 ^ 64 - 1) ≤ new.no_full
  pub broken : min old.broken (2 ^ 64 - 1) ≤ new.broken

lists_none : (lists : Handed) → ListsGo [] lists lists
lists_none lists = record {
  home = refl;
  parts = refl;
  began = refl;
  put = refl;
  released = sym (append-nil lists.released);
  aside = sym (append-nil lists.aside);
  broken = sym (append-nil lists.broken);
}

lists_more : (a b : List Turn) (old mid new : Handed) → ListsGo a old mid → ListsGo b mid new → ListsGo (a ++ b) old new
lists_more a b old mid new x y = record {
  home = y.home ∙ x.home;
  parts = y.parts ∙ x.parts;
  began = y.began ∙ x.began;
  put = y.put ∙ x.put;
  released = y.released ∙ ap (λ (l : List Loan). l ++ released_of b) x.released ∙ append_assoc old.released (released_of a) (released_of b) ∙ ap (λ (l : List Loan). old.released ++ l) (sym (released_both a b));
  aside = y.aside ∙ ap (λ (l : List SlotView). l ++ put_aside_of b) x.aside ∙ append_assoc old.aside (put_aside_of a) (put_aside_of b) ∙ ap (λ (l : List SlotView). old.aside ++ l) (sym (aside_both a b));
  broken = y.broken ∙ ap (λ (l : List BrokenView). l ++ broken_of b) x.broken ∙ append_assoc old.broken (broken_of a) (broken_of b) ∙ ap (λ (l : List BrokenView). old.broken ++ l) (sym (broken_both a b));
}

pub record ToldSo (turns : List Turn) (before : Handed) (new : Option Handed) : Type 0 where
  pub after : Handed
  pub is : new ≡ Some after
  pub lists : ListsGo turns before after

told_so : (turns : List Turn) (before : Handed) (new : Option Handed) → ToldListsGo turns (Some before) new → ToldSo turns before new
told_so turns before (Some after) go = record { after = after; is = refl; lists = go }
told_so turns before None go = absurd go

none_falls : (ending : End) (old new : StoreView) → CountsNone ending old new → min old.no_full (2 ^ 64 - 1) ≤ new.no_full
none_falls AllTaken old new none = omega (arith, none)
none_falls NoneFull old new none = let rose = none.0.0 in omega (arith, rose)
none_falls (Unlogged turn) old new none = omega (arith, none)
none_falls (Lacked slot message) old new none = omega (arith, none)

grows_one : (most : ℕ) (round : RoundView) (before : Handed) (old new : Meeting) → old.store.handed ≡ Some before → IsRound most round old new → Grows (turns_of round) before old.store new.store
grows_one most round before old new told h =
    let store = subst (λ (t : List Turn). StoreGoes t (lacked_of h.hands.ending) old.store new.store) (turns_same most round old new h) h.hands.store in
    let so = told_so (turns_of round) before new.store.handed (subst (λ (o : Option Handed). ToldListsGo (turns_of round) o new.store.handed) told store.lists) in
    let broken = store.broken in
    record {
      after = so.after;
      is = so.is;
      lists = so.lists;
      out = store.out;
      no_free = store.no_free;
      no_full = none_falls h.hands.ending old.store new.store h.hands.none;
      broken = omega (arith, broken);
    }

pub grows_all : (most : ℕ) (rounds : List RoundView) (before : Handed) (old new : Meeting) → old.store.handed ≡ Some before → WereRounds most rounds old new → Grows (all_turns rounds) before old.store new.store
grows_all most [] before old new told were = record {
  after = before;
  is = ap (λ (m : Meeting). m.store.handed) were ∙ told;
  lists = lists_none before;
  out = ap (λ (m : Meeting). m.store.out) were;
  no_free = ap (λ (m : Meeting). m.store.no_free) were;
  no_full = let same = ap (λ (m : Meeting). m.store.no_full) were in omega (arith, same);
  broken = let same = ap (λ (m : Meeting). m.store.broken) were in omega (arith, same);
}
grows_all most (r ∷ rs) before old new told were =
    let a = grows_one most r before old were.middle told were.first in
    let b = grows_all most rs a.after were.middle new a.is were.more in
    let full_a = a.no_full in
    let full_b = b.no_full in
    let broken_a = a.broken in
    let broken_b = b.broken in
    record {
      after = b.after;
      is = b.is;
      lists = lists_more (turns_of r) (all_turns rs) before a.after b.after a.lists b.lists;
      out = b.out ∙ a.out;
      no_free = b.no_free ∙ a.no_free;
      no_full = omega (arith, full_a, full_b);
      broken = omega (arith, broken_a, broken_b);
    }

-- ---- the mailers

-- mailers with a first one
pub record HasFirst (mailers : List MailerView) : Type 0 where
  pub first : MailerView
  pub others : List MailerView
  pub is : mailers ≡ first ∷ others

pub has_first : (mailers : List MailerView) → 0 < length mailers → HasFirst mailers
has_first [] some = absurd (omega (arith, some))
has_first (first ∷ others) some = record { first = first; others = others; is = refl }

-- a round leaves as many as there were
pub mailers_many : {A : Type 0} (view : A → MailerView) (turns : List Turn) (old new : List A) → MailersGo turns (map view old) (map view new) → length new ≡ length old
mailers_many view turns old new h =
    let a = length-map old view in
    let b = length-map new view in
    let were : length (map view old) ≡ length (h.first ∷ h.others) = ap length h.were in
    let are : length (map view new) ≡ length (h.after ∷ h.others) = ap length h.are in
    omega (arith, a, b, were, are)

grown_nil : {A : Type 0} (told : Option (List A)) → told ≡ grown told []
grown_nil None = refl
grown_nil {A} (Some xs) = ap (λ (l : List A). Some l) (sym (append-nil xs))

grown_both : {A : Type 0} (told : Option (List A)) (xs ys : List A) → grown (grown told xs) ys ≡ grown told (xs ++ ys)
grown_both None xs ys = refl
grown_both {A} (Some zs) xs ys = ap (λ (l : List A). Some l) (append_assoc zs xs ys)

mailers_none : (old new : List MailerView) → HasFirst old → new ≡ old → MailersGo [] old new
mailers_none old new h same = record {
  first = h.first;
  after = h.first;
  others = h.others;
  were = h.is;
  are = same ∙ h.is;
  accepted = grown_nil h.first.accepted;
  took = sym (append-nil h.first.took);
  refusals = omega arith;
  faults = omega arith;
}

mailers_both : (a b : List Turn) (old mid new : List MailerView) → MailersGo a old mid → MailersGo b mid new → MailersGo (a ++ b) old new
mailers_both a b old mid new x y =
    let front : y.first ≡ x.after = head-eq_of_cons-eq (sym y.were ∙ x.are) in
    let rest : y.others ≡ x.others = tail-eq_of_cons-eq (sym y.were ∙ x.are) in
    let refused_a = x.refusals in
    let refused_b = y.refusals in
    let failed_a = x.faults in
    let failed_b = y.faults in
    record {
      first = x.first;
      after = y.after;
      others = x.others;
      were = x.were;
      are = y.are ∙ ap (λ (l : List MailerView). y.after ∷ l) rest;
      accepted = y.accepted
          ∙ ap (λ (m : MailerView). grown m.accepted (accepted_of b)) front
          ∙ ap (λ (t : Option (List Message)). grown t (accepted_of b)) x.accepted
          ∙ grown_both x.first.accepted (accepted_of a) (accepted_of b)
          ∙ ap (grown x.first.accepted) (sym (accepted_both a b));
      took = y.took
          ∙ ap (λ (m : MailerView). m.took ++ accepted_of b) front
          ∙ ap (λ (l : List Message). l ++ accepted_of b) x.took
          ∙ append_assoc x.first.took (accepted_of a) (accepted_of b)
          ∙ ap (λ (l : List Message). x.first.took ++ l) (sym (accepted_both a b));
      refusals = omega (arith, refused_a, refused_b, refusals_both a b, ap (λ (m : MailerView). m.refusals) front);
      faults = omega (arith, failed_a, failed_b, failures_both a b, ap (λ (m : MailerView). m.faults) front);
    }

pub mailers_all : (most : ℕ) (rounds : List RoundView) (old new : Meeting) → HasFirst old.mailers → WereRounds most rounds old new → MailersGo (all_turns rounds) old.mailers new.mailers
mailers_all most [] old new some were = mailers_none old.mailers new.mailers some (ap (λ (m : Meeting). m.mailers) were)
mailers_all most (r ∷ rs) old new some were =
    let a = subst (λ (t : List Turn). MailersGo t old.mailers were.middle.mailers) (turns_same most r old were.middle were.first) were.first.hands.mailers in
    let has : HasFirst were.middle.mailers = record { first = a.after; others = a.others; is = a.are } in
    mailers_both (turns_of r) (all_turns rs) old.mailers were.middle.mailers new.mailers a (mailers_all most rs were.middle new has were.more)

-- ---- the turns

pub each_all : (most : ℕ) (rounds : List RoundView) (old new : Meeting) → WereRounds most rounds old new → AllByRecursion IsTurn (all_turns rounds)
each_all most [] old new were = tt
each_all most (r ∷ rs) old new were =
    each_both (turns_of r) (all_turns rs) (subst (AllByRecursion IsTurn) (turns_same most r old were.middle were.first) were.first.hands.each) (each_all most rs were.middle new were.more)

-- a turn that broke a slot
broke_by : (turns : List Turn) (slot : FullView) (fate : Fate) → Contains turns (record { slot = slot; fate = fate }) → ((message : Message) → accepted_by fate ≡ message ∷ [] → Contains (accepted_of turns) message)
    → IsTurn (record { slot = slot; fate = fate }) → AllByRecursion (BrokeSafely turns) (broken_by fate)
broke_by turns slot (Freed message free) has told h = tt
broke_by turns slot (NotFreed message broken) has told h = (
  record {
    turn = record { slot = slot; fate = NotFreed message broken };
    among = has;
    is = refl;
    so = inl (record { message = message; among = told message refl; its = h.fate.0 });
  },
  tt,
)
broke_by turns slot (PutAside message aside) has told h = tt
broke_by turns slot (NotAside message broken) has told h = (
  record {
    turn = record { slot = slot; fate = NotAside message broken };
    among = has;
    is = refl;
    so = inr (λ m keeps. through_now (EachImage (IsWholeOrAside m)) slot.disk broken.disk (h.kept refl m keeps));
  },
  tt,
)
broke_by turns slot (PutBack message) has told h = tt
broke_by turns slot (Unread broken) has told h = (
  record {
    turn = record { slot = slot; fate = Unread broken };
    among = has;
    is = refl;
    so = inr (λ m keeps. through_now (EachImage (IsWholeOrAside m)) slot.disk broken.disk (h.kept refl m keeps));
  },
  tt,
)

broken_all : (P : BrokenView → Type 0) (xs ys : List BrokenView) → AllByRecursion P xs → AllByRecursion P ys → AllByRecursion P (xs ++ ys)
broken_all P [] ys x y = y
broken_all P (b ∷ xs) ys x y = (x.0, broken_all P xs ys x.1 y)

here_in : {X : Type 0} (front : List X) (x : X) (rest : List X) → Contains (front ++ x ∷ rest) x
here_in front x rest = Contains-append_right front (x ∷ rest) x (0, omega arith, refl)

accepted_in : (front : List Turn) (turn : Turn) (rest : List Turn) (message : Message) → accepted_by turn.fate ≡ message ∷ [] → Contains (accepted_of (front ++ turn ∷ rest)) message
accepted_in front turn rest message is =
    subst (λ (l : List Message). Contains l message) (sym (accepted_both front (turn ∷ rest) ∙ ap (λ (l : List Message). accepted_of front ++ (l ++ accepted_of rest)) is))
    (here_in (accepted_of front) message (accepted_of rest))

broke_rest : (front rest : List Turn) → AllByRecursion IsTurn rest → AllByRecursion (BrokeSafely (front ++ rest)) (broken_of rest)
broke_rest front [] each = tt
broke_rest front (t ∷ rest) each =
    let more = subst (λ (l : List Turn). AllByRecursion (BrokeSafely l) (broken_of rest)) (append_assoc front (t ∷ []) rest) (broke_rest (front ++ t ∷ []) rest each.1) in
    broken_all (BrokeSafely (front ++ t ∷ rest)) (broken_by t.fate) (broken_of rest) (broke_by (front ++ t ∷ rest) t.slot t.fate (here_in front t rest) (accepted_in front t rest) each.0) more

-- each slot that broke did so safely
pub broke_all : (turns : List Turn) → AllByRecursion IsTurn turns → AllByRecursion (BrokeSafely turns) (broken_of turns)
broke_all turns each = broke_rest [] turns each

-- ---- sums

-- each number with those of these rounds
abbrev from_by : (Round → ℕ) → ℕ → List RoundView → ℕ
from_by number n rounds = min (n + sum_by (λ (r : RoundView). number (numbers_in r.answer)) rounds) (2 ^ 32 - 1)

abbrev sums_from : List RoundView → Sums → Sums
sums_from rounds sums = record {
  round = record {
    accepted = from_by (λ (r : Round). r.accepted) sums.round.accepted rounds;
    refused = from_by (λ (r : Round). r.refused) sums.round.refused rounds;
    failed = from_by (λ (r : Round). r.failed) sums.round.failed rounds;
    broken = from_by (λ (r : Round). r.broken) sums.round.broken rounds;
  };
  starved = min (sums.starved + count_by (λ (r : RoundView). is_starved r.answer) rounds) (2 ^ 32 - 1);
}

record AreSmall (sums : Sums) : Type 0 where
  accepted : sums.round.accepted ≤ 2 ^ 32 - 1
  refused : sums.round.refused ≤ 2 ^ 32 - 1
  failed : sums.round.failed ≤ 2 ^ 32 - 1
  broken : sums.round.broken ≤ 2 ^ 32 - 1
  starved : sums.starved ≤ 2 ^ 32 - 1

with_small : (answer : Result Round RoundFault) (sums : Sums) → AreSmall (with_answer answer sums)
with_small answer sums = record { accepted = omega arith; refused = omega arith; failed = omega arith; broken = omega arith; starved = omega arith }

small_is : (n : ℕ) → n ≤ 2 ^ 32 - 1 → n ≡ min (n + 0) (2 ^ 32 - 1)
small_is n small = omega (arith, small)

one_then : (n x more all : ℕ) → all ≡ x + more → min (min (n + x) (2 ^ 32 - 1) + more) (2 ^ 32 - 1) ≡ min (n + all) (2 ^ 32 - 1)
one_then n x more all is = omega (arith, is)

-- one number of a round, and of rounds after it
number_then : (number : Round → ℕ) (n : ℕ) (r : RoundView) (rs : List RoundView)
    → from_by number (min (n + number (numbers_in r.answer)) (2 ^ 32 - 1)) rs ≡ from_by number n (r ∷ rs)
number_then number n r rs =
    let of : RoundView → ℕ = λ (r : RoundView). number (numbers_in r.answer) in
    one_then n (of r) (sum_by of rs) (sum_by of (r ∷ rs)) (sum_by-cons of r rs)

starved_then : (n : ℕ) (r : RoundView) (rs : List RoundView)
    → min (min (n + cond (is_starved r.answer) 1 0) (2 ^ 32 - 1) + count_by (λ (r : RoundView). is_starved r.answer) rs) (2 ^ 32 - 1)
    ≡ min (n + count_by (λ (r : RoundView). is_starved r.answer) (r ∷ rs)) (2 ^ 32 - 1)
starved_then n r rs =
    let of : RoundView → ℕ = λ (r : RoundView). cond (is_starved r.answer) 1 0 in
    one_then n (of r) (sum_by of rs) (sum_by of (r ∷ rs)) (sum_by-cons of r rs)

sums_are : (rounds : List RoundView) (sums : Sums) → AreSmall sums → with_rounds rounds sums ≡ sums_from rounds sums
sums_are [] sums small = λ i. record {
  round = record {
    accepted = small_is sums.round.accepted small.accepted i;
    refused = small_is sums.round.refused small.refused i;
    failed = small_is sums.round.failed small.failed i;
    broken = small_is sums.round.broken small.broken i;
  };
  starved = small_is sums.starved small.starved i;
}
sums_are (r ∷ rs) sums small =
    sums_are rs (with_answer r.answer sums) (with_small r.answer sums)
    ∙ (λ i. record {
      round = record {
        accepted = number_then (λ (n : Round). n.accepted) sums.round.accepted r rs i;
        refused = number_then (λ (n : Round). n.refused) sums.round.refused r rs i;
        failed = number_then (λ (n : Round). n.failed) sums.round.failed r rs i;
        broken = number_then (λ (n : Round). n.broken) sums.round.broken r rs i;
      };
      starved = starved_then sums.starved r rs i;
    })

no_sums_small : AreSmall no_sums
no_sums_small = record { accepted = omega arith; refused = omega arith; failed = omega arith; broken = omega arith; starved = omega arith }

-- and from none on
from_none : (number : Round → ℕ) (rounds : List RoundView) → from_by number 0 rounds ≡ total_by number rounds
from_none number rounds = omega arith

none_starved : (rounds : List RoundView) → min (0 + count_by (λ (r : RoundView). is_starved r.answer) rounds) (2 ^ 32 - 1) ≡ starved_count rounds
none_starved rounds = omega arith

pub sums_of : (rounds : List RoundView) → with_rounds rounds no_sums ≡ record { round = total_of rounds; starved = starved_count rounds }
sums_of rounds =
    sums_are rounds no_sums no_sums_small
    ∙ (λ i. record {
      round = record {
        accepted = from_none (λ (n : Round). n.accepted) rounds i;
        refused = from_none (λ (n : Round). n.refused) rounds i;
        failed = from_none (λ (n : Round). n.failed) rounds i;
        broken = from_none (λ (n : Round). n.broken) rounds i;
      };
      starved = none_starved rounds i;
    })

with_last : (rounds : List RoundView) (round : RoundView) (sums : Sums) → with_answer round.answer (with_rounds rounds sums) ≡ with_rounds (rounds ++ round ∷ []) sums
with_last [] round sums = refl
with_last (r ∷ rs) round sums = with_last rs round (with_answer r.answer sums)

-- ---- who hands on mail

-- no round yet
pub hands_none : (most : ℕ) (old : ClerkView) → HandsMore most old old
hands_none most old = record { rounds = []; went = refl; sums = refl }

-- one more
pub hands_then : (most : ℕ) (old mid new : ClerkView) → HandsMore most old mid → HandsOnce most mid new → HandsMore most old new
hands_then most old mid new h one = record {
  rounds = h.rounds ++ one.round ∷ [];
  went = rounds_more most h.rounds (one.round ∷ []) old.met mid.met new.met h.went one.went;
  sums = one.sums ∙ ap (with_answer one.round.answer) h.sums ∙ with_last h.rounds one.round old.sums;
}

-- a round as `smapd_round` says
pub hands_one : (most : ℕ) (answer : Result Round RoundFault) (old new : ClerkView) → HandsOn most answer old.met new.met → new.sums ≡ with_answer answer old.sums → HandsOnce most old new
hands_one most answer old new h sums = record {
  round = record { answer = answer; turns = h.turns; ending = h.ending };
  went = record { middle = new.met; first = record { hands = h; turns_are = refl; ending_is = refl }; more = refl };
  sums = sums;
}

-- ---- the log

logs_hold : (turns : List Turn) (ending : End) (old new : SinkView) → LogGoes turns ending old new → old.faults ≤ new.faults
logs_hold turns AllTaken old new h = let same = ap (λ (s : SinkView). s.faults) h in omega (arith, same)
logs_hold turns NoneFull old new h = let same = ap (λ (s : SinkView). s.faults) h in omega (arith, same)
logs_hold turns (Unlogged turn) old new h =
    let whole = ap (λ (s : SinkView). s.faults) h.whole in
    let is = ap (λ (s : SinkView). s.faults) h.cut.is in
    let rose = h.cut.rose.0 in
    omega (arith, whole, is, rose)
logs_hold turns (Lacked slot message) old new h = let same = ap (λ (s : SinkView). s.faults) h in omega (arith, same)

pub logs_hold_all : (most : ℕ) (rounds : List RoundView) (old new : Meeting) → WereRounds most rounds old new → old.logs.faults ≤ new.logs.faults
logs_hold_all most [] old new were = let same = ap (λ (m : Meeting). m.logs.faults) were in omega (arith, same)
logs_hold_all most (r ∷ rs) old new were =
    let one = logs_hold were.first.hands.turns were.first.hands.ending old.logs were.middle.logs were.first.hands.logs in
    let more = logs_hold_all most rs were.middle new were.more in
    omega (arith, one, more)

-- ---- the last round

-- no slot was full, which was counted; or as many turns were taken as there may be; or the log failed; or memory was wanting
abbrev EndsSo : ℕ → Result Round RoundFault → Meeting → Meeting → Type 0
EndsSo most answer old new =
    (0 < new.store.no_full) ⊎ (most ≤ (numbers_in answer).accepted + (numbers_in answer).refused + (numbers_in answer).failed + (numbers_in answer).broken)
    ⊎ Rose old.logs.faults new.logs.faults ⊎ (is_starved answer ≡ true)

not_ok : (r s : Round) → (let x : Result Round RoundFault = Err (faults.LogFault r) in x ≡ Ok s) → ⊥
not_ok r s e = absurd cc

not_lacked : (r s : Round) → (let x : Result Round RoundFault = Err (faults.LogFault r) in x ≡ Err (faults.NoMemory s)) → ⊥
not_lacked r s e = absurd cc

not_logged : (r s : Round) (ending : End) → Err (faults.LogFault r) ≡ answer_of ending s → (turns : List Turn) (old new : SinkView) → LogGoes turns ending old new → Rose old.faults new.faults
not_logged r s AllTaken e turns old new h = absurd (not_ok r s e)
not_logged r s NoneFull e turns old new h = absurd (not_ok r s e)
not_logged r s (Unlogged turn) e turns old new h =
    let whole = ap (λ (k : SinkView). k.faults) h.whole in
    let is = ap (λ (k : SinkView). k.faults) h.cut.is in
    let low = h.cut.rose.0 in
    let high = h.cut.rose.1 in
    (omega (arith, whole, is, low), omega (arith, whole, is, high))
not_logged r s (Lacked slot message) e turns old new h = absurd (not_lacked r s e)

-- each turn is counted in one number
one_way : (slot : FullView) (fate : Fate) → length (freed_by fate) + length (put_aside_by fate) + length (put_back_by slot fate) + length (broken_by fate) ≡ 1
one_way slot (Freed message free) = omega arith
one_way slot (NotFreed message broken) = omega arith
one_way slot (PutAside message aside) = omega arith
one_way slot (NotAside message broken) = omega arith
one_way slot (PutBack message) = omega arith
one_way slot (Unread broken) = omega arith

all_ways : (turns : List Turn) → length (freed_of turns) + length (put_aside_of turns) + length (put_back_of turns) + length (broken_of turns) ≡ length turns
all_ways [] = refl
all_ways (turn ∷ turns) =
    let a = length-append (freed_by turn.fate) (freed_of turns) in
    let b = length-append (put_aside_by turn.fate) (put_aside_of turns) in
    let c = length-append (put_back_by turn.slot turn.fate) (put_back_of turns) in
    let d = length-append (broken_by turn.fate) (broken_of turns) in
    let one = one_way turn.slot turn.fate in
    let more = all_ways turns in
    omega (arith, a, b, c, d, one, more)

ok_is : (r s : Round) → (let x : Result Round RoundFault = Ok r in x ≡ Ok s) → r ≡ s
ok_is r s e = cc

not_err : (r : Round) (f : RoundFault) → (let x : Result Round RoundFault = Ok r in x ≡ Err f) → ⊥
not_err r f e = absurd cc

well_by : (most : ℕ) (round : Round) (turns : List Turn) (ending : End) (old new : Meeting) → Ok round ≡ answer_of ending (round_of turns) → TurnsFit ending (length turns) most → CountsNone ending old.store new.store → EndsSo most (Ok round) old new
well_by most round turns AllTaken old new answer fits none =
    let is : round ≡ round_of turns = ok_is round (round_of turns) answer in
    let ways = all_ways turns in
    inr (inl (subst (λ (r : Round). most ≤ r.accepted + r.refused + r.failed + r.broken) (sym is) (omega (arith, ways, fits))))
well_by most round turns NoneFull old new answer fits none = let rose = none.0.1 in inl (omega (arith, rose))
well_by most round turns (Unlogged turn) old new answer fits none = absurd (not_err round _ answer)
well_by most round turns (Lacked slot message) old new answer fits none = absurd (not_err round _ answer)

ends_by : (most : ℕ) (answer : Result Round RoundFault) (old new : Meeting) → HandsOn most answer old new → EndsSo most answer old new
ends_by most (Ok round) old new h = well_by most round h.turns h.ending old new h.answer h.fits h.none
ends_by most (Err (faults.NoMemory round)) old new h = inr (inr (inr refl))
ends_by most (Err (faults.LogFault round)) old new h = inr (inr (inl (not_logged round (round_of h.turns) h.ending h.answer h.turns old.logs new.logs h.logs)))

-- and so after all rounds, with the sums
abbrev EndAll : ℕ → List RoundView → Meeting → Meeting → Type 0
EndAll most rounds old new =
    (0 < new.store.no_full) ⊎ (most ≤ (total_of rounds).accepted + (total_of rounds).refused + (total_of rounds).failed + (total_of rounds).broken)
    ⊎ Rose old.logs.faults new.logs.faults ⊎ (0 < starved_count rounds)

-- one number of all rounds is at least that of the last one, up to the last value
last_number : (number : Round → ℕ) (rounds : List RoundView) (last : RoundView) → min (number (numbers_in last.answer)) (2 ^ 32 - 1) ≤ total_by number (rounds ++ last ∷ [])
last_number number rounds last = let sum = sum_by_push (λ (r : RoundView). number (numbers_in r.answer)) rounds last in omega (arith, sum)

ends_after : (most : ℕ) (rounds : List RoundView) (last : RoundView) (old mid new : Meeting) → most ≤ 2 ^ 32 - 1 → old.logs.faults ≤ mid.logs.faults → EndsSo most last.answer mid new → EndAll most (rounds ++ last ∷ []) old new
ends_after most rounds last old mid new fits held (inl none) = inl none
ends_after most rounds last old mid new fits held (inr (inl sum)) =
    let a = last_number (λ (r : Round). r.accepted) rounds last in
    let b = last_number (λ (r : Round). r.refused) rounds last in
    let c = last_number (λ (r : Round). r.failed) rounds last in
    let d = last_number (λ (r : Round). r.broken) rounds last in
    inr (inl (omega (arith, sum, fits, a, b, c, d)))
ends_after most rounds last old mid new fits held (inr (inr (inl rose))) = inr (inr (inl (omega (arith, held, rose.0), omega (arith, held, rose.1))))
ends_after most rounds last old mid new fits held (inr (inr (inr starved))) =
    let sum = sum_by_push (λ (r : RoundView). cond (is_starved r.answer) 1 0) rounds last in
    let one = ap {B = ℕ} (λ (b : Bool). cond b 1 0) starved in
    inr (inr (inr (omega (arith, sum, one))))

pub ends_all : (most : ℕ) (rounds : List RoundView) (last : RoundView) (old mid new : Meeting) → most ≤ 2 ^ 32 - 1 → WereRounds most rounds old mid → IsRound most last mid new → EndAll most (rounds ++ last ∷ []) old new
ends_all most rounds last old mid new fits were one = ends_after most rounds last old mid new fits (logs_hold_all most rounds old mid were) (ends_by most last.answer mid new one.hands)

-- ---- the whole

-- one round alone
alone : (most : ℕ) (round : RoundView) (old new : Meeting) → WereRounds most (round ∷ []) old new → IsRound most round old new
alone most round old new were = subst (λ (m : Meeting). IsRound most round old m) (sym were.more) were.first

some_same : {X : Type 0} {x y : X} → Some x ≡ Some y → x ≡ y
some_same e = cc

-- the ends, of what is reported
ends_said : (most : ℕ) (sums : Sums) (counted : ℕ) (rounds : List RoundView) (old new : Meeting) (no_full : ℕ) → sums ≡ record { round = total_of rounds; starved = starved_count rounds } → new.store.no_full ≡ no_full → min no_full (2 ^ 64 - 1) ≤ counted
    → EndAll most rounds old new
    → (0 < counted) ⊎ (most ≤ sums.round.accepted + sums.round.refused + sums.round.failed + sums.round.broken) ⊎ Rose old.logs.faults new.logs.faults ⊎ (0 < sums.starved)
ends_said most sums counted rounds old new no_full is same more (inl none) = inl (omega (arith, none, same, more))
ends_said most sums counted rounds old new no_full is same more (inr (inl sum)) = inr (inl (subst (λ (s : Sums). most ≤ s.round.accepted + s.round.refused + s.round.failed + s.round.broken) (sym is) sum))
ends_said most sums counted rounds old new no_full is same more (inr (inr (inl rose))) = inr (inr (inl rose))
ends_said most sums counted rounds old new no_full is same more (inr (inr (inr starved))) = inr (inr (inr (subst (λ (s : Sums). 0 < s.starved) (sym is) starved)))

-- what a clerk who began with a pass that had put nothing came to, once his pass has met others that had released nothing
pub hands_all : (most : ℕ) (home : List (List ℕ)) (parts : ℕ) (began : Queues) (old new : ClerkView) (pass mail : PassView)
    → most ≤ 2 ^ 32 - 1 → HandsToEnd most old new → old.met.store ≡ store_at (bare home parts began) → old.sums ≡ no_sums → HasFirst old.met.mailers
    → new.met.store.handed ≡ Some pass.handed → new.met.store.no_full ≡ pass.no_full
    → mail.handed.released ≡ pass.handed.released → mail.handed.aside ≡ pass.handed.aside → mail.handed.broken ≡ pass.handed.broken → min pass.no_full (2 ^ 64 - 1) ≤ mail.no_full
    → HandsOnAll most new.sums.round new.sums.starved mail old.met.mailers new.met.mailers old.met.logs new.met.logs
hands_all most home parts began old new pass mail fits h begins none some handed no_full released aside broken more =
    let rounds = h.more.rounds ++ h.last.round ∷ [] in
    let went : WereRounds most rounds old.met new.met = rounds_more most h.more.rounds (h.last.round ∷ []) old.met h.middle.met new.met h.more.went h.last.went in
    let sums : new.sums ≡ record { round = total_of rounds; starved = starved_count rounds } =
    h.last.sums ∙ ap (with_answer h.last.round.answer) h.more.sums ∙ with_last h.more.rounds h.last.round old.sums ∙ ap (with_rounds rounds) none ∙ sums_of rounds in
    let grows = grows_all most rounds (bare home parts began).handed old.met new.met (ap (λ (s : StoreView). s.handed) begins) went in
    let same : pass.handed ≡ grows.after = some_same (sym handed ∙ grows.is) in
    let each = each_all most rounds old.met new.met went in
    let broke : mail.handed.broken ≡ broken_of (all_turns rounds) = broken ∙ ap (λ (l : Handed). l.broken) same ∙ grows.lists.broken in
    let many : length rounds ≡ length h.more.rounds + 1 = length-append h.more.rounds (h.last.round ∷ []) in
    record {
      rounds = rounds;
      held = omega (arith, many);
      home = home;
      parts = parts;
      began = began;
      last = new.met.store;
      went = subst (λ (s : StoreView). WereRounds most rounds (meeting_with s old.met.mailers old.met.logs) new.met) begins went;
      released = released ∙ ap (λ (l : Handed). l.released) same ∙ grows.lists.released;
      aside = aside ∙ ap (λ (l : Handed). l.aside) same ∙ grows.lists.aside;
      broken = broke;
      each = each;
      broke = subst (AllByRecursion (BrokeSafely (all_turns rounds))) (sym broke) (broke_all (all_turns rounds) each);
      took = mailers_all most rounds old.met new.met some went;
      round_is = ap (λ (s : Sums). s.round) sums;
      starved_is = ap (λ (s : Sums). s.starved) sums;
      ends = ends_said most new.sums mail.no_full rounds old.met new.met pass.no_full sums no_full more (ends_all most h.more.rounds h.last.round old.met h.middle.met new.met fits h.more.went (alone most h.last.round h.middle.met new.met h.last.went));
    }
