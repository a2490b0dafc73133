-- One turn more at the end of a list of turns.
use Rattle.std.proofs.Common.{arith, ◌≡◌, refl, sym, ap, subst, ◌∙◌, ℕ, ◌+◌, ◌<◌, ◌≤◌, List, [], ◌∷◌, ◌++◌, length, Option, Some, None}
use Rattle.std.proofs.lemmas.List.{length-append}
use Rattle.spool_slots.specs.States.{FullView}
use Rattle.smapd_queue.specs.declared.round.Round.{Round}
use Rattle.smapd_queue.specs.declared.round.Trouble.{Trouble}
use Rattle.smapd_queue.specs.declared.tally.Tally.{Tally}
use Rattle.smapd_queue.specs.Turns.{Fate, Turn, broken_by, broken_of, freed_by, freed_of, handed_line, line_of, or_else, put_aside_by, put_aside_of, put_back_by, put_back_of, trouble_by, trouble_of, word_of}
use Rattle.smapd_queue.specs.Turns.Fate.{Freed, NotFreed, PutAside, NotAside, PutBack, Unread}
use Rattle.smapd_queue.specs.Meeting.{Meeting, TakesTurn, TakesTurns, with_text}
use Rattle.smapd_queue.specs.Round.{round_of}
use Rattle.smapd_queue.specs.Steps.{Goes, IsSoFar}
use Rattle.smapd_queue.specs.Words.{HasRoom, text_of, trouble_in, with_one, word_by}

-- ---- step by step

pub took_more : (turns : List Turn) (turn : Turn) (old now middle : Meeting) → TakesTurns turns old now → TakesTurn turn now middle → TakesTurns (turns ++ turn ∷ []) old (with_text (line_of turn) middle)
took_more [] turn old now middle h t = record { middle = middle; takes = subst (λ (m : Meeting). TakesTurn turn m middle) h t; more = refl }
took_more (first ∷ turns) turn old now middle h t = record { middle = h.middle; takes = h.takes; more = took_more turns turn (with_text (line_of first) h.middle) now middle h.more t }

-- ---- numbers

freed_more : (turns : List Turn) (turn : Turn) → length (freed_of (turns ++ turn ∷ [])) ≡ length (freed_of turns) + length (freed_by turn.fate)
freed_more [] turn = let a = length-append (freed_by turn.fate) [] in omega (arith, a)
freed_more (first ∷ turns) turn =
    let a = length-append (freed_by first.fate) (freed_of (turns ++ turn ∷ [])) in
    let b = length-append (freed_by first.fate) (freed_of turns) in
    let c = freed_more turns turn in
    omega (arith, a, b, c)

aside_more : (turns : List Turn) (turn : Turn) → length (put_aside_of (turns ++ turn ∷ [])) ≡ length (put_aside_of turns) + length (put_aside_by turn.fate)
aside_more [] turn = let a = length-append (put_aside_by turn.fate) [] in omega (arith, a)
aside_more (first ∷ turns) turn =
    let a = length-append (put_aside_by first.fate) (put_aside_of (turns ++ turn ∷ [])) in
    let b = length-append (put_aside_by first.fate) (put_aside_of turns) in
    let c = aside_more turns turn in
    omega (arith, a, b, c)

back_more : (turns : List Turn) (turn : Turn) → length (put_back_of (turns ++ turn ∷ [])) ≡ length (put_back_of turns) + length (put_back_by turn.slot turn.fate)
back_more [] turn = let a = length-append (put_back_by turn.slot turn.fate) [] in omega (arith, a)
back_more (first ∷ turns) turn =
    let a = length-append (put_back_by first.slot first.fate) (put_back_of (turns ++ turn ∷ [])) in
    let b = length-append (put_back_by first.slot first.fate) (put_back_of turns) in
    let c = back_more turns turn in
    omega (arith, a, b, c)

broken_more : (turns : List Turn) (turn : Turn) → length (broken_of (turns ++ turn ∷ [])) ≡ length (broken_of turns) + length (broken_by turn.fate)
broken_more [] turn = let a = length-append (broken_by turn.fate) [] in omega (arith, a)
broken_more (first ∷ turns) turn =
    let a = length-append (broken_by first.fate) (broken_of (turns ++ turn ∷ [])) in
    let b = length-append (broken_by first.fate) (broken_of turns) in
    let c = broken_more turns turn in
    omega (arith, a, b, c)

abbrev round_with : (a r f b : ℕ) → Round
round_with a r f b = record { accepted = a; refused = r; failed = f; broken = b }

abbrev grown_by : FullView → Fate → Round → Round
grown_by slot fate round = round_with (round.accepted + length (freed_by fate)) (round.refused + length (put_aside_by fate)) (round.failed + length (put_back_by slot fate)) (round.broken + length (broken_by fate))

same_round : (a r f b c s g d : ℕ) → a ≡ c → r ≡ s → f ≡ g → b ≡ d → round_with a r f b ≡ round_with c s g d
same_round a r f b c s g d e1 e2 e3 e4 =
    ap (λ (n : ℕ). round_with n r f b) e1 ∙ ap (λ (n : ℕ). round_with c n f b) e2 ∙ ap (λ (n : ℕ). round_with c s n b) e3 ∙ ap (λ (n : ℕ). round_with c s g n) e4

none_more : (n : ℕ) → n + 0 ≡ n
none_more n = omega arith

-- a turn counts in one number, by its word
grown_with : (slot : FullView) (fate : Fate) (r : Round) → grown_by slot fate r ≡ with_one (word_by fate) r
grown_with slot (Freed message free) r = same_round _ _ _ _ _ _ _ _ refl (none_more r.refused) (none_more r.failed) (none_more r.broken)
grown_with slot (NotFreed message broken) r = same_round _ _ _ _ _ _ _ _ (none_more r.accepted) (none_more r.refused) (none_more r.failed) refl
grown_with slot (PutAside message aside) r = same_round _ _ _ _ _ _ _ _ (none_more r.accepted) refl (none_more r.failed) (none_more r.broken)
grown_with slot (NotAside message broken) r = same_round _ _ _ _ _ _ _ _ (none_more r.accepted) (none_more r.refused) (none_more r.failed) refl
grown_with slot (PutBack message) r = same_round _ _ _ _ _ _ _ _ (none_more r.accepted) (none_more r.refused) refl (none_more r.broken)
grown_with slot (Unread broken) r = same_round _ _ _ _ _ _ _ _ (none_more r.accepted) (none_more r.refused) (none_more r.failed) refl

pub round_more : (turns : List Turn) (turn : Turn) → round_of (turns ++ turn ∷ []) ≡ with_one (word_by turn.fate) (round_of turns)
round_more turns turn =
    same_round _ _ _ _ _ _ _ _ (freed_more turns turn) (aside_more turns turn) (back_more turns turn) (broken_more turns turn)
    ∙ grown_with turn.slot turn.fate (round_of turns)

-- ---- trouble

trouble_is : (number : ℕ) (fate : Fate) → trouble_by number fate ≡ trouble_in number (word_by fate)
trouble_is number (Freed message free) = refl
trouble_is number (NotFreed message broken) = refl
trouble_is number (PutAside message aside) = refl
trouble_is number (NotAside message broken) = refl
trouble_is number (PutBack message) = refl
trouble_is number (Unread broken) = refl

or_none : (a : Option Trouble) → or_else a None ≡ a
or_none None = refl
or_none (Some trouble) = refl

or_both : (a b c : Option Trouble) → or_else a (or_else b c) ≡ or_else (or_else a b) c
or_both None b c = refl
or_both (Some trouble) b c = refl

pub trouble_more : (turns : List Turn) (turn : Turn) → trouble_of (turns ++ turn ∷ []) ≡ or_else (trouble_of turns) (trouble_in turn.slot.number (word_by turn.fate))
trouble_more [] turn = or_none (trouble_by turn.slot.number turn.fate) ∙ trouble_is turn.slot.number turn.fate
trouble_more (first ∷ turns) turn =
    ap (or_else (trouble_by first.slot.number first.fate)) (trouble_more turns turn)
    ∙ or_both (trouble_by first.slot.number first.fate) (trouble_of turns) (trouble_in turn.slot.number (word_by turn.fate))

-- ---- words

pub word_is : (fate : Fate) → text_of (word_by fate) ≡ word_of fate
word_is (Freed message free) = refl
word_is (NotFreed message broken) = refl
word_is (PutAside message aside) = refl
word_is (NotAside message broken) = refl
word_is (PutBack message) = refl
word_is (Unread broken) = refl

pub line_is : (turn : Turn) → handed_line turn.slot.number (text_of (word_by turn.fate)) ≡ line_of turn
line_is turn = ap (handed_line turn.slot.number) (word_is turn.fate)

-- ---- room

freed_few : (fate : Fate) → length (freed_by fate) ≤ 1
freed_few (Freed message free) = omega arith
freed_few (NotFreed message broken) = omega arith
freed_few (PutAside message aside) = omega arith
freed_few (NotAside message broken) = omega arith
freed_few (PutBack message) = omega arith
freed_few (Unread broken) = omega arith

aside_few : (fate : Fate) → length (put_aside_by fate) ≤ 1
aside_few (Freed message free) = omega arith
aside_few (NotFreed message broken) = omega arith
aside_few (PutAside message aside) = omega arith
aside_few (NotAside message broken) = omega arith
aside_few (PutBack message) = omega arith
aside_few (Unread broken) = omega arith

back_few : (slot : FullView) (fate : Fate) → length (put_back_by slot fate) ≤ 1
back_few slot (Freed message free) = omega arith
back_few slot (NotFreed message broken) = omega arith
back_few slot (PutAside message aside) = omega arith
back_few slot (NotAside message broken) = omega arith
back_few slot (PutBack message) = omega arith
back_few slot (Unread broken) = omega arith

broken_few : (fate : Fate) → length (broken_by fate) ≤ 1
broken_few (Freed message free) = omega arith
broken_few (NotFreed message broken) = omega arith
broken_few (PutAside message aside) = omega arith
broken_few (NotAside message broken) = omega arith
broken_few (PutBack message) = omega arith
broken_few (Unread broken) = omega arith

-- no number is greater than that of the turns
record IsWithin (n : ℕ) (r : Round) : Type 0 where
  accepted : r.accepted ≤ n
  refused : r.refused ≤ n
  failed : r.failed ≤ n
  broken : r.broken ≤ n

within : (turns : List Turn) → IsWithin (length turns) (round_of turns)
within [] = record { accepted = omega arith; refused = omega arith; failed = omega arith; broken = omega arith }
within (turn ∷ turns) =
    let w = within turns in
    let a = length-append (freed_by turn.fate) (freed_of turns) in
    let b = length-append (put_aside_by turn.fate) (put_aside_of turns) in
    let c = length-append (put_back_by turn.slot turn.fate) (put_back_of turns) in
    let d = length-append (broken_by turn.fate) (broken_of turns) in
    record {
      accepted = let x = freed_few turn.fate in let y = w.accepted in omega (arith, a, x, y);
      refused = let x = aside_few turn.fate in let y = w.refused in omega (arith, b, x, y);
      failed = let x = back_few turn.slot turn.fate in let y = w.failed in omega (arith, c, x, y);
      broken = let x = broken_few turn.fate in let y = w.broken in omega (arith, d, x, y);
    }

has_room : (n : ℕ) (r : Round) → n + 1 < 4294967296 → IsWithin n r → HasRoom r
has_room n r lt w = record {
  accepted = let y = w.accepted in omega (arith, lt, y);
  refused = let y = w.refused in omega (arith, lt, y);
  failed = let y = w.failed in omega (arith, lt, y);
  broken = let y = w.broken in omega (arith, lt, y);
}

-- ---- so far

pub so_far_first : (most : ℕ) (old : Meeting) (tally : Tally) → tally ≡ record { round = round_with 0 0 0 0; trouble = None } → IsSoFar most most tally old old
so_far_first most old tally is = record { turns = []; took = refl; number = omega arith; round = ap (λ (t : Tally). t.round) is; trouble = ap (λ (t : Tally). t.trouble) is }

pub so_far_room : (most left : ℕ) (tally : Tally) (old now : Meeting) → most < 4294967296 → 0 < left → IsSoFar most left tally old now → HasRoom tally.round
so_far_room most left tally old now fits some s =
    let number = s.number in
    subst HasRoom (sym s.round) (has_room (length s.turns) (round_of s.turns) (omega (arith, fits, some, number)) (within s.turns))

pub so_far_more : (most left less : ℕ) (tally counted : Tally) (old now new : Meeting) → less + 1 ≡ left → IsSoFar most left tally old now → Goes tally counted now new → IsSoFar most less counted old new
so_far_more most left less tally counted old now new one s g =
    let number = s.number in
    let long = length-append s.turns (g.turn ∷ []) in
    record {
      turns = s.turns ++ g.turn ∷ [];
      took = subst (TakesTurns (s.turns ++ g.turn ∷ []) old) (sym g.logged) (took_more s.turns g.turn old now g.middle s.took g.takes);
      number = omega (arith, number, long, one);
      round = ap (λ (t : Tally). t.round) g.counts ∙ ap (with_one (word_by g.turn.fate)) s.round ∙ sym (round_more s.turns g.turn);
      trouble = ap (λ (t : Tally). t.trouble) g.counts ∙ ap (λ (o : Option Trouble). or_else o (trouble_in g.turn.slot.number (word_by g.turn.fate))) s.trouble ∙ sym (trouble_more s.turns g.turn);
    }
