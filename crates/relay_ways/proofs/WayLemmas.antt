-- How a way goes on from one piece to the next, and how it ends.
use Rattle.std.proofs.Common.{◌≡◌, ◌≢◌, ℕ, ◌+◌, ◌<◌, ◌≤◌, ◌⊎◌, inl, inr, false, List, [], ◌∷◌, ◌++◌, length, take, refl, sym, ap, ◌∙◌, subst, append_assoc, length-append, arith}
use Rattle.std.specs.Prelude.{◌==◌}
use Rattle.std.proofs.lemmas.Bool.{cases_eq, eq-eqb, ne_eqb}
use Rattle.std.proofs.lemmas.List.{append-nil, length-take-le}
use Rattle.fw_outside.specs.Counts.{Grew}
use Rattle.fw_outside.specs.LineReaderView.{TookBytes}
use Rattle.fw_outside.specs.SinkView.{SinkView, Cut, Unheard}
use Rattle.fw_outside.specs.SourceView.{SourceView, Came, CameToEnd}
use Rattle.fw_outside.specs.ToldList.{grown}
use Rattle.fw_outside.proofs.ListenLemmas.{grown-append, grown-nil, pulled_none, pulled_on}
use Rattle.relay_ways.specs.declared.way_end.WayEnd.{WayEnd}
use Rattle.relay_ways.specs.declared.way_end.WayEnd.TheVariants.{Done, ReadFault, WriteFault, Idle, Spent}
use Rattle.relay_ways.specs.Way.{Copies, CopiesTo, Ends, Lost, Moves, MovesSome, holding, is_spent, most_in_piece}

pub holding_none : (old : SinkView) → old ≡ holding [] old
holding_none old = rw (grown-nil old.given) refl

pub holding_more : (one more : List ℕ) (old : SinkView) → holding more (holding one old) ≡ holding (one ++ more) old
holding_more one more old = rw (grown-append old.given one more) refl

moves_none : (from : SourceView) (to : SinkView) → Moves 0 from from to to
moves_none from to = record { bytes = []; long = refl; takes = pulled_none from; gives = holding_none to }

-- what was moved in two goes was moved
moves_on : (n m both : ℕ) (before at after : SourceView) (old now new : SinkView) → n + m ≡ both → Moves n before at old now → Moves m at after now new → Moves both before after old new
moves_on n m both before at after old now new is one two =
    let long = length-append one.bytes two.bytes in
    record {
      bytes = one.bytes ++ two.bytes;
      long = omega (arith, long, one.long, two.long, is);
      takes = pulled_on one.bytes two.bytes before at after one.takes two.takes;
      gives = two.gives ∙ ap (holding two.bytes) one.gives ∙ holding_more one.bytes two.bytes old;
    }

-- the way so far: all that was taken was given, and so many bytes may still be taken
pub record Going (limit left : ℕ) (before at : SourceView) (old now : SinkView) : Type 0 where
  pub count : ℕ
  pub room : count + left ≡ limit
  pub moves : Moves count before at old now

pub going_from : (limit : ℕ) (from : SourceView) (to : SinkView) → Going limit limit from from to to
going_from limit from to = record { count = 0; room = omega arith; moves = moves_none from to }

pub going_on : (limit left rest n : ℕ) (before at after : SourceView) (old now new : SinkView) → Going limit left before at old now → Moves n at after now new → n + rest ≡ left → Going limit rest before after old new
going_on limit left rest n before at after old now new going moved is = record {
  count = going.count + n;
  room = let room = going.room in omega (arith, room, is);
  moves = moves_on going.count n (going.count + n) before at after old now new refl going.moves moved;
}

eqb_shift_by : (n a b m both : ℕ) → n + b ≡ both → n + a ≡ m → (a ≡ b) ⊎ (a ≢ b) → (a == b) ≡ (m == both)
eqb_shift_by n a b m both is sum (inl same) = eq-eqb a b same ∙ sym (eq-eqb m both (omega (arith, same, is, sum)))
eqb_shift_by n a b m both is sum (inr other) = ne_eqb a b other ∙ sym (ne_eqb m both (λ same. other (omega (arith, same, is, sum))))

-- adding the same number to both sides of a test changes nothing
eqb_shift : (n a b m both : ℕ) → n + b ≡ both → n + a ≡ m → (a == b) ≡ (m == both)
eqb_shift n a b m both is sum = eqb_shift_by n a b m both is sum (cases_eq a b)

less_not : (a b : ℕ) → a < b → false ≡ (a == b)
less_not a b less = sym (ne_eqb a b (λ same. absurd (omega (arith, same, less))))

-- a piece more
pub going_some : (limit left rest : ℕ) (before at after : SourceView) (old now new : SinkView) → Going limit left before at old now → MovesSome left rest at after now new → Going limit rest before after old new
going_some limit left rest before at after old now new going moved = let is = moved.room in going_on limit left rest moved.count before at after old now new going moved.moves (omega (arith, is))

-- what was moved, and then the rest of the way
pub copies_on : (how : WayEnd) (limit left rest : ℕ) (before at after : SourceView) (old now new : SinkView) → Going limit left before at old now → CopiesTo left rest how at after now new → CopiesTo limit rest how before after old new
copies_on how limit left rest before at after old now new going more =
    let last = more.copies in
    let room = more.room in
    let n = going.count in
    let is = going.room in
    let moved = going.moves in
    let sink : holding last.part now ≡ holding (moved.bytes ++ last.part) old = ap (holding last.part) moved.gives ∙ holding_more moved.bytes last.part old in
    let all = length-append moved.bytes last.bytes in
    let given = length-append moved.bytes last.part in
    record {
      copies = record {
        bytes = moved.bytes ++ last.bytes;
        part = moved.bytes ++ last.part;
        rest = last.rest;
        middle = last.middle;
        takes = pulled_on moved.bytes last.bytes before at last.middle moved.takes last.takes;
        cut = ap (λ b. moved.bytes ++ b) last.cut ∙ sym (append_assoc moved.bytes last.part last.rest);
        within = let within = last.within in omega (arith, all, moved.long, within, is);
        spent = last.spent ∙ eqb_shift n (length last.part) left (length (moved.bytes ++ last.part)) limit is (omega (arith, given, moved.long));
        ends = subst (λ s. Ends how last.rest last.middle after s new) sink last.ends;
      };
      room = omega (arith, all, moved.long, room, is);
    }

-- all that may be taken was moved
pub copies_spent : (limit left : ℕ) (before after : SourceView) (old new : SinkView) → left ≡ 0 → Going limit left before after old new → CopiesTo limit left Spent before after old new
copies_spent limit left before after old new none going =
    let moved = going.moves in
    let is = going.room in
    let all : length moved.bytes ≡ limit = omega (arith, moved.long, is, none) in
    record {
      copies = record {
        bytes = moved.bytes;
        part = moved.bytes;
        rest = [];
        middle = after;
        takes = moved.takes;
        cut = sym (append-nil moved.bytes);
        within = omega (arith, all);
        spent = sym (eq-eqb (length moved.bytes) limit all);
        ends = (refl, (refl, moved.gives));
      };
      room = omega (arith, moved.long, is);
    }

-- the way ended, and nothing more was taken
pub copies_none : (how : WayEnd) (most : ℕ) (before after : SourceView) (old new : SinkView) → is_spent how ≡ false → 0 < most → Ends how [] before after old new → CopiesTo most most how before after old new
copies_none how most before after old new is some ends = record {
  copies = record {
    bytes = [];
    part = [];
    rest = [];
    middle = before;
    takes = pulled_none before;
    cut = refl;
    within = omega arith;
    spent = is ∙ less_not 0 most some;
    ends = subst (λ s. Ends how [] before after s new) (holding_none old) ends;
  };
  room = omega (arith);
}

-- the source's end came, and the sink couldn't be told
pub lost_end : (before after : SourceView) (old new : SinkView) → CameToEnd before after → Unheard old new → Lost [] before after old new
lost_end before after old new over unheard = record {
  short = omega arith;
  over = λ _. over.over;
  source = over.is;
  count = unheard.count;
  rose = unheard.rose;
  is = unheard.is;
}

took : (n : ℕ) (buffer : List ℕ) (before after : SourceView) → Came n buffer before after → TookBytes (take n buffer) before after
took n buffer before after came = record {
  left = came.rest;
  next = came.next;
  count = came.count;
  grew = subst (λ m. Grew m before.amount came.count) (sym (length-take-le n buffer came.fits)) came.grew;
  is = came.is;
}

positive : (rest : List ℕ) → rest ≢ [] → 0 < length rest
positive [] some = absurd (some refl)
positive (b ∷ rest) some = omega arith

-- a piece came
pub moved_some : (n limit left : ℕ) (buffer piece : List ℕ) (before after : SourceView) (old new : SinkView) → limit ≡ n + left → Came n buffer before after → piece ≡ take n buffer → new ≡ holding piece old → MovesSome limit left before after old new
moved_some n limit left buffer piece before after old new room came is gives = record {
  count = n;
  some = came.some;
  room = room;
  moves = record { bytes = take n buffer; long = length-take-le n buffer came.fits; takes = took n buffer before after came; gives = gives ∙ ap (λ p. holding p old) is };
}

-- a piece came, and the sink failed within it
pub copies_cut : (n most left : ℕ) (buffer piece : List ℕ) (before after : SourceView) (old new : SinkView) → most ≡ n + left → n ≤ most_in_piece → Came n buffer before after → Cut piece old new → piece ≡ take n buffer → CopiesTo most left WriteFault before after old new
copies_cut n most left buffer piece before after old new room small came failed is =
    let cut : Cut (take n buffer) old new = subst (λ p. Cut p old new) is failed in
    let some = came.some in
    let long = length-take-le n buffer came.fits in
    let parts : length (take n buffer) ≡ length cut.part + length cut.rest = ap length cut.cut ∙ length-append cut.part cut.rest in
    let kept : cut.rest ≢ [] = cut.short (λ none. let e = ap length none in absurd (omega (arith, e, long, some))) in
    let some_kept : 0 < length cut.rest = positive cut.rest kept in
    record {
      copies = record {
        bytes = take n buffer;
        part = cut.part;
        rest = cut.rest;
        middle = after;
        takes = took n buffer before after came;
        cut = cut.cut;
        within = omega (arith, long, room);
        spent = less_not (length cut.part) most (omega (arith, parts, long, some_kept, room));
        ends = record {
          short = omega (arith, parts, long, small);
          over = λ none. absurd (kept none);
          source = refl;
          count = cut.count;
          rose = cut.rose;
          is = cut.is;
        };
      };
      room = omega (arith, long, room);
    }
