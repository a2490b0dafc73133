-- How a reader of lines goes on from one piece to the next.
use Rattle.std.proofs.Common.{◌≡◌, ℕ, ◌+◌, ◌<◌, ◌≤◌, ◌⊎◌, inl, inr, Bool, true, List, [], ◌∷◌, ◌++◌, length, take, false, refl, sym, ap, ◌∙◌, subst, append_assoc, arith}
use mathlib.Core.Bool.{true≢false}
use Rattle.std.proofs.lemmas.Bool.{eqb-true}
use Rattle.std.specs.Prelude.{◌==◌, Option, Some, None}
use Rattle.std.specs.List.{list_any}
use Rattle.std.proofs.lemmas.List.{append-nil}
use Rattle.std.proofs.Common.{length-append}
use Rattle.std.proofs.lemmas.List.Folds.{list_any-append}
use Rattle.fw_outside.specs.declared.heard.Heard.{Heard}
use Rattle.fw_outside.specs.declared.heard.Heard.TheVariants.{Line, TooLong, Stopped}
use Rattle.fw_outside.specs.declared.heard.Stop.{Stop}
use Rattle.fw_outside.specs.declared.heard.Stop.TheVariants.{End, Idle, Failed, Spent}
use Rattle.fw_outside.proofs.CountLemmas.{grew_by, grew_none}
use Rattle.fw_outside.specs.Counts.{Grew}
use Rattle.fw_outside.specs.LineText.{GathersLine, GathersAll, Fills, IsText, most}
use Rattle.fw_outside.specs.Lines.{is_lf}
use Rattle.fw_outside.specs.SourceView.{SourceView}
use Rattle.fw_outside.specs.ToldList.{grown, preceded}
use Rattle.fw_outside.specs.LineReaderView.{Halts, LeavesSource, Listens, TakesNothing, TookBytes, Reads, LineReaderView, stops_at_limit, rest_of}
use Rattle.fw_outside.proofs.LineLemmas.{heard_kept, heard_line, no_first_line, take_twice}

pub grown-append : (told : Option (List ℕ)) (a b : List ℕ) → grown (grown told a) b ≡ grown told (a ++ b)
grown-append None a b = refl
grown-append (Some bytes) a b = ap Some (append_assoc bytes a b)

pub grown-nil : (told : Option (List ℕ)) → grown told [] ≡ told
grown-nil None = refl
grown-nil (Some bytes) = ap Some (append-nil bytes)

preceded-append : (a b : List ℕ) (rest : Option (List ℕ)) → preceded a (preceded b rest) ≡ preceded (a ++ b) rest
preceded-append a b None = refl
preceded-append a b (Some rest) = ap Some (sym (append_assoc a b rest))

pub preceded-nil : (rest : Option (List ℕ)) → rest ≡ preceded [] rest
preceded-nil None = refl
preceded-nil (Some bytes) = refl

-- bytes that were taken one after another were taken together
pub pulled_on : (a b : List ℕ) (first now new : SourceView) → TookBytes a first now → TookBytes b now new → TookBytes (a ++ b) first new
pulled_on a b first now new one two =
    let left : now.left ≡ one.left = rw one.is refl in
    record {
      left = two.left;
      next = one.next ∙ ap (preceded a) (sym left ∙ two.next) ∙ preceded-append a b two.left;
      count = two.count;
      grew = grew_by (length a) (length b) (length (a ++ b)) first.amount one.count two.count (length-append a b) one.grew (subst (λ n. Grew (length b) n two.count) (rw one.is refl) two.grew);
      is = rw (two.is, one.is, grown-append first.taken a b) refl;
    }

pub pulled_none : (first : SourceView) → TookBytes [] first first
pulled_none first = record { left = first.left; next = preceded-nil first.left; count = first.amount; grew = grew_none first.amount; is = rw (grown-nil first.taken) refl }

-- what was read of a line so far
pub record Going (kept : List ℕ) (old now : LineReaderView) (first at : SourceView) : Type 0 where
  pub bytes : List ℕ
  pub keeps : kept ≡ take most bytes
  pub unended : list_any is_lf bytes ≡ false
  pub reads : Reads bytes old now first at
  pub behind : (now ≡ old) ⊎ (length old.pending ≤ length bytes)

pub reads_none : (old : LineReaderView) (first : SourceView) → Reads [] old old first first
reads_none old first = record { taken_now = []; takes = pulled_none first; reader = append-nil old.pending; room = omega arith }

pub going_from : (old : LineReaderView) (first : SourceView) → Going [] old old first first
going_from old first = record { bytes = []; keeps = refl; unended = refl; reads = reads_none old first; behind = inl refl }

-- the window's bytes were read
pub reads_window : (bytes read rest : List ℕ) (old now new : LineReaderView) (first at : SourceView) → Reads bytes old now first at → now.pending ≡ read ++ rest → new.pending ≡ rest → new.room ≡ now.room → Reads (bytes ++ read) old new first at
reads_window bytes read rest old now new first at reads cut left room = record {
  taken_now = reads.taken_now;
  takes = reads.takes;
  reader = reads.reader ∙ ap (λ p. bytes ++ p) cut ∙ sym (append_assoc bytes read rest) ∙ ap (λ p. bytes ++ read ++ p) (sym left);
  room = reads.room ∙ ap (λ n. length reads.taken_now + n) (sym room);
}

-- and the empty window was filled
pub reads_filled : (bytes : List ℕ) (old now new : LineReaderView) (first at next : SourceView) → Reads bytes old now first at → now.pending ≡ [] → Fills now new at next → Reads bytes old new first next
reads_filled bytes old now new first at next reads empty fills = record {
  taken_now = reads.taken_now ++ new.pending;
  takes = pulled_on reads.taken_now new.pending first at next reads.takes fills.takes;
  reader = sym (append_assoc old.pending reads.taken_now new.pending) ∙ ap (λ p. p ++ new.pending) (reads.reader ∙ ap (λ p. bytes ++ p) empty ∙ append-nil bytes);
  room = let long = length-append reads.taken_now new.pending in omega (arith, reads.room, fills.room, long);
}

-- what was read in two steps was read
pub reads_both : (one two : List ℕ) (old now new : LineReaderView) (first at next : SourceView) → Reads one old now first at → Reads two now new at next → Reads (one ++ two) old new first next
reads_both one two old now new first at next a b = record {
  taken_now = a.taken_now ++ b.taken_now;
  takes = pulled_on a.taken_now b.taken_now first at next a.takes b.takes;
  reader = sym (append_assoc old.pending a.taken_now b.taken_now) ∙ ap (λ p. p ++ b.taken_now) a.reader ∙ append_assoc one now.pending b.taken_now ∙ ap (λ p. one ++ p) b.reader ∙ sym (append_assoc one two new.pending);
  room = let long = length-append a.taken_now b.taken_now in omega (arith, a.room, b.room, long);
}

-- where the window is empty, all that stood in it before was read
pub all_read : (bytes : List ℕ) (old now : LineReaderView) (first at : SourceView) → Reads bytes old now first at → now.pending ≡ [] → length old.pending ≤ length bytes
all_read bytes old now first at reads empty =
    let left = length-append old.pending reads.taken_now in
    let right = length-append bytes now.pending in
    let same = ap length reads.reader in
    let none = ap length empty in
    omega (arith, left, right, same, none)

no_end_in : (a b : List ℕ) → list_any is_lf a ≡ false → list_any is_lf b ≡ false → list_any is_lf (a ++ b) ≡ false
no_end_in a b one two = list_any-append is_lf a b ∙ rw (one, two) refl

pub going_drained : (kept now_kept : List ℕ) (old now new : LineReaderView) (first at : SourceView) → Going kept old now first at → GathersAll kept now_kept now new → Going now_kept old new first at
going_drained kept now_kept old now new first at going drains = record {
  bytes = going.bytes ++ now.pending;
  keeps = drains.gathers ∙ ap (λ k. take most (k ++ now.pending)) going.keeps ∙ take_twice going.bytes now.pending;
  unended = no_end_in going.bytes now.pending going.unended drains.unended;
  reads = reads_window going.bytes now.pending [] old now new first at going.reads (sym (append-nil now.pending)) drains.empty drains.room;
  behind = inr (all_read (going.bytes ++ now.pending) old new first at
      (reads_window going.bytes now.pending [] old now new first at going.reads (sym (append-nil now.pending)) drains.empty drains.room) drains.empty);
}

pub going_filled : (kept : List ℕ) (old now new : LineReaderView) (first at next : SourceView) → Going kept old now first at → now.pending ≡ [] → Fills now new at next → Going kept old new first next
going_filled kept old now new first at next going empty fills = record {
  bytes = going.bytes;
  keeps = going.keeps;
  unended = going.unended;
  reads = reads_filled going.bytes old now new first at next going.reads empty fills;
  behind = inr (all_read going.bytes old now first at going.reads empty);
}

-- what is left behind the window is what is left of it without the bytes that were read
pub rest_is : (bytes : List ℕ) (old new : LineReaderView) (first at : SourceView) → Reads bytes old new first at → rest_of old first ≡ preceded bytes (rest_of new at)
rest_is bytes old new first at reads =
    let left : at.left ≡ reads.takes.left = rw reads.takes.is refl in
    ap (preceded old.pending) (reads.takes.next ∙ ap (preceded reads.taken_now) (sym left)) ∙ preceded-append old.pending reads.taken_now at.left
    ∙ ap (λ p. preceded p at.left) reads.reader ∙ sym (preceded-append bytes new.pending at.left)

pub misses_left : (stop : Stop) (at next : SourceView) → TakesNothing stop at next → next.left ≡ at.left
misses_left End at next misses = ap (λ (s : SourceView). s.left) misses.is
misses_left Idle at next misses = ap (λ (s : SourceView). s.left) misses.is
misses_left Failed at next misses = ap (λ (s : SourceView). s.left) misses.is
misses_left Spent at next misses = absurd misses

pub halts_missed : (stop : Stop) (new : LineReaderView) (at next : SourceView) → new.pending ≡ [] → TakesNothing stop at next → Halts stop new at next
halts_missed End new at next empty misses = (empty, misses)
halts_missed Idle new at next empty misses = (empty, misses)
halts_missed Failed new at next empty misses = (empty, misses)
halts_missed Spent new at next empty misses = absurd misses

pub never : {A : Type 0} {b : Bool} → b ≡ false → b ≡ true → A
never not was = absurd (true≢false (sym was ∙ not))

not_spent : (stop : Stop) (at next : SourceView) → TakesNothing stop at next → stops_at_limit (Stopped stop) ≡ false
not_spent End at next misses = refl
not_spent Idle at next misses = refl
not_spent Failed at next misses = refl
not_spent Spent at next misses = absurd misses

-- the source stopped before the line's end
listens_at : (stop : Stop) (kept : List ℕ) (old new : LineReaderView) (first at next : SourceView) → Going kept old new first at → new.pending ≡ [] → false ≡ (new.room == 0) → TakesNothing stop at next → Listens (Stopped stop) old new first next
listens_at stop kept old new first at next going empty more misses = record {
  bytes = going.bytes;
  middle = at;
  is_heard = no_first_line going.bytes going.unended;
  rest = rest_is going.bytes old new first at going.reads ∙ ap (λ l. preceded going.bytes (preceded new.pending l)) (sym (misses_left stop at next misses));
  reads = going.reads;
  closes = halts_missed stop new at next empty misses;
  spent = not_spent stop at next misses ∙ more;
  behind = λ was. never (not_spent stop at next misses) was;
}

pub listens_stopped : (stop : Stop) (kept now_kept : List ℕ) (old now drained new : LineReaderView) (first at next : SourceView) → Going kept old now first at → false ≡ (now.room == 0) → GathersAll kept now_kept now drained → new ≡ drained → TakesNothing stop at next → Listens (Stopped stop) old new first next
listens_stopped stop kept now_kept old now drained new first at next going more drains same misses =
    let here : Going now_kept old new first at = rw same (going_drained kept now_kept old now drained first at going drains) in
    listens_at stop now_kept old new first at next here (rw same drains.empty) (more ∙ ap (λ n. n == 0) (sym drains.room ∙ ap (λ (w : LineReaderView). w.room) (sym same))) misses

read_behind : (bytes : List ℕ) (old new : LineReaderView) → (new ≡ old) ⊎ (length old.pending ≤ length bytes) → new.room ≡ 0 → 0 < old.room → length old.pending ≤ length bytes
read_behind bytes old new (inl same) none more = let room = ap (λ (w : LineReaderView). w.room) same in absurd (omega (arith, room, none, more))
read_behind bytes old new (inr all) none more = all

-- no more may be taken
pub listens_spent : (kept : List ℕ) (old new : LineReaderView) (first next : SourceView) → Going kept old new first next → true ≡ (new.room == 0) → Listens (Stopped Spent) old new first next
listens_spent kept old new first next going none = record {
  bytes = going.bytes;
  middle = next;
  is_heard = no_first_line going.bytes going.unended;
  rest = rest_is going.bytes old new first next going.reads;
  reads = going.reads;
  closes = refl;
  spent = none;
  behind = λ was more. read_behind going.bytes old new going.behind (eqb-true new.room 0 (sym none)) more;
}

closes_line : (heard : Heard) (text : List ℕ) (new : LineReaderView) (at : SourceView) → IsText heard text → LeavesSource heard new at at
closes_line (Line line) text new at is = refl
closes_line TooLong text new at is = refl
closes_line (Stopped stop) text new at is = absurd is

line_not_spent : (heard : Heard) (text : List ℕ) → IsText heard text → stops_at_limit heard ≡ false
line_not_spent (Line line) text is = refl
line_not_spent TooLong text is = refl
line_not_spent (Stopped stop) text is = absurd is

-- the line's end was read
pub listens_line : (heard : Heard) (kept now_kept : List ℕ) (old now new : LineReaderView) (first at : SourceView) → Going kept old now first at → false ≡ (now.room == 0) → GathersLine kept now_kept now new → IsText heard now_kept → Listens heard old new first at
listens_line heard kept now_kept old now new first at going more cuts is =
    let text : List ℕ = going.bytes ++ cuts.text in
    let keeps : now_kept ≡ take most text = cuts.gathers ∙ ap (λ k. take most (k ++ cuts.text)) going.keeps ∙ take_twice going.bytes cuts.text in
    let unended : list_any is_lf text ≡ false = no_end_in going.bytes cuts.text going.unended cuts.unended in
    let told : IsText heard text = heard_kept heard text (subst (IsText heard) keeps is) in
    let cut : now.pending ≡ (cuts.text ++ 10 ∷ []) ++ new.pending = cuts.cut ∙ sym (append_assoc cuts.text (10 ∷ []) new.pending) in
    let reads : Reads (going.bytes ++ (cuts.text ++ 10 ∷ [])) old new first at = reads_window going.bytes (cuts.text ++ 10 ∷ []) new.pending old now new first at going.reads cut refl cuts.room in
    let whole : Reads (text ++ 10 ∷ []) old new first at = subst (λ b. Reads b old new first at) (sym (append_assoc going.bytes cuts.text (10 ∷ []))) reads in
    record {
      bytes = text ++ 10 ∷ [];
      middle = at;
      is_heard = heard_line heard text unended told;
      rest = rest_is (text ++ 10 ∷ []) old new first at whole;
      reads = whole;
      closes = closes_line heard text new at told;
      spent = line_not_spent heard text told ∙ more ∙ ap (λ n. n == 0) (sym cuts.room);
      behind = λ was. never (line_not_spent heard text told) was;
    }
