-- How a reader of lines comes to the next byte.
use Rattle.std.proofs.Common.{◌≡◌, ℕ, ◌+◌, ◌<◌, ◌⊎◌, inl, inr, true, false, List, [], ◌∷◌, ◌++◌, refl, sym, ap, ◌∙◌, arith}
use Rattle.std.proofs.lemmas.Bool.{eqb-true}
use Rattle.std.specs.Prelude.{◌==◌, Ok, Err}
use Rattle.fw_outside.specs.LineText.{Fills, IsDrained, Pops}
use Rattle.fw_outside.specs.LineReaderView.{LineReaderView, Reads, ReadsByte, TakesNothing, byte_stops_at_limit}
use Rattle.fw_outside.specs.SourceView.{SourceView}
use Rattle.fw_outside.specs.ToldList.{preceded}
use Rattle.fw_outside.specs.declared.heard.Stop.{Stop}
use Rattle.fw_outside.specs.declared.heard.Stop.TheVariants.{End, Idle, Failed, Spent}
use Rattle.fw_outside.proofs.ListenLemmas.{halts_missed, misses_left, never, reads_filled, reads_none, reads_window, rest_is}

-- no byte was read yet
pub record Seeking (old now : LineReaderView) (first at : SourceView) : Type 0 where
  pub reads : Reads [] old now first at
  pub behind : (now ≡ old) ⊎ (old.pending ≡ [])

pub seeking_from : (old : LineReaderView) (first : SourceView) → Seeking old old first first
seeking_from old first = record { reads = reads_none old first; behind = inl refl }

no_front : (a b : List ℕ) → a ++ b ≡ [] → a ≡ []
no_front [] b none = refl
no_front (x ∷ a) b none = absurd (cc)

-- where the buffer is empty it was so at first
empty_first : (old now : LineReaderView) (first at : SourceView) → Reads [] old now first at → now.pending ≡ [] → old.pending ≡ []
empty_first old now first at reads empty = no_front old.pending reads.taken_now (reads.reader ∙ empty)

pub seeking_filled : (old now drained new : LineReaderView) (first at next : SourceView) → Seeking old now first at → IsDrained now drained → Fills drained new at next → Seeking old new first next
seeking_filled old now drained new first at next seeking none fills =
    let same : Fills now new at next = rw (sym none.same) fills in
    record {
      reads = reads_filled [] old now new first at next seeking.reads none.empty same;
      behind = inr (empty_first old now first at seeking.reads none.empty);
    }

-- the first byte of the buffer was read
pub byte_popped : (byte : ℕ) (old now new : LineReaderView) (first at : SourceView) → Seeking old now first at → false ≡ (now.room == 0) → Pops byte now new → ReadsByte (Ok byte) old new first at
byte_popped byte old now new first at seeking more pops =
    let reads : Reads (byte ∷ []) old new first at = reads_window [] (byte ∷ []) new.pending old now new first at seeking.reads pops.cut refl pops.room in
    record {
      middle = at;
      rest = rest_is (byte ∷ []) old new first at reads;
      reads = reads;
      closes = refl;
      spent = more ∙ ap (λ n. n == 0) (sym pops.room);
      behind = λ was. absurd (cc);
    }

-- no more may be taken
none_behind : (old new : LineReaderView) → (new ≡ old) ⊎ (old.pending ≡ []) → new.room ≡ 0 → 0 < old.room → old.pending ≡ []
none_behind old new (inl same) none more = let room = ap (λ (r : LineReaderView). r.room) same in absurd (omega (arith, room, none, more))
none_behind old new (inr empty) none more = empty

pub byte_spent : (old new : LineReaderView) (first next : SourceView) → Seeking old new first next → true ≡ (new.room == 0) → ReadsByte (Err Spent) old new first next
byte_spent old new first next seeking none = record {
  middle = next;
  rest = rest_is [] old new first next seeking.reads;
  reads = seeking.reads;
  closes = refl;
  spent = none;
  behind = λ was more. none_behind old new seeking.behind (eqb-true new.room 0 (sym none)) more;
}

byte_not_spent : (stop : Stop) (at next : SourceView) → TakesNothing stop at next → byte_stops_at_limit (Err stop) ≡ false
byte_not_spent End at next misses = refl
byte_not_spent Idle at next misses = refl
byte_not_spent Failed at next misses = refl
byte_not_spent Spent at next misses = absurd misses

missed_at : (stop : Stop) (old new : LineReaderView) (first at next : SourceView) → Seeking old new first at → new.pending ≡ [] → false ≡ (new.room == 0) → TakesNothing stop at next → ReadsByte (Err stop) old new first next
missed_at stop old new first at next seeking empty more misses = record {
  middle = at;
  rest = rest_is [] old new first at seeking.reads ∙ ap (λ l. preceded [] (preceded new.pending l)) (sym (misses_left stop at next misses));
  reads = seeking.reads;
  closes = halts_missed stop new at next empty misses;
  spent = byte_not_spent stop at next misses ∙ more;
  behind = λ was. never (byte_not_spent stop at next misses) was;
}

-- the source stopped
pub byte_missed : (stop : Stop) (old now drained new : LineReaderView) (first at next : SourceView) → Seeking old now first at → false ≡ (now.room == 0) → IsDrained now drained → new ≡ drained → TakesNothing stop at next → ReadsByte (Err stop) old new first next
byte_missed stop old now drained new first at next seeking more none same misses =
    let is : new ≡ now = same ∙ none.same in
    rw is (missed_at stop old now first at next seeking none.empty more misses)
