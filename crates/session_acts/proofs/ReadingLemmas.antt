-- How a speaker is read, byte by byte.
use Rattle.std.proofs.Common.{arith, ◌≡◌, refl, sym, ap, subst, ◌∙◌, ℕ, ◌+◌, ◌<◌, ◌≤◌, Bool, true, false, List, [], ◌∷◌, ◌++◌, length, Option, Some, None, Result, Ok, Err, append-nil}
use Rattle.fw_outside.specs.LineReaderView.{LineReaderView, Reads, ReadsByte, byte_stops_at_limit, rest_of}
use Rattle.fw_outside.specs.SinkView.{SinkView}
use Rattle.fw_outside.specs.SourceView.{SourceView}
use Rattle.fw_outside.specs.ToldList.{preceded}
use Rattle.fw_outside.specs.declared.heard.Stop.{Stop}
use Rattle.fw_outside.specs.declared.heard.Stop.TheVariants as stops
use Rattle.fw_outside.proofs.ListenLemmas.{all_read, preceded-nil, reads_both, reads_none, rest_is}
use Rattle.session_acts.specs.Depositing.{Draws, data_stop_at_limit}
use Rattle.session_acts.specs.World.{Speaker}
use Rattle.session_acts.proofs.DataLemmas.{byte_more, same_limit, some_left}

-- this was read so far
pub record Reading (text : List ℕ) (old now : LineReaderView) (first at : SourceView) : Type 0 where
  pub reads : Reads text old now first at
  pub more : 0 < old.room → 0 < now.room

pub reading_none : (old : LineReaderView) (first : SourceView) → Reading [] old old first first
reading_none old first = record { reads = reads_none old first; more = λ room. room }

-- and one more byte
pub reading_more : (text : List ℕ) (byte : ℕ) (old now new : LineReaderView) (first at next : SourceView) → Reading text old now first at → ReadsByte (Ok byte) now new at next → Reading (text ++ byte ∷ []) old new first next
reading_more text byte old now new first at next r read = record {
  reads = byte_more text byte old now new first at next r.reads read;
  more = λ room. some_left new.room read.spent;
}

-- a speaker of which a byte was read last
pub drawn_last : (text : List ℕ) (byte : ℕ) (old now new : LineReaderView) (first at next : SourceView) (outlet : SinkView) → Reading text old now first at → ReadsByte (Ok byte) now new at next → length new.pending ≤ 4096
    → Draws None (text ++ byte ∷ []) (record { inlet = first; reader = old; outlet = outlet }) (record { inlet = next; reader = new; outlet = outlet })
drawn_last text byte old now new first at next outlet r read near =
    let reads : Reads (text ++ byte ∷ []) old new first next = byte_more text byte old now new first at next r.reads read in
    record {
      inlet = next;
      reader = new;
      middle = next;
      rest = rest_is (text ++ byte ∷ []) old new first next reads;
      reads = reads;
      closes = refl;
      spent = read.spent;
      behind = λ was. absurd (cc);
      near = near;
      is = refl;
    }

-- or that stopped
pub drawn_stop : (stop : Stop) (text : List ℕ) (old now new : LineReaderView) (first at next : SourceView) (outlet : SinkView) → Reading text old now first at → ReadsByte (Err stop) now new at next → length new.pending ≤ 4096
    → Draws (Some stop) text (record { inlet = first; reader = old; outlet = outlet }) (record { inlet = next; reader = new; outlet = outlet })
drawn_stop stop text old now new first at next outlet r read near =
    let reads : Reads text old new first read.middle =
    subst (λ (b : List ℕ). Reads b old new first read.middle) (append-nil text) (reads_both text [] old now new first at read.middle r.reads read.reads) in
    record {
      inlet = next;
      reader = new;
      middle = read.middle;
      rest = rest_is text old now first at r.reads ∙ ap (λ (l : Option (List ℕ)). preceded text l) (read.rest ∙ sym (preceded-nil (rest_of new next)));
      reads = reads;
      closes = read.closes;
      spent = same_limit stop ∙ read.spent;
      behind = λ was more. all_read text old now first at r.reads (read.behind (sym (same_limit stop) ∙ was) (r.more more));
      near = near;
      is = refl;
    }

-- where the source came to its end, that leaves it as a byte does
pub drawn_end : (text : List ℕ) (old new : Speaker) → Draws (Some stops.End) text old new → Draws None text old new
drawn_end text old new h = record {
  inlet = h.inlet;
  reader = h.reader;
  middle = h.middle;
  rest = h.rest;
  reads = h.reads;
  closes = h.closes.1.is;
  spent = h.spent;
  behind = λ was. absurd (cc);
  near = h.near;
  is = h.is;
}
