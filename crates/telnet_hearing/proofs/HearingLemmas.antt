-- How a line of Telnet is heard, byte by byte.
use Rattle.std.proofs.Common.{◌≡◌, ℕ, ◌<◌, ◌≤◌, ◌+◌, zero, suc, Bool, true, false, List, [], ◌∷◌, ◌++◌, length, Option, Some, None, Result, Ok, Err, refl, sym, ap, subst, ◌∙◌, append_assoc, append-nil, length-append, arith}
use Rattle.std.specs.Prelude.{◌==◌}
use Rattle.fw_outside.specs.LineReaderView.{Halts, LeavesSource, LineReaderView, Reads, ReadsByte, byte_stops_at_limit, rest_of, stops_at_limit}
use Rattle.fw_outside.specs.SourceView.{SourceView}
use Rattle.fw_outside.specs.ToldList.{preceded}
use Rattle.fw_outside.specs.declared.heard.Heard.{Heard}
use Rattle.fw_outside.specs.declared.heard.Heard.TheVariants as heards
use Rattle.fw_outside.specs.declared.heard.Stop.{Stop}
use Rattle.fw_outside.specs.declared.heard.Stop.TheVariants.{End, Idle, Failed, Spent}
use Rattle.fw_outside.proofs.ListenLemmas.{all_read, preceded-nil, reads_both, reads_none, rest_is}
use Rattle.telnet.specs.First.{FirstHeard, first_from, first_heard}
use Rattle.telnet.specs.Lines.{lines_heard}
use Rattle.telnet.specs.TelnetView.{IsFed, TelnetView, told}
use Rattle.telnet.specs.declared.step.TelnetStep.{TelnetStep}
use Rattle.telnet.specs.declared.step.TelnetStep.TheVariants as steps
use Rattle.telnet.proofs.FirstLemmas.{fed_more, fed_told, from_end}
use Rattle.telnet.proofs.ReadingLemmas.{nothing_heard}
use Rattle.telnet_hearing.specs.Hearing.{Ends, IsHeardTelnet, ListensTelnet}

-- what was read of a line so far
pub record Telling (telnet : TelnetView) (old now : LineReaderView) (first at : SourceView) : Type 0 where
  pub bytes : List ℕ
  pub leads : (rest : List ℕ) → first_heard (bytes ++ rest) ≡ first_from telnet.pending rest
  pub prompt : lines_heard telnet.pending ≡ []
  pub reads : Reads bytes old now first at
  pub more : 0 < old.room → 0 < now.room

pub telling_from : (telnet : TelnetView) (old : LineReaderView) (first : SourceView) → telnet ≡ record { line = []; pending = [] } → Telling telnet old old first first
telling_from telnet old first is =
    let empty : telnet.pending ≡ [] = ap (λ (t : TelnetView). t.pending) is in
    record {
      bytes = [];
      leads = λ rest. ap (λ t. first_from t rest) (sym empty);
      prompt = ap lines_heard empty ∙ nothing_heard;
      reads = reads_none old first;
      more = λ room. room;
    }

some_left : (room : ℕ) → false ≡ (room == 0) → 0 < room
some_left zero none = absurd (cc)
some_left (suc room) some = omega arith

one_more : (n : ℕ) → suc n ≡ n + 1
one_more n = omega arith

-- one more byte was read
byte_more : (bytes : List ℕ) (byte : ℕ) (old now new : LineReaderView) (first at next : SourceView) → Reads bytes old now first at → ReadsByte (Ok byte) now new at next → Reads (bytes ++ byte ∷ []) old new first next
byte_more bytes byte old now new first at next reads read =
    reads_both bytes (byte ∷ []) old now new first at next reads (subst (λ (s : SourceView). Reads (byte ∷ []) now new at s) (sym read.closes) read.reads)

-- and so fewer are left
pub byte_nearer : (byte : ℕ) (now new : LineReaderView) (at next : SourceView) → ReadsByte (Ok byte) now new at next → length new.pending + new.room < length now.pending + now.room
byte_nearer byte now new at next read =
    let reads : Reads (byte ∷ []) now new at read.middle = read.reads in
    let long = length-append now.pending reads.taken_now in
    let same : length (now.pending ++ reads.taken_now) ≡ length new.pending + 1 = ap length reads.reader ∙ one_more (length new.pending) in
    omega (arith, long, same, reads.room)

-- it ends no line
pub telling_more : (telnet fed : TelnetView) (byte : ℕ) (old now new : LineReaderView) (first at next : SourceView) → Telling telnet old now first at → ReadsByte (Ok byte) now new at next → IsFed steps.More telnet fed byte → Telling fed old new first next
telling_more telnet fed byte old now new first at next telling read is = record {
  bytes = telling.bytes ++ byte ∷ [];
  leads = λ rest. ap first_heard (append_assoc telling.bytes (byte ∷ []) rest) ∙ telling.leads (byte ∷ rest) ∙ fed_more telnet fed byte rest telling.prompt is;
  prompt = is.prompt;
  reads = byte_more telling.bytes byte old now new first at next telling.reads read;
  more = λ room. some_left new.room read.spent;
}

-- it ends a line
line_ends : (answer : TelnetStep) (line : Option (List ℕ)) (telnet fed : TelnetView) (byte : ℕ) (bytes : List ℕ) → ((rest : List ℕ) → first_heard (bytes ++ rest) ≡ first_from telnet.pending rest) → lines_heard telnet.pending ≡ [] → told answer fed.line ≡ line ∷ [] → IsFed answer telnet fed byte
    → first_heard (bytes ++ byte ∷ []) ≡ Some (record { line = line; rest = [] })
line_ends answer line telnet fed byte bytes leads prompt tells is = leads (byte ∷ []) ∙ fed_told answer line telnet fed byte [] prompt tells is

ends_so : (heard : Heard) (telnet fed : TelnetView) (byte : ℕ) (bytes : List ℕ) → ((rest : List ℕ) → first_heard (bytes ++ rest) ≡ first_from telnet.pending rest) → lines_heard telnet.pending ≡ [] → Ends heard telnet fed byte → IsHeardTelnet heard (bytes ++ byte ∷ [])
ends_so (heards.Line line) telnet fed byte bytes leads prompt ends =
    line_ends steps.Line (Some line.items) telnet fed byte bytes leads prompt (ap (λ (l : List ℕ). Some l ∷ []) (sym ends.0)) ends.1
ends_so heards.TooLong telnet fed byte bytes leads prompt ends = line_ends steps.TooLong None telnet fed byte bytes leads prompt refl ends
ends_so (heards.Stopped stop) telnet fed byte bytes leads prompt ends = absurd ends

line_leaves : (heard : Heard) (telnet fed : TelnetView) (byte : ℕ) (new : LineReaderView) (at : SourceView) → Ends heard telnet fed byte → LeavesSource heard new at at
line_leaves (heards.Line line) telnet fed byte new at ends = refl
line_leaves heards.TooLong telnet fed byte new at ends = refl
line_leaves (heards.Stopped stop) telnet fed byte new at ends = absurd ends

line_not_spent : (heard : Heard) (telnet fed : TelnetView) (byte : ℕ) → Ends heard telnet fed byte → stops_at_limit heard ≡ false
line_not_spent (heards.Line line) telnet fed byte ends = refl
line_not_spent heards.TooLong telnet fed byte ends = refl
line_not_spent (heards.Stopped stop) telnet fed byte ends = absurd ends

never : {A : Type 0} {b : Bool} → b ≡ false → b ≡ true → A
never not was = let clash : false ≡ true = sym not ∙ was in absurd (cc)

pub listens_line : (heard : Heard) (telnet fed : TelnetView) (byte : ℕ) (old now new : LineReaderView) (first at next : SourceView) → Telling telnet old now first at → ReadsByte (Ok byte) now new at next → Ends heard telnet fed byte → ListensTelnet heard old new first next
listens_line heard telnet fed byte old now new first at next telling read ends =
    let bytes : List ℕ = telling.bytes ++ byte ∷ [] in
    let reads : Reads bytes old new first next = byte_more telling.bytes byte old now new first at next telling.reads read in
    record {
      bytes = bytes;
      middle = next;
      is_heard = ends_so heard telnet fed byte telling.bytes telling.leads telling.prompt ends;
      rest = rest_is bytes old new first next reads;
      reads = reads;
      closes = line_leaves heard telnet fed byte new next ends;
      spent = line_not_spent heard telnet fed byte ends ∙ read.spent;
      behind = λ was. never (line_not_spent heard telnet fed byte ends) was;
    }

same_limit : (stop : Stop) → stops_at_limit (heards.Stopped stop) ≡ byte_stops_at_limit (Err stop)
same_limit End = refl
same_limit Idle = refl
same_limit Failed = refl
same_limit Spent = refl

-- the source stopped before a line's end
pub listens_stopped : (stop : Stop) (telnet : TelnetView) (old now new : LineReaderView) (first at next : SourceView) → Telling telnet old now first at → ReadsByte (Err stop) now new at next → ListensTelnet (heards.Stopped stop) old new first next
listens_stopped stop telnet old now new first at next telling read =
    let reads : Reads telling.bytes old new first read.middle =
    subst (λ (b : List ℕ). Reads b old new first read.middle) (append-nil telling.bytes) (reads_both telling.bytes [] old now new first at read.middle telling.reads read.reads) in
    record {
      bytes = telling.bytes;
      middle = read.middle;
      is_heard = ap first_heard (sym (append-nil telling.bytes)) ∙ telling.leads [] ∙ from_end telnet.pending telling.prompt;
      rest = rest_is telling.bytes old now first at telling.reads ∙ ap (λ (l : Option (List ℕ)). preceded telling.bytes l) (read.rest ∙ sym (preceded-nil (rest_of new next)));
      reads = reads;
      closes = read.closes;
      spent = same_limit stop ∙ read.spent;
      behind = λ was more. all_read telling.bytes old now first at telling.reads (read.behind (sym (same_limit stop) ∙ was) (telling.more more));
    }
