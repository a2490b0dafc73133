-- A reply, byte by byte, of which the client is given nothing or all.
use Rattle.std.proofs.Common.{arith, ◌≡◌, refl, sym, ap, subst, ◌∙◌, ℕ, ◌+◌, ◌<◌, ◌≤◌, Bool, true, false, List, [], ◌∷◌, ◌++◌, length, Option, Some, None, Result, Ok, Err, append_assoc, append-nil}
use Rattle.std.specs.Prelude.{◌==◌, if◌then◌else◌}
use Rattle.std.proofs.lemmas.Bool.{eqb-true}
use Rattle.std.proofs.lemmas.List.{length-append}
use Rattle.ftp_lines.proofs.PartLemmas.{ended_parts-lf}
use Rattle.ftp_lines.specs.Reply.{ended_parts, first_reply, unended_part, without_end}
use Rattle.ftp_lines.specs.ReplyReaderView.{IsReplyStep, ReplyReaderView, fed_after, short, step_of}
use Rattle.ftp_lines.specs.declared.reply_step.ReplyStep.{ReplyStep}
use Rattle.ftp_lines.specs.declared.reply_step.ReplyStep.TheVariants.{More, Line, Last}
use Rattle.fw_outside.specs.LineReaderView.{LineReaderView, ReadsByte}
use Rattle.fw_outside.specs.SinkView.{SinkView}
use Rattle.fw_outside.specs.SourceView.{SourceView}
use Rattle.fw_outside.specs.declared.heard.Stop.{Stop}
use Rattle.fw_outside.specs.declared.heard.Stop.TheVariants as stops
use Rattle.session_acts.specs.ReplyRest.{DropsRest, last_code, miss_of}
use Rattle.session_acts.specs.Replying.{IsReplied, last_part, six_in, six_told}
use Rattle.session_acts.specs.World.{Speaker}
use Rattle.session_acts.specs.declared.replied.Replied.TheVariants.{Whole, Ended}
use Rattle.session_acts.proofs.ReadingLemmas.{Reading, drawn_last, drawn_stop, reading_more, reading_none}

-- ---- a whole reply

last_of : (parts : List (List ℕ)) (part : List ℕ) → last_part (parts ++ part ∷ []) ≡ part
last_of [] part = refl
last_of (one ∷ []) part = refl
last_of (one ∷ other ∷ parts) part = last_of (other ∷ parts) part

-- only an LF ends a reply
is_end : (lf : Bool) (step : ReplyStep) (code : ℕ) → Last code ≡ (if lf then step else More) → lf ≡ true
is_end true step code is = refl
is_end false step code is = absurd (cc)

-- what a step says that ended a reply
pub record EndsReply (fed : List ℕ) (byte code : ℕ) (heard : Option (List ℕ)) : Type 0 where
  pub whole : IsReplied (Whole code (six_in heard)) (fed ++ byte ∷ [])
  pub lf : byte ≡ 10

last_line : (fed : List ℕ) → last_part (ended_parts (fed ++ 10 ∷ [])) ≡ unended_part fed
last_line fed = ap last_part (ended_parts-lf fed) ∙ last_of (ended_parts fed) (unended_part fed)

told_six : (fed : List ℕ) (byte : ℕ) (heard : Option (List ℕ)) → byte ≡ 10 → heard ≡ (if byte == 10 then short (without_end (unended_part fed)) else None) → six_in heard ≡ six_told (fed ++ byte ∷ [])
told_six fed byte heard lf line =
    let same : heard ≡ short (without_end (unended_part fed)) = line ∙ ap (λ (b : ℕ). (if b == 10 then short (without_end (unended_part fed)) else None)) lf in
    ap six_in same ∙ ap (λ (l : List ℕ). six_in (short (without_end l))) (sym (last_line fed)) ∙ ap (λ (b : ℕ). six_told (fed ++ b ∷ [])) (sym lf)

pub ends_reply : (fed : List ℕ) (byte code : ℕ) (heard : Option (List ℕ)) → Last code ≡ (if byte == 10 then step_of (first_reply (fed ++ byte ∷ [])) else More) → IsReplyStep (Last code) (first_reply (fed ++ byte ∷ [])) (length fed + 1)
    → heard ≡ (if byte == 10 then short (without_end (unended_part fed)) else None) → EndsReply fed byte code heard
ends_reply fed byte code heard step reply line =
    let lf : byte ≡ 10 = eqb-true byte 10 (is_end (byte == 10) (step_of (first_reply (fed ++ byte ∷ []))) code step) in
    let long = length-append fed (byte ∷ []) in
    record {
      whole = (reply ∙ ap (λ (n : ℕ). Some (n, code)) (sym long), told_six fed byte heard lf line);
      lf = lf;
    }

-- ---- the rest of a reply

-- so much more of a reply came, which goes on
pub record Coming (earlier : List ℕ) (fed : List ℕ) (old now : LineReaderView) (first at : SourceView) : Type 0 where
  pub more : List ℕ
  pub reading : Reading more old now first at
  pub is_fed : fed ≡ earlier ++ more
  pub unended : first_reply (earlier ++ more) ≡ None

unfoldable pub coming_none : (earlier : List ℕ) (old : LineReaderView) (first : SourceView) → first_reply earlier ≡ None → Coming earlier earlier old old first first
coming_none earlier old first unended = record {
  more = [];
  reading = reading_none old first;
  is_fed = sym (append-nil earlier);
  unended = ap first_reply (append-nil earlier) ∙ unended;
}

-- a byte that doesn't end it
pub goes_on : (step : ReplyStep) (bytes now : List ℕ) → ((code : ℕ) → step ≡ Last code → ⊥) → now ≡ fed_after step bytes → now ≡ bytes
goes_on More bytes now other is = is
goes_on Line bytes now other is = is
goes_on (Last code) bytes now other is = absurd (other code refl)

unfoldable pub coming_more : (earlier fed now_fed : List ℕ) (byte : ℕ) (step : ReplyStep) (old now new : LineReaderView) (first at next : SourceView) → (c : Coming earlier fed old now first at) → ReadsByte (Ok byte) now new at next
    → ((code : ℕ) → step ≡ Last code → ⊥) → now_fed ≡ fed_after step (fed ++ byte ∷ []) → first_reply now_fed ≡ None → Coming earlier now_fed old new first next
coming_more earlier fed now_fed byte step old now new first at next c read other is unended =
    let here : now_fed ≡ earlier ++ (c.more ++ byte ∷ []) = goes_on step (fed ++ byte ∷ []) now_fed other is ∙ ap (λ (f : List ℕ). f ++ byte ∷ []) c.is_fed ∙ append_assoc earlier c.more (byte ∷ []) in
    record { more = c.more ++ byte ∷ []; reading = reading_more c.more byte old now new first at next c.reading read; is_fed = here; unended = ap first_reply (sym here) ∙ unended }

-- a byte that does
unfoldable pub came_whole : (earlier fed : List ℕ) (byte code : ℕ) (heard : Option (List ℕ)) (old now new : LineReaderView) (first at next : SourceView) (outlet : SinkView) → Coming earlier fed old now first at → ReadsByte (Ok byte) now new at next → length new.pending ≤ 4096
    → EndsReply fed byte code heard → DropsRest earlier (Ok (Whole code (six_in heard))) (record { inlet = first; reader = old; outlet = outlet }) (record { inlet = next; reader = new; outlet = outlet })
came_whole earlier fed byte code heard old now new first at next outlet c read near ends = record {
  more = c.more ++ byte ∷ [];
  is = subst (λ (t : List ℕ). IsReplied (Whole code (six_in heard)) t) (ap (λ (f : List ℕ). f ++ byte ∷ []) c.is_fed ∙ append_assoc earlier c.more (byte ∷ [])) ends.whole;
  draws = drawn_last c.more byte old now new first at next outlet c.reading read near;
}

-- or the source stopped
unfoldable pub came_stop : (stop : Stop) (earlier fed : List ℕ) (old now new : LineReaderView) (first at next : SourceView) (outlet : SinkView) → Coming earlier fed old now first at → ReadsByte (Err stop) now new at next → length new.pending ≤ 4096
    → DropsRest earlier (miss_of stop) (record { inlet = first; reader = old; outlet = outlet }) (record { inlet = next; reader = new; outlet = outlet })
came_stop stops.End earlier fed old now new first at next outlet c read near = record { more = c.more; is = c.unended; draws = drawn_stop stops.End c.more old now new first at next outlet c.reading read near }
came_stop stops.Idle earlier fed old now new first at next outlet c read near = record { more = c.more; none = c.unended; draws = drawn_stop stops.Idle c.more old now new first at next outlet c.reading read near }
came_stop stops.Failed earlier fed old now new first at next outlet c read near = record { more = c.more; none = c.unended; draws = drawn_stop stops.Failed c.more old now new first at next outlet c.reading read near }
came_stop stops.Spent earlier fed old now new first at next outlet c read near = record { more = c.more; none = c.unended; draws = drawn_stop stops.Spent c.more old now new first at next outlet c.reading read near }

-- a step that ended no reply
pub not_last : (step : ReplyStep) → last_code step ≡ None → (code : ℕ) → step ≡ Last code → ⊥
not_last More none code is = absurd (cc)
not_last Line none code is = absurd (cc)
not_last (Last other) none code is = absurd (cc)

-- or this one
pub is_last : (step : ReplyStep) (code : ℕ) → last_code step ≡ Some code → step ≡ Last code
is_last More code some = absurd (cc)
is_last Line code some = absurd (cc)
is_last (Last other) code some = cc

pub ends_step : (fed : List ℕ) (byte code : ℕ) (heard : Option (List ℕ)) (step : ReplyStep) → last_code step ≡ Some code → step ≡ (if byte == 10 then step_of (first_reply (fed ++ byte ∷ [])) else More)
    → IsReplyStep step (first_reply (fed ++ byte ∷ [])) (length fed + 1) → heard ≡ (if byte == 10 then short (without_end (unended_part fed)) else None) → EndsReply fed byte code heard
ends_step fed byte code heard step last is reply line =
    let same = is_last step code last in
    ends_reply fed byte code heard (sym same ∙ is) (subst (λ (s : ReplyStep). IsReplyStep s (first_reply (fed ++ byte ∷ [])) (length fed + 1)) same reply) line
