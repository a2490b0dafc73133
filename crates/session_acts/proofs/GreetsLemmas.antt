-- A greeting while it is read.
use Rattle.std.proofs.Common.{arith, ◌≡◌, refl, sym, ap, subst, ◌∙◌, ℕ, ◌+◌, ◌≤◌, Bool, true, false, List, [], ◌∷◌, ◌++◌, length, Option, Some, None, Result, Ok, Err}
use Rattle.std.specs.Prelude.{◌==◌, if◌then◌else◌}
use Rattle.std.proofs.lemmas.Bool.{eqb-true}
use Rattle.ftp_lines.specs.Reply.{first_reply, unended_part, without_end}
use Rattle.ftp_lines.proofs.ReplyLemmas.{first_reply-empty}
use Rattle.ftp_lines.specs.ReplyReaderView.{IsReplyStep, fed_after, short, step_of}
use Rattle.ftp_lines.specs.declared.reply_step.ReplyStep.{ReplyStep}
use Rattle.ftp_lines.specs.declared.reply_step.ReplyStep.TheVariants.{Last, Line, More}
use Rattle.fw_outside.specs.LineReaderView.{LineReaderView, ReadsByte}
use Rattle.fw_outside.specs.SinkView.{SinkView}
use Rattle.fw_outside.specs.SourceView.{SourceView}
use Rattle.fw_outside.specs.declared.heard.Stop.{Stop}
use Rattle.session_acts.specs.Greeting.{GivesHead, PassesBy, code_told, head_after, head_behind, told_by}
use Rattle.session_acts.specs.ReplyRest.{HearsBy, last_code, miss_of}
use Rattle.session_acts.specs.Replying.{is_welcome}
use Rattle.session_acts.specs.World.{Speaker}
use Rattle.session_acts.specs.declared.replied.Replied.{Replied}
use Rattle.session_acts.specs.declared.replying.Miss.{Miss}
use Rattle.session_acts.specs.declared.reply_use.ReplyUse.TheVariants.{Greeting}
use Rattle.session_acts.proofs.GreetedLemmas.{greeted_last, greeted_stop, greets_by}
use Rattle.session_acts.proofs.GreetingLemmas.{Heading, heading_line, heading_more, heading_none, told_at}
use Rattle.session_acts.proofs.ReadingLemmas.{Reading, reading_more, reading_none}
use Rattle.session_acts.proofs.ReplyReadLemmas.{ends_step}

-- ---- steps of a reader of replies

no_lf : (lf : Bool) (reply : Option (ℕ × ℕ)) → More ≡ (if lf then step_of reply else More) → lf ≡ false
no_lf true None is = absurd (cc)
no_lf true (Some reply) is = absurd (cc)
no_lf false reply is = refl

line_lf : (lf : Bool) (reply : Option (ℕ × ℕ)) → Line ≡ (if lf then step_of reply else More) → lf ≡ true
line_lf true reply is = refl
line_lf false reply is = absurd (cc)

-- ---- while it goes on

pub record Greets (fed head : List ℕ) (old now : LineReaderView) (first at : SourceView) (sink_old sink_now : SinkView) : Type 0 where
  pub heading : Heading fed head
  pub unended : first_reply fed ≡ None
  pub reading : Reading fed old now first at
  pub same : sink_now ≡ sink_old
  pub few : length head ≤ 5

greets_none : (old : LineReaderView) (first : SourceView) (sink : SinkView) → Greets [] [] old old first first sink sink
greets_none old first sink = record { heading = heading_none; unended = first_reply-empty; reading = reading_none old first; same = refl; few = omega (arith) }

pub greets_first : (fed head : List ℕ) (old : LineReaderView) (first : SourceView) (sink : SinkView) → fed ≡ [] → head ≡ [] → Greets fed head old old first first sink sink
greets_first fed head old first sink begun none =
    let here = subst (λ (h : List ℕ). Greets [] h old old first first sink sink) (sym none) (greets_none old first sink) in
    subst (λ (f : List ℕ). Greets f head old old first first sink sink) (sym begun) here

-- a byte that tells no code
greets_more : (fed head now_fed : List ℕ) (byte : ℕ) (step : ReplyStep) (old now new : LineReaderView) (first at next : SourceView) (sink_old sink_now : SinkView) → Greets fed head old now first at sink_old sink_now → ReadsByte (Ok byte) now new at next
    → step ≡ More → step ≡ (if byte == 10 then step_of (first_reply (fed ++ byte ∷ [])) else More) → now_fed ≡ fed_after step (fed ++ byte ∷ []) → first_reply now_fed ≡ None → code_told now_fed (head_after head byte) ≡ None → length (head_after head byte) ≤ 5
    → Greets now_fed (head_after head byte) old new first next sink_old sink_now
greets_more fed head now_fed byte step old now new first at next sink_old sink_now g read more is fed_is unended none few =
    let here : now_fed ≡ fed ++ byte ∷ [] = fed_is ∙ ap (λ (s : ReplyStep). fed_after s (fed ++ byte ∷ [])) more in
    let other : (byte == 10) ≡ false = no_lf (byte == 10) (first_reply (fed ++ byte ∷ [])) (sym more ∙ is) in
    subst (λ (f : List ℕ). Greets f (head_after head byte) old new first next sink_old sink_now) (sym here) (record {
      heading = heading_more fed head byte other g.heading (ap (λ (f : List ℕ). code_told f (head_after head byte)) (sym here) ∙ none);
      unended = ap first_reply (sym here) ∙ unended;
      reading = reading_more fed byte old now new first at next g.reading read;
      same = g.same;
      few = few;
    })

-- the end of a line that doesn't end the greeting
greets_line : (fed head now_fed : List ℕ) (byte : ℕ) (step : ReplyStep) (old now new : LineReaderView) (first at next : SourceView) (sink_old sink_now : SinkView) → Greets fed head old now first at sink_old sink_now → ReadsByte (Ok byte) now new at next
    → step ≡ Line → step ≡ (if byte == 10 then step_of (first_reply (fed ++ byte ∷ [])) else More) → now_fed ≡ fed_after step (fed ++ byte ∷ []) → first_reply now_fed ≡ None
    → Greets now_fed [] old new first next sink_old sink_now
greets_line fed head now_fed byte step old now new first at next sink_old sink_now g read line is fed_is unended =
    let here : now_fed ≡ fed ++ byte ∷ [] = fed_is ∙ ap (λ (s : ReplyStep). fed_after s (fed ++ byte ∷ [])) line in
    let lf : (byte == 10) ≡ true = line_lf (byte == 10) (first_reply (fed ++ byte ∷ [])) (sym line ∙ is) in
    subst (λ (f : List ℕ). Greets f [] old new first next sink_old sink_now) (sym here) (record {
      heading = heading_line fed head byte lf (eqb-true byte 10 lf) g.heading (ap first_reply (sym here) ∙ unended);
      unended = ap first_reply (sym here) ∙ unended;
      reading = reading_more fed byte old now new first at next g.reading read;
      same = g.same;
      few = omega (arith);
    })

-- a byte with which a code is told, and then the rest
greets_told : (fed head now_fed : List ℕ) (byte code : ℕ) (step : ReplyStep) (result : Result Replied Miss) (old now new last : LineReaderView) (first at next ended : SourceView) (outlet : SinkView) (client : Speaker) (sink_old sink_now sink_new : SinkView)
    → Greets fed head old now first at sink_old sink_now → ReadsByte (Ok byte) now new at next → step ≡ More → step ≡ (if byte == 10 then step_of (first_reply (fed ++ byte ∷ [])) else More) → now_fed ≡ fed_after step (fed ++ byte ∷ [])
    → code_told now_fed (head_after head byte) ≡ Some code
    → PassesBy (is_welcome code) now_fed (head_after head byte) result (record { inlet = next; reader = new; outlet = outlet }) (record { inlet = ended; reader = last; outlet = outlet }) (record client { outlet = sink_now }) (record client { outlet = sink_new })
    → HearsBy Greeting result (record { inlet = first; reader = old; outlet = outlet }) (record { inlet = ended; reader = last; outlet = outlet }) (record client { outlet = sink_old }) (record client { outlet = sink_new })
greets_told fed head now_fed byte code step result old now new last first at next ended outlet client sink_old sink_now sink_new g read more is fed_is told passes =
    let here : now_fed ≡ fed ++ byte ∷ [] = fed_is ∙ ap (λ (s : ReplyStep). fed_after s (fed ++ byte ∷ [])) more in
    let other : (byte == 10) ≡ false = no_lf (byte == 10) (first_reply (fed ++ byte ∷ [])) (sym more ∙ is) in
    let at_byte = told_at fed head byte code other g.heading (ap (λ (f : List ℕ). code_told f (head_after head byte)) (sym here) ∙ told) in
    let reading = reading_more fed byte old now new first at next g.reading read in
    let end : Speaker = record { inlet = ended; reader = last; outlet = outlet } in
    let done = subst (λ (f : List ℕ). PassesBy (is_welcome code) f (head_after head byte) result (record { inlet = next; reader = new; outlet = outlet }) end (record client { outlet = sink_now }) (record client { outlet = sink_new })) here passes in
    let all = greets_by fed head byte code at_byte old new first next outlet reading (is_welcome code) result end (record client { outlet = sink_now }) (record client { outlet = sink_new }) refl done in
    subst (λ (s : SinkView). HearsBy Greeting result (record { inlet = first; reader = old; outlet = outlet }) end (record client { outlet = s }) (record client { outlet = sink_new })) g.same all

-- ---- by the step

-- a byte with which no code was told, and no reply ended
pub greets_next : (fed head now_fed kept now_head : List ℕ) (byte : ℕ) (step : ReplyStep) (old now new : LineReaderView) (first at next : SourceView) (sink_old sink_now : SinkView) → Greets fed head old now first at sink_old sink_now → ReadsByte (Ok byte) now new at next
    → last_code step ≡ None → step ≡ (if byte == 10 then step_of (first_reply (fed ++ byte ∷ [])) else More) → now_fed ≡ fed_after step (fed ++ byte ∷ []) → first_reply now_fed ≡ None → kept ≡ head_after head byte → length kept ≤ 5 → told_by step now_fed kept ≡ None
    → now_head ≡ head_behind step kept → Greets now_fed now_head old new first next sink_old sink_now
greets_next fed head now_fed kept now_head byte More old now new first at next sink_old sink_now g read last is fed_is unended kept_is few none head_is =
    subst (λ (h : List ℕ). Greets now_fed h old new first next sink_old sink_now) (sym (head_is ∙ kept_is))
    (greets_more fed head now_fed byte More old now new first at next sink_old sink_now g read refl is fed_is unended (ap (λ (h : List ℕ). code_told now_fed h) (sym kept_is) ∙ none) (subst (λ (h : List ℕ). length h ≤ 5) kept_is few))
greets_next fed head now_fed kept now_head byte Line old now new first at next sink_old sink_now g read last is fed_is unended kept_is few none head_is =
    subst (λ (h : List ℕ). Greets now_fed h old new first next sink_old sink_now) (sym head_is) (greets_line fed head now_fed byte Line old now new first at next sink_old sink_now g read refl is fed_is unended)
greets_next fed head now_fed kept now_head byte (Last code) old now new first at next sink_old sink_now g read last is fed_is unended kept_is few none head_is = absurd (cc)

-- one with which a code was told, and then the rest
pub greets_on : (fed head now_fed kept : List ℕ) (byte code : ℕ) (step : ReplyStep) (result : Result Replied Miss) (old now new last : LineReaderView) (first at next ended : SourceView) (outlet : SinkView) (client : Speaker) (sink_old sink_now sink_new : SinkView)
    → Greets fed head old now first at sink_old sink_now → ReadsByte (Ok byte) now new at next → step ≡ (if byte == 10 then step_of (first_reply (fed ++ byte ∷ [])) else More) → now_fed ≡ fed_after step (fed ++ byte ∷ []) → kept ≡ head_after head byte → told_by step now_fed kept ≡ Some code
    → PassesBy (is_welcome code) now_fed kept result (record { inlet = next; reader = new; outlet = outlet }) (record { inlet = ended; reader = last; outlet = outlet }) (record client { outlet = sink_now }) (record client { outlet = sink_new })
    → HearsBy Greeting result (record { inlet = first; reader = old; outlet = outlet }) (record { inlet = ended; reader = last; outlet = outlet }) (record client { outlet = sink_old }) (record client { outlet = sink_new })
greets_on fed head now_fed kept byte code More result old now new last first at next ended outlet client sink_old sink_now sink_new g read is fed_is kept_is told passes =
    let end : Speaker = record { inlet = ended; reader = last; outlet = outlet } in
    let here = subst (λ (h : List ℕ). PassesBy (is_welcome code) now_fed h result (record { inlet = next; reader = new; outlet = outlet }) end (record client { outlet = sink_now }) (record client { outlet = sink_new })) kept_is passes in
    greets_told fed head now_fed byte code More result old now new last first at next ended outlet client sink_old sink_now sink_new g read refl is fed_is (ap (λ (h : List ℕ). code_told now_fed h) (sym kept_is) ∙ told) here
greets_on fed head now_fed kept byte code Line result old now new last first at next ended outlet client sink_old sink_now sink_new g read is fed_is kept_is told passes = absurd (cc)
greets_on fed head now_fed kept byte code (Last other) result old now new last first at next ended outlet client sink_old sink_now sink_new g read is fed_is kept_is told passes = absurd (cc)

-- one that ended the greeting
pub greets_last : (fed head kept : List ℕ) (byte code : ℕ) (heard : Option (List ℕ)) (step : ReplyStep) (result : Result Replied Miss) (old now new : LineReaderView) (first at next : SourceView) (outlet : SinkView) (client : Speaker) (sink_old sink_now sink_new : SinkView)
    → Greets fed head old now first at sink_old sink_now → ReadsByte (Ok byte) now new at next → length new.pending ≤ 4096 → last_code step ≡ Some code → step ≡ (if byte == 10 then step_of (first_reply (fed ++ byte ∷ [])) else More)
    → IsReplyStep step (first_reply (fed ++ byte ∷ [])) (length fed + 1) → heard ≡ (if byte == 10 then short (without_end (unended_part fed)) else None) → kept ≡ head_after head byte → GivesHead code heard kept result sink_now sink_new
    → HearsBy Greeting result (record { inlet = first; reader = old; outlet = outlet }) (record { inlet = next; reader = new; outlet = outlet }) (record client { outlet = sink_old }) (record client { outlet = sink_new })
greets_last fed head kept byte code heard step result old now new first at next outlet client sink_old sink_now sink_new g read near last is reply line kept_is gives =
    let here = subst (λ (h : List ℕ). GivesHead code heard h result sink_now sink_new) kept_is gives in
    let all = greeted_last fed head byte code heard result old now new first at next outlet client sink_now sink_new g.heading g.unended g.reading read near (ends_step fed byte code heard step last is reply line) here in
    subst (λ (s : SinkView). HearsBy Greeting result (record { inlet = first; reader = old; outlet = outlet }) (record { inlet = next; reader = new; outlet = outlet }) (record client { outlet = s }) (record client { outlet = sink_new })) g.same all

-- or the source stopped
pub greets_stop : (stop : Stop) (fed head : List ℕ) (old now new : LineReaderView) (first at next : SourceView) (outlet : SinkView) (client : Speaker) (sink_old sink_now : SinkView) → Greets fed head old now first at sink_old sink_now → ReadsByte (Err stop) now new at next → length new.pending ≤ 4096
    → HearsBy Greeting (miss_of stop) (record { inlet = first; reader = old; outlet = outlet }) (record { inlet = next; reader = new; outlet = outlet }) (record client { outlet = sink_old }) (record client { outlet = sink_now })
greets_stop stop fed head old now new first at next outlet client sink_old sink_now g read near =
    let all = greeted_stop stop fed head old now new first at next outlet (record client { outlet = sink_now }) g.heading g.unended g.reading read near in
    subst (λ (s : SinkView). HearsBy Greeting (miss_of stop) (record { inlet = first; reader = old; outlet = outlet }) (record { inlet = next; reader = new; outlet = outlet }) (record client { outlet = s }) (record client { outlet = sink_now })) g.same all
