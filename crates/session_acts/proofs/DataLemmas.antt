-- How the data of a mail are heard, byte by byte.
use Rattle.std.proofs.Common.{arith, ◌≡◌, refl, sym, ap, subst, ◌∙◌, ℕ, ◌+◌, ◌<◌, ◌≤◌, zero, suc, Bool, true, false, List, [], ◌∷◌, ◌++◌, length, Option, Some, None, Result, Ok, Err, append_assoc, append-nil}
use Rattle.std.specs.Prelude.{◌==◌}
use Rattle.fw_outside.specs.LineReaderView.{LineReaderView, Reads, ReadsByte, byte_stops_at_limit, rest_of}
use Rattle.fw_outside.specs.SinkView.{SinkView}
use Rattle.fw_outside.specs.SourceView.{SourceView}
use Rattle.fw_outside.specs.ToldList.{preceded}
use Rattle.fw_outside.specs.declared.heard.Stop.{Stop}
use Rattle.fw_outside.specs.declared.heard.Stop.TheVariants.{End, Idle, Failed, Spent}
use Rattle.fw_outside.proofs.ListenLemmas.{all_read, preceded-nil, reads_both, reads_none, rest_is}
use Rattle.session_acts.specs.Depositing.{AreOfBody, Draws, data_stop_at_limit}
use Rattle.session_acts.specs.Intake.{AreDataOf, FitsTray, IsTray, tray_number}
use Rattle.session_acts.specs.World.{Speaker}
use Rattle.session_acts.specs.declared.depositing.Tray.{Tray}
use Rattle.smap_lines.specs.Body.{Body, body_after, body_from, mail_body_of}
use Rattle.smap_lines.specs.MailBodyView.{GivesBody, MailBodyView}
use Rattle.smap_lines.specs.declared.body.BodyStep.{BodyStep}
use Rattle.smap_lines.specs.declared.body.BodyStep.TheVariants as steps
use Rattle.smap_lines.proofs.BodyLemmas.{behind_nothing, behind_twice, cut-nothing}
use Rattle.spool_slots.specs.States.{SlotView}

-- what was heard of the data so far, and what became of the message
pub record Gathering {D : Type 0} (view : MailBodyView) (old now : LineReaderView) (first at : SourceView) (before : ℕ) (tray : Tray D) (left : ℕ) (held : Tray D) : Type 0 where
  pub data_heard : List ℕ
  pub given : List ℕ
  pub leads : (rest : List ℕ) → mail_body_of (data_heard ++ rest) ≡ body_after given (body_from view.middle (view.pending ++ rest))
  pub prompt : body_from view.middle view.pending ≡ None
  pub reads : Reads data_heard old now first at
  pub more : 0 < old.room → 0 < now.room
  pub lays : (sender : List ℕ) (rcpts : List (List ℕ)) (most : ℕ) (slot : SlotView) → IsTray sender rcpts most slot [] before tray → IsTray sender rcpts most slot given left held
  pub fits : FitsTray left held
  pub number : tray_number held ≡ tray_number tray

no_body : mail_body_of [] ≡ None
no_body = rw cut-nothing refl

first_leads : (view : MailBodyView) (rest : List ℕ) → view ≡ record { middle = false; pending = [] } → mail_body_of rest ≡ body_after [] (body_from view.middle (view.pending ++ rest))
first_leads view rest is =
    subst (λ (v : MailBodyView). mail_body_of rest ≡ body_after [] (body_from v.middle (v.pending ++ rest))) (sym is) (sym (behind_nothing (mail_body_of rest)))

pub gathering_from : {D : Type 0} (view : MailBodyView) (old : LineReaderView) (first : SourceView) (left : ℕ) (tray : Tray D) → view ≡ record { middle = false; pending = [] } → FitsTray left tray → Gathering view old old first first left tray left tray
gathering_from view old first left tray is fits = record {
  data_heard = [];
  given = [];
  leads = λ rest. first_leads view rest is;
  prompt = subst (λ (v : MailBodyView). body_from v.middle v.pending ≡ None) (sym is) no_body;
  reads = reads_none old first;
  more = λ room. room;
  lays = λ sender rcpts most slot laid. laid;
  fits = fits;
  number = refl;
}

pub some_left : (room : ℕ) → false ≡ (room == 0) → 0 < room
some_left zero none = absurd (cc)
some_left (suc room) some = omega arith

-- one more byte was read
pub byte_more : (bytes : List ℕ) (byte : ℕ) (old now new : LineReaderView) (first at next : SourceView) → Reads bytes old now first at → ReadsByte (Ok byte) now new at next → Reads (bytes ++ byte ∷ []) old new first next
byte_more bytes byte old now new first at next reads read =
    reads_both bytes (byte ∷ []) old now new first at next reads (subst (λ (s : SourceView). Reads (byte ∷ []) now new at s) (sym read.closes) read.reads)

next_leads : (view fed : MailBodyView) (byte : ℕ) (bytes data_heard given rest : List ℕ) → mail_body_of (data_heard ++ byte ∷ rest) ≡ body_after given (body_from view.middle (view.pending ++ byte ∷ rest))
    → body_from view.middle (view.pending ++ byte ∷ rest) ≡ body_after bytes (body_from fed.middle (fed.pending ++ rest))
    → mail_body_of ((data_heard ++ byte ∷ []) ++ rest) ≡ body_after (given ++ bytes) (body_from fed.middle (fed.pending ++ rest))
next_leads view fed byte bytes data_heard given rest leads gives =
    ap mail_body_of (append_assoc data_heard (byte ∷ []) rest) ∙ leads ∙ ap (body_after given) gives ∙ behind_twice given bytes (body_from fed.middle (fed.pending ++ rest))

-- it brings bytes of the body, which were added
pub gathering_more : {D : Type 0} (view fed : MailBodyView) (byte : ℕ) (bytes items : List ℕ) (old now new : LineReaderView) (first at next : SourceView) (before left less : ℕ) (tray held laid : Tray D)
    → Gathering view old now first at before tray left held → ReadsByte (Ok byte) now new at next → bytes ≡ items
    → ((rest : List ℕ) → body_from view.middle (view.pending ++ byte ∷ rest) ≡ body_after items (body_from fed.middle (fed.pending ++ rest))) → body_from fed.middle fed.pending ≡ None
    → ((sender : List ℕ) (rcpts : List (List ℕ)) (most : ℕ) (slot : SlotView) (given : List ℕ) → IsTray sender rcpts most slot given left held → IsTray sender rcpts most slot (given ++ bytes) less laid)
    → FitsTray less laid → tray_number laid ≡ tray_number held → Gathering fed old new first next before tray less laid
gathering_more view fed byte bytes items old now new first at next before left less tray held laid g read same gives prompt lays fits number = record {
  data_heard = g.data_heard ++ byte ∷ [];
  given = g.given ++ bytes;
  leads = λ rest. next_leads view fed byte bytes g.data_heard g.given rest (g.leads (byte ∷ rest)) (gives rest ∙ ap (λ (b : List ℕ). body_after b (body_from fed.middle (fed.pending ++ rest))) (sym same));
  prompt = prompt;
  reads = byte_more g.data_heard byte old now new first at next g.reads read;
  more = λ room. some_left new.room read.spent;
  lays = λ sender rcpts most slot is. lays sender rcpts most slot g.given (g.lays sender rcpts most slot is);
  fits = fits;
  number = number ∙ g.number;
}

ended_body : (view : MailBodyView) (byte : ℕ) (data_heard given : List ℕ) → mail_body_of (data_heard ++ byte ∷ []) ≡ body_after given (body_from view.middle (view.pending ++ byte ∷ []))
    → body_from view.middle (view.pending ++ byte ∷ []) ≡ Some (record { bytes = []; rest = [] }) → AreOfBody (data_heard ++ byte ∷ []) given
ended_body view byte data_heard given leads gives =
    leads ∙ ap (body_after given) gives ∙ ap (λ (t : List ℕ). Some (record { bytes = t; rest = [] })) (append-nil given)

-- it ends the data
pub gathered_end : {D : Type 0} (view fed : MailBodyView) (byte : ℕ) (old now new : LineReaderView) (first at next : SourceView) (before left : ℕ) (tray held : Tray D)
    → Gathering view old now first at before tray left held → ReadsByte (Ok byte) now new at next → length new.pending ≤ 4096
    → ((rest : List ℕ) → body_from view.middle (view.pending ++ byte ∷ rest) ≡ Some (record { bytes = []; rest = rest })) → AreDataOf old new first next before tray None held
gathered_end view fed byte old now new first at next before left tray held g read near gives =
    let bytes : List ℕ = g.data_heard ++ byte ∷ [] in
    let reads : Reads bytes old new first next = byte_more g.data_heard byte old now new first at next g.reads read in
    record {
      data_heard = bytes;
      given = g.given;
      draws = λ outlet. record {
        inlet = next;
        reader = new;
        middle = next;
        rest = rest_is bytes old new first next reads;
        reads = reads;
        closes = refl;
        spent = read.spent;
        behind = λ was. absurd (cc);
        near = near;
        is = refl;
      };
      gives = ended_body view byte g.data_heard g.given (g.leads (byte ∷ [])) (gives []);
      left_after = left;
      lays = g.lays;
    }

pub same_limit : (stop : Stop) → data_stop_at_limit (Some stop) ≡ byte_stops_at_limit (Err stop)
same_limit End = refl
same_limit Idle = refl
same_limit Failed = refl
same_limit Spent = refl

unended_body : (view : MailBodyView) (data_heard given : List ℕ) → mail_body_of (data_heard ++ []) ≡ body_after given (body_from view.middle (view.pending ++ [])) → body_from view.middle view.pending ≡ None → mail_body_of data_heard ≡ None
unended_body view data_heard given leads prompt =
    ap mail_body_of (sym (append-nil data_heard)) ∙ leads ∙ ap (λ (p : List ℕ). body_after given (body_from view.middle p)) (append-nil view.pending) ∙ ap (body_after given) prompt

-- the source stopped before their end
pub gathered_stop : {D : Type 0} (stop : Stop) (view : MailBodyView) (old now new : LineReaderView) (first at next : SourceView) (before left : ℕ) (tray held : Tray D)
    → Gathering view old now first at before tray left held → ReadsByte (Err stop) now new at next → length new.pending ≤ 4096 → AreDataOf old new first next before tray (Some stop) held
gathered_stop stop view old now new first at next before left tray held g read near =
    let reads : Reads g.data_heard old new first read.middle =
    subst (λ (b : List ℕ). Reads b old new first read.middle) (append-nil g.data_heard) (reads_both g.data_heard [] old now new first at read.middle g.reads read.reads) in
    record {
      data_heard = g.data_heard;
      given = g.given;
      draws = λ outlet. record {
        inlet = next;
        reader = new;
        middle = read.middle;
        rest = rest_is g.data_heard old now first at g.reads ∙ ap (λ (l : Option (List ℕ)). preceded g.data_heard l) (read.rest ∙ sym (preceded-nil (rest_of new next)));
        reads = reads;
        closes = read.closes;
        spent = same_limit stop ∙ read.spent;
        behind = λ was more. all_read g.data_heard old now first at g.reads (read.behind (sym (same_limit stop) ∙ was) (g.more more));
        near = near;
        is = refl;
      };
      gives = unended_body view g.data_heard g.given (g.leads []) g.prompt;
      left_after = left;
      lays = g.lays;
    }
