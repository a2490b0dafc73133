-- A reader of replies stands where the bytes that it was fed since the reply began lead it.
use Rattle.std.proofs.Common.{◌≡◌, ℕ, ◌+◌, true, false, List, [], ◌∷◌, ◌++◌, length, take, refl, sym, ap, ◌∙◌, subst}
use Rattle.std.specs.Prelude.{Option, Some, None}
use Rattle.fw_outside.specs.Lines.{is_lf}
use Rattle.fw_outside.proofs.LineLemmas.{take_twice}
use Rattle.ftp_lines.specs.ReplyLineView.{ReplyLineView, going, heard_of, most_kept}
use Rattle.ftp_lines.specs.Opening.{awaited, closing_code, opening_behind, opening_by, opening_of}
use Rattle.ftp_lines.specs.ReplyReaderView.{short}
use Rattle.ftp_lines.specs.Reply.{ended_parts, first_reply, without_end, unended_part}
use Rattle.ftp_lines.specs.ReaderState.{IsReaderState}
use Rattle.ftp_lines.specs.declared.opening.Opening.{Opening}
use Rattle.ftp_lines.specs.declared.opening.Opening.TheVariants.{Unheard, Plain, Coded}
use Rattle.ftp_lines.proofs.LineLemmas.{SameCode, gathered, kept_code, kept_line}
use Rattle.ftp_lines.proofs.PartLemmas.{ended_parts-lf, ended_parts-other, unended_part-lf, unended_part-other}
use Rattle.ftp_lines.proofs.ReplyLemmas.{answered, first_reply-empty, first_reply-lf, first_reply-other, opening_more}

-- before a reply, whatever line was read last
pub stands_first : (fed : List ℕ) (line : ReplyLineView) → fed ≡ [] → going line.kept line.ended ≡ [] → IsReaderState fed Unheard line
stands_first fed line none is =
    let P : List ℕ → Type 0 = λ f. IsReaderState f Unheard line in
    subst P (sym none) (record { tail = is; opens = refl; going_on = first_reply-empty })

-- behind a byte that isn't LF
stands_other : (fed : List ℕ) (opening : Opening) (line : ReplyLineView) (byte : ℕ) → is_lf byte ≡ false → IsReaderState fed opening line
    → IsReaderState (fed ++ byte ∷ []) opening (record { kept = take most_kept (going line.kept line.ended ++ byte ∷ []); ended = false })
stands_other fed opening line byte other stands = record {
  tail = ap (λ t. take most_kept (t ++ byte ∷ [])) stands.tail ∙ take_twice (unended_part fed) (byte ∷ []) ∙ ap (take most_kept) (sym (unended_part-other fed byte other));
  opens = stands.opens ∙ ap opening_of (sym (ended_parts-other fed byte other));
  going_on = first_reply-other fed byte other ∙ stands.going_on;
}

closed_same : (code : Option ℕ) (line other : List ℕ) → SameCode line other → closing_code code line ≡ closing_code code other
closed_same None line other same = rw (same.closing, same.code) refl
closed_same (Some code) line other same = rw (same.closing, same.code) refl

behind_same : (opening : Opening) (line other : List ℕ) → SameCode line other → opening_behind opening line ≡ opening_behind opening other
behind_same Unheard line other same = ap opening_by same.opens
behind_same Plain line other same = refl
behind_same (Coded code) line other same = refl

-- an LF ends the reply where the kept line does
stands_lf : (fed : List ℕ) (opening : Opening) (line : ReplyLineView) → IsReaderState fed opening line
    → first_reply (fed ++ 10 ∷ []) ≡ answered (length fed + 1) (closing_code (awaited opening) (without_end (going line.kept line.ended)))
stands_lf fed opening line stands =
    let kept = closed_same (awaited opening) (without_end (take most_kept (unended_part fed))) (without_end (unended_part fed)) (kept_code (unended_part fed)) in
    first_reply-lf fed stands.going_on
    ∙ ap (λ (o : Opening). answered (length fed + 1) (closing_code (awaited o) (without_end (unended_part fed)))) (sym stands.opens)
    ∙ ap (answered (length fed + 1)) (sym kept)
    ∙ ap (λ (t : List ℕ). answered (length fed + 1) (closing_code (awaited opening) (without_end t))) (sym stands.tail)

-- the line that has ended, if it isn't too long
stands_line : (fed : List ℕ) (opening : Opening) (line : ReplyLineView) → IsReaderState fed opening line → short (without_end (going line.kept line.ended)) ≡ short (without_end (unended_part fed))
stands_line fed opening line stands = ap (λ t. short (without_end t)) stands.tail ∙ kept_line (unended_part fed)

-- behind a line that doesn't end the reply
stands_next : (fed : List ℕ) (opening : Opening) (line : ReplyLineView) → IsReaderState fed opening line
    → closing_code (awaited opening) (without_end (going line.kept line.ended)) ≡ None
    → IsReaderState (fed ++ 10 ∷ []) (opening_behind opening (without_end (going line.kept line.ended))) (record { kept = going line.kept line.ended; ended = true })
stands_next fed opening line stands none = record {
  tail = ap (take most_kept) (sym (unended_part-lf fed));
  opens = ap (λ (t : List ℕ). opening_behind opening (without_end t)) stands.tail
      ∙ behind_same opening (without_end (take most_kept (unended_part fed))) (without_end (unended_part fed)) (kept_code (unended_part fed))
      ∙ ap (λ (o : Opening). opening_behind o (without_end (unended_part fed))) stands.opens
      ∙ sym (opening_more (ended_parts fed) (unended_part fed))
      ∙ ap opening_of (sym (ended_parts-lf fed));
  going_on = stands_lf fed opening line stands ∙ ap (answered (length fed + 1)) none;
}

pub stands_on : (old fed : List ℕ) (opening : Opening) (line new : ReplyLineView) (byte : ℕ) → is_lf byte ≡ false → IsReaderState old opening line
    → new ≡ gathered (take most_kept (going line.kept line.ended ++ byte ∷ [])) false → fed ≡ old ++ byte ∷ [] → IsReaderState fed opening new
stands_on old fed opening line new byte other stands is more = rw (is, more) (stands_other old opening line byte other stands)

-- a line has just ended: what was fed before, and what is kept of the line, which ends the reply with this code or doesn't
pub record Ends (old now : List ℕ) (opening : Opening) (line new : ReplyLineView) (text : List ℕ) (code : Option ℕ) : Type 0 where
  pub stands : IsReaderState old opening line
  pub was : old ≡ now
  pub is : new ≡ gathered (going line.kept line.ended) true
  pub text_is : text ≡ without_end new.kept
  pub code_is : code ≡ closing_code (awaited opening) text

kept_text : (old now : List ℕ) (opening : Opening) (line new : ReplyLineView) (text : List ℕ) (code : Option ℕ) → Ends old now opening line new text code
    → text ≡ without_end (going line.kept line.ended)
kept_text old now opening line new text code ends = ends.text_is ∙ ap (λ (g : ReplyLineView). without_end g.kept) ends.is

pub ends_answer : (old now : List ℕ) (opening : Opening) (line new : ReplyLineView) (text : List ℕ) (code : Option ℕ) → Ends old now opening line new text code
    → first_reply (now ++ 10 ∷ []) ≡ answered (length now + 1) code
ends_answer old now opening line new text code ends =
    let is : code ≡ closing_code (awaited opening) (without_end (going line.kept line.ended)) = ends.code_is ∙ ap (closing_code (awaited opening)) (kept_text old now opening line new text code ends) in
    let P : List ℕ → Type 0 = λ fed. first_reply (fed ++ 10 ∷ []) ≡ answered (length fed + 1) code in
    subst P ends.was (stands_lf old opening line ends.stands ∙ ap (answered (length old + 1)) (sym is))

pub ends_heard : (old now : List ℕ) (opening : Opening) (line new : ReplyLineView) (text : List ℕ) (code : Option ℕ) → Ends old now opening line new text code
    → heard_of new.kept new.ended ≡ short (without_end (unended_part now))
ends_heard old now opening line new text code ends =
    ap (λ (g : ReplyLineView). heard_of g.kept g.ended) ends.is ∙ stands_line old opening line ends.stands ∙ ap (λ fed. short (without_end (unended_part fed))) ends.was

pub ends_stands : (old now fed : List ℕ) (opening behind : Opening) (line new : ReplyLineView) (text other : List ℕ) (code : Option ℕ) → Ends old now opening line new text code
    → code ≡ None → fed ≡ old ++ 10 ∷ [] → other ≡ without_end new.kept → behind ≡ opening_behind opening other → IsReaderState fed behind new
ends_stands old now fed opening behind line new text other code ends none more other_is behind_is =
    let open_text : text ≡ without_end (going line.kept line.ended) = kept_text old now opening line new text code ends in
    let goes : closing_code (awaited opening) (without_end (going line.kept line.ended)) ≡ None = ap (closing_code (awaited opening)) (sym open_text) ∙ sym ends.code_is ∙ none in
    let there : behind ≡ opening_behind opening (without_end (going line.kept line.ended)) =
    behind_is ∙ ap (opening_behind opening) (other_is ∙ ap (λ (g : ReplyLineView). without_end g.kept) ends.is) in
    rw (more, there, ends.is) (stands_next old opening line ends.stands goes)
