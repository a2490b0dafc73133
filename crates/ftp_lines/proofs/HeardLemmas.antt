-- The lines that are heard at steps over a text are those that an LF ends.
use Rattle.std.proofs.Common.{◌≡◌, ℕ, Bool, true, false, List, [], ◌∷◌, ◌++◌, map, refl, sym, ap, ◌∙◌, append_assoc, append-nil}
use Rattle.std.specs.Prelude.{Option, Some, None, if◌then◌else◌}
use Rattle.std.proofs.lemmas.Bool.{eqb-true}
use Rattle.std.proofs.lemmas.List.{map-append}
use Rattle.fw_outside.specs.Lines.{is_lf}
use Rattle.ftp_lines.specs.Reply.{ended_parts, first_reply, unended_part, without_end}
use Rattle.ftp_lines.specs.Feeding.{AllFed, AllFedLines, Feeds, FeedsLine, ReplyFed, heard_at, heard_lines}
use Rattle.ftp_lines.specs.ReplyReaderView.{ReplyReaderView, fed_after, short, step_of}
use Rattle.ftp_lines.specs.declared.reply_step.ReplyStep.{ReplyStep}
use Rattle.ftp_lines.specs.declared.reply_step.ReplyStep.TheVariants.{More}
use Rattle.ftp_lines.proofs.PartLemmas.{ended_parts-lf, ended_parts-other, unended_part-lf, unended_part-other}

abbrev bytes_of : List ReplyFed → List ℕ
bytes_of steps = map (λ (step : ReplyFed). step.byte) steps

abbrev heard_of_part : List ℕ → Option (List ℕ)
heard_of_part part = short (without_end part)

-- the lines of a text
abbrev lines_in : List ℕ → List (Option (List ℕ))
lines_in text = map heard_of_part (ended_parts text)

-- an LF ends one line more
lines_lf : (text : List ℕ) → lines_in (text ++ 10 ∷ []) ≡ lines_in text ++ heard_of_part (unended_part text) ∷ []
lines_lf text =
    ap (map heard_of_part) (ended_parts-lf text)
    ∙ map-append heard_of_part (ended_parts text) (unended_part text ∷ [])

at_end : (reply : Option (ℕ × ℕ)) (heard : Option (List ℕ)) → heard_at (step_of reply) heard ≡ heard ∷ []
at_end None heard = refl
at_end (Some reply) heard = refl

-- behind an LF no line has begun
begun_none : (reply : Option (ℕ × ℕ)) (fed : List ℕ) (b : ℕ) → is_lf b ≡ true
    → unended_part (fed_after (step_of reply) (fed ++ b ∷ [])) ≡ []
begun_none None fed b lf =
    ap (λ x. unended_part (fed ++ x ∷ [])) (eqb-true b 10 lf) ∙ unended_part-lf fed
begun_none (Some reply) fed b lf = refl

-- what the step answers and what is heard, by whether its byte is LF
abbrev answer_by : Bool → Option (ℕ × ℕ) → ReplyStep
answer_by lf reply = if lf then step_of reply else More

abbrev line_by : Bool → List ℕ → Option (List ℕ)
line_by lf part = if lf then heard_of_part part else None

-- the lines behind a text of which these bytes have begun a line are heard at the steps from here
abbrev Told : ReplyReaderView → List ReplyFed → Type 0
Told before steps = (text : List ℕ) → unended_part text ≡ unended_part before.fed
    → lines_in text ++ heard_lines steps ≡ lines_in (text ++ bytes_of steps)

on_lf : (before : ReplyReaderView) (now : ReplyFed) (steps : List ReplyFed) → is_lf now.byte ≡ true → Feeds before now
    → FeedsLine before now → Told now.after steps → Told before (now ∷ steps)
on_lf before now steps lf feeds line more text same =
    let reply = first_reply (before.fed ++ now.byte ∷ []) in
    let answer : now.answer ≡ step_of reply = line.step ∙ ap (λ b. answer_by b reply) lf in
    let heard : now.after.heard ≡ heard_of_part (unended_part text) =
    line.line ∙ ap (λ b. line_by b (unended_part before.fed)) lf ∙ ap heard_of_part (sym same) in
    let told : heard_at now.answer now.after.heard ≡ heard_of_part (unended_part text) ∷ [] =
    ap (λ a. heard_at a now.after.heard) answer ∙ at_end reply now.after.heard ∙ ap (λ h. h ∷ []) heard in
    let ten : now.byte ≡ 10 = eqb-true now.byte 10 lf in
    let here : lines_in (text ++ now.byte ∷ []) ≡ lines_in text ++ heard_of_part (unended_part text) ∷ [] =
    ap (λ x. lines_in (text ++ x ∷ [])) ten ∙ lines_lf text in
    let none : unended_part (text ++ now.byte ∷ []) ≡ [] =
    ap (λ x. unended_part (text ++ x ∷ [])) ten ∙ unended_part-lf text in
    let none_fed : unended_part now.after.fed ≡ [] =
    ap unended_part feeds.fed ∙ ap (λ a. unended_part (fed_after a (before.fed ++ now.byte ∷ []))) answer
    ∙ begun_none reply before.fed now.byte lf in
    ap (λ lines. lines_in text ++ (lines ++ heard_lines steps)) told
    ∙ sym (append_assoc (lines_in text) (heard_of_part (unended_part text) ∷ []) (heard_lines steps))
    ∙ ap (λ lines. lines ++ heard_lines steps) (sym here)
    ∙ more (text ++ now.byte ∷ []) (none ∙ sym none_fed)
    ∙ ap lines_in (append_assoc text (now.byte ∷ []) (bytes_of steps))

on_other : (before : ReplyReaderView) (now : ReplyFed) (steps : List ReplyFed) → is_lf now.byte ≡ false
    → Feeds before now → FeedsLine before now → Told now.after steps → Told before (now ∷ steps)
on_other before now steps other feeds line more text same =
    let reply = first_reply (before.fed ++ now.byte ∷ []) in
    let answer : now.answer ≡ More = line.step ∙ ap (λ b. answer_by b reply) other in
    let told : heard_at now.answer now.after.heard ≡ [] = ap (λ a. heard_at a now.after.heard) answer in
    let here : lines_in (text ++ now.byte ∷ []) ≡ lines_in text =
    ap (map heard_of_part) (ended_parts-other text now.byte other) in
    let begun : unended_part (text ++ now.byte ∷ []) ≡ unended_part now.after.fed =
    unended_part-other text now.byte other ∙ ap (λ part. part ++ now.byte ∷ []) same
    ∙ sym (unended_part-other before.fed now.byte other)
    ∙ ap (λ a. unended_part (fed_after a (before.fed ++ now.byte ∷ []))) (sym answer)
    ∙ ap unended_part (sym feeds.fed) in
    ap (λ lines. lines_in text ++ (lines ++ heard_lines steps)) told
    ∙ ap (λ lines. lines ++ heard_lines steps) (sym here)
    ∙ more (text ++ now.byte ∷ []) begun
    ∙ ap lines_in (append_assoc text (now.byte ∷ []) (bytes_of steps))

on : (lf : Bool) (before : ReplyReaderView) (now : ReplyFed) (steps : List ReplyFed) → is_lf now.byte ≡ lf
    → Feeds before now → FeedsLine before now → Told now.after steps → Told before (now ∷ steps)
on true before now steps is feeds line more = on_lf before now steps is feeds line more
on false before now steps is feeds line more = on_other before now steps is feeds line more

told_from : (before : ReplyReaderView) (steps : List ReplyFed) → AllFed before steps → AllFedLines before steps
    → Told before steps
told_from before [] all lines text same =
    append-nil (lines_in text) ∙ ap lines_in (sym (append-nil text))
told_from before (now ∷ steps) all lines text same =
    on (is_lf now.byte) before now steps refl all.0 lines.0 (told_from now.after steps all.1 lines.1) text same

pub heard_whole : (steps : List ReplyFed) → AllFed record { fed = []; heard = None } steps
    → AllFedLines record { fed = []; heard = None } steps
    → heard_lines steps ≡ map (λ part. short (without_end part)) (ended_parts (bytes_of steps))
heard_whole steps all lines = told_from record { fed = []; heard = None } steps all lines [] refl
