-- Steps of a reader of replies over a text.
use Rattle.std.specs.Prelude.{◌≡◌, ℕ, ◌+◌, ◌==◌, List, [], ◌∷◌, ◌++◌, length, Option, None, if◌then◌else◌}
use Rattle.ftp_lines.specs.Reply.{first_reply, unended_part, without_end}
use Rattle.ftp_lines.specs.Replies.{ReplyText}
use Rattle.ftp_lines.specs.ReplyReaderView.{IsReplyStep, ReplyReaderView, fed_after, short, step_of}
use Rattle.ftp_lines.specs.declared.reply_step.ReplyStep.{ReplyStep}
use Rattle.ftp_lines.specs.declared.reply_step.ReplyStep.TheVariants.{More, Last}

-- a byte, what its step answered, and the reader behind it
pub record ReplyFed : Type 0 where
  pub byte : ℕ
  pub answer : ReplyStep
  pub after : ReplyReaderView

-- what `feed` says of a step and the reply
pub record Feeds (before : ReplyReaderView) (step : ReplyFed) : Type 0 where
  pub reply : IsReplyStep step.answer (first_reply (before.fed ++ step.byte ∷ [])) (length before.fed + 1)
  pub fed : step.after.fed ≡ fed_after step.answer (before.fed ++ step.byte ∷ [])

-- each of the steps leads on from the one before it
abbrev pub AllFed : ReplyReaderView → List ReplyFed → Type 0
AllFed before [] = Unit {0}
AllFed before (step ∷ steps) = Feeds before step × AllFed step.after steps

-- the reply that a step ended, of these bytes
abbrev pub ended_by : ReplyStep → List ℕ → List ReplyText
ended_by (Last code) bytes = record { bytes = bytes; code = code } ∷ []
ended_by _ bytes = []

-- the replies that the steps ended, each of the bytes that were fed since the one before it
abbrev pub ended_replies : List ℕ → List ReplyFed → List ReplyText
ended_replies fed [] = []
ended_replies fed (step ∷ steps) =
    ended_by step.answer (fed ++ step.byte ∷ []) ++ ended_replies (fed_after step.answer (fed ++ step.byte ∷ [])) steps

-- what `feed` says of a step and the line
pub record FeedsLine (before : ReplyReaderView) (now : ReplyFed) : Type 0 where
  pub step : now.answer ≡ (if now.byte == 10 then step_of (first_reply (before.fed ++ now.byte ∷ [])) else More)
  pub line : now.after.heard ≡ (if now.byte == 10 then short (without_end (unended_part before.fed)) else None)

abbrev pub AllFedLines : ReplyReaderView → List ReplyFed → Type 0
AllFedLines before [] = Unit {0}
AllFedLines before (step ∷ steps) = FeedsLine before step × AllFedLines step.after steps

-- the line that is heard at a step, where that ended one: none where it was too long
abbrev pub heard_at : ReplyStep → Option (List ℕ) → List (Option (List ℕ))
heard_at More heard = []
heard_at _ heard = heard ∷ []

-- the lines that are heard at the steps `Line` and `Last`
abbrev pub heard_lines : List ReplyFed → List (Option (List ℕ))
heard_lines [] = []
heard_lines (step ∷ steps) = heard_at step.answer step.after.heard ++ heard_lines steps
