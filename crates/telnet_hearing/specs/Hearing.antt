-- What is heard of a client of Telnet, line by line.
use Rattle.std.specs.Prelude.{◌≡◌, ℕ, ◌==◌, ◌<◌, ◌≤◌, true, List, [], ◌∷◌, length, Option, Some, None}
use Rattle.fw_outside.specs.LineReaderView.{LeavesSource, LineReaderView, Reads, rest_of, stops_at_limit}
use Rattle.fw_outside.specs.SourceView.{SourceView}
use Rattle.fw_outside.specs.ToldList.{preceded}
use Rattle.fw_outside.specs.declared.heard.Heard.{Heard}
use Rattle.fw_outside.specs.declared.heard.Heard.TheVariants as heards
use Rattle.telnet.specs.First.{FirstHeard, first_heard}
use Rattle.telnet.specs.TelnetView.{IsFed, TelnetView}
use Rattle.telnet.specs.declared.step.TelnetStep.TheVariants as steps

-- What a text is heard as: its first line ends where the text does, and is heard so; or no line is heard of it. Which line is
-- heard first of a text, and where it ends, is for `telnet`.
abbrev pub IsHeardTelnet : Heard → List ℕ → Type 0
IsHeardTelnet (heards.Line line) text = first_heard text ≡ Some (record { line = Some line.items; rest = [] })
IsHeardTelnet heards.TooLong text = first_heard text ≡ Some (record { line = None; rest = [] })
IsHeardTelnet (heards.Stopped _) text = first_heard text ≡ None

-- What is heard next: these bytes, of what was left, are heard as that. At the limit the reader stops, having read all that
-- was in the buffer before; from then on nothing is heard.
pub record ListensTelnet (heard : Heard) (old new : LineReaderView) (before after : SourceView) : Type 0 where
  pub bytes : List ℕ
  pub middle : SourceView
  pub is_heard : IsHeardTelnet heard bytes
  pub rest : rest_of old before ≡ preceded bytes (rest_of new after)
  pub reads : Reads bytes old new before middle
  pub closes : LeavesSource heard new middle after
  pub spent : stops_at_limit heard ≡ (new.room == 0)
  pub behind : stops_at_limit heard ≡ true → 0 < old.room → length old.pending ≤ length bytes

-- ---- one line after another

-- the line that is heard, as `telnet` has it, if one is
abbrev pub line_of : Heard → List (Option (List ℕ))
line_of (heards.Line line) = Some line.items ∷ []
line_of heards.TooLong = None ∷ []
line_of (heards.Stopped _) = []

-- a piece of a text is heard as a line
abbrev pub IsLineOf : Heard → List ℕ → Type 0
IsLineOf (heards.Line line) piece = IsHeardTelnet (heards.Line line) piece
IsLineOf heards.TooLong piece = IsHeardTelnet heards.TooLong piece
IsLineOf (heards.Stopped _) piece = ⊥

-- these pieces are heard as these lines
abbrev pub AreLines : List Heard → List (List ℕ) → Type 0
AreLines [] [] = Unit {0}
AreLines (heard ∷ more) (piece ∷ pieces) = IsLineOf heard piece × AreLines more pieces
AreLines _ _ = ⊥

-- ---- one byte, which no public clause cites

-- with this byte a line ends, which is heard so
abbrev pub Ends : Heard → TelnetView → TelnetView → ℕ → Type 0
Ends (heards.Line line) old new byte = (line.items ≡ new.line) × IsFed steps.Line old new byte
Ends heards.TooLong old new byte = IsFed steps.TooLong old new byte
Ends (heards.Stopped _) old new byte = ⊥
