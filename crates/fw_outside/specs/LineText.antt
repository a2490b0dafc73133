-- How a reader of lines gathers one: enough of it to tell whether it is too long.
-- No public clause cites these: they say what private functions answer.
use Rattle.std.specs.Prelude.{◌≡◌, ℕ, ◌<◌, ◌≤◌, ◌+◌, false, List, ◌∷◌, [], ◌++◌, length, take}
use Rattle.std.specs.List.{list_any}
use Rattle.std.specs.Str.Lines.{strip_carriage_return}
use Rattle.fw_outside.specs.declared.heard.Heard.{Heard}
use Rattle.fw_outside.specs.declared.heard.Heard.TheVariants.{Line, TooLong, Stopped}
use Rattle.fw_outside.specs.Lines.{is_lf}
use Rattle.fw_outside.specs.SourceView.{SourceView}
use Rattle.fw_outside.specs.LineReaderView.{TookBytes, LineReaderView}

-- as much of a line as tells whether it is too long: one byte more than the longest line and its CR
abbrev pub most : ℕ
most = 514

-- what a line with this text before its LF is heard as
abbrev pub IsText : Heard → List ℕ → Type 0
IsText (Line line) text = (line.items ≡ strip_carriage_return text) × (length line.items ≤ 512)
IsText TooLong text = 512 < length (strip_carriage_return text)
IsText (Stopped _) text = ⊥

-- the buffer was read up to its first LF
pub record GathersLine (kept now : List ℕ) (old new : LineReaderView) : Type 0 where
  pub text : List ℕ
  pub unended : list_any is_lf text ≡ false
  pub cut : old.pending ≡ text ++ 10 ∷ new.pending
  pub gathers : now ≡ take most (kept ++ text)
  pub room : new.room ≡ old.room

-- the buffer was read to its end, and has no LF
pub record GathersAll (kept now : List ℕ) (old new : LineReaderView) : Type 0 where
  pub unended : list_any is_lf old.pending ≡ false
  pub empty : new.pending ≡ []
  pub gathers : now ≡ take most (kept ++ old.pending)
  pub room : new.room ≡ old.room

-- the empty buffer was filled from the source
pub record Fills (old new : LineReaderView) (before after : SourceView) : Type 0 where
  pub some : 0 < length new.pending
  pub takes : TookBytes new.pending before after
  pub room : old.room ≡ length new.pending + new.room

-- the first byte of the buffer was read
pub record Pops (byte : ℕ) (old new : LineReaderView) : Type 0 where
  pub cut : old.pending ≡ byte ∷ new.pending
  pub room : new.room ≡ old.room

-- nothing is in the buffer
pub record IsDrained (old new : LineReaderView) : Type 0 where
  pub empty : old.pending ≡ []
  pub same : new ≡ old
