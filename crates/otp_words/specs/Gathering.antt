-- How the text of a dictionary is taken, piece by piece.
-- No public clause cites this: it says what private functions answer.
use Rattle.std.specs.Prelude.{◌≡◌, ◌<◌, Bool, true, false, List, ◌++◌, length}
use Rattle.std.specs.Prelude.{ℕ}
use Rattle.fw_outside.specs.LineReaderView.{TookBytes}
use Rattle.fw_outside.specs.SourceView.{SourceView, CameToEnd}

-- a piece was taken, and stands after the text so far
pub record Joins (old new : List ℕ) (before after : SourceView) : Type 0 where
  pub piece : List ℕ
  pub some : 0 < length piece
  pub took : TookBytes piece before after
  pub is : new ≡ old ++ piece

-- a piece, or the end
abbrev pub TookPiece : Bool → List ℕ → List ℕ → SourceView → SourceView → Type 0
TookPiece true old new before after = Joins old new before after
TookPiece false old new before after = CameToEnd before after × (new ≡ old)
