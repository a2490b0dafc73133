-- How a body is read byte by byte.
use Rattle.std.specs.Prelude.{◌≡◌, ℕ, Bool, true, false, ◌||◌, List, [], ◌∷◌, ◌++◌, Some}
use Rattle.std.specs.Str.{bytes_eq}
use Rattle.smap_lines.specs.Body.{body_after, body_from}
use Rattle.smap_lines.specs.declared.body.BodyStep.{BodyStep}
use Rattle.smap_lines.specs.declared.body.BodyStep.TheVariants.{Bytes, End}

-- whether bytes of the line that has begun are given, and what has come and isn't given yet
pub record MailBodyView : Type 0 where
  pub middle : Bool
  pub pending : List ℕ

-- What may be held back, in the middle of a line or not: nothing; in the middle a CR, which may begin the line's end;
-- else a period, or a period and CR, which may begin the line that ends the body.
abbrev pub may_be_held : Bool → List ℕ → Bool
may_be_held true pending = bytes_eq pending [] || bytes_eq pending (13 ∷ [])
may_be_held false pending = bytes_eq pending [] || bytes_eq pending (46 ∷ []) || bytes_eq pending (46 ∷ 13 ∷ [])

-- However the text goes on, the body of what is still to be read, of this byte and of the rest is what the step gives, and
-- then the body of what is still to be read and of the rest. At its end nothing is left to be given, and the rest is left.
abbrev pub GivesBody : BodyStep → MailBodyView → MailBodyView → ℕ → Type 0
GivesBody (Bytes bytes) old new byte = (rest : List ℕ) → body_from old.middle (old.pending ++ byte ∷ rest) ≡ body_after bytes.items (body_from new.middle (new.pending ++ rest))
GivesBody End old new byte = (rest : List ℕ) → body_from old.middle (old.pending ++ byte ∷ rest) ≡ Some record { bytes = []; rest = rest }

-- a byte, what its step gave, and the reading behind it
pub record BodyFed : Type 0 where
  pub byte : ℕ
  pub answer : BodyStep
  pub after : MailBodyView

-- each of the steps leads on from the one before it
abbrev pub AllGive : MailBodyView → List BodyFed → Type 0
AllGive before [] = Unit {0}
AllGive before (step ∷ steps) = GivesBody step.answer before step.after step.byte × AllGive step.after steps

abbrev pub given : BodyStep → List ℕ
given (Bytes bytes) = bytes.items
given End = []

abbrev pub is_body_end : BodyStep → Bool
is_body_end (Bytes bytes) = false
is_body_end End = true

abbrev pub body_view_after : MailBodyView → List BodyFed → MailBodyView
body_view_after before [] = before
body_view_after before (step ∷ steps) = body_view_after step.after steps
