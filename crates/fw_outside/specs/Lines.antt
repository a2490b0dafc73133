-- Lines that come from a client: each ends at LF, and one CR before it is dropped; a rest without LF is no line.
use Rattle.std.specs.Prelude.{◌≡◌, ℕ, ◌==◌, ◌<◌, ◌≤◌, Bool, List, [], length, Option, Some, None, if◌then◌else◌}
use Rattle.std.specs.List.{list_any, before_first, after_first}
use Rattle.std.specs.Str.Lines.{strip_carriage_return}
use Rattle.fw_outside.specs.declared.heard.Heard.{Heard}
use Rattle.fw_outside.specs.declared.heard.Heard.TheVariants.{Line, TooLong, Stopped}

abbrev pub is_lf : ℕ → Bool
is_lf b = b == 10

-- the first line of a text, without its end, and what follows its LF; nothing where no LF stands
abbrev pub first_line : List ℕ → Option (List ℕ × List ℕ)
first_line text = if list_any is_lf text then Some (strip_carriage_return (before_first is_lf text), after_first is_lf text) else None

-- a text is one line and its end, and the line is too long
pub record IsTooLong (text : List ℕ) : Type 0 where
  pub line : List ℕ
  pub is : first_line text ≡ Some (line, [])
  pub long : 512 < length line

-- a text is one line and its end, and the line isn't too long
pub record IsLine (line : List ℕ) (text : List ℕ) : Type 0 where
  pub is : first_line text ≡ Some (line, [])
  pub fits : length line ≤ 512

-- what a text is heard as
abbrev pub IsHeard : Heard → List ℕ → Type 0
IsHeard (Line line) text = IsLine line.items text
IsHeard TooLong text = IsTooLong text
IsHeard (Stopped _) text = first_line text ≡ None
