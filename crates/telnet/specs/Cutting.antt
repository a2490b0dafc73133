-- How data are cut into lines byte by byte.
use Rattle.std.specs.Prelude.{◌≡◌, ℕ, ◌==◌, Bool, true, false, ◌&&◌, ◌||◌, not, List, [], ◌∷◌, ◌++◌}
use Rattle.telnet.specs.Lines.{data_heard}
use Rattle.telnet.specs.TelnetView.{TelnetView, told}
use Rattle.telnet.specs.declared.step.TelnetStep.{TelnetStep}

-- as much of a line as tells whether it is too long: one byte more than the longest
abbrev pub most_gathered : ℕ
most_gathered = 513

-- neither LF nor CR
abbrev pub is_line_byte : ℕ → Bool
is_line_byte b = not (b == 10) && not (b == 13)

-- a CR of which the next byte decides
abbrev pub return_of : Bool → List ℕ
return_of true = 13 ∷ []
return_of false = []

-- LF ends a line, and NUL does behind a CR
abbrev pub ends_line : Bool → ℕ → Bool
ends_line returned b = b == 10 || (returned && b == 0)

-- however the data go on, the byte leads from one reading to the other with what the step tells
pub record CutsData (step : TelnetStep) (old new : TelnetView) (byte : ℕ) : Type 0 where
  pub leads : (rest : List ℕ) → data_heard (old.pending ++ byte ∷ rest) ≡ told step new.line ++ data_heard (new.pending ++ rest)
