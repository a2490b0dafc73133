-- How a text is read byte by byte.
use Rattle.std.specs.Prelude.{◌≡◌, ℕ, List, [], ◌∷◌, ◌++◌, flat_map, Option, Some, None}
use Rattle.telnet.specs.Lines.{lines_heard}
use Rattle.telnet.specs.declared.step.TelnetStep.{TelnetStep}
use Rattle.telnet.specs.declared.step.TelnetStep.TheVariants.{More, Line, TooLong}

-- The line that ended last, of those that aren't too long, and a text that stands for what is still to be heard.
pub record TelnetView : Type 0 where
  pub line : List ℕ
  pub pending : List ℕ

-- what a step tells
abbrev pub told : TelnetStep → List ℕ → List (Option (List ℕ))
told More line = []
told Line line = Some line ∷ []
told TooLong line = None ∷ []

-- However the text goes on, the lines of what was still to be heard, of this byte and of the rest are what the step tells,
-- and then the lines of what is still to be heard and of the rest.
pub record HearsByte (step : TelnetStep) (old new : TelnetView) (byte : ℕ) : Type 0 where
  pub leads : (rest : List ℕ) → lines_heard (old.pending ++ byte ∷ rest) ≡ told step new.line ++ lines_heard (new.pending ++ rest)

-- a byte, what its step told, and the reading behind it
pub record TelnetFed : Type 0 where
  pub byte : ℕ
  pub answer : TelnetStep
  pub after : TelnetView

-- what is known of a step: where it leads and what it tells, and that no line is left to be told
pub record IsFed (step : TelnetStep) (old new : TelnetView) (byte : ℕ) : Type 0 where
  pub hears : HearsByte step old new byte
  pub prompt : lines_heard new.pending ≡ []

-- each of the steps leads on from the one before it
abbrev pub AllFed : TelnetView → List TelnetFed → Type 0
AllFed before [] = Unit {0}
AllFed before (step ∷ steps) = IsFed step.answer before step.after step.byte × AllFed step.after steps

abbrev pub all_told : List TelnetFed → List (Option (List ℕ))
all_told steps = flat_map (λ step. told step.answer step.after.line) steps
