-- A text as a source of bytes.
use Rattle.std.specs.Prelude.{ℕ, List, Some, None}
use Rattle.fw_outside.specs.SourceView.{SourceView}
use Rattle.fw_outside.specs.declared.mark.Mark.TheVariants.{Own}

-- what is left is told, and nothing ever fails
abbrev pub text_view : List ℕ → ℕ → ℕ → SourceView
text_view left amount waits = record { taken = None; left = Some left; amount = amount; faults = 0; idles = 0; waits = waits; waited = 0; mark = Own }
