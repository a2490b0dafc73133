-- A sink in memory.
use Rattle.std.specs.Prelude.{◌≡◌, ℕ, ◌-◌, ◌+◌, nat_le, Bool, not, ◌&&◌, List, ◌++◌, take, length, Some, if◌then◌else◌}
use Rattle.fw_outside.specs.Counts.{counted}
use Rattle.fw_outside.specs.SinkView.{SinkView}
use Rattle.fw_outside.specs.declared.mark.Mark.{Mark}
use Rattle.fw_memory.specs.CallsView.{CallsView, comes_at}

-- the bytes given, whether the end was told, how many bytes fit, the calls that fail, how many calls there were, the count of failures,
-- and as what its link was asked for
pub record MemSinkView : Type 0 where
  pub given : List ℕ
  pub shut : Bool
  pub room : ℕ
  pub fails : CallsView
  pub calls : ℕ
  pub faults : ℕ
  pub mark : Mark

-- it tells all
abbrev pub sink_view_of : MemSinkView → SinkView
sink_view_of t = record { given = Some t.given; shut = Some t.shut; faults = t.faults; mark = t.mark }

-- whether a gift is taken whole: this call isn't told to fail, and there is room
abbrev pub holds_all : MemSinkView → List ℕ → Bool
holds_all t bytes = not (comes_at t.fails t.calls) && nat_le (length t.given + length bytes) t.room

-- what a gift leaves: all of it, or nothing at a call that is told to fail, or what there is room for
abbrev pub filled : MemSinkView → List ℕ → List ℕ
filled t bytes = if comes_at t.fails t.calls then t.given else t.given ++ take (t.room - length t.given) bytes

-- one more call was made, and what was told stands
pub record CountsCall (old new : MemSinkView) : Type 0 where
  pub room : new.room ≡ old.room
  pub fails : new.fails ≡ old.fails
  pub calls : new.calls ≡ counted old.calls
