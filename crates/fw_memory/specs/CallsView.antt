-- The calls, numbered from 0, at which a device in memory is told to do something.
use Rattle.std.specs.Prelude.{ℕ, Bool, false, ◌||◌, ◌==◌, nat_le, List, [], Option, Some, None}
use Rattle.std.specs.List.{list_any}
use Rattle.fw_memory.specs.declared.calls.CallSet.{CallSet}
use Rattle.fw_memory.specs.declared.calls.CallSet.TheVariants.{Never, At, Onward}

-- the calls with these numbers, and all from a number on
pub record CallsView : Type 0 where
  pub listed : List ℕ
  pub onward : Option ℕ

abbrev pub calls_of : CallSet → CallsView
calls_of Never = record { listed = []; onward = None }
calls_of (At numbers) = record { listed = numbers.items; onward = None }
calls_of (Onward first) = record { listed = []; onward = Some first }

abbrev pub is_from : Option ℕ → ℕ → Bool
is_from None call = false
is_from (Some first) call = nat_le first call

-- whether a call is one of them
abbrev pub comes_at : CallsView → ℕ → Bool
comes_at calls call = list_any (λ number. number == call) calls.listed || is_from calls.onward call
