-- Dice in memory.
use Rattle.std.specs.Prelude.{ℕ, ◌+◌, ◌%◌, ◌^◌, List}
use Rattle.std.specs.Int.{to_be_bytes, w64}
use Rattle.fw_memory.specs.CallCounter.{CallCounter, answers}
use Rattle.fw_outside.specs.DiceView.{DiceView}

-- the first number, and the calls
pub record MemDiceView : Type 0 where
  pub first : ℕ
  pub counter : CallCounter

-- the salt of a call by its number: the eight bytes of the first number, counted up so far and after 2 ^ 64 - 1 from 0 on, the highest byte first
abbrev pub salt_of : ℕ → ℕ → List ℕ
salt_of first call = to_be_bytes w64 ((first + call) % 2 ^ 64)

-- they tell all, as long as the calls can be counted
abbrev pub dice_view_of : MemDiceView → DiceView
dice_view_of c = record { told = answers (salt_of c.first) c.counter }
