-- Salts of a process.
use Rattle.std.specs.Prelude.{ℕ, List, None}
use Rattle.std.specs.Int.{to_be_bytes, w64}
use Rattle.std.specs.List.{fold}
use Rattle.std.specs.RandomState.{initial_hasher}
use Rattle.std.specs.declared.hash.RandomState.{RandomState}
use Rattle.std.specs.Hash.DefaultHasher.{write, finish}
use Rattle.fw_outside.specs.DiceView.{DiceView}
use Rattle.std.specs.Hash as fed

-- dice that tell nothing
abbrev pub untold_throws : DiceView
untold_throws = record { told = None }

-- the salt of a number: the eight bytes of its hash under the keys, the highest first
abbrev pub hashed_salt : RandomState → ℕ → List ℕ
hashed_salt keys number = to_be_bytes w64 (finish (fold write (initial_hasher keys) (fed.u64 number)))
