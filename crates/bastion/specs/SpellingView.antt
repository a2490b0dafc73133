-- Six words of a password, with the name of the dictionary that has them.
use Rattle.std.specs.Prelude.{ℕ, List}

pub record SpellingView : Type 0 where
  -- the file of the dictionary
  pub file : List ℕ
  -- the words, in order
  pub words : List (List ℕ)
