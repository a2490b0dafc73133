-- The definitions, computed on small numbers.
use Rattle.std.proofs.Common.{◌≡◌, [], ◌∷◌, refl}
use Rattle.fw_memory.specs.MemDiceView.{salt_of}
use Rattle.fw_memory.specs.MemClockView.{moment_of}

the_first_moment : moment_of (5 ∷ 7 ∷ []) 0 ≡ 5
the_first_moment = refl

the_last_moment_again : moment_of (5 ∷ 7 ∷ []) 9 ≡ 7
the_last_moment_again = refl

no_moments : moment_of [] 3 ≡ 0
no_moments = refl

the_highest_byte_first : salt_of 258 1 ≡ 0 ∷ 0 ∷ 0 ∷ 0 ∷ 0 ∷ 0 ∷ 1 ∷ 3 ∷ []
the_highest_byte_first = refl

after_the_last_number : salt_of 18446744073709551615 1 ≡ 0 ∷ 0 ∷ 0 ∷ 0 ∷ 0 ∷ 0 ∷ 0 ∷ 0 ∷ []
after_the_last_number = refl
