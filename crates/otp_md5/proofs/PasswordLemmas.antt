-- Passwords by their counts.
use Rattle.std.proofs.Common.{◌≡◌, ℕ, zero, suc, ◌+◌, List, refl, sym, ap, ◌∙◌, arith}
use Rattle.otp_md5.specs.Passwords.{initial_of, next_of, password, repeated}

-- a step before many is a step after them
step_after : (step : ℕ → ℕ) (count x : ℕ) → repeated step count (step x) ≡ step (repeated step count x)
step_after step zero x = refl
step_after step (suc count) x = step_after step count (step x)

-- passwords from any number on
walk : (f : ℕ → ℕ) (step : ℕ → ℕ) → ((n : ℕ) → f (suc n) ≡ step (f n)) → (count more : ℕ) → f (count + more) ≡ repeated step more (f count)
walk f step next count zero = let e : count + 0 ≡ count = omega arith in ap f e
walk f step next count (suc more) =
    let e : count + suc more ≡ suc (count + more) = omega arith in
    ap f e ∙ next (count + more) ∙ ap step (walk f step next count more) ∙ sym (step_after step more (f count))

steps_by : (word_seed phrase : List ℕ) (n : ℕ) → password word_seed phrase (suc n) ≡ next_of (password word_seed phrase n)
steps_by word_seed phrase n = refl

pub later : (word_seed phrase : List ℕ) (count more : ℕ) → password word_seed phrase (count + more) ≡ repeated next_of more (password word_seed phrase count)
later word_seed phrase count more = walk (password word_seed phrase) next_of (steps_by word_seed phrase) count more

pub counted : (word_seed phrase : List ℕ) (count : ℕ) → password word_seed phrase count ≡ repeated next_of count (initial_of word_seed phrase)
counted word_seed phrase count = let e : 0 + count ≡ count = omega arith in ap (password word_seed phrase) (sym e) ∙ later word_seed phrase 0 count
