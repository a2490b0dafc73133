-- Six words, as a list.
use Rattle.std.specs.Prelude.{ℕ, List, [], ◌∷◌}
use Rattle.otp_words.specs.declared.six_words.SixWords.{SixWords}

abbrev pub listed : SixWords → List (List ℕ)
listed six = six.first.now ∷ six.second.now ∷ six.third.now ∷ six.fourth.now ∷ six.fifth.now ∷ six.last.now ∷ []
