-- Lines of a hosts file.
use Rattle.std.proofs.Common.{◌≡◌, ℕ, ◌+◌, ◌<◌, true, false, List, [], ◌∷◌, length, take, drop, get_or, refl, arith}
use Rattle.std.specs.Prelude.{Option, Some, None}
use Rattle.std.specs.List.{slice_split}
use Rattle.std.proofs.lemmas.Bool.{false_from_ne_true}
use Rattle.std.proofs.lemmas.List.Elements.{All-from_get_or}
use Rattle.std.proofs.lemmas.List.Splits.{slice_split_first, slice_split_none}
use Rattle.std.proofs.lemmas.List.Sums.{position_or_len_is}
use Rattle.real_doors.specs.HostNames.{either, first_name, is_lf, line_name}

-- what stands before and behind the first LF
pub cut_at : (text : List ℕ) (at : ℕ) → at < length text → ((k : ℕ) → k < at → is_lf (get_or text k 0) ≡ true → ⊥) → is_lf (get_or text at 0) ≡ true
    → slice_split is_lf text ≡ take at text ∷ slice_split is_lf (drop (at + 1) text)
cut_at text at within before here =
    let place = position_or_len_is is_lf text at 0 (omega arith) (λ k below. false_from_ne_true (is_lf (get_or text k 0)) (before k below)) (λ _. here) in
    let first = slice_split_first is_lf text 0 (omega (arith, place)) in
    rw place at first

pub cut_none : (text : List ℕ) → ((k : ℕ) → k < length text → is_lf (get_or text k 0) ≡ true → ⊥) → slice_split is_lf text ≡ text ∷ []
cut_none text none =
    slice_split_none is_lf text (All-from_get_or (λ b. is_lf b ≡ false) text 0 (λ k within. false_from_ne_true (is_lf (get_or text k 0)) (none k within)))

-- a line that gives none leaves those behind it
pub names_later : (host line : List ℕ) (lines whole : List (List ℕ)) → line_name host line ≡ None → whole ≡ line ∷ lines
    → first_name host whole ≡ first_name host lines
names_later host line lines whole none is = rw is (rw none refl)

-- a line that gives one gives the first
pub names_here : (host line name : List ℕ) (lines whole : List (List ℕ)) → line_name host line ≡ Some name → whole ≡ line ∷ lines
    → first_name host whole ≡ Some name
names_here host line name lines whole some is = rw is (rw some refl)

either_none : (name : Option (List ℕ)) → either name None ≡ name
either_none None = refl
either_none (Some name) = refl

-- the last line gives what it gives
pub names_last : (host line : List ℕ) (whole : List (List ℕ)) → whole ≡ line ∷ [] → first_name host whole ≡ line_name host line
names_last host line whole is = rw is (either_none (line_name host line))
