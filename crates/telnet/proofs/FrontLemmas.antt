-- The shortest front of a text of which a line is heard.
use Rattle.std.proofs.Common.{◌≡◌, ℕ, suc, ◌<◌, ◌≤◌, List, [], ◌∷◌, ◌++◌, length, take, Option, Some, None, append-nil, append_assoc, length-append, refl, sym, ap, ◌∙◌, inl, inr, ◌⊎◌, arith}
use Rattle.std.proofs.lemmas.Bool.{cases_lt}
use Rattle.std.proofs.lemmas.List.{take-append-le, take_all}
use Rattle.telnet.specs.First.{FirstHeard, IsFirst, first_from, first_heard, first_or, heard_from}
use Rattle.telnet.specs.Lines.{lines_heard}
use Rattle.telnet.proofs.FirstLemmas.{from_none, from_some, line_in, rest_in}
use Rattle.telnet.proofs.ReadingLemmas.{nothing_heard}
use Rattle.telnet.proofs.TurnLemmas.{first_and_rest}

-- behind a front, no shorter front of what follows has a line
abbrev Quiet : List ℕ → List ℕ → Type 0
Quiet front text = (n : ℕ) → n < length text → lines_heard (front ++ take n text) ≡ []

skip : (front text rest : List ℕ) → Quiet front text → first_from front (text ++ rest) ≡ first_from (front ++ text) rest
skip front [] rest quiet = ap (λ t. first_from t rest) (sym (append-nil front))
skip front (b ∷ text) rest quiet =
    let none : lines_heard front ≡ [] = ap lines_heard (sym (append-nil front)) ∙ quiet 0 (omega arith) in
    let later : Quiet (front ++ b ∷ []) text =
    λ n less. ap lines_heard (append_assoc front (b ∷ []) (take n text)) ∙ quiet (suc n) (omega (arith, less)) in
    from_none front b (text ++ rest) none
    ∙ skip (front ++ b ∷ []) text rest later
    ∙ ap (λ t. first_from t rest) (append_assoc front (b ∷ []) text)

pub is_first : (text : List ℕ) (first : FirstHeard) → IsFirst text first → first_heard text ≡ Some first
is_first text first is =
    ap first_heard is.whole ∙ skip [] is.front first.rest is.shorter ∙ from_some is.front first.line [] first.rest is.heard

-- the shortest front has its line alone
alone : (front : List ℕ) (line : Option (List ℕ)) (lines : List (Option (List ℕ))) → lines_heard front ≡ line ∷ lines → Quiet [] front →
    lines_heard front ≡ line ∷ []
alone front line lines is quiet =
    first_and_rest front
    ∙ ap heard_from (ap first_heard (sym (append-nil front)) ∙ skip [] front [] quiet ∙ from_some front line lines [] is)
    ∙ ap (λ t. line ∷ t) nothing_heard

here : (front rest : List ℕ) (first : FirstHeard) (line : Option (List ℕ)) (lines : List (Option (List ℕ))) → lines_heard front ≡ line ∷ lines →
    Quiet [] front → Some record { line = line; rest = rest } ≡ Some first → IsFirst (front ++ rest) first
here front rest first line lines heard quiet is = record {
  front = front;
  whole = ap (λ o. front ++ rest_in o) is;
  heard = alone front line lines heard quiet ∙ ap line_in is;
  shorter = quiet;
}

quiet_by : (front : List ℕ) (b n : ℕ) → lines_heard front ≡ [] → Quiet [] front → (n < length front) ⊎ (length front ≤ n) → n < length (front ++ b ∷ []) →
    lines_heard (take n (front ++ b ∷ [])) ≡ []
quiet_by front b n none quiet (inl less) within = ap lines_heard (take-append-le n front (b ∷ []) (omega (arith, less))) ∙ quiet n less
quiet_by front b n none quiet (inr more) within =
    let same : n ≡ length front = omega (arith, more, within, length-append front (b ∷ [])) in
    ap lines_heard (take-append-le n front (b ∷ []) (omega (arith, same)) ∙ take_all n front (omega (arith, same))) ∙ none

quiet_more : (front : List ℕ) (b : ℕ) → lines_heard front ≡ [] → Quiet [] front → Quiet [] (front ++ b ∷ [])
quiet_more front b none quiet = λ n within. quiet_by front b n none quiet (cases_lt n (length front)) within

end_by : (lines : List (Option (List ℕ))) (front : List ℕ) (first : FirstHeard) → lines_heard front ≡ lines → Quiet [] front →
    first_or lines [] None ≡ Some first → IsFirst (front ++ []) first
end_by [] front first heard quiet is = absurd (cc)
end_by (line ∷ lines) front first heard quiet is = here front [] first line lines heard quiet is

more_by : (lines : List (Option (List ℕ))) (front : List ℕ) (b : ℕ) (rest : List ℕ) (first : FirstHeard) → lines_heard front ≡ lines → Quiet [] front →
    (lines_heard front ≡ [] → first_from (front ++ b ∷ []) rest ≡ Some first → IsFirst ((front ++ b ∷ []) ++ rest) first) →
    first_or lines (b ∷ rest) (first_from (front ++ b ∷ []) rest) ≡ Some first → IsFirst (front ++ b ∷ rest) first
more_by [] front b rest first heard quiet later is =
    let found = later heard is in
    record { front = found.front; whole = sym (append_assoc front (b ∷ []) rest) ∙ found.whole; heard = found.heard; shorter = found.shorter }
more_by (line ∷ lines) front b rest first heard quiet later is = here front (b ∷ rest) first line lines heard quiet is

found : (front text : List ℕ) (first : FirstHeard) → Quiet [] front → first_from front text ≡ Some first → IsFirst (front ++ text) first
found front [] first quiet is = end_by (lines_heard front) front first refl quiet is
found front (b ∷ rest) first quiet is =
    more_by (lines_heard front) front b rest first refl quiet (λ none later. found (front ++ b ∷ []) rest first (quiet_more front b none quiet) later) is

pub first_is : (text : List ℕ) (first : FirstHeard) → first_heard text ≡ Some first → IsFirst text first
first_is text first is = found [] text first (λ n never. absurd (omega (arith, never))) is
