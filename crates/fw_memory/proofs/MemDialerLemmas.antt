-- What noting a call and keeping a link adds to what a dialer in memory tells.
use Rattle.std.proofs.Common.{◌≡◌, refl, sym, ap, subst, All, IfSome, Bool, true, false, cond, List, [], ◌∷◌, ◌++◌, map, Option, Some, None}
use Rattle.std.specs.Prelude.{◌||◌, not, option_to_list}
use Rattle.std.proofs.lemmas.List.{map-append}
use Rattle.std.proofs.lemmas.List.Elements.{All-head}
use Rattle.fw_outside.specs.ToldList.{AddsOne}

-- one more is added where there is room, and where there is none the list isn't told any more
pub adds_told : {A B : Type 0} (view : A → B) (past room : Bool) (one : A) (told : List A)
    → AddsOne (view one) (cond past None (Some (map view told))) (cond (past || not room) None (Some (map view (cond room (told ++ one ∷ []) told))))
adds_told view true true one told = tt
adds_told view true false one told = tt
adds_told view false false one told = tt
adds_told view false true one told = ap (λ (l : List _). Some l) (sym (map-append view told (one ∷ [])))

pub adds_one : {A : Type 0} (past room : Bool) (one : A) (told : List A)
    → AddsOne one (cond past None (Some told)) (cond (past || not room) None (Some (cond room (told ++ one ∷ []) told)))
adds_one true true one told = tt
adds_one true false one told = tt
adds_one false false one told = tt
adds_one false true one told = refl

-- what holds of all holds of the first
pub first_holds : {A : Type 0} (P : A → Type 0) (first : Option A) (rest all : List A) → all ≡ option_to_list first ++ rest → All P all → IfSome first P
first_holds P None rest all is each = tt
first_holds {A} P (Some one) rest all is each = All-head P one rest (subst (λ (l : List A). All P l) is each)
