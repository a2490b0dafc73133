-- Letters put to upper case stay letters.
use Rattle.std.proofs.Common.{◌≡◌, ℕ, List, [], ◌∷◌, refl, arith}
use Rattle.std.specs.Char.{is_ascii_alphabetic, to_ascii_uppercase}
use Rattle.std.specs.List.{list_all}
use Rattle.std.specs.Prelude.{IsTrue}
use Rattle.std.specs.Str.{str_to_ascii_uppercase}
use Rattle.std.proofs.lemmas.Bool.Decides.{nat_tests}
use Rattle.std.proofs.lemmas.List.{length-map}
use Rattle.std.proofs.lemmas.Str.Ascii.{uppercase-uppercase}
use Rattle.fw_types.specs.Verb.{is_verb}

upper_letter : (b : ℕ) → is_ascii_alphabetic (to_ascii_uppercase b) ≡ is_ascii_alphabetic b
upper_letter b = grind (arith, nat_tests)

upper_letters : (t : List ℕ) → list_all is_ascii_alphabetic (str_to_ascii_uppercase t) ≡ list_all is_ascii_alphabetic t
upper_letters [] = refl
upper_letters (b ∷ bs) = let one = upper_letter b in let more = upper_letters bs in cc

-- what is in upper case stays as it is
pub upper_twice : (t : List ℕ) → str_to_ascii_uppercase (str_to_ascii_uppercase t) ≡ str_to_ascii_uppercase t
upper_twice [] = refl
upper_twice (b ∷ bs) = let one = uppercase-uppercase b in let more = upper_twice bs in cc

is_verb-upper : (t : List ℕ) → is_verb (str_to_ascii_uppercase t) ≡ is_verb t
is_verb-upper t =
    let long = length-map t to_ascii_uppercase in
    let letters = upper_letters t in
    rw (long, letters) refl

pub upper_is_verb : (t : List ℕ) → IsTrue (is_verb t) → IsTrue (is_verb (str_to_ascii_uppercase t))
upper_is_verb t h = rw (is_verb-upper t) h
