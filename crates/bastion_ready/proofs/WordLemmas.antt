-- From words to the doors of a plan.
use Rattle.std.proofs.Common.{◌≡◌, ◌∙◌, ℕ, List, [], ◌∷◌, ◌++◌, ap, refl, sym, false, ◌-◌, ◌≤◌, length, take, drop, get_or, arith, append_assoc, append-nil}
use Rattle.std.specs.Prelude.{Option, Some, None, is_some}
use Rattle.std.proofs.lemmas.List.{take_rest}
use Rattle.bastion_ready.specs.Words.{Door, door_in, doors_in, in_front}

-- some doors, and then these
abbrev pub onto : List Door → Option (List Door) → Option (List Door)
onto doors None = None
onto doors (Some more) = Some (doors ++ more)

pub onto_none : (read : Option (List Door)) → onto [] read ≡ read
onto_none None = refl
onto_none (Some doors) = refl

pub onto_more : (doors : List Door) (found : Option Door) (door : Door) (more : Option (List Door)) → found ≡ Some door → onto doors (in_front found more) ≡ onto (doors ++ door ∷ []) more
onto_more doors found door (Some more) is = ap (λ (f : Option Door). onto doors (in_front f (Some more))) is ∙ ap Some (sym (append_assoc doors (door ∷ []) more))
onto_more doors found door None is = ap (λ (f : Option Door). onto doors (in_front f None)) is

pub onto_end : (doors : List Door) → onto doors (Some []) ≡ Some doors
onto_end doors = ap Some (append-nil doors)

-- whether each word is a door, behind one that is
pub front_some : (found : Option Door) (door : Door) (more : Option (List Door)) → found ≡ Some door → is_some (in_front found more) ≡ is_some more
front_some found door (Some more) is = ap (λ (f : Option Door). is_some (in_front f (Some more))) is
front_some found door None is = ap (λ (f : Option Door). is_some (in_front f None)) is

pub front_none : (found : Option Door) (more : Option (List Door)) → found ≡ None → is_some (in_front found more) ≡ false
front_none found more is = ap (λ (f : Option Door). is_some (in_front f more)) is

-- the words are the first one and the rest
pub next_front : (words : List (List ℕ)) (word : List ℕ) → 1 ≤ length words → word ≡ get_or words 0 word → doors_in words ≡ in_front (door_in word) (doors_in (take (length words - 1) (drop 1 words)))
next_front [] word some is = absurd (omega (arith, some))
next_front (first ∷ more) word some is = rw (take_rest (first ∷ more) 1) (ap (λ (w : List ℕ). in_front (door_in w) (doors_in more)) (sym is))

-- one step of a look at each word
pub look_next : (words rest : List (List ℕ)) (word : List ℕ) (door : Door) → doors_in words ≡ in_front (door_in word) (doors_in rest) → door_in word ≡ Some door → is_some (doors_in rest) ≡ is_some (doors_in words)
look_next words rest word door first is = sym (front_some (door_in word) door (doors_in rest) is) ∙ sym (ap is_some first)

-- one step of reading each word
pub read_next : (words rest : List (List ℕ)) (word : List ℕ) (doors : List Door) (door : Door) → doors_in words ≡ in_front (door_in word) (doors_in rest) → door_in word ≡ Some door → onto (doors ++ door ∷ []) (doors_in rest) ≡ onto doors (doors_in words)
read_next words rest word doors door first is = sym (onto_more doors (door_in word) door (doors_in rest) is) ∙ sym (ap (onto doors) first)
