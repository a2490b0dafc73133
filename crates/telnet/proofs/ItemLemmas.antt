-- The data of a text are those of its first item and of what follows it.
use Rattle.std.proofs.Common.{◌≡◌, ℕ, zero, suc, ◌<◌, ◌≤◌, ◌==◌, Bool, true, false, List, [], ◌∷◌, ◌++◌, length, Option, Some, None, refl, sym, ap, ◌∙◌, inl, inr, arith}
use Rattle.std.specs.Prelude.{if◌then◌else◌}
use Rattle.std.proofs.lemmas.Bool.{ne_eqb, cases_eq}
use Rattle.telnet.specs.Items.{Item, first_item, behind_command, behind_begin, behind_choice, is_choice, no_data, item_data, data_within, data_of, doubled}

-- what follows an item is shorter than that
abbrev Shorter : ℕ → Option Item → Type 0
Shorter n None = Unit {0}
Shorter n (Some item) = length item.rest < n

wider : (n m : ℕ) (o : Option Item) → n ≤ m → Shorter n o → Shorter m o
wider n m None h s = tt
wider n m (Some item) h s = omega (arith, h, s)

either_shorter : (n : ℕ) (test : Bool) (a b : Option Item) → Shorter n a → Shorter n b → Shorter n (if test then a else b)
either_shorter n true a b s t = s
either_shorter n false a b s t = t

begin_shorter : (text : List ℕ) → Shorter (suc (length text)) (behind_begin text)
begin_shorter [] = tt
begin_shorter (b ∷ []) = tt
begin_shorter (b ∷ c ∷ rest) =
    either_shorter _ (b == 255) _ _
    (either_shorter _ (c == 240) (no_data rest) (behind_begin rest) (omega arith) (wider _ _ (behind_begin rest) (omega arith) (begin_shorter rest)))
    (wider _ _ (behind_begin (c ∷ rest)) (omega arith) (begin_shorter (c ∷ rest)))

choice_shorter : (text : List ℕ) → Shorter (suc (length text)) (behind_choice text)
choice_shorter [] = tt
choice_shorter (code ∷ rest) = omega arith

command_shorter : (text : List ℕ) → Shorter (suc (length text)) (behind_command text)
command_shorter [] = tt
command_shorter (c ∷ rest) =
    either_shorter _ (c == 255) _ _ (omega arith)
    (either_shorter _ (c == 250) _ _ (wider _ _ (behind_begin rest) (omega arith) (begin_shorter rest))
    (either_shorter _ (is_choice c) _ _ (wider _ _ (behind_choice rest) (omega arith) (choice_shorter rest)) (omega arith)))

first_shorter : (text : List ℕ) → Shorter (length text) (first_item text)
first_shorter [] = tt
first_shorter (b ∷ rest) = either_shorter _ (b == 255) _ _ (command_shorter rest) (omega arith)

item_same : (f g : List ℕ → List ℕ) (n : ℕ) (o : Option Item) → Shorter n o → ((t : List ℕ) → length t < n → f t ≡ g t) → item_data f o ≡ item_data g o
item_same f g n None s same = refl
item_same f g n (Some item) s same = ap (λ data_behind. item.data_bytes ++ data_behind) (same item.rest s)

-- as many items as bytes are enough
within_same : (n m : ℕ) (text : List ℕ) → length text ≤ n → length text ≤ m → data_within n text ≡ data_within m text
unfolding data_within
within_same zero zero [] h k = refl
within_same zero (suc m) [] h k = refl
within_same (suc n) zero [] h k = refl
within_same zero m (b ∷ rest) h k = absurd (omega arith)
within_same (suc n) zero (b ∷ rest) h k = absurd (omega arith)
within_same (suc n) (suc m) text h k =
    item_same (data_within n) (data_within m) (length text) (first_item text) (first_shorter text) (λ t l. within_same n m t (omega arith) (omega arith))

pub data_of-is : (text : List ℕ) → data_of text ≡ item_data data_of (first_item text)
unfolding data_of data_within
data_of-is [] = refl
data_of-is (b ∷ rest) =
    item_same (data_within (length rest)) data_of (length (b ∷ rest)) (first_item (b ∷ rest)) (first_shorter (b ∷ rest)) (λ t l. within_same (length rest) (length t) t (omega arith) (omega arith))

pub data_of-nothing : data_of [] ≡ []
data_of-nothing = data_of-is []

-- a byte below 255
pub data_of-byte : (b : ℕ) (rest : List ℕ) → (b ≡ 255 → ⊥) → data_of (b ∷ rest) ≡ b ∷ data_of rest
data_of-byte b rest ne = data_of-is (b ∷ rest) ∙ rw (ne_eqb b 255 ne) refl

pub data_of-doubled : (rest : List ℕ) → data_of (255 ∷ 255 ∷ rest) ≡ 255 ∷ data_of rest
data_of-doubled rest = data_of-is (255 ∷ 255 ∷ rest)

pub data_of-choice : (c code : ℕ) (rest : List ℕ) → is_choice c ≡ true → (c ≡ 255 → ⊥) → (c ≡ 250 → ⊥) → data_of (255 ∷ c ∷ code ∷ rest) ≡ data_of rest
data_of-choice c code rest is ne other = data_of-is (255 ∷ c ∷ code ∷ rest) ∙ rw (ne_eqb c 255 ne, ne_eqb c 250 other, is) refl

-- the choices are read alike
pub data_of-choices : (c : ℕ) (rest : List ℕ) → is_choice c ≡ true → (c ≡ 255 → ⊥) → (c ≡ 250 → ⊥) → data_of (255 ∷ c ∷ rest) ≡ data_of (255 ∷ 251 ∷ rest)
data_of-choices c rest is ne other = data_of-is (255 ∷ c ∷ rest) ∙ rw (ne_eqb c 255 ne, ne_eqb c 250 other, is) (sym (data_of-is (255 ∷ 251 ∷ rest)))

pub data_of-command : (c : ℕ) (rest : List ℕ) → is_choice c ≡ false → (c ≡ 255 → ⊥) → (c ≡ 250 → ⊥) → data_of (255 ∷ c ∷ rest) ≡ data_of rest
data_of-command c rest not_choice ne other = data_of-is (255 ∷ c ∷ rest) ∙ rw (ne_eqb c 255 ne, ne_eqb c 250 other, not_choice) refl

-- what is said in a subnegotiation might as well not stand there
pub begin_byte : (b : ℕ) (rest : List ℕ) → (b ≡ 255 → ⊥) → behind_begin (b ∷ rest) ≡ behind_begin rest
begin_byte b [] ne = refl
begin_byte b (c ∷ rest) ne = rw (ne_eqb b 255 ne) refl

pub begin_pair : (c : ℕ) (rest : List ℕ) → (c ≡ 240 → ⊥) → behind_begin (255 ∷ c ∷ rest) ≡ behind_begin rest
begin_pair c rest ne = rw (ne_eqb c 240 ne) refl

pub data_of-inside : (b : ℕ) (rest : List ℕ) → (b ≡ 255 → ⊥) → data_of (255 ∷ 250 ∷ b ∷ rest) ≡ data_of (255 ∷ 250 ∷ rest)
data_of-inside b rest ne = data_of-is (255 ∷ 250 ∷ b ∷ rest) ∙ ap (item_data data_of) (begin_byte b rest ne) ∙ sym (data_of-is (255 ∷ 250 ∷ rest))

pub data_of-inside_pair : (c : ℕ) (rest : List ℕ) → (c ≡ 240 → ⊥) → data_of (255 ∷ 250 ∷ 255 ∷ c ∷ rest) ≡ data_of (255 ∷ 250 ∷ rest)
data_of-inside_pair c rest ne = data_of-is (255 ∷ 250 ∷ 255 ∷ c ∷ rest) ∙ ap (item_data data_of) (begin_pair c rest ne) ∙ sym (data_of-is (255 ∷ 250 ∷ rest))

pub data_of-inside_end : (rest : List ℕ) → data_of (255 ∷ 250 ∷ 255 ∷ 240 ∷ rest) ≡ data_of rest
data_of-inside_end rest = data_of-is (255 ∷ 250 ∷ 255 ∷ 240 ∷ rest)

-- a text that is written with each 255 twice is read as itself
pub data_of-doubled_text : (text rest : List ℕ) → data_of (doubled text ++ rest) ≡ text ++ data_of rest
data_of-doubled_text [] rest = refl
data_of-doubled_text (b ∷ text) rest = elim (cases_eq b 255) [
  | inl e ↦ rw (e) (data_of-doubled (doubled text ++ rest) ∙ ap (λ t. 255 ∷ t) (data_of-doubled_text text rest))
  | inr ne ↦ rw (ne_eqb b 255 ne) (data_of-byte b (doubled text ++ rest) ne ∙ ap (λ t. b ∷ t) (data_of-doubled_text text rest))
]
