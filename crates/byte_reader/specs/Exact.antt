-- What it is to read a spelling exactly, with the first bad byte, and to go on from a front.
use Rattle.std.specs.Prelude.{◌≡◌, ℕ, ◌+◌, ◌<◌, ◌≤◌, ◌^◌, ◌/◌, ◌%◌, Bool, true, List, [], ◌∷◌, ◌++◌, length, Ok, Err}
use Rattle.std.specs.Int.{w64, to_be_bytes}
use Rattle.std.specs.List.{AllByRecursion}
use Rattle.byte_reader.specs.Reading.{IsBytes, Read}

-- some value's spelling begins so
abbrev pub Begins : (A : Type 0) → (A → Type 0) → (A → List ℕ) → List ℕ → Type 0
Begins A Fits spell front = (a : A) × Fits a × (rest : List ℕ) × (spell a ≡ front ++ rest)

-- the longest beginning leaves so many bytes
pub record StopsAtFirstBad (A : Type 0) (Fits : A → Type 0) (spell : A → List ℕ) (bytes : List ℕ) (left : ℕ) : Type 0 where
  pub front : List ℕ
  pub tail : List ℕ
  pub parts : bytes ≡ front ++ tail
  pub len : length tail ≡ left
  pub begins : Begins A Fits spell front
  pub longest : (p q : List ℕ) → bytes ≡ p ++ q → Begins A Fits spell p → left ≤ length q

-- what is read is what the bytes spell; each value that fits is read from its spelling, whatever follows; and reading
-- stops at the first byte that can't go on any value's spelling
pub record ReadsExactly (A : Type 0) (read : List ℕ → Read A) (Fits : A → Type 0) (spell : A → List ℕ) : Type 0 where
  pub sound : (bytes : List ℕ) (x : A × List ℕ) → IsBytes bytes → read bytes ≡ Ok x → Fits x.0 × (bytes ≡ spell x.0 ++ x.1)
  pub again : (a : A) (rest : List ℕ) → Fits a → read (spell a ++ rest) ≡ Ok (a, rest)
  pub stops : (bytes : List ℕ) (left : ℕ) → IsBytes bytes → read bytes ≡ Err left → StopsAtFirstBad A Fits spell bytes left
  pub some : (a : A) × Fits a

-- what a front decides stands, whatever follows the front: what was read, and a bad byte
pub record IsStable (A : Type 0) (read : List ℕ → Read A) : Type 0 where
  pub ok : (p q : List ℕ) (x : A × List ℕ) → read p ≡ Ok x → read (p ++ q) ≡ Ok (x.0, x.1 ++ q)
  pub err : (p q : List ℕ) (left : ℕ) → read p ≡ Err left → 0 < left → read (p ++ q) ≡ Err (left + length q)

-- ---- what the readers read

abbrev pub InRange : ℕ → ℕ → ℕ → Type 0
InRange least most n = (least ≤ n) × (n ≤ most)

abbrev pub one : ℕ → List ℕ
one b = b ∷ []

abbrev pub two : ℕ → List ℕ
two n = n / 256 ∷ n % 256 ∷ []

abbrev pub itself : List ℕ → List ℕ
itself text = text

abbrev pub Passes : (ℕ → Bool) → List ℕ → Type 0
Passes test text = AllByRecursion (λ b. test b ≡ true) text

-- n bytes that each pass a test
pub record IsTextOf (test : ℕ → Bool) (n : ℕ) (text : List ℕ) : Type 0 where
  pub len : length text ≡ n
  pub passes : Passes test text
  pub bytes : IsBytes text

-- n bytes
pub record IsBytesOf (n : ℕ) (text : List ℕ) : Type 0 where
  pub len : length text ≡ n
  pub bytes : IsBytes text

abbrev pub IsLong : ℕ → Type 0
IsLong n = n < 2 ^ 64

abbrev pub long_bytes : ℕ → List ℕ
long_bytes n = to_be_bytes w64 n

-- a text behind its length in one byte
abbrev pub with_length : List ℕ → List ℕ
with_length text = length text ∷ text

pub record IsTextWithin (least most : ℕ) (test : ℕ → ℕ → Bool) (text : List ℕ) : Type 0 where
  pub low : least ≤ length text
  pub high : length text ≤ most
  pub passes : Passes (test (length text)) text

-- every test passes some byte, and only bytes
pub record HasBytes (test : ℕ → ℕ → Bool) : Type 0 where
  pub some : ℕ
  pub small : some < 256
  pub passes : (n : ℕ) → test n some ≡ true
  pub bytes : (n b : ℕ) → test n b ≡ true → b < 256
