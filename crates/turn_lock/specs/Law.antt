-- The rule of the table under a lock. Word 0 is the turn, 0 where nobody has it; word 1 is the length of the list.
use Rattle.std.specs.Prelude.{◌≡◌, Bool, true, false, ℕ, ◌^◌, ◌<◌, ◌≤◌, List, [], ◌∷◌, length, Option, Some, None, IfSome, sum_by}
use mathlib.Core.List.{IsPrefix}
use mathlib.Core.Option.{none, some}
use mathlib.Core.Option as maybe
use lib.ListN.{get_elem?}
use Rattle.atomic_table.specs.Table.{State}
use Rattle.turn_lock.specs.declared.view.Hold.{Hold}
use Rattle.turn_lock.specs.declared.view.Hold.TheVariants.{Away, Claimed, Loaded, Met}
use Rattle.turn_lock.specs.declared.view.View.{View}
use Rattle.turn_lock.specs.Views.{uses}

-- who has the turn: nobody, and this value lies in the slot; or the seat of this number
pub data Turn (V : Type 0) : Type 0 where
  free : V → Turn V
  taken : ℕ → Turn V

abbrev pub turn_word : {V : Type 0} → Turn V → ℕ
turn_word (free _) = 0
turn_word (taken _) = 1

abbrev pub slot_of : {V : Type 0} → Turn V → maybe.Option (Option V)
slot_of (free value) = some (Some value)
slot_of (taken _) = none

-- a value that stands for this list, with this limit and origin
pub record Stands {V E O : Type 0} (entries : V → List E) (limit : V → ℕ) (origin : V → O) (list : List E) (most : ℕ) (basis : O) (value : V) : Type 0 where
  pub list_is : entries value ≡ list
  pub limit_is : limit value ≡ most
  pub origin_is : origin value ≡ basis

-- a limit and an origin are those of the lock, if they are told
abbrev pub AreOf : {O : Type 0} → ℕ → O → ℕ → Option O → Type 0
AreOf most basis limit origin = IfSome origin (λ o. (o ≡ basis) × (limit ≡ most))

-- what a seat that has seen this much knows of the turn
abbrev pub Holds : {V E : Type 0} → List E → Turn V → ℕ → List E → Hold E → Type 0
Holds list turn seat seen Away = Unit {0}
Holds list turn seat seen (Claimed at_claim) = (turn ≡ taken seat) × (at_claim ≡ list)
Holds list turn seat seen Loaded = (turn ≡ taken seat) × (seen ≡ list)
Holds list turn seat seen (Met own other) = IsPrefix own list × IsPrefix other list

-- what a seat knows of the list
pub record Knows {V E O : Type 0} (list : List E) (most : ℕ) (basis : O) (turn : Turn V) (seat : ℕ) (v : View E O) : Type 0 where
  pub begins : IsPrefix v.seen list
  pub below : (place : ℕ) → 0 < uses place v → place < length v.seen
  pub about : AreOf most basis v.limit v.origin
  pub holds : Holds list turn seat v.seen v.hold

abbrev pub has_turn : {E : Type 0} → Hold E → Bool
has_turn Away = false
has_turn (Claimed _) = true
has_turn Loaded = true
has_turn (Met _ _) = false

-- whose turn it is knows so
abbrev pub IsHeld : {V E O : Type 0} → Turn V → List (View E O) → Type 0
IsHeld (free _) views = Unit {0}
IsHeld {E = E} {O = O} (taken seat) views = (v : View E O) × (get_elem? views seat ≡ some v) × (has_turn v.hold ≡ true)

-- ---- the places and the parts of all seats

-- how often each place stands in the views of all seats: once, if an entry was made there since there were so many; else never
pub record AreOnce (begun end : ℕ) (uses : ℕ → ℕ) : Type 0 where
  pub grown : begun ≤ end
  pub before : (place : ℕ) → place < begun → uses place ≡ 0
  pub made : (place : ℕ) → begun ≤ place → place < end → uses place ≡ 1
  pub after : (place : ℕ) → end ≤ place → uses place ≡ 0

-- a seat that was joined to another, or was split off such a one: it is of no lock, and has no places
pub record IsSpent {E O : Type 0} (v : View E O) : Type 0 where
  pub origin : v.origin ≡ None
  pub unused : (place : ℕ) → uses place v ≡ 0

-- all seats have 2^64 parts together, or fewer; and while they have so many, a seat without a part is spent
pub record Parted {E O : Type 0} (views : List (View E O)) : Type 0 where
  pub most : sum_by (λ v. v.parts) views ≤ 2 ^ 64
  pub part : sum_by (λ v. v.parts) views ≡ 2 ^ 64 → (seat : ℕ) (v : View E O) → get_elem? views seat ≡ some v → v.parts ≡ 0 → IsSpent v

module _ {V E O : Type 0} (entries : V → List E) (limit : V → ℕ) (origin : V → O) (about : V) where
  -- where nobody has the turn, the value stands for the list
  abbrev pub Rests : List E → Turn V → Type 0
  Rests list (free value) = Stands entries limit origin list (limit about) (origin about) value
  Rests list (taken _) = Unit {0}

  -- there is one list, of which each seat knows a front; the places in it that the value had not at first stand once each in the
  -- views of all seats, and the parts of all seats are not more than there were
  pub record Kept (s : State (Option V) (View E O)) : Type 0 where
    pub list : List E
    pub turn : Turn V
    pub words : s.words ≡ turn_word turn ∷ length list ∷ []
    pub slot : s.homes ≡ slot_of turn ∷ []
    pub rests : Rests list turn
    pub held : IsHeld turn s.views
    pub each : (seat : ℕ) (v : View E O) → get_elem? s.views seat ≡ some v → Knows list (limit about) (origin about) turn seat v
    pub once : AreOnce (length (entries about)) (length list) (λ place. sum_by (uses place) s.views)
    pub parted : Parted s.views
