-- What each step needs, and what it tells.
use Rattle.std.specs.Prelude.{◌≡◌, ◌≢◌, ℕ, ◌<◌, ◌≤◌, ◌^◌, List, [], ◌∷◌, ◌++◌, length, Option, Some, None, IfSome}
use mathlib.Core.List.{IsPrefix}
use Rattle.atomic_table.specs.Table.{Me, Step, rest}
use Rattle.turn_lock.specs.declared.view.Hold.TheVariants.{Away, Claimed, Loaded, Met}
use Rattle.turn_lock.specs.declared.view.View.{View}
use Rattle.turn_lock.specs.Places.{AreWithin, Fill}
use Rattle.turn_lock.specs.Views.{entering, seeing, uses, with_hold}

abbrev pub Held : Type 0 → Type 0 → Type 0 → Type 0
Held V E O = Me (Option V) (View E O)

module _ {V E O : Type 0} (entries : V → List E) (limit : V → ℕ) (origin : V → O) where
  -- a value has the limit and the origin that a view tells, if it does
  abbrev pub AreTold : View E O → V → Type 0
  AreTold v value = IfSome v.origin (λ basis. (origin value ≡ basis) × (limit value ≡ v.limit))

  -- the turn was free: now the seat has it, and the value, which stands for the list
  pub record Takes (old new : Held V E O) : Type 0 where
    pub value : V
    pub view : new.0 ≡ with_hold old.0 (Claimed (entries value))
    pub slot : new.1 ≡ (0, Some value) ∷ old.1
    pub about : AreTold old.0 value

  abbrev pub Claims : Step (Option V) → Held V E O → ℕ → Held V E O → Type 0
  Claims step old found new = (found ≡ 0 → Takes old new) × (found ≢ 0 → new ≡ old)

  -- the value is out, and stands for the list, which was seen
  pub record IsOut (value : V) (old new : Held V E O) : Type 0 where
    pub is : new ≡ (seeing old.0 (entries value) Loaded, (0, None) ∷ old.1)
    pub begins : IsPrefix old.0.seen (entries value)
    pub about : AreTold old.0 value

  -- the slot has this value, which stands for the list that was seen
  pub record IsBack (value : V) (me : Held V E O) : Type 0 where
    pub slot : me.1 ≡ (0, Some value) ∷ []
    pub hold : me.0.hold ≡ Loaded
    pub list : entries value ≡ me.0.seen
    pub limit_is : limit value ≡ me.0.limit
    pub origin_is : me.0.origin ≡ Some (origin value)

module _ {V E O : Type 0} (entries : V → List E) where
  -- the slot has this value, which stands for one entry more than were seen
  pub record IsAhead (value : V) (me : Held V E O) : Type 0 where
    pub entry : E
    pub slot : me.1 ≡ (0, Some value) ∷ []
    pub hold : me.0.hold ≡ Loaded
    pub list : entries value ≡ me.0.seen ++ entry ∷ []
    pub small : length (entries value) < 2 ^ 64

  -- the list is the one for which the value in the slot stands already; its last place is the seat's own
  abbrev pub Enters : Held V E O → Held V E O → Type 0
  Enters old new = (value : V) → old.1 ≡ (0, Some value) ∷ [] → new ≡ (entering old.0 (entries value), old.1)

module _ {V E O : Type 0} where
  -- the list is still the one that was found with the turn
  abbrev pub Loads : Held V E O → Held V E O → Type 0
  Loads old new = (list : List E) → old.0.hold ≡ Claimed list → (new ≡ (seeing old.0 list Loaded, old.1)) × IsPrefix old.0.seen list

  -- the slot is given back
  abbrev pub Frees : Held V E O → Held V E O → Type 0
  Frees old new = new ≡ (with_hold old.0 Away, rest old.1)

  -- after a meeting: what the two had seen are fronts of the list, and no place stands twice
  pub record Sees (own other : List E) (old new : Held V E O) : Type 0 where
    pub list : List E
    pub is : new ≡ (seeing old.0 list Away, old.1)
    pub own_begins : IsPrefix own list
    pub other_begins : IsPrefix other list
    pub once : (place : ℕ) → uses place old.0 ≤ 1

  abbrev pub Looks : Held V E O → Held V E O → Type 0
  Looks old new = (own other : List E) → old.0.hold ≡ Met own other → Sees own other old new

-- what the end of a table tells the seat that has the turn, and so has seen the whole list: where its places are, and that they
-- are those of all entries that were made since there were so many, if it has all parts
pub record Ends {E O : Type 0} (begun : ℕ) (v : View E O) : Type 0 where
  pub within : AreWithin begun (length v.seen) (v.mine ++ v.met)
  pub whole : v.parts ≡ 2 ^ 64 → Fill begun (length v.seen) (v.mine ++ v.met)
