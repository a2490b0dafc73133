-- Views of seats, and how they are made, cut and joined.
use Rattle.std.specs.Prelude.{ℕ, ◌+◌, ◌^◌, List, [], ◌∷◌, ◌++◌, length, nat_lt, if◌then◌else◌, Some, None}
use Rattle.turn_lock.specs.declared.view.Hold.{Hold}
use Rattle.turn_lock.specs.declared.view.Hold.TheVariants.{Away, Loaded, Met}
use Rattle.turn_lock.specs.declared.view.View.{View}
use Rattle.turn_lock.specs.Known.{given_parts, kept_parts}
use Rattle.turn_lock.specs.Places.{times}

abbrev pub longer : {E : Type 0} → List E → List E → List E
longer xs ys = if nat_lt (length xs) (length ys) then ys else xs

module _ {E O : Type 0} where
  -- the view of the first seat: it has seen the whole list, and has all parts
  abbrev pub first : List E → ℕ → O → View E O
  first list limit origin = record { seen = list; mine = []; met = []; parts = 2 ^ 64; limit = limit; origin = Some origin; hold = Away }

  -- the view of a seat from which another was split off: it has a part less
  abbrev pub lessened : View E O → View E O
  lessened v = record { seen = v.seen; mine = v.mine; met = v.met; parts = kept_parts v.parts; limit = v.limit; origin = v.origin; hold = v.hold }

  -- the view of a seat that was split off: it has seen the same, and has no places
  abbrev pub copied : View E O → View E O
  copied v = record { seen = v.seen; mine = []; met = []; parts = given_parts v.parts; limit = v.limit; origin = v.origin; hold = Away }

  -- the view of a seat that was joined to another
  abbrev pub spent : View E O
  spent = record { seen = []; mine = []; met = []; parts = 0; limit = 0; origin = None; hold = Away }

  abbrev pub with_hold : View E O → Hold E → View E O
  with_hold v hold = record { seen = v.seen; mine = v.mine; met = v.met; parts = v.parts; limit = v.limit; origin = v.origin; hold = hold }

  -- it has seen this list, the whole one
  abbrev pub seeing : View E O → List E → Hold E → View E O
  seeing v list hold = record { seen = list; mine = v.mine; met = v.met; parts = v.parts; limit = v.limit; origin = v.origin; hold = hold }

  -- its own entry is the last of this list
  abbrev pub entering : View E O → List E → View E O
  entering v list = record { seen = list; mine = v.mine ++ length v.seen ∷ []; met = v.met; parts = v.parts; limit = v.limit; origin = v.origin; hold = Loaded }

  -- a seat that another was joined to
  abbrev pub both : View E O → View E O → View E O
  both v w = record {
    seen = longer v.seen w.seen;
    mine = v.mine;
    met = v.met ++ (w.mine ++ w.met);
    parts = v.parts + w.parts;
    limit = v.limit;
    origin = v.origin;
    hold = Met v.seen w.seen;
  }

  -- how often a view has a place
  abbrev pub uses : ℕ → View E O → ℕ
  uses place v = times place v.mine + times place v.met
