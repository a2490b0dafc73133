-- The rule of the queue.
use Rattle.std.specs.Prelude.{◌≡◌, ℕ, ◌<◌, ◌^◌, List, [], ◌++◌, flat_map, sum_by}
use Rattle.std.specs.List.Sorted.{IsPermutation}
use mathlib.Core.Option.{some}
use lib.ListN.{get_elem?}
use Rattle.shared_queue.specs.declared.log.Log.{Log}

module _ {T : Type 0} where
  abbrev pub puts : List (Log T) → List T
  puts views = flat_map (λ v. v.put) views

  abbrev pub takes : List (Log T) → List T
  takes views = flat_map (λ v. v.taken) views

  -- a pass that has a part knows what the queue began with; one that has none has put and taken nothing
  pub record Knows (began : List T) (v : Log T) : Type 0 where
    pub began_is : 0 < v.parts → v.began ≡ began
    pub no_put : v.parts ≡ 0 → v.put ≡ []
    pub no_taken : v.parts ≡ 0 → v.taken ≡ []

  -- what the queue began with and all puts are, up to order, what stands in it and all takes
  pub record Balanced (items : List T) (views : List (Log T)) : Type 0 where
    pub began : List T
    pub parts : sum_by (λ v. v.parts) views ≡ 2 ^ 64
    pub each : (id : ℕ) (v : Log T) → get_elem? views id ≡ some v → Knows began v
    pub order : IsPermutation (began ++ puts views) (items ++ takes views)
