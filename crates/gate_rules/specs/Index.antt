-- Where the rules of each bucket stand, by their places from 0.
use Rattle.std.specs.Prelude.{ℕ, ◌+◌, ◌-◌, ◌<◌, ◌≤◌, ◌≡◌, ◌⊎◌, ◌&&◌, ◌==◌, nat_lt, Bool, true, false, not, List, [], ◌∷◌, ◌++◌, get_or, length, if◌then◌else◌}
use Rattle.std.specs.List.{list_any}
use Rattle.host_pattern.specs.Bucket.{buckets, is_every, is_octet}
use Rattle.gate_rules.specs.declared.rule.Rule.{Rule}

-- the places of the rules that pass a test, where the first has this number
abbrev pub places : ℕ → (Rule → Bool) → List Rule → List ℕ
places n test [] = []
places n test (rule ∷ rules) = if test rule then n ∷ places (n + 1) test rules else places (n + 1) test rules

-- some pattern of the rule belongs to every bucket
abbrev pub is_everywhere : Rule → Bool
is_everywhere rule = list_any is_every (buckets rule.hosts)

-- none does, and some pattern belongs to the octet
abbrev pub is_own : ℕ → Rule → Bool
is_own octet rule = not (is_everywhere rule) && list_any (is_octet octet) (buckets rule.hosts)

-- The places of the rules that stand in every bucket, and of those that stand in an octet's own.
pub record IsIndex (rules : List Rule) (every : List ℕ) (own : List (List ℕ)) : Type 0 where
  pub all : every ≡ places 0 is_everywhere rules
  pub count : length own ≡ 256
  pub each : (octet : ℕ) → octet < 256 → get_or own octet [] ≡ places 0 (is_own octet) rules

-- whether a place is the last of some
abbrev pub ends_in : ℕ → List ℕ → Bool
ends_in at places = nat_lt 0 (length places) && get_or places (length places - 1) 0 == at

-- places with one more, but where it is already the last
abbrev pub noted : ℕ → List ℕ → List ℕ
noted at places = if ends_in at places then places else places ++ at ∷ []

abbrev pub noted_if : Bool → ℕ → List ℕ → List ℕ
noted_if true at places = noted at places
noted_if false at places = places

-- a place isn't behind the first of some
abbrev pub IsAtMost : ℕ → List ℕ → Type 0
IsAtMost at [] = Unit {0}
IsAtMost at (next ∷ places) = at ≤ next

pub record IsFirst (at : ℕ) (before after before_others after_others : List ℕ) : Type 0 where
  pub is : before ≡ at ∷ after
  pub same : before_others ≡ after_others
  pub least : IsAtMost at before_others

-- the least of the first places on two lists, and what is left of the lists
abbrev pub IsNext : (every own : List ℕ) (at : ℕ) (later others : List ℕ) → Type 0
IsNext every own at later others = IsFirst at every later own others ⊎ IsFirst at own others every later
