-- Which names of hosts may be looked up. A resolver reads what looks like a number as an address: `1.2.3.0x7f`, say, or
-- `0x7f000001`. Such a name is never handed to it.
use Rattle.std.specs.Prelude.{ℕ, Bool, ◌||◌, ◌-◌, ◌==◌, not, List, [], ◌∷◌, length, take, drop, reverse, nat_eq, if◌then◌else◌}
use Rattle.std.specs.List.{ends_with, list_all, position_or_len, starts_with}
use Rattle.std.specs.Char.{is_ascii_digit}

abbrev pub is_period : ℕ → Bool
is_period b = b == 46

-- the name without one period at its end
abbrev pub without_last_period : List ℕ → List ℕ
without_last_period name = if ends_with nat_eq name (46 ∷ []) then take (length name - 1) name else name

-- how many bytes stand behind the last period: all of them, where there is none
abbrev pub last_label_length : List ℕ → ℕ
last_label_length name = position_or_len is_period (reverse name)

abbrev pub last_label : List ℕ → List ℕ
last_label name = drop (length name - last_label_length name) name

-- digits alone, or `0x` and more
abbrev pub is_like_a_number : List ℕ → Bool
is_like_a_number label = list_all is_ascii_digit label || starts_with nat_eq label (48 ∷ 120 ∷ [])

-- whether this may be handed to a resolver
abbrev pub can_be_looked_up : List ℕ → Bool
can_be_looked_up name = not (is_like_a_number (last_label name))
