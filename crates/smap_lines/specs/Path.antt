-- The paths of mail (RFC 821, section 4.1.2), without the forms that name hosts on the way, quoted local parts and
-- addresses in brackets.
use Rattle.std.specs.Prelude.{◌≡◌, ℕ, ◌+◌, ◌==◌, Bool, false, ◌&&◌, ◌||◌, not, nat_lt, nat_le, List, [], ◌∷◌, ◌++◌, IsTrue, length, take, drop, codes, count_by, position, Option, Some, None, option_and_then, Result, Ok, Err, if◌then◌else◌}
use Rattle.std.specs.List.{list_all, list_any}
use Rattle.smap_lines.specs.Blank.{behind_blanks, is_blank}
use Rattle.smap_lines.specs.declared.path.PathFault.{PathFault}
use Rattle.smap_lines.specs.declared.path.PathFault.TheVariants.{Syntax, NotAllowed}

-- what follows `<`
abbrev pub opened_path : List ℕ → Option (List ℕ)
opened_path [] = None
opened_path (b ∷ rest) = if b == 60 then Some rest else None

-- what stands before a place, where only blanks follow it
abbrev pub closed_at : List ℕ → ℕ → Option (List ℕ)
closed_at text end = if list_all is_blank (drop (end + 1) text) then Some (take end text) else None

-- what stands before the first `>`, where only blanks follow it
abbrev pub closed_path : List ℕ → Option (List ℕ)
closed_path text = option_and_then (closed_at text) (position (λ b. b == 62) text)

-- what stands in brackets, with blanks before and behind them
abbrev pub bracketed : List ℕ → Option (List ℕ)
bracketed text = option_and_then closed_path (opened_path (behind_blanks text))

-- too long, or empty where it may not be
abbrev pub is_misfit : Bool → List ℕ → Bool
is_misfit may_be_empty path = nat_lt 256 (length path) || (length path == 0 && not may_be_empty)

-- `@`, `-`, `|` and `/`
abbrev pub is_bad_first : ℕ → Bool
is_bad_first b = b == 64 || b == 45 || b == 124 || b == 47

abbrev pub begins_badly : List ℕ → Bool
begins_badly [] = false
begins_badly (b ∷ rest) = is_bad_first b

abbrev pub is_special : ℕ → Bool
is_special b = list_any (λ c. c == b) (codes "(),;:\\\"[]|<")

-- a byte that may stand in a path
abbrev pub is_path_byte : ℕ → Bool
is_path_byte b = nat_le 33 b && nat_le b 126 && not (is_special b)

-- of such bytes alone, with at most one `@`, and not begun as a route, an option, a program or a file
abbrev pub is_allowed : List ℕ → Bool
is_allowed path = not (begins_badly path) && nat_le (count_by (λ b. b == 64) path) 1 && list_all is_path_byte path

abbrev pub checked_path : Bool → List ℕ → Result (List ℕ) PathFault
checked_path may_be_empty path =
    if is_misfit may_be_empty path then Err Syntax
    else if is_allowed path then Ok path
    else Err NotAllowed

abbrev pub checked_or : Bool → Option (List ℕ) → Result (List ℕ) PathFault
checked_or may_be_empty None = Err Syntax
checked_or may_be_empty (Some path) = checked_path may_be_empty path

-- the path in a text, or what is wrong with it
abbrev pub path_of : Bool → List ℕ → Result (List ℕ) PathFault
path_of may_be_empty text = checked_or may_be_empty (bracketed text)

-- a path stands in brackets in a text, with only blanks before and behind these, and no `>` in it
pub record IsInBrackets (text path : List ℕ) : Type 0 where
  pub before : List ℕ
  pub behind : List ℕ
  pub whole : text ≡ before ++ (60 ∷ path ++ 62 ∷ behind)
  pub blanks_before : IsTrue (list_all is_blank before)
  pub blanks_behind : IsTrue (list_all is_blank behind)
  pub first_close : IsTrue (list_all (λ b. not (b == 62)) path)
