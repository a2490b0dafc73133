-- Paths in their brackets.
use Rattle.std.proofs.Common.{◌≡◌, ℕ, suc, ◌+◌, ◌≤◌, ◌==◌, Bool, true, false, ◌&&◌, ◌||◌, not, List, [], ◌∷◌, ◌++◌, length, take, drop, Option, Some, None, Result, Ok, Err, length-append, refl, sym, ap, ◌∙◌, inl, inr, arith}
use Rattle.std.specs.Prelude.{IsTrue, cond, nat_lt, position, option_and_then, if◌then◌else◌}
use Rattle.std.specs.List.{list_all, prefix_len}
use Rattle.std.proofs.Math.Bool.{and-true}
use Rattle.std.proofs.Math.Seq.{drop-append-add}
use Rattle.std.proofs.lemmas.Bool.{and_from, and_parts, cases_eq, eqb-false, eqb-true, le-ltb, lt-ltb, ltb-false, ne_eqb, or_parts}
use Rattle.std.proofs.lemmas.List.{take_at}
use Rattle.smap_lines.specs.Blank.{behind_blanks, is_blank}
use Rattle.smap_lines.specs.Path.{IsInBrackets, bracketed, checked_or, closed_at, closed_path, is_allowed, is_misfit, opened_path, path_of}
use Rattle.smap_lines.specs.declared.path.PathFault.{PathFault}
use Rattle.smap_lines.specs.declared.path.PathFault.TheVariants.{Syntax, NotAllowed}

-- the blanks at the front of a text

blank_by : (test : Bool) (b : ℕ) (text : List ℕ) → test ≡ true → drop (cond test (1 + prefix_len is_blank text) 0) (b ∷ text) ≡ behind_blanks text
blank_by true b text is =
    let next : 1 + prefix_len is_blank text ≡ suc (prefix_len is_blank text) = omega arith in
    ap (λ n. drop n (b ∷ text)) next
blank_by false b text is = absurd (cc)

blank_first : (b : ℕ) (text : List ℕ) → is_blank b ≡ true → behind_blanks (b ∷ text) ≡ behind_blanks text
blank_first b text is = blank_by (is_blank b) b text is

blanks_first : (before text : List ℕ) → IsTrue (list_all is_blank before) → behind_blanks (before ++ text) ≡ behind_blanks text
blanks_first [] text all = refl
blanks_first (b ∷ before) text all =
    let parts = and_parts (is_blank b) (list_all is_blank before) all in
    blank_first b (before ++ text) parts.0 ∙ blanks_first before text parts.1

no_blank_first : (b : ℕ) (text : List ℕ) → is_blank b ≡ false → behind_blanks (b ∷ text) ≡ b ∷ text
no_blank_first b text is = ap (λ test. drop (cond test (1 + prefix_len is_blank text) 0) (b ∷ text)) is

record Blanks (text : List ℕ) : Type 0 where
  before : List ℕ
  all : IsTrue (list_all is_blank before)
  whole : text ≡ before ++ behind_blanks text

blanks_by : (test : Bool) (b : ℕ) (text : List ℕ) → is_blank b ≡ test → Blanks text → Blanks (b ∷ text)
blanks_by true b text is s = record {
  before = b ∷ s.before;
  all = and_from _ _ is s.all;
  whole = ap (λ t. b ∷ t) s.whole ∙ ap (λ t. b ∷ s.before ++ t) (sym (blank_first b text is));
}
blanks_by false b text is s = record { before = []; all = refl; whole = sym (no_blank_first b text is) }

blanks_of : (text : List ℕ) → Blanks text
blanks_of [] = record { before = []; all = refl; whole = refl }
blanks_of (b ∷ text) = blanks_by (is_blank b) b text refl (blanks_of text)

-- the first `>`

abbrev no_close : List ℕ → Bool
no_close text = list_all (λ b. not (b == 62)) text

close_place : (path behind : List ℕ) → IsTrue (no_close path) → prefix_len (λ b. not (b == 62)) (path ++ 62 ∷ behind) ≡ length path
close_place [] behind none = refl
close_place (b ∷ path) behind none =
    let parts = and_parts (not (b == 62)) (no_close path) none in
    ap (λ test. cond test (1 + prefix_len (λ c. not (c == 62)) (path ++ 62 ∷ behind)) 0) parts.0 ∙ omega (arith, close_place path behind parts.1)

no_place : (text : List ℕ) → IsTrue (no_close text) → prefix_len (λ b. not (b == 62)) text ≡ length text
no_place [] none = refl
no_place (b ∷ text) none =
    let parts = and_parts (not (b == 62)) (no_close text) none in
    ap (λ test. cond test (1 + prefix_len (λ c. not (c == 62)) text) 0) parts.0 ∙ omega (arith, no_place text parts.1)

closed : (path behind : List ℕ) → IsTrue (no_close path) → closed_path (path ++ 62 ∷ behind) ≡ (if list_all is_blank behind then Some path else None)
closed path behind none =
    let text = path ++ 62 ∷ behind in
    let n = length path in
    let place : position (λ b. b == 62) text ≡ Some n =
    ap (λ k. cond (nat_lt k (length text)) (Some k) None) (close_place path behind none)
    ∙ ap (λ test. cond test (Some n) None) (lt-ltb n (length text) (omega (arith, length-append path (62 ∷ behind)))) in
    ap (option_and_then (closed_at text)) place
    ∙ ap (λ t. if list_all is_blank t then Some (take n text) else None) (drop-append-add path (62 ∷ behind) 1)
    ∙ ap (λ t. if list_all is_blank behind then Some t else None) (take_at path (62 ∷ behind) n refl)

not_closed : (text : List ℕ) → IsTrue (no_close text) → closed_path text ≡ None
not_closed text none =
    let n = length text in
    let place : position (λ b. b == 62) text ≡ None =
    ap (λ k. cond (nat_lt k n) (Some k) None) (no_place text none) ∙ ap (λ test. cond test (Some n) None) (le-ltb n n (omega arith)) in
    ap (option_and_then (closed_at text)) place

data Closing (text : List ℕ) : Type 0 where
  closes : (path behind : List ℕ) → text ≡ path ++ 62 ∷ behind → IsTrue (no_close path) → Closing text
  never : IsTrue (no_close text) → Closing text

closing_by : (b : ℕ) (text : List ℕ) → (b ≡ 62 → ⊥) → Closing text → Closing (b ∷ text)
closing_by b text ne (closes path behind whole none) = closes (b ∷ path) behind (ap (λ t. b ∷ t) whole) (and_from _ _ (ap not (ne_eqb b 62 ne)) none)
closing_by b text ne (never none) = never (and_from _ _ (ap not (ne_eqb b 62 ne)) none)

closing : (text : List ℕ) → Closing text
closing [] = never refl
closing (b ∷ text) = elim (cases_eq b 62) [
  | inl e ↦ closes [] text (ap (λ c. c ∷ text) e) refl
  | inr ne ↦ closing_by b text ne (closing text)
]

-- a text that is read as this path up to its first `>`
record Closed (text path : List ℕ) : Type 0 where
  behind : List ℕ
  whole : text ≡ path ++ 62 ∷ behind
  blanks : IsTrue (list_all is_blank behind)
  none : IsTrue (no_close path)

abbrev text_in : Option (List ℕ) → List ℕ
text_in None = []
text_in (Some text) = text

closed_by : (test : Bool) (read behind path : List ℕ) → list_all is_blank behind ≡ test → IsTrue (no_close read) → (if test then Some read else None) ≡ Some path → Closed (read ++ 62 ∷ behind) path
closed_by true read behind path blanks none is =
    let same : read ≡ path = ap text_in is in
    record { behind = behind; whole = ap (λ t. t ++ 62 ∷ behind) same; blanks = blanks; none = ap no_close (sym same) ∙ none }
closed_by false read behind path blanks none is = absurd (cc)

closed_as : (text path : List ℕ) → Closing text → closed_path text ≡ Some path → Closed text path
closed_as text path (closes read behind whole none) is =
    let found = closed_by (list_all is_blank behind) read behind path refl none (sym (closed read behind none) ∙ ap closed_path (sym whole) ∙ is) in
    record { behind = found.behind; whole = whole ∙ found.whole; blanks = found.blanks; none = found.none }
closed_as text path (never none) is = let clash : None ≡ Some path = sym (not_closed text none) ∙ is in absurd (cc)

-- a text that is read as this path behind its `<`
record Opened (text path : List ℕ) : Type 0 where
  rest : List ℕ
  whole : text ≡ 60 ∷ rest
  found : Closed rest path

opened_by : (test : Bool) (b : ℕ) (rest path : List ℕ) → (b == 60) ≡ test → option_and_then closed_path (if test then Some rest else None) ≡ Some path → Opened (b ∷ rest) path
opened_by true b rest path e is = record { rest = rest; whole = ap (λ c. c ∷ rest) (eqb-true b 60 e); found = closed_as rest path (closing rest) is }
opened_by false b rest path e is = absurd (cc)

opened_as : (text path : List ℕ) → option_and_then closed_path (opened_path text) ≡ Some path → Opened text path
opened_as [] path is = absurd (cc)
opened_as (b ∷ rest) path is = opened_by (b == 60) b rest path refl is

-- what stands in brackets

stands : (text path : List ℕ) → bracketed text ≡ Some path → IsInBrackets text path
stands text path is =
    let s = blanks_of text in
    let o = opened_as (behind_blanks text) path is in
    record {
      before = s.before;
      behind = o.found.behind;
      whole = s.whole ∙ ap (λ t. s.before ++ t) o.whole ∙ ap (λ t. s.before ++ (60 ∷ t)) o.found.whole;
      blanks_before = s.all;
      blanks_behind = o.found.blanks;
      first_close = o.found.none;
    }

is_read : (text path : List ℕ) → IsInBrackets text path → bracketed text ≡ Some path
is_read text path i =
    ap bracketed i.whole
    ∙ ap (λ t. option_and_then closed_path (opened_path t)) (blanks_first i.before (60 ∷ path ++ 62 ∷ i.behind) i.blanks_before)
    ∙ closed path i.behind i.first_close
    ∙ ap (λ test. if test then Some path else None) i.blanks_behind

-- the tests

may_by : (may_be_empty : Bool) (path : List ℕ) → (length path == 0 && not may_be_empty) ≡ false → path ≡ [] → may_be_empty ≡ true
may_by true path is e = refl
may_by false path is e = absurd (eqb-false (length path) 0 (sym (and-true (length path == 0)) ∙ is) (ap length e))

fits_of : (may_be_empty : Bool) (path : List ℕ) → is_misfit may_be_empty path ≡ false → (length path ≤ 256) × (path ≡ [] → may_be_empty ≡ true)
fits_of may_be_empty path is =
    let parts = or_parts (nat_lt 256 (length path)) (length path == 0 && not may_be_empty) is in
    (ltb-false 256 (length path) parts.0, may_by may_be_empty path parts.1)

empty_by : (may_be_empty : Bool) (path : List ℕ) → (path ≡ [] → may_be_empty ≡ true) → (length path == 0 && not may_be_empty) ≡ false
empty_by may_be_empty [] may = ap not (may refl)
empty_by may_be_empty (b ∷ path) may = ap (λ test. test && not may_be_empty) (ne_eqb (length (b ∷ path)) 0 (λ e. omega (arith, e)))

fits : (may_be_empty : Bool) (path : List ℕ) → length path ≤ 256 → (path ≡ [] → may_be_empty ≡ true) → is_misfit may_be_empty path ≡ false
fits may_be_empty path short may =
    ap (λ test. test || (length path == 0 && not may_be_empty)) (le-ltb 256 (length path) short) ∙ empty_by may_be_empty path may

abbrev judged : Bool → Bool → List ℕ → Result (List ℕ) PathFault
judged misfit allowed path = if misfit then Err Syntax else if allowed then Ok path else Err NotAllowed

abbrev ok_text : Result (List ℕ) PathFault → List ℕ
ok_text (Ok path) = path
ok_text (Err why) = []

judged_ok : (misfit allowed : Bool) (read path : List ℕ) → judged misfit allowed read ≡ Ok path → (misfit ≡ false) × (allowed ≡ true) × (read ≡ path)
judged_ok true allowed read path is = absurd (cc)
judged_ok false true read path is = (refl, refl, ap ok_text is)
judged_ok false false read path is = absurd (cc)

judged_not : (misfit allowed : Bool) (read : List ℕ) → judged misfit allowed read ≡ Err NotAllowed → (misfit ≡ false) × (allowed ≡ false)
judged_not true allowed read is = absurd (cc)
judged_not false true read is = absurd (cc)
judged_not false false read is = (refl, refl)

-- the laws

abbrev pub IsOk : Bool → List ℕ → List ℕ → Type 0
IsOk may_be_empty text path = IsInBrackets text path × (length path ≤ 256) × (path ≡ [] → may_be_empty ≡ true) × IsTrue (is_allowed path)

abbrev pub IsNotAllowed : List ℕ → Type 0
IsNotAllowed text = (path : List ℕ) × IsInBrackets text path × (length path ≤ 256) × (is_allowed path ≡ false)

ok_by : (may_be_empty : Bool) (text path : List ℕ) (found : Option (List ℕ)) → bracketed text ≡ found → checked_or may_be_empty found ≡ Ok path → IsOk may_be_empty text path
ok_by may_be_empty text path None e is = absurd (cc)
ok_by may_be_empty text path (Some read) e is =
    let all = judged_ok (is_misfit may_be_empty read) (is_allowed read) read path is in
    let fit = fits_of may_be_empty path (ap (is_misfit may_be_empty) (sym all.2) ∙ all.0) in
    (stands text path (e ∙ ap Some all.2), fit.0, fit.1, ap is_allowed (sym all.2) ∙ all.1)

pub ok_is : (may_be_empty : Bool) (text path : List ℕ) → path_of may_be_empty text ≡ Ok path → IsOk may_be_empty text path
ok_is may_be_empty text path is = ok_by may_be_empty text path (bracketed text) refl is

pub is_ok : (may_be_empty : Bool) (text path : List ℕ) → IsOk may_be_empty text path → path_of may_be_empty text ≡ Ok path
is_ok may_be_empty text path all =
    ap (checked_or may_be_empty) (is_read text path all.0)
    ∙ ap (λ misfit. judged misfit (is_allowed path) path) (fits may_be_empty path all.1 all.2)
    ∙ ap (λ allowed. judged false allowed path) all.3

not_by : (may_be_empty : Bool) (text : List ℕ) (found : Option (List ℕ)) → bracketed text ≡ found → checked_or may_be_empty found ≡ Err NotAllowed → IsNotAllowed text
not_by may_be_empty text None e is = absurd (cc)
not_by may_be_empty text (Some read) e is =
    let all = judged_not (is_misfit may_be_empty read) (is_allowed read) read is in
    (read, stands text read e, (fits_of may_be_empty read all.0).0, all.1)

pub not_allowed_is : (may_be_empty : Bool) (text : List ℕ) → path_of may_be_empty text ≡ Err NotAllowed → IsNotAllowed text
not_allowed_is may_be_empty text is = not_by may_be_empty text (bracketed text) refl is

-- a path that isn't allowed isn't empty
not_empty : (path : List ℕ) → is_allowed path ≡ false → path ≡ [] → ⊥
not_empty [] not_allowed e = cc
not_empty (b ∷ path) not_allowed e = cc

pub is_not_allowed : (may_be_empty : Bool) (text : List ℕ) → IsNotAllowed text → path_of may_be_empty text ≡ Err NotAllowed
is_not_allowed may_be_empty text all =
    ap (checked_or may_be_empty) (is_read text all.0 all.1)
    ∙ ap (λ misfit. judged misfit (is_allowed all.0) all.0) (fits may_be_empty all.0 all.2 (λ e. absurd (not_empty all.0 all.3 e)))
    ∙ ap (λ allowed. judged false allowed all.0) all.3
