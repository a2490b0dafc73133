-- Six numbers in a text: how they are read, found and written (RFC 959, 4.1.2).
use Rattle.std.proofs.Common.{◌≡◌, ℕ, zero, suc, ◌+◌, ◌*◌, ◌/◌, ◌%◌, ◌<◌, ◌^◌, Bool, true, false, ◌&&◌, cond, List, [], ◌∷◌, ◌++◌, length, take, drop, get_or, refl, sym, ap, ◌∙◌, arith, lit<, append_assoc, append-nil}
use Rattle.std.specs.Prelude.{All, nat_le, nat_lt, not, slice_index, Option, Some, None}
use Rattle.std.specs.Char.{is_ascii_digit}
use Rattle.std.specs.Fmt.{decimal}
use Rattle.std.specs.List.{list_all, onto_first, slice_split}
use Rattle.std.proofs.lemmas.Bool.{and_right, false_from_ne_true, le-leb, lt-ltb, not-true}
use Rattle.std.proofs.lemmas.Bool.Decides.{nat_tests}
use Rattle.std.proofs.lemmas.Fmt.{decimal_by_steps, decimal_is_IsNumeral, decimal_nonempty, length-decimal-le}
use Rattle.std.proofs.lemmas.List.{drop_more}
use Rattle.std.proofs.lemmas.List.Elements.{All-cons, All-from_get_or, All-get_or, All-nil}
use Rattle.std.proofs.lemmas.List.Folds.{list_all-append}
use Rattle.std.proofs.lemmas.List.Splits.{slice_split_at, slice_split_first, slice_split_none}
use Rattle.std.proofs.lemmas.List.Sums.{position_or_len_is, take_while-cons}
use Rattle.fw_types.specs.Number.{is_number}
use Rattle.ftp_lines.specs.Parts.{IsFirstPart}
use Rattle.ftp_lines.specs.Six.{AreSix, IsBeyond, IsPassed, find_of, is_comma, is_quiet, octet_in, run_of, six_at, six_first_parts, six_octets, six_of, six_parts, six_text}
use Rattle.ftp_lines.proofs.PartLemmas.{split_parts}

-- reading

six_few_parts : (parts : List (List ℕ)) → length parts < 6 → six_parts parts ≡ None
six_few_parts [] few = refl
six_few_parts (a ∷ []) few = refl
six_few_parts (a ∷ b ∷ []) few = refl
six_few_parts (a ∷ b ∷ c ∷ []) few = refl
six_few_parts (a ∷ b ∷ c ∷ d ∷ []) few = refl
six_few_parts (a ∷ b ∷ c ∷ d ∷ e ∷ []) few = refl
six_few_parts (a ∷ b ∷ c ∷ d ∷ e ∷ f ∷ more) few = absurd (omega arith)

six_few_first : (parts : List (List ℕ)) → length parts < 6 → six_first_parts parts ≡ None
six_few_first [] few = refl
six_few_first (a ∷ []) few = refl
six_few_first (a ∷ b ∷ []) few = refl
six_few_first (a ∷ b ∷ c ∷ []) few = refl
six_few_first (a ∷ b ∷ c ∷ d ∷ []) few = refl
six_few_first (a ∷ b ∷ c ∷ d ∷ e ∷ []) few = refl
six_few_first (a ∷ b ∷ c ∷ d ∷ e ∷ f ∷ more) few = absurd (omega arith)

pub six_of_few : (text : List ℕ) → length (slice_split is_comma text) < 6 → six_of text ≡ None
unfolding six_of
six_of_few text few = six_few_parts (slice_split is_comma text) few

pub six_at_few : (text : List ℕ) → length (slice_split is_comma text) < 6 → six_at text ≡ None
unfolding six_at
six_at_few text few = six_few_first (slice_split is_comma text) few

pub six_of_six : (text a b c d e f : List ℕ) (rest : List (List ℕ)) → slice_split is_comma text ≡ a ∷ b ∷ c ∷ d ∷ e ∷ rest → rest ≡ f ∷ []
    → six_of text ≡ six_octets (octet_in a) (octet_in b) (octet_in c) (octet_in d) (octet_in e) (octet_in f)
unfolding six_of
six_of_six text a b c d e f rest is last = rw (is, last) refl

pub six_of_more : (text a b c d e f next : List ℕ) (rest more : List (List ℕ)) → slice_split is_comma text ≡ a ∷ b ∷ c ∷ d ∷ e ∷ rest → rest ≡ f ∷ next ∷ more
    → six_of text ≡ None
unfolding six_of
six_of_more text a b c d e f next rest more is others = rw (is, others) refl

pub six_at_six : (text a b c d e f : List ℕ) (rest more : List (List ℕ)) → slice_split is_comma text ≡ a ∷ b ∷ c ∷ d ∷ e ∷ rest → rest ≡ f ∷ more
    → six_at text ≡ six_octets (octet_in a) (octet_in b) (octet_in c) (octet_in d) (octet_in e) (octet_in (run_of f))
unfolding six_at
six_at_six text a b c d e f rest more is others = rw (is, others) refl

-- what stands before and behind the first comma
pub cut_at : (text : List ℕ) (at : ℕ) → at < length text → ((k : ℕ) → k < at → is_comma (get_or text k 0) ≡ true → ⊥) → is_comma (get_or text at 0) ≡ true
    → slice_split is_comma text ≡ take at text ∷ slice_split is_comma (drop (at + 1) text)
cut_at text at within before here =
    let place = position_or_len_is is_comma text at 0 (omega arith) (λ k below. false_from_ne_true (is_comma (get_or text k 0)) (before k below)) (λ _. here) in
    let first = slice_split_first is_comma text 0 (omega (arith, place)) in
    rw place at first

pub cut_none : (text : List ℕ) → ((k : ℕ) → k < length text → is_comma (get_or text k 0) ≡ true → ⊥) → slice_split is_comma text ≡ text ∷ []
cut_none text none =
    slice_split_none is_comma text (All-from_get_or (λ b. is_comma b ≡ false) text 0 (λ k within. false_from_ne_true (is_comma (get_or text k 0)) (none k within)))

-- a text has a first part
pub first_part_more : (text part rest : List ℕ) → slice_split is_comma text ≡ part ∷ slice_split is_comma rest → IsFirstPart part false (slice_split is_comma text)
first_part_more text part rest is =
    let parts = split_parts is_comma rest in
    (parts.first, parts.rest, is ∙ ap (λ ps. part ∷ ps) parts.is)

pub six_of_last : (text a b c d e f rest : List ℕ) (last : Bool) → slice_split is_comma text ≡ a ∷ b ∷ c ∷ d ∷ e ∷ slice_split is_comma rest
    → IsFirstPart f last (slice_split is_comma rest) → last ≡ true → six_of text ≡ six_octets (octet_in a) (octet_in b) (octet_in c) (octet_in d) (octet_in e) (octet_in f)
six_of_last text a b c d e f rest true is first last = six_of_six text a b c d e f (slice_split is_comma rest) is first
six_of_last text a b c d e f rest false is first last = absurd (cc (last))

pub six_of_others : (text a b c d e f rest : List ℕ) (last : Bool) → slice_split is_comma text ≡ a ∷ b ∷ c ∷ d ∷ e ∷ slice_split is_comma rest
    → IsFirstPart f last (slice_split is_comma rest) → last ≡ false → six_of text ≡ None
six_of_others text a b c d e f rest true is first last = absurd (cc (last))
six_of_others text a b c d e f rest false is first last = six_of_more text a b c d e f first.0 (slice_split is_comma rest) first.1 is first.2

pub six_at_first : (text a b c d e f rest : List ℕ) (last : Bool) → slice_split is_comma text ≡ a ∷ b ∷ c ∷ d ∷ e ∷ slice_split is_comma rest
    → IsFirstPart f last (slice_split is_comma rest) → six_at text ≡ six_octets (octet_in a) (octet_in b) (octet_in c) (octet_in d) (octet_in e) (octet_in (run_of f))
six_at_first text a b c d e f rest true is first = six_at_six text a b c d e f (slice_split is_comma rest) [] is first
six_at_first text a b c d e f rest false is first = six_at_six text a b c d e f (slice_split is_comma rest) (first.0 ∷ first.1) is first.2

-- finding

pub find_found : (text : List ℕ) (at : ℕ) (six : List ℕ × ℕ) → at < length text → six_at (drop at text) ≡ Some six → find_of (drop at text) ≡ Some six
find_found text at six within is =
    let more = drop_more text at 0 within in
    let here : six_at (slice_index text at ∷ drop (at + 1) text) ≡ Some six = ap six_at (sym more) ∙ is in
    ap find_of more ∙ rw here refl

pub find_next : (text : List ℕ) (at : ℕ) → at < length text → six_at (drop at text) ≡ None → find_of (drop at text) ≡ find_of (drop (at + 1) text)
find_next text at within is =
    let more = drop_more text at 0 within in
    let here : six_at (slice_index text at ∷ drop (at + 1) text) ≡ None = ap six_at (sym more) ∙ is in
    ap find_of more ∙ rw here refl

-- where none begins in a text, those behind it are found
pub find_passed : (before rest : List ℕ) → IsPassed before rest → find_of (before ++ rest) ≡ find_of rest
find_passed [] rest passed = refl
find_passed (b ∷ bs) rest passed =
    let here = passed 0 (omega arith) in
    let later = find_passed bs rest (λ at within. passed (suc at) (omega arith)) in
    rw here later

-- decimals

digit_is_digit : (n : ℕ) → n < 10 → is_ascii_digit (48 + n) ≡ true
digit_is_digit n small = grind (arith, nat_tests)

decimal_digits : (n : ℕ) → n < 2 ^ 64 → list_all is_ascii_digit (decimal n) ≡ true
decimal_digits = decimal_by_steps (λ _ ds. list_all is_ascii_digit ds ≡ true)
    (λ n small. rw (digit_is_digit n small) refl)
    (λ n ds large front. list_all-append is_ascii_digit ds ((48 + n % 10) ∷ []) ∙ rw (front, digit_is_digit (n % 10) (omega arith)) refl)

digit_no_comma : (b : ℕ) → is_ascii_digit b ≡ true → is_comma b ≡ false
digit_no_comma b h = grind (arith, nat_tests)

both : (a b : Bool) → (a && b) ≡ true → (a ≡ true) × (b ≡ true)
both true b h = (refl, h)
both false b h = absurd (cc)

pub digits_no_comma : (ds : List ℕ) → list_all is_ascii_digit ds ≡ true → All (λ b. is_comma b ≡ false) ds
digits_no_comma [] h = All-nil (λ b. is_comma b ≡ false)
digits_no_comma (d ∷ ds) h =
    let p = both (is_ascii_digit d) (list_all is_ascii_digit ds) h in
    All-cons (λ b. is_comma b ≡ false) d ds (digit_no_comma d p.0) (digits_no_comma ds p.1)

-- the decimal of a byte is read as that byte
octet_in-decimal : (n : ℕ) → n < 256 → octet_in (decimal n) ≡ Some n
octet_in-decimal n small =
    let wide : n < 2 ^ 64 = omega arith in
    let value = (decimal_is_IsNumeral n wide).1 in
    let short = length-decimal-le 3 n (lit< tt) (omega arith) wide in
    let three : nat_le (length (decimal n)) 3 ≡ true = le-leb _ 3 short in
    let ten : nat_le (length (decimal n)) 10 ≡ true = le-leb _ 10 (omega arith) in
    let some : nat_lt 0 (length (decimal n)) ≡ true = lt-ltb 0 _ (decimal_nonempty n wide) in
    let digits = decimal_digits n wide in
    let low : nat_le 0 n ≡ true = le-leb 0 n (omega arith) in
    let high : nat_le n 255 ≡ true = le-leb n 255 (omega arith) in
    rw (three, some, ten, digits, value, low, high) refl

-- texts of six numbers

-- the text of six numbers, and what stands behind it
joined : (a b c d e f : ℕ) (after : List ℕ) → List ℕ
joined a b c d e f after = decimal a ++ 44 ∷ (decimal b ++ 44 ∷ (decimal c ++ 44 ∷ (decimal d ++ 44 ∷ (decimal e ++ 44 ∷ (decimal f ++ after)))))

text_joined : (a b c d port : ℕ) (after : List ℕ) → six_text (a ∷ b ∷ c ∷ d ∷ []) port ++ after ≡ joined a b c d (port / 256) (port % 256) after
unfolding six_text joined
text_joined a b c d port after = simp append_assoc

part_cut : (n : ℕ) (rest : List ℕ) → n < 256 → slice_split is_comma (decimal n ++ 44 ∷ rest) ≡ decimal n ∷ slice_split is_comma rest
part_cut n rest small = slice_split_at is_comma (decimal n) 44 rest (digits_no_comma (decimal n) (decimal_digits n (omega arith))) refl

joined_split : (a b c d e f : ℕ) (after : List ℕ) → a < 256 → b < 256 → c < 256 → d < 256 → e < 256
    → slice_split is_comma (joined a b c d e f after) ≡ decimal a ∷ decimal b ∷ decimal c ∷ decimal d ∷ decimal e ∷ slice_split is_comma (decimal f ++ after)
unfolding joined
joined_split a b c d e f after sa sb sc sd se =
    let first = part_cut a (decimal b ++ 44 ∷ (decimal c ++ 44 ∷ (decimal d ++ 44 ∷ (decimal e ++ 44 ∷ (decimal f ++ after))))) sa in
    let second = part_cut b (decimal c ++ 44 ∷ (decimal d ++ 44 ∷ (decimal e ++ 44 ∷ (decimal f ++ after)))) sb in
    let third = part_cut c (decimal d ++ 44 ∷ (decimal e ++ 44 ∷ (decimal f ++ after))) sc in
    let fourth = part_cut d (decimal e ++ 44 ∷ (decimal f ++ after)) sd in
    let fifth = part_cut e (decimal f ++ after) se in
    first ∙ ap (λ ps. decimal a ∷ ps) (second ∙ ap (λ ps. decimal b ∷ ps) (third ∙ ap (λ ps. decimal c ∷ ps) (fourth ∙ ap (λ ps. decimal d ∷ ps) fifth)))

-- the last part goes on up to the next comma, and the digits that stand first in it are the number's
pub record Begins (ds : List ℕ) (parts : List (List ℕ)) : Type 0 where
  pub first : List ℕ
  pub rest : List (List ℕ)
  pub is : parts ≡ (ds ++ first) ∷ rest
  pub beyond : is_ascii_digit (slice_index first 0) ≡ false

begins_by : (comma : Bool) (b : ℕ) (parts : List (List ℕ)) → is_ascii_digit b ≡ false → Begins [] (cond comma ([] ∷ parts) (onto_first b parts))
begins_by true b parts h = record { first = []; rest = parts; is = refl; beyond = refl }
begins_by false b [] h = record { first = b ∷ []; rest = []; is = refl; beyond = h }
begins_by false b (part ∷ more) h = record { first = b ∷ part; rest = more; is = refl; beyond = h }

begins_on : (d : ℕ) (ds : List ℕ) (comma : Bool) (parts : List (List ℕ)) → comma ≡ false → Begins ds parts → Begins (d ∷ ds) (cond comma ([] ∷ parts) (onto_first d parts))
begins_on d ds true parts h begins = absurd (cc)
begins_on d ds false parts h begins = record { first = begins.first; rest = begins.rest; is = ap (onto_first d) begins.is; beyond = begins.beyond }

pub begins : (ds after : List ℕ) → list_all is_ascii_digit ds ≡ true → IsBeyond after → Begins ds (slice_split is_comma (ds ++ after))
begins [] [] h beyond = record { first = []; rest = []; is = refl; beyond = refl }
begins [] (b ∷ bs) h beyond = begins_by (is_comma b) b (slice_split is_comma bs) beyond
begins (d ∷ ds) after h beyond =
    let p = both (is_ascii_digit d) (list_all is_ascii_digit ds) h in
    begins_on d ds (is_comma d) (slice_split is_comma (ds ++ after)) (digit_no_comma d p.0) (begins ds after p.1 beyond)

pub run_of-digits : (ds first : List ℕ) → list_all is_ascii_digit ds ≡ true → is_ascii_digit (slice_index first 0) ≡ false → run_of (ds ++ first) ≡ ds
run_of-digits [] [] h beyond = refl
run_of-digits [] (b ∷ bs) h beyond = take_while-cons is_ascii_digit b bs ∙ rw beyond refl
run_of-digits (d ∷ ds) first h beyond =
    let p = both (is_ascii_digit d) (list_all is_ascii_digit ds) h in
    let more = run_of-digits ds first p.1 beyond in
    take_while-cons is_ascii_digit d (ds ++ first) ∙ rw p.0 (ap (λ ps. d ∷ ps) more)

port_is : (port : ℕ) → port / 256 * 256 + port % 256 ≡ port
port_is port = omega arith

octets_are : (a b c d port : ℕ) (x y z w v u : Option ℕ) → x ≡ Some a → y ≡ Some b → z ≡ Some c → w ≡ Some d → v ≡ Some (port / 256) → u ≡ Some (port % 256)
    → six_octets x y z w v u ≡ Some (a ∷ b ∷ c ∷ d ∷ [], port)
octets_are a b c d port x y z w v u ia ib ic id ie last = rw (ia, ib, ic, id, ie, last, port_is port) refl

six_at-joined : (a b c d port : ℕ) (after : List ℕ) → a < 256 → b < 256 → c < 256 → d < 256 → port < 65536 → IsBeyond after
    → six_at (joined a b c d (port / 256) (port % 256) after) ≡ Some (a ∷ b ∷ c ∷ d ∷ [], port)
six_at-joined a b c d port after sa sb sc sd sp beyond =
    let high : port / 256 < 256 = omega arith in
    let low : port % 256 < 256 = omega arith in
    let digits = decimal_digits (port % 256) (omega arith) in
    let last = begins (decimal (port % 256)) after digits beyond in
    let run = run_of-digits (decimal (port % 256)) last.first digits last.beyond in
    let split = joined_split a b c d (port / 256) (port % 256) after sa sb sc sd high in
    six_at_six _ _ _ _ _ _ _ _ _ split last.is
    ∙ octets_are a b c d port _ _ _ _ _ _ (octet_in-decimal a sa) (octet_in-decimal b sb) (octet_in-decimal c sc) (octet_in-decimal d sd) (octet_in-decimal (port / 256) high)
    (ap octet_in run ∙ octet_in-decimal (port % 256) low)

six_of-joined : (a b c d port : ℕ) → a < 256 → b < 256 → c < 256 → d < 256 → port < 65536
    → six_of (joined a b c d (port / 256) (port % 256) []) ≡ Some (a ∷ b ∷ c ∷ d ∷ [], port)
six_of-joined a b c d port sa sb sc sd sp =
    let high : port / 256 < 256 = omega arith in
    let low : port % 256 < 256 = omega arith in
    let digits = decimal_digits (port % 256) (omega arith) in
    let split = joined_split a b c d (port / 256) (port % 256) [] sa sb sc sd high in
    let last : slice_split is_comma (decimal (port % 256) ++ []) ≡ decimal (port % 256) ∷ [] =
    ap (slice_split is_comma) (append-nil (decimal (port % 256))) ∙ slice_split_none is_comma (decimal (port % 256)) (digits_no_comma _ digits) in
    six_of_six _ _ _ _ _ _ _ _ split last
    ∙ octets_are a b c d port _ _ _ _ _ _ (octet_in-decimal a sa) (octet_in-decimal b sb) (octet_in-decimal c sc) (octet_in-decimal d sd) (octet_in-decimal (port / 256) high)
    (octet_in-decimal (port % 256) low)

-- what is written is read
pub read_written : (addr : List ℕ) (port : ℕ) → AreSix addr port → six_of (six_text addr port) ≡ Some (addr, port)
read_written (a ∷ b ∷ c ∷ d ∷ []) port are =
    ap six_of (sym (append-nil (six_text (a ∷ b ∷ c ∷ d ∷ []) port)) ∙ text_joined a b c d port [])
    ∙ six_of-joined a b c d port (All-get_or (λ b. b < 256) (a ∷ b ∷ c ∷ d ∷ []) 0 0 (omega arith) are.bytes) (All-get_or (λ b. b < 256) (a ∷ b ∷ c ∷ d ∷ []) 1 0 (omega arith) are.bytes) (All-get_or (λ b. b < 256) (a ∷ b ∷ c ∷ d ∷ []) 2 0 (omega arith) are.bytes) (All-get_or (λ b. b < 256) (a ∷ b ∷ c ∷ d ∷ []) 3 0 (omega arith) are.bytes) are.small
read_written [] port are = absurd (omega (arith, are.four))
read_written (a ∷ []) port are = absurd (omega (arith, are.four))
read_written (a ∷ b ∷ []) port are = absurd (omega (arith, are.four))
read_written (a ∷ b ∷ c ∷ []) port are = absurd (omega (arith, are.four))
read_written (a ∷ b ∷ c ∷ d ∷ e ∷ more) port are = absurd (omega (arith, are.four))

six_at-written : (addr : List ℕ) (port : ℕ) (after : List ℕ) → AreSix addr port → IsBeyond after → six_at (six_text addr port ++ after) ≡ Some (addr, port)
six_at-written (a ∷ b ∷ c ∷ d ∷ []) port after are beyond =
    ap six_at (text_joined a b c d port after) ∙ six_at-joined a b c d port after (All-get_or (λ b. b < 256) (a ∷ b ∷ c ∷ d ∷ []) 0 0 (omega arith) are.bytes) (All-get_or (λ b. b < 256) (a ∷ b ∷ c ∷ d ∷ []) 1 0 (omega arith) are.bytes) (All-get_or (λ b. b < 256) (a ∷ b ∷ c ∷ d ∷ []) 2 0 (omega arith) are.bytes) (All-get_or (λ b. b < 256) (a ∷ b ∷ c ∷ d ∷ []) 3 0 (omega arith) are.bytes) are.small beyond
six_at-written [] port after are beyond = absurd (omega (arith, are.four))
six_at-written (a ∷ []) port after are beyond = absurd (omega (arith, are.four))
six_at-written (a ∷ b ∷ []) port after are beyond = absurd (omega (arith, are.four))
six_at-written (a ∷ b ∷ c ∷ []) port after are beyond = absurd (omega (arith, are.four))
six_at-written (a ∷ b ∷ c ∷ d ∷ e ∷ more) port after are beyond = absurd (omega (arith, are.four))

six_at-empty : six_at [] ≡ None
unfolding six_at
six_at-empty = refl

find_begins : (text : List ℕ) (six : List ℕ × ℕ) → six_at text ≡ Some six → find_of text ≡ Some six
find_begins [] six is = absurd (cc (six_at-empty, is))
find_begins (b ∷ bs) six is = rw is refl

-- what is written is found, where no six numbers begin before it
pub found_first : (before after addr : List ℕ) (port : ℕ) → AreSix addr port → IsBeyond after → IsPassed before (six_text addr port ++ after)
    → find_of (before ++ (six_text addr port ++ after)) ≡ Some (addr, port)
found_first before after addr port are beyond passed =
    find_passed before (six_text addr port ++ after) passed ∙ find_begins (six_text addr port ++ after) (addr, port) (six_at-written addr port after are beyond)

-- quiet texts

-- the first part of a text
first_of : List (List ℕ) → List ℕ
first_of [] = []
first_of (part ∷ more) = part

octet_in-empty : octet_in [] ≡ None
octet_in-empty = refl

cond_same : (b : Bool) (o : Option ℕ) → cond b o o ≡ o
cond_same true o = refl
cond_same false o = refl

pub octet_in-other : (text : List ℕ) → list_all is_ascii_digit text ≡ false → octet_in text ≡ None
octet_in-other text other =
    let none : is_number text ≡ false = and_right (nat_lt 0 (length text) && nat_le (length text) 10) (list_all is_ascii_digit text) other in
    rw none (cond_same (nat_le (length text) 3) None)

six_first-none : (parts : List (List ℕ)) → octet_in (first_of parts) ≡ None → six_first_parts parts ≡ None
unfolding first_of
six_first-none [] none = refl
six_first-none (a ∷ []) none = refl
six_first-none (a ∷ b ∷ []) none = refl
six_first-none (a ∷ b ∷ c ∷ []) none = refl
six_first-none (a ∷ b ∷ c ∷ d ∷ []) none = refl
six_first-none (a ∷ b ∷ c ∷ d ∷ e ∷ []) none = refl
six_first-none (a ∷ b ∷ c ∷ d ∷ e ∷ f ∷ more) none = rw none refl

first_on : (b : ℕ) (comma : Bool) (parts : List (List ℕ)) → comma ≡ false → first_of (cond comma ([] ∷ parts) (onto_first b parts)) ≡ b ∷ first_of parts
unfolding first_of
first_on b true parts h = absurd (cc)
first_on b false [] h = refl
first_on b false (part ∷ more) h = refl

first_comma : (b : ℕ) (comma : Bool) (parts : List (List ℕ)) → comma ≡ true → first_of (cond comma ([] ∷ parts) (onto_first b parts)) ≡ []
unfolding first_of
first_comma b true parts h = refl
first_comma b false parts h = absurd (cc)

quiet_parts : (d c : Bool) (more : Bool) → (not (d && c) && more) ≡ true → (d ≡ true → c ≡ false) × (more ≡ true)
quiet_parts true true more h = absurd (cc)
quiet_parts true false more h = (λ _. refl, h)
quiet_parts false c more h = (λ (e : false ≡ true). absurd (cc (e)), h)

-- the first part of a text that begins quietly isn't made of digits alone
quiet_by : (b : ℕ) (bs rest : List ℕ) (digit : Bool) → is_ascii_digit b ≡ digit → is_quiet (b ∷ bs) ≡ true → is_comma b ≡ false
    → list_all is_ascii_digit (first_of (slice_split is_comma ((b ∷ bs) ++ rest))) ≡ false
quiet_by b bs rest false is quiet other = rw (first_on b (is_comma b) (slice_split is_comma (bs ++ rest)) other, is) refl
quiet_by b [] rest true is quiet other = let h : not (is_ascii_digit b) ≡ true = quiet in absurd (cc (is, not-true _ h))
quiet_by b (c ∷ bs) rest true is quiet other =
    let p = quiet_parts (is_ascii_digit b) (is_comma c) (is_quiet (c ∷ bs)) quiet in
    let more = quiet_by c bs rest (is_ascii_digit c) refl p.1 (p.0 is) in
    rw (first_on b (is_comma b) (slice_split is_comma ((c ∷ bs) ++ rest)) other, is) more

quiet_none : (b : ℕ) (bs rest : List ℕ) (comma : Bool) → is_comma b ≡ comma → is_quiet (b ∷ bs) ≡ true → six_at ((b ∷ bs) ++ rest) ≡ None
unfolding six_at
quiet_none b bs rest true is quiet =
    six_first-none (slice_split is_comma ((b ∷ bs) ++ rest)) (ap octet_in (first_comma b (is_comma b) (slice_split is_comma (bs ++ rest)) is) ∙ octet_in-empty)
quiet_none b bs rest false is quiet =
    six_first-none (slice_split is_comma ((b ∷ bs) ++ rest)) (octet_in-other (first_of (slice_split is_comma ((b ∷ bs) ++ rest))) (quiet_by b bs rest (is_ascii_digit b) refl quiet is))

quiet_on : (b : ℕ) (bs : List ℕ) → is_quiet (b ∷ bs) ≡ true → is_quiet bs ≡ true
quiet_on b [] quiet = refl
quiet_on b (c ∷ bs) quiet = (quiet_parts (is_ascii_digit b) (is_comma c) (is_quiet (c ∷ bs)) quiet).1

-- no six numbers begin in a quiet text
pub quiet_passed : (before rest : List ℕ) → is_quiet before ≡ true → IsPassed before rest
quiet_passed [] rest quiet at within = absurd (omega arith)
quiet_passed (b ∷ bs) rest quiet zero within = quiet_none b bs rest (is_comma b) refl quiet
quiet_passed (b ∷ bs) rest quiet (suc at) within = quiet_passed bs rest (quiet_on b bs quiet) at (omega arith)

pub found_quiet : (before after addr : List ℕ) (port : ℕ) → AreSix addr port → IsBeyond after → is_quiet before ≡ true
    → find_of (before ++ (six_text addr port ++ after)) ≡ Some (addr, port)
found_quiet before after addr port are beyond quiet = found_first before after addr port are beyond (quiet_passed before (six_text addr port ++ after) quiet)

-- writing

pub written_is : (addr : List ℕ) (port : ℕ) → length addr ≡ 4
    → [] ++ decimal (get_or addr 0 0) ++ 44 ∷ [] ++ decimal (get_or addr 1 0) ++ 44 ∷ [] ++ decimal (get_or addr 2 0) ++ 44 ∷ [] ++ decimal (get_or addr 3 0) ++ 44 ∷ []
    ++ decimal (port / 256) ++ 44 ∷ [] ++ decimal (port % 256) ≡ six_text addr port
unfolding six_text
written_is (a ∷ b ∷ c ∷ d ∷ []) port four = simp append_assoc
written_is [] port four = absurd (omega (arith, four))
written_is (a ∷ []) port four = absurd (omega (arith, four))
written_is (a ∷ b ∷ []) port four = absurd (omega (arith, four))
written_is (a ∷ b ∷ c ∷ []) port four = absurd (omega (arith, four))
written_is (a ∷ b ∷ c ∷ d ∷ e ∷ more) port four = absurd (omega (arith, four))
