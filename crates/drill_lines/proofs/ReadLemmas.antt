-- What is drawn can be read: each of the 64 lines, and so any number of them that a table may have.
use Rattle.std.proofs.Common.{◌≡◌, ℕ, zero, suc, ◌+◌, ◌*◌, ◌%◌, ◌<◌, ◌≤◌, Bool, true, false, not, List, [], ◌∷◌, ◌++◌, filter, length, take, refl, ap, ◌∙◌, arith, append_assoc, Option, Some, None, Result, Ok, Err}
use Rattle.std.specs.Prelude.{◌==◌, IsTrue, codes, if◌then◌else◌, is_ok, min, nat_lt, slice_index_or}
use Rattle.std.specs.Fmt.{decimal, digits}
use Rattle.std.specs.List.{list_all, list_any}
use Rattle.std.specs.Str.Lines.{lines, strip_carriage_return}
use Rattle.std.proofs.Math.Nat.{min-le_left}
use Rattle.std.proofs.lemmas.List.{length-take}
use Rattle.std.proofs.lemmas.List.Sums.{AllPass-from_list_all}
use Rattle.fw_types.specs.declared.peer.Peer.{Peer}
use Rattle.host_pattern.specs.Pattern.{parsed}
use Rattle.netperm_table.proofs.LineLemmas.{IsOneLine, lines_first}
use Rattle.netperm_table.proofs.ProgressLemmas.{not_over}
use Rattle.netperm_table.specs.Bytes.{is_colon, is_nul}
use Rattle.netperm_table.specs.Reading.{is_skipped, line_at_colon, reading}
use Rattle.netperm_table.specs.Table.{line_then, table_from}
use Rattle.netperm_table.specs.declared.line.Line.{Line}
use Rattle.netperm_table.specs.declared.table_fault.TableFault.{TableFault}
use Rattle.netperm_table.specs.declared.table_fault.TableFault.TheVariants.{LongLine, NoColon, NulByte}
use Rattle.gate_rules.specs.Lists.{patterns_of}
use Rattle.gate_rules.specs.Options.{built, options_after, options_of}
use Rattle.gate_rules.specs.Reading.{RuleBook, book_of, closed, effect_of, effect_then, is_of, last_rules}
use Rattle.gate_rules.specs.Service.{is_smap, keyword}
use Rattle.gate_rules.specs.declared.fault.RuleFault.{RuleFault}
use Rattle.gate_rules.specs.declared.fault.Why.{Why}
use Rattle.gate_rules.specs.declared.line_effect.LineEffect.{LineEffect}
use Rattle.gate_rules.specs.declared.rule.Rule.{Rule}
use Rattle.gate_rules.specs.declared.service.Service.TheVariants.{TnGw}
use Rattle.drill_lines.specs.Draws.{lines_text}
use Rattle.drill_lines.specs.Drill.{all_draws, drilled, or_rule_fault, peers_asked, rules_by, rules_in, table_text, tallied}
use Rattle.drill_lines.specs.declared.drill_fault.DrillFault.{DrillFault}
use Rattle.drill_lines.specs.declared.plan.Drill.{Drill}

-- ---- one line, by whether it permits and the two numbers of its pattern

abbrev attribute_of : Bool → List ℕ
attribute_of permits = if permits then codes "permit-hosts" else codes "deny-hosts"

abbrev pattern_of : ℕ → ℕ → List ℕ
pattern_of a b = decimal (10 + a) ++ codes "." ++ decimal b ++ codes ".*"

-- its bytes without the LF
abbrev bytes_of : Bool → ℕ → ℕ → List ℕ
bytes_of permits a b = codes "tn-gw: " ++ attribute_of permits ++ codes " " ++ pattern_of a b

abbrev text_of : Bool → ℕ → ℕ → List ℕ
text_of permits a b = codes "tn-gw: " ++ attribute_of permits ++ codes " " ++ decimal (10 + a) ++ codes "." ++ decimal b ++ codes ".*\n"

abbrev line_of : ℕ → Bool → ℕ → ℕ → Line
line_of number permits a b = record { number = number; keywords = codes "tn-gw" ∷ []; attribute = attribute_of permits; words = record { text = pattern_of a b; quoted = false } ∷ [] }

-- the tests of a line but for the one of its number
abbrev tested : ℕ → List ℕ → Result (Option Line) TableFault
tested number bytes =
    if nat_lt 2048 (length bytes) then Err (LongLine number)
    else if list_any is_nul bytes then Err (NulByte number)
    else if is_skipped bytes then Ok None
    else if not (list_any is_colon bytes) then Err (NoColon number)
    else line_at_colon number bytes

-- whether no byte is an LF
abbrev is_one : List ℕ → Bool
is_one bytes = list_all (λ b. not (b == 10)) bytes

abbrev Facts : Type 0
Facts = List ℕ × List ℕ × Bool × Result (Option Line) TableFault × Bool

abbrev seen : ℕ → Bool → ℕ → ℕ → Facts
seen n permits a b = (text_of permits a b, strip_carriage_return (bytes_of permits a b), is_one (bytes_of permits a b), tested n (bytes_of permits a b), is_ok (effect_of TnGw (line_of n permits a b)))

abbrev wanted : ℕ → Bool → ℕ → ℕ → Facts
wanted n permits a b = (bytes_of permits a b ++ 10 ∷ [], bytes_of permits a b, true, Ok (Some (line_of n permits a b)), true)

-- what is known of a line: how it ends, that it is one, and what it is read as
abbrev Known : Bool → ℕ → ℕ → Type 0
Known permits a b = (n : ℕ) → seen n permits a b ≡ wanted n permits a b

four : (P : ℕ → Type 0) → P 0 → P 1 → P 2 → P 3 → (a : ℕ) → a < 4 → P a
four P p q r s zero h = p
four P p q r s (suc zero) h = q
four P p q r s (suc (suc zero)) h = r
four P p q r s (suc (suc (suc zero))) h = s
four P p q r s (suc (suc (suc (suc a)))) h = absurd (omega (arith, h))

eight : (P : ℕ → Type 0) → P 0 → P 1 → P 2 → P 3 → P 4 → P 5 → P 6 → P 7 → (b : ℕ) → b < 8 → P b
eight P p q r s t u v w zero h = p
eight P p q r s t u v w (suc zero) h = q
eight P p q r s t u v w (suc (suc zero)) h = r
eight P p q r s t u v w (suc (suc (suc zero))) h = s
eight P p q r s t u v w (suc (suc (suc (suc zero)))) h = t
eight P p q r s t u v w (suc (suc (suc (suc (suc zero))))) h = u
eight P p q r s t u v w (suc (suc (suc (suc (suc (suc zero)))))) h = v
eight P p q r s t u v w (suc (suc (suc (suc (suc (suc (suc zero))))))) h = w
eight P p q r s t u v w (suc (suc (suc (suc (suc (suc (suc (suc b)))))))) h = absurd (omega (arith, h))

permits_known : (a : ℕ) → a < 4 → (b : ℕ) → b < 8 → Known true a b
unfolding digits effect_of patterns_of parsed options_of built options_after
permits_known = four (λ a. (b : ℕ) → b < 8 → Known true a b)
    (eight (Known true 0) (λ n. refl) (λ n. refl) (λ n. refl) (λ n. refl) (λ n. refl) (λ n. refl) (λ n. refl) (λ n. refl))
    (eight (Known true 1) (λ n. refl) (λ n. refl) (λ n. refl) (λ n. refl) (λ n. refl) (λ n. refl) (λ n. refl) (λ n. refl))
    (eight (Known true 2) (λ n. refl) (λ n. refl) (λ n. refl) (λ n. refl) (λ n. refl) (λ n. refl) (λ n. refl) (λ n. refl))
    (eight (Known true 3) (λ n. refl) (λ n. refl) (λ n. refl) (λ n. refl) (λ n. refl) (λ n. refl) (λ n. refl) (λ n. refl))

denies_known : (a : ℕ) → a < 4 → (b : ℕ) → b < 8 → Known false a b
unfolding digits effect_of patterns_of parsed
denies_known = four (λ a. (b : ℕ) → b < 8 → Known false a b)
    (eight (Known false 0) (λ n. refl) (λ n. refl) (λ n. refl) (λ n. refl) (λ n. refl) (λ n. refl) (λ n. refl) (λ n. refl))
    (eight (Known false 1) (λ n. refl) (λ n. refl) (λ n. refl) (λ n. refl) (λ n. refl) (λ n. refl) (λ n. refl) (λ n. refl))
    (eight (Known false 2) (λ n. refl) (λ n. refl) (λ n. refl) (λ n. refl) (λ n. refl) (λ n. refl) (λ n. refl) (λ n. refl))
    (eight (Known false 3) (λ n. refl) (λ n. refl) (λ n. refl) (λ n. refl) (λ n. refl) (λ n. refl) (λ n. refl) (λ n. refl))

known : (permits : Bool) (a b : ℕ) → a < 4 → b < 8 → Known permits a b
known true a b within below = permits_known a within b below
known false a b within below = denies_known a within b below

-- ---- any number of lines

none : (v : Bool) → not v ≡ true → v ≡ false
none true e = absurd (cc)
none false e = refl

one_line : (bytes : List ℕ) → is_one bytes ≡ true → IsOneLine bytes
one_line bytes e k d within = none (slice_index_or bytes k d == 10) (AllPass-from_list_all (λ b. not (b == 10)) bytes e k d within)

-- the text is read as a table, and each of its lines as a rule
record IsRead (number : ℕ) (text : List ℕ) : Type 0 where
  table : List Line
  read : table_from number (lines text) ≡ Ok table
  ruled : is_ok (book_of TnGw (filter (is_of (keyword TnGw)) table)) ≡ true

both_ok : (number : ℕ) (effect : Result LineEffect Why) (book : Result RuleBook RuleFault) → is_ok effect ≡ true → is_ok book ≡ true → is_ok (effect_then number effect book) ≡ true
both_ok number (Err why) book one more = absurd (cc)
both_ok number (Ok effect) (Err fault) one more = absurd (cc)
both_ok number (Ok effect) (Ok book) one more = refl

read_line : (n : ℕ) (permits : Bool) (a b : ℕ) → n ≤ 65535 → tested n (bytes_of permits a b) ≡ Ok (Some (line_of n permits a b)) → reading n (bytes_of permits a b) ≡ Ok (Some (line_of n permits a b))
read_line n permits a b few e = rw (not_over n few) e

line_more : (n : ℕ) (permits : Bool) (a b : ℕ) (rest : List ℕ) → n ≤ 65535 → seen n permits a b ≡ wanted n permits a b → IsRead (n + 1) rest → IsRead n (text_of permits a b ++ rest)
line_more n permits a b rest few e more =
    let bytes : List ℕ = bytes_of permits a b in
    let ends : text_of permits a b ≡ bytes ++ 10 ∷ [] = ap (λ (f : Facts). f.0) e in
    let same : strip_carriage_return bytes ≡ bytes = ap (λ (f : Facts). f.1) e in
    let one : IsOneLine bytes = one_line bytes (ap (λ (f : Facts). f.2) e) in
    let is : reading n bytes ≡ Ok (Some (line_of n permits a b)) = read_line n permits a b few (ap (λ (f : Facts). f.3) e) in
    let cut : lines (text_of permits a b ++ rest) ≡ bytes ∷ lines rest =
    ap (λ (t : List ℕ). lines (t ++ rest)) ends ∙ ap (λ (t : List ℕ). lines t) (append_assoc bytes (10 ∷ []) rest) ∙ lines_first bytes rest one ∙ ap (λ (l : List ℕ). l ∷ lines rest) same in
    record {
      table = line_of n permits a b ∷ more.table;
      read = ap (table_from n) cut ∙ ap (λ r. line_then r (table_from (n + 1) (lines rest))) is ∙ ap (line_then (Ok (Some (line_of n permits a b)))) more.read;
      ruled = both_ok n (effect_of TnGw (line_of n permits a b)) (book_of TnGw (filter (is_of (keyword TnGw)) more.table)) (ap (λ (f : Facts). f.4) e) more.ruled;
    }

all_read : (n : ℕ) (draws : List ℕ) → n + length draws ≤ 65536 → IsRead n (lines_text draws)
all_read n [] few = record { table = []; read = refl; ruled = refl }
all_read n (p ∷ []) few = record { table = []; read = refl; ruled = refl }
all_read n (p ∷ q ∷ []) few = record { table = []; read = refl; ruled = refl }
all_read n (p ∷ q ∷ s ∷ more) few =
    line_more n (p % 2 == 0) (q % 4) (s % 8) (lines_text more) (omega (arith, few)) (known (p % 2 == 0) (q % 4) (s % 8) (omega arith) (omega arith) n) (all_read (n + 1) more (omega (arith, few)))

-- ---- a drill

book_ok : (last : List Rule) (book : Result RuleBook RuleFault) → is_ok book ≡ true → is_ok (or_rule_fault (closed last book)) ≡ true
book_ok last (Ok book) e = refl
book_ok last (Err fault) e = absurd (cc)

tally_ok : (peers : List Peer) (rules : Result RuleBook DrillFault) → is_ok rules ≡ true → is_ok (tallied peers rules) ≡ true
tally_ok peers (Ok book) e = refl
tally_ok peers (Err fault) e = absurd (cc)

rules_ok : (text : List ℕ) → IsRead 1 text → is_ok (rules_in text) ≡ true
rules_ok text all =
    ap (λ (r : Result (List Line) TableFault). is_ok (rules_by r)) all.read ∙ book_ok (last_rules (is_smap TnGw)) (book_of TnGw (filter (is_of (keyword TnGw)) all.table)) all.ruled

pub drawn_reads : (drill : Drill) → drill.count ≤ 10000 → IsTrue (is_ok (drilled drill))
unfolding drilled
drawn_reads drill few =
    let long : length (take (3 * drill.count) (all_draws drill)) ≡ min (3 * drill.count) (length (all_draws drill)) = length-take (3 * drill.count) (all_draws drill) in
    let fits : 1 + length (take (3 * drill.count) (all_draws drill)) ≤ 65536 = omega (arith, long, min-le_left (3 * drill.count) (length (all_draws drill))) in
    tally_ok (peers_asked drill) (rules_in (table_text drill)) (rules_ok (table_text drill) (all_read 1 (take (3 * drill.count) (all_draws drill)) fits))
