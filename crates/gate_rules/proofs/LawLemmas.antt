-- Laws of the definitions.
use Rattle.std.proofs.Common.{◌≡◌, ℕ, suc, ◌+◌, ◌-◌, ◌<◌, Bool, true, false, ◌&&◌, List, [], ◌∷◌, ◌++◌, length, drop, take, refl, sym, ◌∙◌, ap, arith}
use Rattle.std.specs.Prelude.{IsTrue, cond, filter, find, is_ok, nat_lt, ◌==◌, Option, Some, None, Result, Ok, Err}
use Rattle.std.specs.List.{list_all}
use Rattle.std.proofs.lemmas.Bool.Decides.{nat_tests}
use Rattle.std.proofs.lemmas.List.{length-append, take-append-le, take_all}
use Rattle.std.proofs.lemmas.List.Elements.{filter-append}
use Rattle.std.proofs.lemmas.List.Folds.{list_all-append}
use Rattle.std.proofs.Math.Seq.{take-append-add}
use Rattle.fw_types.specs.declared.peer.Peer.{Peer}
use Rattle.host_pattern.specs.declared.word.Word.{Word}
use Rattle.netperm_table.specs.declared.line.Line.{Line}
use Rattle.gate_rules.specs.declared.fault.RuleFault.{RuleFault}
use Rattle.gate_rules.specs.declared.fault.Why.{Why}
use Rattle.gate_rules.specs.declared.fault.Why.TheVariants.{BadPattern, TooMany}
use Rattle.gate_rules.specs.declared.parsed_option.ParsedOption.{ParsedOption}
use Rattle.gate_rules.specs.declared.rule.Rule.{Rule}
use Rattle.gate_rules.specs.declared.line_effect.LineEffect.{LineEffect}
use Rattle.gate_rules.specs.declared.service.Service.{Service}
use Rattle.gate_rules.specs.declared.setting.Assigned.{Assigned}
use Rattle.gate_rules.specs.Lists.{is_pattern, mapped, patterns_of}
use Rattle.gate_rules.specs.Options.{option_then, options_after, option_at, width_at}
use Rattle.gate_rules.specs.Reading.{RuleBook, book_of, closed, is_of, last_rules, rules_of, effect_of, effect_then}
use Rattle.gate_rules.specs.Service.{is_smap, keyword}
use Rattle.gate_rules.specs.Verdict.{decided_by, rule_matches, verdict_of}
use Rattle.gate_rules.proofs.OptionsBuilderLemmas.{after_drop, begins}

-- lines

kept : {X : Type 0} (p : X → Bool) (x : X) (xs : List X) → p x ≡ true → filter p (x ∷ xs) ≡ x ∷ filter p xs
kept p x xs e = rw e refl

left_out : {X : Type 0} (p : X → Bool) (x : X) (xs : List X) → p x ≡ false → filter p (x ∷ xs) ≡ filter p xs
left_out p x xs e = rw e refl

pub other_lines : (service : Service) (before : List Line) (line : Line) (after : List Line) → is_of (keyword service) line ≡ false → rules_of service (before ++ line ∷ after) ≡ rules_of service (before ++ after)
other_lines service before line after e =
    let p : Line → Bool = is_of (keyword service) in
    let same : filter p (before ++ line ∷ after) ≡ filter p (before ++ after) =
    filter-append p before (line ∷ after) ∙ ap (λ xs. filter p before ++ xs) (left_out p line after e) ∙ sym (filter-append p before after) in
    ap (λ lines. closed (last_rules (is_smap service)) (book_of service lines)) same

good_so_far : (number : ℕ) (effect : Result LineEffect Why) (book : Result RuleBook RuleFault) (fault : RuleFault) → is_ok (effect_then number effect book) ≡ true → (effect_then number effect (Err fault) ≡ Err fault) × (is_ok book ≡ true)
good_so_far number (Err why) book fault h = absurd (cc)
good_so_far number (Ok effect) (Err other) fault h = absurd (cc)
good_so_far number (Ok effect) (Ok book) fault h = (refl, refl)

then_fault : (service : Service) (before more : List Line) (fault : RuleFault) → is_ok (book_of service before) ≡ true → book_of service more ≡ Err fault → book_of service (before ++ more) ≡ Err fault
then_fault service [] more fault h e = e
then_fault service (line ∷ before) more fault h e =
    let p = good_so_far line.number (effect_of service line) (book_of service before) fault h in
    ap (effect_then line.number (effect_of service line)) (then_fault service before more fault p.1 e) ∙ p.0

open_book : (last : List Rule) (book : Result RuleBook RuleFault) → is_ok (closed last book) ≡ true → is_ok book ≡ true
open_book last (Ok book) h = refl
open_book last (Err fault) h = h

pub first_bad_line : (service : Service) (before : List Line) (line : Line) (after : List Line) (why : Why)
    → IsTrue (is_ok (rules_of service before)) → IsTrue (is_of (keyword service) line) → effect_of service line ≡ Err why
    → rules_of service (before ++ line ∷ after) ≡ Err (record { line = line.number; why = why })
first_bad_line service before line after why good ours bad =
    let p : Line → Bool = is_of (keyword service) in
    let last : List Rule = last_rules (is_smap service) in
    let fault : RuleFault = record { line = line.number; why = why } in
    let here : book_of service (line ∷ filter p after) ≡ Err fault = ap (λ effect. effect_then line.number effect (book_of service (filter p after))) bad in
    let so_far : is_ok (book_of service (filter p before)) ≡ true = open_book last (book_of service (filter p before)) good in
    let same : filter p (before ++ line ∷ after) ≡ filter p before ++ line ∷ filter p after =
    filter-append p before (line ∷ after) ∙ ap (λ xs. filter p before ++ xs) (kept p line after ours) in
    ap (λ lines. closed last (book_of service lines)) same ∙ ap (closed last) (then_fault service (filter p before) (line ∷ filter p after) fault so_far here)

-- patterns

pub sixty_fifth : (words : List Word) (word : Word) (more : List Word) → length words ≡ 64 → IsTrue (list_all is_pattern words) → patterns_of (words ++ word ∷ more) ≡ Err TooMany
unfolding patterns_of
sixty_fifth words word more len all =
    let long : length (words ++ word ∷ more) ≡ length words + length (word ∷ more) = length-append words (word ∷ more) in
    let some : (length (words ++ word ∷ more) == 0) ≡ false = grind (arith, nat_tests) in
    let firsts : take 64 (words ++ word ∷ more) ≡ words = take-append-le 64 words (word ∷ more) (omega arith) ∙ take_all 64 words (omega arith) in
    let every : list_all is_pattern (take 64 (words ++ word ∷ more)) ≡ true = ap (list_all is_pattern) firsts ∙ all in
    let over : nat_lt 64 (length (words ++ word ∷ more)) ≡ true = grind (arith, nat_tests) in
    rw (some, every, over) refl

and_false : (a b : Bool) → b ≡ false → (a && b) ≡ false
and_false true b e = e
and_false false b e = refl

one_false : {X : Type 0} (p : X → Bool) (xs : List X) (x : X) (ys : List X) → p x ≡ false → list_all p (xs ++ x ∷ ys) ≡ false
one_false p xs x ys e = list_all-append p xs (x ∷ ys) ∙ and_false (list_all p xs) (list_all p (x ∷ ys)) (rw e refl)

pub earlier_bad : (words : List Word) (word : Word) (more : List Word) → length words < 64 → is_pattern word ≡ false → patterns_of (words ++ word ∷ more) ≡ Err BadPattern
unfolding patterns_of
earlier_bad words word more few bad =
    let long : length (words ++ word ∷ more) ≡ length words + length (word ∷ more) = length-append words (word ∷ more) in
    let some : (length (words ++ word ∷ more) == 0) ≡ false = grind (arith, nat_tests) in
    let rest : ℕ = 63 - length words in
    let all : length words + suc rest ≡ 64 = omega arith in
    let firsts : take 64 (words ++ word ∷ more) ≡ words ++ word ∷ take rest more =
    ap (λ n. take n (words ++ word ∷ more)) (sym all) ∙ take-append-add words (word ∷ more) (suc rest) in
    let one : list_all is_pattern (take 64 (words ++ word ∷ more)) ≡ false = ap (list_all is_pattern) firsts ∙ one_false is_pattern words word (take rest more) bad in
    rw (some, one) refl

-- options

pub follow : (service : Service) (word : Word) (words : List Word) (option : ParsedOption) → option_at service word words ≡ Ok option
    → options_after service 0 (word ∷ words) ≡ mapped (λ more. option ∷ more) (options_after service 0 (drop (width_at service word words) words))
follow service word words option e =
    begins service word words ∙ ap (λ r. option_then r (options_after service (width_at service word words) words)) e
    ∙ ap (mapped (λ more. option ∷ more)) (after_drop service (width_at service word words) words)

-- verdicts

past : {X : Type 0} (b : Bool) (y x : X) (before all : Option X) → cond b (Some y) before ≡ None → (before ≡ None → all ≡ Some x) → cond b (Some y) all ≡ Some x
past true y x before all h later = absurd (cc)
past false y x before all h later = later h

found : {X : Type 0} (p : X → Bool) (before : List X) (x : X) (after : List X) → find p before ≡ None → p x ≡ true → find p (before ++ x ∷ after) ≡ Some x
found p [] x after h e = rw e refl
found p (y ∷ before) x after h e = past (p y) y x (find p before) (find p (before ++ x ∷ after)) h (λ none. found p before x after none e)

pub first_match : (before : List Rule) (rule : Rule) (after : List Rule) (settings : List Assigned) (peer : Peer)
    → find (rule_matches peer) before ≡ None → IsTrue (rule_matches peer rule)
    → verdict_of (record { rules = before ++ rule ∷ after; settings = settings }) peer ≡ decided_by (Some rule)
unfolding verdict_of
first_match before rule after settings peer none here = ap decided_by (found (rule_matches peer) before rule after none here)
