-- What lines say, one after the other.
use Rattle.std.proofs.Common.{◌≡◌, ℕ, suc, ◌+◌, ◌<◌, ◌≤◌, List, [], ◌∷◌, length, get_or, drop, take, true, false, refl, sym, ap, ◌∙◌, arith, append_assoc}
use Rattle.std.specs.Prelude.{find, is_ok, Option, Some, None, Result, Ok, Err, codes}
use Rattle.std.specs.List.{position_or_len, sum_by}
use Rattle.std.specs.Option.{option_or}
use Rattle.std.specs.Result.{result_err}
use Rattle.std.proofs.lemmas.List.{drop_all, drop_more}
use Rattle.std.proofs.lemmas.List.Sums.{sum_by-cons}
use Rattle.fw_types.specs.declared.peer.Peer.{Peer}
use Rattle.host_pattern.specs.Pattern.{parsed}
use Rattle.host_pattern.specs.PatternList.{patterns_tested}
use Rattle.gate_rules.specs.declared.fault.RuleFault.{RuleFault}
use Rattle.gate_rules.specs.declared.fault.RulesFault.{RulesFault}
use Rattle.gate_rules.specs.declared.fault.RulesFault.TheVariants as faults
use Rattle.gate_rules.specs.declared.fault.Why.{Why}
use Rattle.gate_rules.specs.declared.rule.Rule.{Rule}
use Rattle.gate_rules.specs.declared.line_effect.LineEffect.{LineEffect}
use Rattle.gate_rules.specs.declared.line_effect.LineEffect.TheVariants.{Nothing, Ruled, Set}
use Rattle.gate_rules.specs.Faults.{numbered}
use Rattle.gate_rules.specs.Reading.{IsFaultIn, RuleBook, and_effect, closed, effect_then, with_book}
use Rattle.gate_rules.specs.Verdict.{decided_by, pattern_count, rule_matches, rules_steps}

-- a star is a pattern
pub star_parsed : parsed (codes "*") ≡ Ok (record { negated = false; body = codes "*" })
unfolding parsed
star_parsed = refl

-- what one line says comes before what the lines after it say
pub book_further : (some : RuleBook) (number : ℕ) (effect : LineEffect) (more : Result RuleBook RuleFault) → with_book (and_effect some effect) more ≡ with_book some (effect_then number (Ok effect) more)
book_further some number effect (Err fault) = refl
book_further some number Nothing (Ok more) = refl
book_further some number (Ruled rule) (Ok more) = let e = append_assoc some.rules (rule ∷ []) more.rules in rw e refl
book_further some number (Set assigned) (Ok more) = let e = append_assoc some.settings (assigned ∷ []) more.settings in rw e refl

-- steps

pub no_steps : (peer : Peer) → rules_steps peer [] ≡ 0
unfolding rules_steps
no_steps peer = refl

pub ends_at_match : (peer : Peer) (rule : Rule) (rules : List Rule) → rule_matches peer rule ≡ true → rules_steps peer (rule ∷ rules) ≡ patterns_tested rule.hosts peer
unfolding rules_steps
ends_at_match peer rule rules e = rw e (omega arith)

pub goes_past : (peer : Peer) (rule : Rule) (rules : List Rule) → rule_matches peer rule ≡ false → rules_steps peer (rule ∷ rules) ≡ patterns_tested rule.hosts peer + rules_steps peer rules
unfolding rules_steps
goes_past peer rule rules e =
    let n : ℕ = position_or_len (rule_matches peer) rules in
    let place : position_or_len (rule_matches peer) (rule ∷ rules) + 1 ≡ suc (n + 1) = rw e (omega arith) in
    ap (λ k. sum_by (λ (one : Rule). patterns_tested one.hosts peer) (take k (rule ∷ rules))) place
    ∙ sum_by-cons (λ (one : Rule). patterns_tested one.hosts peer) rule (take (n + 1) rules)

at_rule : (rules : List Rule) (i : ℕ) (rule : Rule) → i < length rules → rule ≡ get_or rules i rule → drop i rules ≡ rule ∷ drop (i + 1) rules
at_rule rules i rule lt e = drop_more rules i rule lt ∙ ap (λ x. x ∷ drop (i + 1) rules) (sym e)

pub steps_at_match : (peer : Peer) (rules : List Rule) (i start steps : ℕ) (rule : Rule) → i < length rules → rule ≡ get_or rules i rule → rule_matches peer rule ≡ true
    → steps + rules_steps peer (drop i rules) ≡ start + rules_steps peer rules → steps + patterns_tested rule.hosts peer ≡ start + rules_steps peer rules
steps_at_match peer rules i start steps rule lt at e done =
    let one : rules_steps peer (drop i rules) ≡ patterns_tested rule.hosts peer = rw (at_rule rules i rule lt at) (ends_at_match peer rule (drop (i + 1) rules) e) in
    omega arith

pub steps_past : (peer : Peer) (rules : List Rule) (i start steps : ℕ) (rule : Rule) → i < length rules → rule ≡ get_or rules i rule → rule_matches peer rule ≡ false
    → steps + rules_steps peer (drop i rules) ≡ start + rules_steps peer rules → (steps + patterns_tested rule.hosts peer) + rules_steps peer (drop (i + 1) rules) ≡ start + rules_steps peer rules
steps_past peer rules i start steps rule lt at e done =
    let one : rules_steps peer (drop i rules) ≡ patterns_tested rule.hosts peer + rules_steps peer (drop (i + 1) rules) = rw (at_rule rules i rule lt at) (goes_past peer rule (drop (i + 1) rules) e) in
    omega arith

pub steps_at_end : (peer : Peer) (rules : List Rule) (i start steps : ℕ) → length rules ≤ i → steps + rules_steps peer (drop i rules) ≡ start + rules_steps peer rules → steps ≡ start + rules_steps peer rules
steps_at_end peer rules i start steps le done =
    let none : rules_steps peer (drop i rules) ≡ 0 = rw (drop_all i rules le) (no_steps peer) in
    omega arith

pub decided_past : (peer : Peer) (rules : List Rule) (i : ℕ) (rule : Rule) → i < length rules → rule ≡ get_or rules i rule → rule_matches peer rule ≡ false
    → decided_by (find (rule_matches peer) (drop i rules)) ≡ decided_by (find (rule_matches peer) rules) → decided_by (find (rule_matches peer) (drop (i + 1) rules)) ≡ decided_by (find (rule_matches peer) rules)
decided_past peer rules i rule lt at e done =
    let here : find (rule_matches peer) (drop i rules) ≡ find (rule_matches peer) (drop (i + 1) rules) = rw (at_rule rules i rule lt at, e) refl in
    sym (ap decided_by here) ∙ done

pub count_past : (rules : List Rule) (i start steps next : ℕ) (rule : Rule) → i < length rules → rule ≡ get_or rules i rule → next ≤ steps + length rule.hosts
    → steps + pattern_count (drop i rules) ≤ start + pattern_count rules → next + pattern_count (drop (i + 1) rules) ≤ start + pattern_count rules
count_past rules i start steps next rule lt at few done =
    let here : pattern_count (drop i rules) ≡ length rule.hosts + pattern_count (drop (i + 1) rules) = rw (at_rule rules i rule lt at) refl in
    omega arith

-- faults that were looked for

pub closed_fault : (last : List Rule) (book : Result RuleBook RuleFault) (fault : RuleFault) → Some fault ≡ result_err book → closed last book ≡ Err fault
closed_fault last (Ok book) fault e = absurd (cc)
closed_fault last (Err other) fault e = cc

pub closed_ok : (last : List Rule) (book : Result RuleBook RuleFault) → None ≡ result_err book → is_ok (closed last book) ≡ true
closed_ok last (Ok book) e = refl
closed_ok last (Err other) e = absurd (cc)

pub closed_too : (last : List Rule) (book : Result RuleBook RuleFault) (e : RulesFault) → IsFaultIn book e → IsFaultIn (closed last book) e
closed_too last book (faults.Rule fault) h = rw h refl
closed_too last book faults.NoMemory h = tt

-- the fault of a line comes before those of the lines after it
pub first_of_faults : (number : ℕ) (effect : Result LineEffect Why) (more : Result RuleBook RuleFault) → option_or (numbered number (result_err effect)) (result_err more) ≡ result_err (effect_then number effect more)
first_of_faults number (Err why) more = refl
first_of_faults number (Ok effect) (Err fault) = refl
first_of_faults number (Ok effect) (Ok book) = refl

pub or_nothing : {X : Type 0} (o : Option X) → option_or None o ≡ o
or_nothing None = refl
or_nothing (Some x) = refl
