-- A bucket with one rule.
use Rattle.std.proofs.Common.{◌≡◌, ℕ, ◌+◌, ◌≤◌, Bool, true, false, ◌||◌, List, [], ◌∷◌, ◌++◌, length, refl, sym, ap, ◌∙◌, arith}
use Rattle.std.specs.Prelude.{IsTrue, filter, slice_index, Some}
use Rattle.std.specs.List.{list_any}
use Rattle.std.proofs.lemmas.List.Elements.{filter-append}
use Rattle.fw_types.specs.declared.peer.Peer.{Peer}
use Rattle.host_pattern.specs.PatternList.{patterns_tested}
use Rattle.host_pattern.proofs.ListLemmas.{tested_few}
use Rattle.gate_rules.specs.Bucket.{bucket, stands_in}
use Rattle.gate_rules.specs.Reading.{RuleBook}
use Rattle.gate_rules.specs.Verdict.{rule_matches, rules_steps, verdict_steps}
use Rattle.gate_rules.specs.declared.rule.Rule.{Rule}
use Rattle.gate_rules.specs.declared.setting.Assigned.{Assigned}
use Rattle.gate_rules.proofs.BucketLemmas.{same_bucket}
use Rattle.gate_rules.proofs.RulesLemmas.{ends_at_match, goes_past, no_steps}

none_kept : (p : Rule → Bool) (rules : List Rule) → list_any p rules ≡ false → filter p rules ≡ []
none_kept p [] e = refl
none_kept p (rule ∷ rules) e = by (p rule) refl e (none_kept p rules)
  where
    by : (v : Bool) → p rule ≡ v → (v || list_any p rules) ≡ false → (list_any p rules ≡ false → filter p rules ≡ []) → filter p (rule ∷ rules) ≡ []
    by true h e more = absurd (cc)
    by false h e more = rw h (more e)

one_kept : (p : Rule → Bool) (rule : Rule) (rules : List Rule) → p rule ≡ true → list_any p rules ≡ false → filter p (rule ∷ rules) ≡ rule ∷ []
one_kept p rule rules is none = let rest : filter p rules ≡ [] = none_kept p rules none in rw (is, rest) refl

lone : (p : Rule → Bool) (before : List Rule) (rule : Rule) (after : List Rule) → list_any p before ≡ false → p rule ≡ true → list_any p after ≡ false → filter p (before ++ rule ∷ after) ≡ rule ∷ []
lone p before rule after none is others =
    let first : filter p before ≡ [] = none_kept p before none in
    let last : filter p (rule ∷ after) ≡ rule ∷ [] = one_kept p rule after is others in
    filter-append p before (rule ∷ after) ∙ ap (λ (rs : List Rule). rs ++ filter p (rule ∷ after)) first ∙ last

pub alone : (before : List Rule) (rule : Rule) (after : List Rule) (peer : Peer) (addr : List ℕ) → peer.addr ≡ Some addr → list_any (stands_in (slice_index addr 0)) before ≡ false
    → IsTrue (stands_in (slice_index addr 0) rule) → list_any (stands_in (slice_index addr 0)) after ≡ false → bucket peer (before ++ rule ∷ after) ≡ rule ∷ []
alone before rule after peer addr at none is others =
    sym (same_bucket peer (before ++ rule ∷ after) addr (slice_index addr 0) at refl) ∙ lone (stands_in (slice_index addr 0)) before rule after none is others

one_rule : (peer : Peer) (rule : Rule) → rules_steps peer (rule ∷ []) ≤ length rule.hosts
one_rule peer rule = by (rule_matches peer rule) refl
  where
    few : patterns_tested rule.hosts peer ≤ length rule.hosts
    few = tested_few rule.hosts peer

    by : (v : Bool) → rule_matches peer rule ≡ v → rules_steps peer (rule ∷ []) ≤ length rule.hosts
    by true e = let steps : rules_steps peer (rule ∷ []) ≡ patterns_tested rule.hosts peer = ends_at_match peer rule [] e in omega (arith, steps, few)
    by false e =
        let steps : rules_steps peer (rule ∷ []) ≡ patterns_tested rule.hosts peer + rules_steps peer [] = goes_past peer rule [] e in
        let none : rules_steps peer [] ≡ 0 = no_steps peer in
        omega (arith, steps, none, few)

at_most : (peer : Peer) (rules : List Rule) (rule : Rule) → rules ≡ rule ∷ [] → rules_steps peer rules ≤ length rule.hosts
at_most peer rules rule e = rw e (one_rule peer rule)

pub steps : (before : List Rule) (rule : Rule) (after : List Rule) (settings : List Assigned) (peer : Peer) (addr : List ℕ) → peer.addr ≡ Some addr → list_any (stands_in (slice_index addr 0)) before ≡ false
    → IsTrue (stands_in (slice_index addr 0) rule) → list_any (stands_in (slice_index addr 0)) after ≡ false
    → verdict_steps (record { rules = before ++ rule ∷ after; settings = settings }) peer ≤ length rule.hosts
steps before rule after settings peer addr at none is others =
    at_most peer (bucket peer (before ++ rule ∷ after)) rule (alone before rule after peer addr at none is others)
