-- The rules of a bucket, one after the other.
use Rattle.std.proofs.Common.{◌≡◌, ℕ, suc, ◌+◌, ◌<◌, ◌≤◌, Bool, true, false, ◌&&◌, ◌||◌, not, List, [], ◌∷◌, length, get_or, drop, refl, sym, ◌∙◌, ap, arith, inl, inr}
use Rattle.std.specs.Prelude.{filter, find, ◌==◌, Some}
use Rattle.std.specs.List.{list_any}
use Rattle.std.proofs.lemmas.List.{drop-drop, get_or-drop, length-drop}
use Rattle.fw_types.specs.declared.peer.Peer.{Peer}
use Rattle.host_pattern.specs.declared.bucket.Bucket.{Bucket}
use Rattle.host_pattern.specs.declared.bucket.Bucket.TheVariants.{Octet, Every}
use Rattle.host_pattern.specs.Bucket.{buckets, is_every, is_octet, reaches}
use Rattle.host_pattern.specs.PatternList.{patterns_tested}
use Rattle.gate_rules.specs.declared.rule.Rule.{Rule}
use Rattle.gate_rules.specs.declared.verdict.Verdict.TheVariants.{Deny}
use Rattle.gate_rules.specs.Bucket.{stands_in}
use Rattle.gate_rules.specs.Index.{IsAtMost, IsIndex, IsNext, is_everywhere, is_own, places}
use Rattle.gate_rules.specs.Verdict.{decided_by, pattern_count, rule_matches, rules_steps}
use Rattle.gate_rules.proofs.RulesLemmas.{ends_at_match, goes_past, no_steps}

-- the least place of two lists of places

least_place : (n : ℕ) (p : Rule → Bool) (rules : List Rule) (at : ℕ) (ps : List ℕ) → places n p rules ≡ at ∷ ps → n ≤ at
least_place n p [] at ps h = absurd (cc)
least_place n p (r ∷ rules) at ps h = by (p r) refl (least_place (n + 1) p rules at ps)
  where
    by : (v : Bool) → p r ≡ v → (places (n + 1) p rules ≡ at ∷ ps → n + 1 ≤ at) → n ≤ at
    by true is more = let e : n ≡ at = (let h = rw is at h in cc) in omega arith
    by false is more = let late = more (rw is at h) in omega arith

record Found (b p q : Rule → Bool) (n : ℕ) (rules : List Rule) (at : ℕ) (ps qs : List ℕ) : Type 0 where
  further : ℕ
  place : at ≡ n + further
  within : further < length rules
  rest : (d : Rule) → filter b rules ≡ get_or rules further d ∷ filter b (drop (suc further) rules)
  firsts : ps ≡ places (at + 1) p (drop (suc further) rules)
  others : qs ≡ places (at + 1) q (drop (suc further) rules)

too_late : (n at : ℕ) (more qs : List ℕ) → n ∷ more ≡ qs → IsAtMost at qs → n + 1 ≤ at → ⊥
too_late n at more [] e least late = cc
too_late n at more (x ∷ qs) e least late = let same : n ≡ x = cc in omega arith

found : (b p q : Rule → Bool) → ((r : Rule) → b r ≡ (p r || q r)) → ((r : Rule) → p r ≡ true → q r ≡ false) → (n : ℕ) (rules : List Rule) (at : ℕ) (ps qs : List ℕ)
    → places n p rules ≡ at ∷ ps → places n q rules ≡ qs → IsAtMost at qs → Found b p q n rules at ps qs
found b p q both apart n [] at ps qs hp hq least = absurd (cc)
found b p q both apart n (x ∷ rules) at ps qs hp hq least = by (p x) (q x) refl refl (λ hp hq. found b p q both apart (n + 1) rules at ps qs hp hq least)
  where
    by : (u v : Bool) → p x ≡ u → q x ≡ v → (places (n + 1) p rules ≡ at ∷ ps → places (n + 1) q rules ≡ qs → Found b p q (n + 1) rules at ps qs) → Found b p q n (x ∷ rules) at ps qs
    by true v e f go =
        let first = rw e at hp in
        let same : n ≡ at = cc in
        let left : places (n + 1) p rules ≡ ps = cc in
        let no : q x ≡ false = apart x e in
        let other : places (n + 1) q rules ≡ qs = rw no at hq in
        record {
          further = 0;
          place = omega arith;
          within = omega arith;
          rest = λ d. rw (both x, e) refl;
          firsts = sym left ∙ ap (λ m. places (m + 1) p rules) same;
          others = sym other ∙ ap (λ m. places (m + 1) q rules) same;
        }
    by false true e f go = absurd (too_late n at (places (n + 1) q rules) qs (rw f at hq) least (least_place (n + 1) p rules at ps (rw e at hp)))
    by false false e f go =
        let more = go (rw e at hp) (rw f at hq) in
        record {
          further = suc more.further;
          place = omega (arith, more.place);
          within = omega (arith, more.within);
          rest = λ d. rw (both x, e, f) (more.rest d);
          firsts = more.firsts;
          others = more.others;
        }

none_left : (b p q : Rule → Bool) → ((r : Rule) → b r ≡ (p r || q r)) → (n : ℕ) (rules : List Rule) → places n p rules ≡ [] → places n q rules ≡ [] → filter b rules ≡ []
none_left b p q both n [] hp hq = refl
none_left b p q both n (x ∷ rules) hp hq = by (p x) (q x) refl refl (none_left b p q both (n + 1) rules)
  where
    by : (u v : Bool) → p x ≡ u → q x ≡ v → (places (n + 1) p rules ≡ [] → places (n + 1) q rules ≡ [] → filter b rules ≡ []) → filter b (x ∷ rules) ≡ []
    by true v e f go = absurd (let h = rw e at hp in (cc))
    by false true e f go = absurd (let h = rw f at hq in (cc))
    by false false e f go = rw (both x, e, f) (go (rw e at hp) (rw f at hq))

-- a rule of a bucket stands in every bucket or in the octet's own, and not in both

or_shuffle : (a e o : Bool) → (a || (e || o)) ≡ (e || (a || o))
or_shuffle true true o = refl
or_shuffle true false o = refl
or_shuffle false e o = refl

reached : (octet : ℕ) (bs : List Bucket) → list_any (reaches octet) bs ≡ (list_any is_every bs || list_any (is_octet octet) bs)
reached octet [] = refl
reached octet (Every ∷ bs) = refl
reached octet (Octet other ∷ bs) = ap (λ v. (other == octet) || v) (reached octet bs) ∙ or_shuffle (other == octet) (list_any is_every bs) (list_any (is_octet octet) bs)

or_else : (a c : Bool) → (a || c) ≡ (a || (not a && c))
or_else true c = refl
or_else false c = refl

or_turned : (a c : Bool) → (a || c) ≡ (c || a)
or_turned true true = refl
or_turned true false = refl
or_turned false true = refl
or_turned false false = refl

stands : (octet : ℕ) (rule : Rule) → stands_in octet rule ≡ (is_everywhere rule || is_own octet rule)
stands octet rule = reached octet (buckets rule.hosts) ∙ or_else (is_everywhere rule) (list_any (is_octet octet) (buckets rule.hosts))

not_own : (octet : ℕ) (rule : Rule) → is_everywhere rule ≡ true → is_own octet rule ≡ false
not_own octet rule h = rw h refl

not_everywhere : (octet : ℕ) (rule : Rule) → is_own octet rule ≡ true → is_everywhere rule ≡ false
not_everywhere octet rule h = by (is_everywhere rule) refl
  where
    by : (v : Bool) → is_everywhere rule ≡ v → is_everywhere rule ≡ false
    by false e = e
    by true e = absurd (let h = rw e at h in (cc))

-- The walk: the rules from a place on are left, the lists say where those of the bucket stand among them.

pub record IsWalked (octet : ℕ) (peer : Peer) (rules : List Rule) (every own : List ℕ) (start steps : ℕ) : Type 0 where
  pub from : ℕ
  pub all : every ≡ places from is_everywhere (drop from rules)
  pub mine : own ≡ places from (is_own octet) (drop from rules)
  pub answer : decided_by (find (rule_matches peer) (filter (stands_in octet) (drop from rules))) ≡ decided_by (find (rule_matches peer) (filter (stands_in octet) rules))
  pub count : steps + rules_steps peer (filter (stands_in octet) (drop from rules)) ≡ start + rules_steps peer (filter (stands_in octet) rules)
  pub bound : steps + pattern_count (filter (stands_in octet) (drop from rules)) ≤ start + pattern_count (filter (stands_in octet) rules)

pub walk_starts : (octet : ℕ) (peer : Peer) (rules : List Rule) (every : List ℕ) (own : List (List ℕ)) (mine : List ℕ) (steps : ℕ) → octet < 256 → IsIndex rules every own → mine ≡ get_or own octet []
    → IsWalked octet peer rules every mine steps steps
walk_starts octet peer rules every own mine steps small index is = record {
  from = 0;
  all = index.all;
  mine = is ∙ index.each octet small;
  answer = refl;
  count = refl;
  bound = omega arith;
}

record Ahead (octet : ℕ) (rules : List Rule) (from at : ℕ) (later others : List ℕ) : Type 0 where
  within : at < length rules
  rest : (d : Rule) → filter (stands_in octet) (drop from rules) ≡ get_or rules at d ∷ filter (stands_in octet) (drop (at + 1) rules)
  every : later ≡ places (at + 1) is_everywhere (drop (at + 1) rules)
  own : others ≡ places (at + 1) (is_own octet) (drop (at + 1) rules)

record Lands (b p q : Rule → Bool) (rules : List Rule) (from at : ℕ) (ps qs : List ℕ) : Type 0 where
  within : at < length rules
  rest : (d : Rule) → filter b (drop from rules) ≡ get_or rules at d ∷ filter b (drop (at + 1) rules)
  firsts : ps ≡ places (at + 1) p (drop (at + 1) rules)
  others : qs ≡ places (at + 1) q (drop (at + 1) rules)

lands : (b p q : Rule → Bool) (rules : List Rule) (from at : ℕ) (ps qs : List ℕ) → Found b p q from (drop from rules) at ps qs → Lands b p q rules from at ps qs
lands b p q rules from at ps qs it =
    let place : at ≡ from + it.further = it.place in
    let on : drop (suc it.further) (drop from rules) ≡ drop (at + 1) rules = drop-drop (suc it.further) from rules ∙ ap (λ n. drop n rules) (let e : from + suc it.further ≡ at + 1 = omega arith in e) in
    record {
      within = omega (arith, it.within, length-drop from rules);
      rest = λ d. it.rest d ∙ ap (λ r. r ∷ filter b (drop (suc it.further) (drop from rules))) (get_or-drop from rules it.further d ∙ ap (λ n. get_or rules n d) (sym place)) ∙ ap (λ rs. get_or rules at d ∷ filter b rs) on;
      firsts = it.firsts ∙ ap (places (at + 1) p) on;
      others = it.others ∙ ap (places (at + 1) q) on;
    }

ahead : (octet : ℕ) (rules : List Rule) (from : ℕ) (every own : List ℕ) (at : ℕ) (later others : List ℕ) → every ≡ places from is_everywhere (drop from rules) → own ≡ places from (is_own octet) (drop from rules)
    → IsNext every own at later others → Ahead octet rules from at later others
ahead octet rules from every own at later others he ho (inl first) =
    let it = lands (stands_in octet) is_everywhere (is_own octet) rules from at later own
    (found (stands_in octet) is_everywhere (is_own octet) (stands octet) (not_own octet) from (drop from rules) at later own (sym he ∙ first.is) (sym ho) first.least) in
    record { within = it.within; rest = it.rest; every = it.firsts; own = sym first.same ∙ it.others }
ahead octet rules from every own at later others he ho (inr first) =
    let both : (r : Rule) → stands_in octet r ≡ (is_own octet r || is_everywhere r) = λ r. stands octet r ∙ or_turned (is_everywhere r) (is_own octet r) in
    let it = lands (stands_in octet) (is_own octet) is_everywhere rules from at others every
    (found (stands_in octet) (is_own octet) is_everywhere both (not_everywhere octet) from (drop from rules) at others every (sym ho ∙ first.is) (sym he) first.least) in
    record { within = it.within; rest = it.rest; every = sym first.same ∙ it.others; own = it.firsts }

-- the place of the next rule is a rule's
pub next_within : (octet : ℕ) (peer : Peer) (rules : List Rule) (every own : List ℕ) (start steps at : ℕ) (later others : List ℕ) → IsWalked octet peer rules every own start steps → IsNext every own at later others → at < length rules
next_within octet peer rules every own start steps at later others walked next =
    (ahead octet rules walked.from every own at later others walked.all walked.mine next).within

-- what the bucket has from there on, where that rule stands first
record Here (octet : ℕ) (rules : List Rule) (from at : ℕ) (rule : Rule) (later others : List ℕ) : Type 0 where
  rest : filter (stands_in octet) (drop from rules) ≡ rule ∷ filter (stands_in octet) (drop (at + 1) rules)
  every : later ≡ places (at + 1) is_everywhere (drop (at + 1) rules)
  own : others ≡ places (at + 1) (is_own octet) (drop (at + 1) rules)

here : (octet : ℕ) (peer : Peer) (rules : List Rule) (every own : List ℕ) (start steps at : ℕ) (later others : List ℕ) (rule : Rule) → (walked : IsWalked octet peer rules every own start steps) → IsNext every own at later others
    → rule ≡ get_or rules at rule → Here octet rules walked.from at rule later others
here octet peer rules every own start steps at later others rule walked next is =
    let it = ahead octet rules walked.from every own at later others walked.all walked.mine next in
    record {
      rest = it.rest rule ∙ ap (λ r. r ∷ filter (stands_in octet) (drop (at + 1) rules)) (sym is);
      every = it.every;
      own = it.own;
    }

found_first : (peer : Peer) (rule : Rule) (rules : List Rule) → rule_matches peer rule ≡ true → find (rule_matches peer) (rule ∷ rules) ≡ Some rule
found_first peer rule rules e = rw e refl

found_past : (peer : Peer) (rule : Rule) (rules : List Rule) → rule_matches peer rule ≡ false → find (rule_matches peer) (rule ∷ rules) ≡ find (rule_matches peer) rules
found_past peer rule rules e = rw e refl

pub match_answers : (octet : ℕ) (peer : Peer) (rules : List Rule) (every own : List ℕ) (start steps at : ℕ) (later others : List ℕ) (rule : Rule) → IsWalked octet peer rules every own start steps → IsNext every own at later others
    → rule ≡ get_or rules at rule → rule_matches peer rule ≡ true → decided_by (Some rule) ≡ decided_by (find (rule_matches peer) (filter (stands_in octet) rules))
match_answers octet peer rules every own start steps at later others rule walked next is e =
    let it = here octet peer rules every own start steps at later others rule walked next is in
    let first = ap (find (rule_matches peer)) it.rest ∙ found_first peer rule (filter (stands_in octet) (drop (at + 1) rules)) e in
    ap decided_by (sym first) ∙ walked.answer

pub match_steps : (octet : ℕ) (peer : Peer) (rules : List Rule) (every own : List ℕ) (start steps at : ℕ) (later others : List ℕ) (rule : Rule) → IsWalked octet peer rules every own start steps → IsNext every own at later others
    → rule ≡ get_or rules at rule → rule_matches peer rule ≡ true → steps + patterns_tested rule.hosts peer ≡ start + rules_steps peer (filter (stands_in octet) rules)
match_steps octet peer rules every own start steps at later others rule walked next is e =
    let it = here octet peer rules every own start steps at later others rule walked next is in
    let one : rules_steps peer (filter (stands_in octet) (drop walked.from rules)) ≡ patterns_tested rule.hosts peer =
    ap (rules_steps peer) it.rest ∙ ends_at_match peer rule (filter (stands_in octet) (drop (at + 1) rules)) e in
    let done = walked.count in
    omega arith

pub match_bound : (octet : ℕ) (peer : Peer) (rules : List Rule) (every own : List ℕ) (start steps at : ℕ) (later others : List ℕ) (rule : Rule) (new : ℕ) → IsWalked octet peer rules every own start steps → IsNext every own at later others
    → rule ≡ get_or rules at rule → new ≤ steps + length rule.hosts → new ≤ start + pattern_count (filter (stands_in octet) rules)
match_bound octet peer rules every own start steps at later others rule new walked next is few =
    let it = here octet peer rules every own start steps at later others rule walked next is in
    let count : pattern_count (filter (stands_in octet) (drop walked.from rules)) ≡ length rule.hosts + pattern_count (filter (stands_in octet) (drop (at + 1) rules)) = ap pattern_count it.rest in
    let done = walked.bound in
    omega arith

pub walked_past : (octet : ℕ) (peer : Peer) (rules : List Rule) (every own : List ℕ) (start steps at : ℕ) (later others : List ℕ) (rule : Rule) (new : ℕ) → IsWalked octet peer rules every own start steps → IsNext every own at later others
    → rule ≡ get_or rules at rule → rule_matches peer rule ≡ false → new ≡ steps + patterns_tested rule.hosts peer → new ≤ steps + length rule.hosts → IsWalked octet peer rules later others start new
walked_past octet peer rules every own start steps at later others rule new walked next is e counted few =
    let it = here octet peer rules every own start steps at later others rule walked next is in
    let left : List Rule = filter (stands_in octet) (drop (at + 1) rules) in
    let count : pattern_count (filter (stands_in octet) (drop walked.from rules)) ≡ length rule.hosts + pattern_count left = ap pattern_count it.rest in
    let one : rules_steps peer (filter (stands_in octet) (drop walked.from rules)) ≡ patterns_tested rule.hosts peer + rules_steps peer left =
    ap (rules_steps peer) it.rest ∙ goes_past peer rule left e in
    let before = walked.count in
    let least = walked.bound in
    record {
      from = at + 1;
      all = it.every;
      mine = it.own;
      answer = sym (ap decided_by (ap (find (rule_matches peer)) it.rest ∙ found_past peer rule left e)) ∙ walked.answer;
      count = omega arith;
      bound = omega arith;
    }

ended : (octet : ℕ) (peer : Peer) (rules : List Rule) (every own : List ℕ) (start steps : ℕ) → (walked : IsWalked octet peer rules every own start steps) → every ≡ [] → own ≡ [] → filter (stands_in octet) (drop walked.from rules) ≡ []
ended octet peer rules every own start steps walked e o =
    none_left (stands_in octet) is_everywhere (is_own octet) (stands octet) walked.from (drop walked.from rules) (sym walked.all ∙ e) (sym walked.mine ∙ o)

pub end_answers : (octet : ℕ) (peer : Peer) (rules : List Rule) (every own : List ℕ) (start steps : ℕ) → IsWalked octet peer rules every own start steps → every ≡ [] → own ≡ []
    → Deny 0 ≡ decided_by (find (rule_matches peer) (filter (stands_in octet) rules))
end_answers octet peer rules every own start steps walked e o =
    let none = ended octet peer rules every own start steps walked e o in
    sym (ap (λ rs. decided_by (find (rule_matches peer) rs)) none) ∙ walked.answer

pub end_steps : (octet : ℕ) (peer : Peer) (rules : List Rule) (every own : List ℕ) (start steps : ℕ) → IsWalked octet peer rules every own start steps → every ≡ [] → own ≡ []
    → steps ≡ start + rules_steps peer (filter (stands_in octet) rules)
end_steps octet peer rules every own start steps walked e o =
    let none = ended octet peer rules every own start steps walked e o in
    let zero_left : rules_steps peer (filter (stands_in octet) (drop walked.from rules)) ≡ 0 = ap (rules_steps peer) none ∙ no_steps peer in
    let done = walked.count in
    omega arith

pub end_bound : (octet : ℕ) (peer : Peer) (rules : List Rule) (every own : List ℕ) (start steps : ℕ) → IsWalked octet peer rules every own start steps → steps ≤ start + pattern_count (filter (stands_in octet) rules)
end_bound octet peer rules every own start steps walked = let done = walked.bound in omega arith

-- fewer places are left
pub fewer_left : (every own : List ℕ) (at : ℕ) (later others : List ℕ) → IsNext every own at later others → length later + length others < length every + length own
fewer_left every own at later others (inl first) =
    let e : length every ≡ suc (length later) = ap length first.is in
    let o : length own ≡ length others = ap length first.same in
    omega arith
fewer_left every own at later others (inr first) =
    let o : length own ≡ suc (length others) = ap length first.is in
    let e : length every ≡ length later = ap length first.same in
    omega arith
