-- Lists that are read word by word.
use Rattle.std.proofs.Common.{◌≡◌, ℕ, ◌+◌, ◌≤◌, Bool, true, false, List, [], ◌∷◌, ◌++◌, length, refl, drop, take, sym, ◌∙◌, ap, arith}
use Rattle.std.specs.Prelude.{cond, if◌then◌else◌, filter_map, nat_lt, ◌==◌, Option, Some, None, Result, Ok, Err}
use Rattle.std.specs.Option.{option_or}
use Rattle.std.specs.Result.{result_err}
use Rattle.std.specs.List.{list_all, enumerate_from}
use Rattle.std.proofs.lemmas.Bool.Decides.{nat_tests}
use Rattle.std.proofs.lemmas.List.{append-nil, drop_all, length-take, take_all}
use Rattle.host_pattern.specs.Pattern.{Written, parsed}
use Rattle.host_pattern.specs.PatternList.{bad, good, list_parsed, unless_any_bad}
use Rattle.host_pattern.specs.declared.fault.ListFault.{ListFault}
use Rattle.host_pattern.specs.declared.fault.PatternFault.{PatternFault}
use Rattle.host_pattern.specs.declared.word.Word.{Word}
use Rattle.gate_rules.specs.declared.fault.Why.{Why}
use Rattle.gate_rules.specs.declared.fault.Why.TheVariants.{BadPattern, NoHosts, TooMany}
use Rattle.gate_rules.specs.Faults.{nothing_fault}
use Rattle.gate_rules.specs.Lists.{alone, is_pattern, is_verb_word, patterns_of, verb_in, verbs_of}
use Rattle.gate_rules.specs.Operation.{hosts_unless}

-- all were tested
pub all_at_end : {X : Type 0} (p : X → Bool) (few : List X) (i : ℕ) → length few ≤ i → list_all p (drop i few) ≡ list_all p few → list_all p few ≡ true
all_at_end p few i le same = sym same ∙ ap (list_all p) (drop_all i few le)

pub items_at_end : {X Y : Type 0} (f : X → Option Y) (items : List Y) (few : List X) (i : ℕ) → length few ≤ i → items ++ filter_map f (drop i few) ≡ filter_map f few → items ≡ filter_map f few
items_at_end f items few i le same = sym (append-nil items) ∙ ap (λ xs. items ++ filter_map f xs) (sym (drop_all i few le)) ∙ same

is_good : (w : Word) (p : Written) → parsed w.text ≡ Ok p → is_pattern w ≡ true
is_good w p e = rw e refl

-- where no word is bad, each is a pattern
none_bad : (n : ℕ) (words : List Word) → filter_map bad (enumerate_from n words) ≡ [] → list_all is_pattern words ≡ true
none_bad n [] h = refl
none_bad n (w ∷ words) h = by (parsed w.text) refl (λ more. none_bad (n + 1) words more)
  where
    by : (r : Result Written PatternFault) → parsed w.text ≡ r → (filter_map bad (enumerate_from (n + 1) words) ≡ [] → list_all is_pattern words ≡ true) → list_all is_pattern (w ∷ words) ≡ true
    by (Ok p) e more = rw e (more (rw e at h))
    by (Err why) e more = absurd (let h = rw e at h in (cc))

-- where one is bad, not all are patterns
one_bad : (n : ℕ) (words : List Word) (first : ℕ × PatternFault) (others : List (ℕ × PatternFault)) → filter_map bad (enumerate_from n words) ≡ first ∷ others → list_all is_pattern words ≡ false
one_bad n [] first others h = absurd (cc)
one_bad n (w ∷ words) first others h = by (parsed w.text) refl (λ more. one_bad (n + 1) words first others more)
  where
    by : (r : Result Written PatternFault) → parsed w.text ≡ r → (filter_map bad (enumerate_from (n + 1) words) ≡ first ∷ others → list_all is_pattern words ≡ false) → list_all is_pattern (w ∷ words) ≡ false
    by (Ok p) e more = rw e (more (rw e at h))
    by (Err why) e more = rw e refl

-- how a list of 1 to 64 words is read
read_by : (few : List Word) → (length few == 0) ≡ false → nat_lt 64 (length few) ≡ false → list_parsed few ≡ unless_any_bad (filter_map bad (enumerate_from 0 few)) (filter_map good few)
unfolding list_parsed
read_by few some short = rw (some, short) refl

first_some : (words : List Word) → (length words == 0) ≡ false → (length (take 64 words) == 0) ≡ false
first_some words some = grind (arith, nat_tests, length-take 64 words)

first_short : (words : List Word) → nat_lt 64 (length (take 64 words)) ≡ false
first_short words = grind (arith, nat_tests, length-take 64 words)

read_first : (words : List Word) → (length words == 0) ≡ false → list_parsed (take 64 words) ≡ unless_any_bad (filter_map bad (enumerate_from 0 (take 64 words))) (filter_map good (take 64 words))
read_first words some = read_by (take 64 words) (first_some words some) (first_short words)

-- the patterns of the first 64 words are those of all, unless there are more
few_or_more : (words : List Word) (v : Bool) → nat_lt 64 (length words) ≡ v → cond v (Err TooMany) (Ok (filter_map good (take 64 words))) ≡ cond v (Err TooMany) (Ok (filter_map good words))
few_or_more words true e = refl
few_or_more words false e = ap (λ few. Ok (filter_map good few)) (take_all 64 words (grind (arith, nat_tests)))

-- the members are read as the list's definition has them
pub members_read : (words few : List Word) (patterns : List Written) → few ≡ take 64 words → (length words == 0) ≡ false → list_parsed few ≡ Ok patterns → (if nat_lt 64 (length words) then Err TooMany else Ok patterns) ≡ patterns_of words
unfolding patterns_of
members_read words few patterns first some read = by (filter_map bad (enumerate_from 0 (take 64 words))) refl
  where
    is : unless_any_bad (filter_map bad (enumerate_from 0 (take 64 words))) (filter_map good (take 64 words)) ≡ Ok patterns
    is = sym (read_first words some) ∙ ap list_parsed (sym first) ∙ read

    by : (bads : List (ℕ × PatternFault)) → filter_map bad (enumerate_from 0 (take 64 words)) ≡ bads → (if nat_lt 64 (length words) then Err TooMany else Ok patterns) ≡ patterns_of words
    by [] e =
        let items : filter_map good (take 64 words) ≡ patterns = (let is = rw e at is in (cc)) in
        rw (some, none_bad 0 (take 64 words) e, ← items) (few_or_more words (nat_lt 64 (length words)) refl)
    by (one ∷ others) e = absurd (let is = rw e at is in (cc))

pub members_bad : (words few : List Word) (fault : ListFault) → few ≡ take 64 words → (length words == 0) ≡ false → list_parsed few ≡ Err fault → Err BadPattern ≡ patterns_of words
unfolding patterns_of
members_bad words few fault first some read = by (filter_map bad (enumerate_from 0 (take 64 words))) refl
  where
    is : unless_any_bad (filter_map bad (enumerate_from 0 (take 64 words))) (filter_map good (take 64 words)) ≡ Err fault
    is = sym (read_first words some) ∙ ap list_parsed (sym first) ∙ read

    by : (bads : List (ℕ × PatternFault)) → filter_map bad (enumerate_from 0 (take 64 words)) ≡ bads → Err BadPattern ≡ patterns_of words
    by [] e = absurd (let is = rw e at is in (cc))
    by (one ∷ others) e = rw (some, one_bad 0 (take 64 words) one others e) refl

pub verbs_are : (words few : List Word) (verbs : List (List ℕ)) → few ≡ take 32 words → (length words == 0) ≡ false → length words ≤ 32 → list_all is_verb_word few ≡ true → verbs ≡ filter_map verb_in few → Ok verbs ≡ verbs_of words
unfolding verbs_of
verbs_are words few verbs first some short all items =
    let whole : take 32 words ≡ words = take_all 32 words short in
    let every : list_all is_verb_word (take 32 words) ≡ true = ap (list_all is_verb_word) (sym first) ∙ all in
    let within : nat_lt 32 (length words) ≡ false = grind (arith, nat_tests) in
    rw (some, every, within) (ap Ok (items ∙ ap (filter_map verb_in) (first ∙ whole)))

-- faults alone

pub too_many_fault : (words : List Word) (few : List Word) (patterns : List Written) → few ≡ take 64 words → (length words == 0) ≡ false → list_parsed few ≡ Ok patterns
    → (if nat_lt 64 (length words) then Some TooMany else None) ≡ result_err (patterns_of words)
too_many_fault words few patterns first some read = by (nat_lt 64 (length words)) (members_read words few patterns first some read)
  where
    by : (v : Bool) → cond v (Err TooMany) (Ok patterns) ≡ patterns_of words → cond v (Some TooMany) None ≡ result_err (patterns_of words)
    by true e = ap result_err e
    by false e = ap result_err e

pub no_hosts : (words : List Word) → (length words == 0) ≡ true → Some NoHosts ≡ result_err (patterns_of words)
unfolding patterns_of
no_hosts words none = rw none refl

pub alone_fault : (hosts : Result (List Written) Why) (words : List Word) → result_err (alone hosts words) ≡ option_or (result_err hosts) (nothing_fault words)
alone_fault (Err why) words = refl
alone_fault (Ok hosts) [] = refl
alone_fault (Ok hosts) (word ∷ words) = refl

pub unless_fault : (hosts : Result (List Written) Why) (fault : Option Why) → result_err (hosts_unless hosts fault) ≡ option_or (result_err hosts) fault
unless_fault (Err why) fault = refl
unless_fault (Ok hosts) None = refl
unless_fault (Ok hosts) (Some why) = refl
