-- What words of a host list show stays, whatever words follow.
use Rattle.std.proofs.Common.{◌≡◌, ℕ, zero, suc, ◌+◌, Bool, true, false, List, [], ◌∷◌, ◌++◌, length, take, refl, sym, ap, ◌∙◌, arith, inl, inr, length-append}
use Rattle.std.specs.Prelude.{◌⊎◌, ◌==◌, nat_lt, Result, Ok, Err}
use Rattle.std.specs.List.{list_all, position_or_len}
use Rattle.std.proofs.lemmas.Bool.Decides.{nat_tests}
use Rattle.std.proofs.lemmas.List.{take-append-le}
use Rattle.host_pattern.specs.Pattern.{Written}
use Rattle.host_pattern.specs.declared.word.Word.{Word}
use Rattle.gate_rules.specs.declared.fault.Why.{Why}
use Rattle.gate_rules.specs.declared.fault.Why.TheVariants.{NoHosts, BadPattern, TooMany}
use Rattle.gate_rules.specs.Lists.{alone, hosts_alone, hosts_in, is_option, is_pattern, mapped, options_in, patterns_of}
use Rattle.gate_rules.specs.Why.{is_shown}

-- a fault of the first that a word shows is one of the second
unfoldable pub Stays : {X Y : Type 0} → Result X Why → Result Y Why → Type 0
Stays first second = (why : Why) → is_shown why ≡ true → first ≡ Err why → second ≡ Err why

pub good_stays : {X Y : Type 0} (x : X) (second : Result Y Why) → Stays (Ok x) second
unfolding Stays
good_stays x second why shown e = absurd (cc)

pub unshown_stays : (X : Type 0) {Y : Type 0} (why : Why) (second : Result Y Why) → is_shown why ≡ false → Stays {X = X} (Err why) second
unfolding Stays
unshown_stays X why second none other shown e = absurd (let same : why ≡ other = cc in let shown = rw (sym same, none) at shown in (cc))

pub same_stays : (X Y : Type 0) (why : Why) → Stays {X = X} {Y = Y} (Err why) (Err why)
unfolding Stays
same_stays X Y why other shown e = let same : why ≡ other = cc in ap Err same

pub mapped_stays : {X Y A B : Type 0} (f : X → A) (g : Y → B) (first : Result X Why) (second : Result Y Why) → Stays first second → Stays (mapped f first) (mapped g second)
unfolding Stays
mapped_stays f g (Ok x) second stays why shown e = absurd (cc)
mapped_stays f g (Err other) second stays why shown e = let is = stays why shown (let same : other ≡ why = cc in ap Err same) in rw is refl

-- patterns

pub no_more : (n : ℕ) (words more : List Word) → list_all is_pattern (take n words) ≡ false → list_all is_pattern (take n (words ++ more)) ≡ false
no_more zero words more h = absurd (cc)
no_more (suc n) [] more h = absurd (cc)
no_more (suc n) (w ∷ words) more h = by (is_pattern w) refl (no_more n words more)
  where
    by : (v : Bool) → is_pattern w ≡ v → (list_all is_pattern (take n words) ≡ false → list_all is_pattern (take n (words ++ more)) ≡ false) → list_all is_pattern (take (suc n) (w ∷ (words ++ more))) ≡ false
    by true e rest = rw e (rest (rw e at h))
    by false e rest = rw e refl

pub patterns_stay : (words more : List Word) → Stays (patterns_of words) (patterns_of (words ++ more))
unfolding Stays patterns_of
patterns_stay [] more why shown e = absurd (let same : NoHosts ≡ why = cc in let shown = rw (sym same) at shown in (cc))
patterns_stay (w ∷ words) more why shown e = by (list_all is_pattern (take 64 (w ∷ words))) refl (nat_lt 64 (length (w ∷ words))) refl
  where
    some : (length (w ∷ words) == 0) ≡ false
    some = grind (arith, nat_tests)

    also : (length (w ∷ (words ++ more)) == 0) ≡ false
    also = grind (arith, nat_tests)

    over : nat_lt 64 (length (w ∷ words)) ≡ true → nat_lt 64 (length (w ∷ (words ++ more))) ≡ true
    over h = let long : length (words ++ more) ≡ length words + length more = length-append words more in grind (arith, nat_tests)

    firsts : nat_lt 64 (length (w ∷ words)) ≡ true → take 64 (w ∷ (words ++ more)) ≡ take 64 (w ∷ words)
    firsts h = take-append-le 64 (w ∷ words) more (grind (arith, nat_tests))

    by : (all : Bool) → list_all is_pattern (take 64 (w ∷ words)) ≡ all → (long : Bool) → nat_lt 64 (length (w ∷ words)) ≡ long → patterns_of (w ∷ (words ++ more)) ≡ Err why
    by false all long h =
        let same : BadPattern ≡ why = (let e = rw (some, all) at e in (cc)) in
        rw (also, no_more 64 (w ∷ words) more all) (ap Err same)
    by true all true h =
        let same : TooMany ≡ why = (let e = rw (some, all, h) at e in (cc)) in
        let every : list_all is_pattern (take 64 (w ∷ (words ++ more))) ≡ true = ap (list_all is_pattern) (firsts h) ∙ all in
        rw (also, every, over h) (ap Err same)
    by true all false h = absurd (let e = rw (some, all, h) at e in (cc))

-- host lists and options

pub record NoOption (words more : List Word) : Type 0 where
  pub hosts : hosts_in words ≡ words
  pub options : options_in words ≡ []
  pub longer : hosts_in (words ++ more) ≡ words ++ hosts_in more

pub record SomeOption (words more : List Word) : Type 0 where
  pub hosts : hosts_in (words ++ more) ≡ hosts_in words
  pub first : Word
  pub others : List Word
  pub options : options_in words ≡ first ∷ others
  pub longer : options_in (words ++ more) ≡ first ∷ (others ++ more)

pub further : (n : ℕ) → 1 + n ≡ suc n
further n = omega arith

pub split : (words more : List Word) → NoOption words more ⊎ SomeOption words more
split [] more = inl record { hosts = refl; options = refl; longer = refl }
split (w ∷ words) more = by (is_option w) refl (split words more)
  where
    by : (v : Bool) → is_option w ≡ v → NoOption words more ⊎ SomeOption words more → NoOption (w ∷ words) more ⊎ SomeOption (w ∷ words) more
    by true e rest = inr record { hosts = rw e refl; first = w; others = words; options = rw e refl; longer = rw e refl }
    by false e (inl rest) = inl record {
      hosts = rw (e, further (position_or_len is_option words)) (ap (λ ws. w ∷ ws) rest.hosts);
      options = rw (e, further (position_or_len is_option words)) rest.options;
      longer = rw (e, further (position_or_len is_option (words ++ more))) (ap (λ ws. w ∷ ws) rest.longer);
    }
    by false e (inr rest) = inr record {
      hosts = rw (e, further (position_or_len is_option (words ++ more)), further (position_or_len is_option words)) (ap (λ ws. w ∷ ws) rest.hosts);
      first = rest.first;
      others = rest.others;
      options = rw (e, further (position_or_len is_option words)) rest.options;
      longer = rw (e, further (position_or_len is_option (words ++ more))) rest.longer;
    }

pub alone_stays : (hosts longer : Result (List Written) Why) (rest : List Word) → Stays hosts longer → Stays (alone hosts []) (alone longer rest)
unfolding Stays
alone_stays (Ok hosts) longer rest stays why shown e = absurd (cc)
alone_stays (Err other) longer rest stays why shown e = let is = stays why shown (let same : other ≡ why = cc in ap Err same) in rw is refl

pub alone_more : (hosts : Result (List Written) Why) (first : Word) (others more : List Word) → Stays (alone hosts (first ∷ others)) (alone hosts (first ∷ (others ++ more)))
unfolding Stays
alone_more (Ok hosts) first others more why shown e = e
alone_more (Err other) first others more why shown e = e

pub hosts_stay : (words more : List Word) → Stays (hosts_alone words) (hosts_alone (words ++ more))
hosts_stay words more = by (split words more)
  where
    by : NoOption words more ⊎ SomeOption words more → Stays (hosts_alone words) (hosts_alone (words ++ more))
    by (inl rest) = rw (rest.hosts, rest.options, rest.longer) (alone_stays (patterns_of words) (patterns_of (words ++ hosts_in more)) (options_in (words ++ more)) (patterns_stay words (hosts_in more)))
    by (inr rest) = rw (rest.hosts, rest.options, rest.longer) (alone_more (patterns_of (hosts_in words)) rest.first rest.others more)
