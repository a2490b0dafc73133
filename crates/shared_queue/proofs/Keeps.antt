-- Each step keeps the rule of the queue.
use Rattle.std.proofs.Common.{◌≡◌, ◌≢◌, ℕ, ◌<◌, ◌^◌, List, [], ◌∷◌, ◌++◌, set, refl, ap, sym, subst, ◌∙◌, arith}
use mathlib.Core.Option.{some}
use lib.ListN.{get_elem?}
use Rattle.std.specs.List.{sum_by}
use Rattle.std.specs.List.Sorted.{IsPermutation}
use Rattle.std.proofs.lemmas.List.{append_assoc}
use Rattle.std.proofs.lemmas.List.Sums.{sum_by_push}
use Rattle.std.proofs.lemmas.List.Sorted.{IsPermutation-sym, IsPermutation-trans, IsPermutation-append_left, IsPermutation-append_right, IsPermutation-to_front}
use Rattle.crossbeam_queue.specs.Fifo.{Pushes, Pops, Forks, Merges, Learns}
use Rattle.atomic_table.proofs.Lists.{set_else}
use Rattle.shared_queue.specs.declared.log.Log.{Log}
use Rattle.shared_queue.specs.Steps.{begun, both, left, putting, right, spent, taking, Settled}
use Rattle.shared_queue.specs.Balance.{Balanced, Knows, puts, takes}
use Rattle.shared_queue.proofs.Sums.{sum_changed, sum_has, each_changed, each_more}
use Rattle.shared_queue.proofs.Orders.{same, shift, unshift, with_more, with_same, with_moved, with_new, alone}

module _ {T : Type 0} where
  -- the parts stay where one view keeps its own
  same_parts : (items : List T) (views : List (Log T)) (id : ℕ) (v w : Log T) → Balanced items views → get_elem? views id ≡ some v → w.parts ≡ v.parts
      → sum_by (λ v. v.parts) (set views id w) ≡ 2 ^ 64
  same_parts items views id v w b at e = let s = sum_changed (λ (u : Log T). u.parts) views id v w at in omega (arith, s, b.parts, e)

  pub puts_keep : (n id : ℕ) (v : Log T) (x : T) → 0 < v.parts → Pushes Balanced n id v x (λ w. w ≡ putting v x)
  puts_keep n id v x part items views room b at =
      let w = putting v x in
      let mine = b.each id v at in
      let now = set views id w in
      let more = with_more (λ (u : Log T). u.put) views id v w (x ∷ []) at refl in
      let kept = with_same (λ (u : Log T). u.taken) views id v w at refl in
      let one = IsPermutation-append_right b.began (puts now) (puts views ++ x ∷ []) (IsPermutation-sym _ _ more) in
      let two = same (b.began ++ (puts views ++ x ∷ [])) ((b.began ++ puts views) ++ x ∷ []) (sym (append_assoc b.began (puts views) (x ∷ []))) in
      let three = IsPermutation-append_left (x ∷ []) _ _ b.order in
      let four = shift items (takes views) x in
      let five = same ((items ++ x ∷ []) ++ takes views) ((items ++ x ∷ []) ++ takes now) (ap (λ l. (items ++ x ∷ []) ++ l) (sym kept)) in (
        w,
        record {
          began = b.began;
          parts = same_parts items views id v w b at refl;
          each = each_changed (λ _. Knows b.began) views id w record { began_is = mine.began_is; no_put = λ none. absurd (omega (arith, none, part)); no_taken = mine.no_taken } (λ j u _ there. b.each j u there);
          order = IsPermutation-trans _ _ _ one (IsPermutation-trans _ _ _ two (IsPermutation-trans _ _ _ three (IsPermutation-trans _ _ _ four five)));
        },
        refl,
      )

  pub takes_keep : (id : ℕ) (v : Log T) → 0 < v.parts → Pops Balanced id v (λ x w. w ≡ taking v x)
  takes_keep id v part x items views b at =
      let w = taking v x in
      let mine = b.each id v at in
      let now = set views id w in
      let more = with_more (λ (u : Log T). u.taken) views id v w (x ∷ []) at refl in
      let kept = with_same (λ (u : Log T). u.put) views id v w at refl in
      let one = same (b.began ++ puts now) (b.began ++ puts views) (ap (λ l. b.began ++ l) kept) in
      let two = IsPermutation-sym _ _ (IsPermutation-to_front (items ++ takes views) x) in
      let three = same ((items ++ takes views) ++ x ∷ []) (items ++ (takes views ++ x ∷ [])) (append_assoc items (takes views) (x ∷ [])) in
      let four = IsPermutation-append_right items _ _ more in (
        w,
        record {
          began = b.began;
          parts = same_parts (x ∷ items) views id v w b at refl;
          each = each_changed (λ _. Knows b.began) views id w record { began_is = mine.began_is; no_put = mine.no_put; no_taken = λ none. absurd (omega (arith, none, part)) } (λ j u _ there. b.each j u there);
          order = IsPermutation-trans _ _ _ one (IsPermutation-trans _ _ _ b.order (IsPermutation-trans _ _ _ two (IsPermutation-trans _ _ _ three four)));
        },
        refl,
      )

  -- where one pass has all parts, the others have none
  others : (items : List T) (views : List (Log T)) (id : ℕ) (v : Log T) → Balanced items views → get_elem? views id ≡ some v → v.parts ≡ 2 ^ 64
      → (j : ℕ) (u : Log T) → j ≢ id → get_elem? views j ≡ some u → u.parts ≡ 0
  others items views id v b at all j u apart there =
      let s = sum_changed (λ (u : Log T). u.parts) views id v spent at in
      let has = sum_has (λ (u : Log T). u.parts) (set views id spent) j u (set_else views id j spent apart ∙ there) in
      omega (arith, s, has, b.parts, all)

  pub learns : (id : ℕ) (v : Log T) → Learns Balanced id v (Settled v)
  learns id v items views b at all =
      let none = others items views id v b at all in
      let put : puts views ≡ v.put = alone (λ (u : Log T). u.put) views id v at (λ j u apart there. (b.each j u there).no_put (none j u apart there)) in
      let taken : takes views ≡ v.taken = alone (λ (u : Log T). u.taken) views id v at (λ j u apart there. (b.each j u there).no_taken (none j u apart there)) in
      let began : v.began ≡ b.began = (b.each id v at).began_is (omega (arith, all)) in
      subst (λ (l : List T × List T × List T). IsPermutation (l.0 ++ l.1) (items ++ l.2)) (λ i. (sym began i, put i, taken i)) b.order

  pub begin_keeps : (n id : ℕ) (v : Log T) (x : T) → v.parts ≡ 2 ^ 64 → Pushes Balanced n id v x (λ w. w ≡ begun v x)
  begin_keeps n id v x all items views room b at =
      let w = begun v x in
      let mine = b.each id v at in
      let now = set views id w in
      let none = others items views id v b at all in
      let put = with_same (λ (u : Log T). u.put) views id v w at refl in
      let kept = with_same (λ (u : Log T). u.taken) views id v w at refl in
      let one = same ((b.began ++ x ∷ []) ++ puts now) ((b.began ++ x ∷ []) ++ puts views) (ap (λ l. (b.began ++ x ∷ []) ++ l) put) in
      let two = unshift b.began (puts views) x in
      let three = IsPermutation-append_left (x ∷ []) _ _ b.order in
      let four = shift items (takes views) x in
      let five = same ((items ++ x ∷ []) ++ takes views) ((items ++ x ∷ []) ++ takes now) (ap (λ l. (items ++ x ∷ []) ++ l) (sym kept)) in (
        w,
        record {
          began = b.began ++ x ∷ [];
          parts = same_parts items views id v w b at refl;
          each = each_changed (λ _. Knows (b.began ++ x ∷ [])) views id w record { began_is = λ some_part. ap (λ l. l ++ x ∷ []) (mine.began_is some_part); no_put = mine.no_put; no_taken = mine.no_taken }
              (λ j u apart there. let gone = none j u apart there in record { began_is = λ some_part. absurd (omega (arith, some_part, gone)); no_put = (b.each j u there).no_put; no_taken = (b.each j u there).no_taken });
          order = IsPermutation-trans _ _ _ one (IsPermutation-trans _ _ _ two (IsPermutation-trans _ _ _ three (IsPermutation-trans _ _ _ four five)));
        },
        refl,
      )

  pub splits : (id : ℕ) (v : Log T) → 1 < v.parts → Forks Balanced id v (left v) (right v)
  splits id v many items views b at =
      let mine = b.each id v at in
      let one = set views id (left v) in
      let put = with_new (λ (u : Log T). u.put) one (right v) refl ∙ with_same (λ (u : Log T). u.put) views id v (left v) at refl in
      let taken = with_new (λ (u : Log T). u.taken) one (right v) refl ∙ with_same (λ (u : Log T). u.taken) views id v (left v) at refl in
      let s = sum_changed (λ (u : Log T). u.parts) views id v (left v) at in
      let p = sum_by_push (λ (u : Log T). u.parts) one (right v) in record {
        began = b.began;
        parts = omega (arith, s, p, b.parts, many);
        each = each_more (λ _. Knows b.began) one (right v) (λ _. record { began_is = λ _. mine.began_is (omega (arith, many)); no_put = λ _. refl; no_taken = λ _. refl })
            (each_changed (λ _. Knows b.began) views id (left v) record { began_is = λ _. mine.began_is (omega (arith, many)); no_put = λ none. absurd (omega (arith, none, many)); no_taken = λ none. absurd (omega (arith, none, many)) } (λ j u _ there. b.each j u there));
        order = subst (λ (l : List T × List T). IsPermutation (b.began ++ l.0) (items ++ l.1)) (λ i. (sym put i, sym taken i)) b.order;
      }

  pub meets : (id : ℕ) (v : Log T) (other : ℕ) (w : Log T) → 0 < v.parts → Merges Balanced id v other w (both v w) spent
  meets id v other w part items views b at apart there =
      let new = both v w in
      let one = set views id new in
      let mine = b.each id v at in
      let was : get_elem? views other ≡ some w = sym (set_else views id other new apart) ∙ there in
      let here : get_elem? (set views other spent) id ≡ some v = set_else views other id spent (λ e. apart (sym e)) ∙ at in
      let put = with_moved (λ (u : Log T). u.put) views id other v w new spent was here apart refl refl in
      let taken = with_moved (λ (u : Log T). u.taken) views id other v w new spent was here apart refl refl in
      let s = sum_changed (λ (u : Log T). u.parts) views id v new at in
      let p = sum_changed (λ (u : Log T). u.parts) one other w spent there in record {
        began = b.began;
        parts = omega (arith, s, p, b.parts);
        each = each_changed (λ _. Knows b.began) one other spent record { began_is = λ none. absurd (omega (arith, none)); no_put = λ _. refl; no_taken = λ _. refl }
            (λ j u _. each_changed (λ _. Knows b.began) views id new record { began_is = λ _. mine.began_is part; no_put = λ none. absurd (omega (arith, none, part)); no_taken = λ none. absurd (omega (arith, none, part)) } (λ k y _ at_k. b.each k y at_k) j u);
        order = IsPermutation-trans _ _ _ (IsPermutation-append_right b.began _ _ (IsPermutation-sym _ _ put)) (IsPermutation-trans _ _ _ b.order (IsPermutation-append_right items _ _ taken));
      }
