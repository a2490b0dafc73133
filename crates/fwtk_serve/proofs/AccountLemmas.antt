-- No message is lost, and none stands twice.
use Rattle.std.proofs.Common.{◌≡◌, refl, sym, ap, ap₂, subst, ◌∙◌, List, [], ◌∷◌, ◌++◌, append_assoc}
use Rattle.std.proofs.lemmas.List.{map-append}
use Rattle.std.proofs.lemmas.List.Sorted.{IsPermutation-append_comm, IsPermutation-append_left, IsPermutation-append_right, IsPermutation-map, IsPermutation-sym, IsPermutation-trans}
use Rattle.std.specs.List.Sorted.{IsPermutation}
use Rattle.std.specs.Prelude.{map}
use Rattle.spool_pool.specs.Ends.{End, Fate, IsSettled, from_full}
use Rattle.spool_pool.specs.Ends.End.{broke, put_aside, released, stands}
use Rattle.spool_rack.specs.Store.{Handed, Queues}
use Rattle.spool_slots.specs.States.{BrokenView}
use Rattle.fwtk_serve.specs.Accounts.{NoneIsLost, Start, Way}
use Rattle.fwtk_serve.specs.Accounts.Start.{was_broken, was_full}

abbrev of_full : Fate → Way
of_full fate = record { start = was_full fate.slot; end = fate.end; same = fate.same }

abbrev of_broken : BrokenView → Way
of_broken slot = record { start = was_broken slot; end = broke slot; same = λ m h. h }

full_starts : (fates : List Fate) → map (λ (w : Way). w.start) (map of_full fates) ≡ map was_full (map (λ (f : Fate). f.slot) fates)
full_starts [] = refl
full_starts (f ∷ fs) = ap (λ (l : List Start). was_full f.slot ∷ l) (full_starts fs)

full_ends : (fates : List Fate) → map (λ (w : Way). w.end) (map of_full fates) ≡ map (λ (f : Fate). f.end) fates
full_ends [] = refl
full_ends (f ∷ fs) = ap (λ (l : List End). f.end ∷ l) (full_ends fs)

broken_starts : (slots : List BrokenView) → map (λ (w : Way). w.start) (map of_broken slots) ≡ map was_broken slots
broken_starts [] = refl
broken_starts (b ∷ bs) = ap (λ (l : List Start). was_broken b ∷ l) (broken_starts bs)

broken_ends : (slots : List BrokenView) → map (λ (w : Way). w.end) (map of_broken slots) ≡ map broke slots
broken_ends [] = refl
broken_ends (b ∷ bs) = ap (λ (l : List End). broke b ∷ l) (broken_ends bs)

-- three lists before two
regroup : (a b c d e : List End) → a ++ (b ++ (c ++ (d ++ e))) ≡ (a ++ (b ++ (c ++ d))) ++ e
regroup a b c d e =
    ap (λ (l : List End). a ++ (b ++ l)) (sym (append_assoc c d e))
    ∙ ap (λ (l : List End). a ++ l) (sym (append_assoc b (c ++ d) e))
    ∙ sym (append_assoc a (b ++ (c ++ d)) e)

pub none_lost : (lists : Handed) (left : Queues) → IsSettled lists left → NoneIsLost lists.began lists left
none_lost lists left h =
    let before = from_full lists.began.broken in
    let fates = h.full.fates in
    let a = map stands left.full in
    let b = map released lists.released in
    let c = map put_aside lists.aside in
    let broken : IsPermutation (map broke (from_full left.broken)) (map broke lists.broken ++ map broke before) =
    IsPermutation-trans _ _ _ (IsPermutation-sym _ _ (IsPermutation-map broke _ _ h.broken))
    (subst (λ (l : List End). IsPermutation l (map broke lists.broken ++ map broke before)) (sym (map-append broke before lists.broken)) (IsPermutation-append_comm (map broke before) (map broke lists.broken))) in
    record {
      ways = map of_full fates ++ map of_broken before;
      starts = subst (IsPermutation (map was_full (lists.began.full ++ lists.put) ++ map was_broken before))
          (sym (map-append (λ (w : Way). w.start) (map of_full fates) (map of_broken before) ∙ ap₂ (λ (x y : List Start). x ++ y) (full_starts fates) (broken_starts before)))
          (IsPermutation-append_left (map was_broken before) _ _ (IsPermutation-map was_full _ _ h.full.slots_are));
      ends = subst (IsPermutation (a ++ (b ++ (c ++ map broke (from_full left.broken)))))
          (sym (map-append (λ (w : Way). w.end) (map of_full fates) (map of_broken before) ∙ ap₂ (λ (x y : List End). x ++ y) (full_ends fates) (broken_ends before)))
          (IsPermutation-trans _ _ _
          (IsPermutation-append_right a _ _ (IsPermutation-append_right b _ _ (IsPermutation-append_right c _ _ broken)))
          (subst (λ (l : List End). IsPermutation l (map (λ (f : Fate). f.end) fates ++ map broke before)) (sym (regroup a b c (map broke lists.broken) (map broke before)))
          (IsPermutation-append_left (map broke before) _ _ h.full.ends_are)));
    }
