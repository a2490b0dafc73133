-- The clients of an acceptor in memory.
use Rattle.std.proofs.Common.{arith, ◌≡◌, sym, ap, ap₂, subst, ◌∙◌, All, ℕ, ◌+◌, ◌-◌, ◌≤◌, List, [], ◌∷◌, ◌++◌, length, Option, Some, None, IfSome, append_assoc}
use Rattle.std.proofs.lemmas.List.{length-append, length_push, map-append, take_at}
use Rattle.std.proofs.lemmas.List.Elements.{All-tail}
use Rattle.std.specs.Option.{option_to_list}
use Rattle.fw_outside.specs.Counts.{counted}
use Rattle.acceptors.specs.AcceptorView.{Comes, TakesBack, Visit}
use Rattle.acceptors.specs.MemAcceptorView.{GivesFirst, HasPlace, IsNewCaller, MemAcceptorView, MemCaller, acceptor_view_of, came_of, visit_of}

-- ---- those that came

-- with these of all to come
abbrev pub coming : MemAcceptorView → List MemCaller → List MemCaller → MemAcceptorView
coming m all to_come = record m { callers = to_come; handed = came_of all to_come }

came_is : (all came to_come : List MemCaller) → all ≡ came ++ to_come → came_of all to_come ≡ came
came_is all came to_come is =
    ap (λ (l : List MemCaller). came_of l to_come) is
    ∙ take_at came to_come (length (came ++ to_come) - length to_come) (omega (arith, length-append came to_come))

came_more : (one : MemCaller) (all old rest : List MemCaller) → old ≡ one ∷ rest → all ≡ came_of all old ++ old → came_of all rest ≡ came_of all old ++ one ∷ []
came_more one all old rest is order =
    came_is all (came_of all old ++ one ∷ []) rest
    (order ∙ ap (λ (l : List MemCaller). came_of all old ++ l) is ∙ sym (append_assoc (came_of all old) (one ∷ []) rest))

-- one has come, or none is left
pub one_came : (first : Option MemCaller) (m : MemAcceptorView) (all old rest : List MemCaller) (took : ℕ) → old ≡ option_to_list first ++ rest → HasPlace all (coming m all old) took → All IsNewCaller old
    → HasPlace all (coming m all rest) took × All IsNewCaller rest
one_came None m all old rest took is place new = (subst (λ (l : List MemCaller). HasPlace all (coming m all l) took) is place, subst (All IsNewCaller) is new)
one_came (Some one) m all old rest took is place new =
    let came = came_more one all old rest is place.in_order in
    let long = ap length came ∙ length_push (came_of all old) one in
    let longer = ap length is in
    let fits = place.to_come in
    let back = place.back in (
      record {
        in_order = place.in_order ∙ ap (λ (l : List MemCaller). came_of all old ++ l) is ∙ sym (append_assoc (came_of all old) (one ∷ []) rest) ∙ ap (λ (l : List MemCaller). l ++ rest) (sym came);
        to_come = omega (arith, fits, long, longer);
        back = omega (arith, back, long);
      },
      All-tail IsNewCaller one rest (subst (All IsNewCaller) is new),
    )

gives_first : (one : MemCaller) (m : MemAcceptorView) (all old rest : List MemCaller) → old ≡ one ∷ rest → all ≡ came_of all old ++ old → GivesFirst one (coming m all old) (coming m all rest)
gives_first one m all old rest is order = record {
  next = is;
  is = ap (λ (l : List MemCaller). record m { callers = rest; handed = l }) (came_more one all old rest is order);
}

pub first_gives : (first : Option MemCaller) (m : MemAcceptorView) (all old rest : List MemCaller) → old ≡ option_to_list first ++ rest → all ≡ came_of all old ++ old
    → IfSome first (λ caller. GivesFirst caller (coming m all old) (coming m all rest))
first_gives None m all old rest is order = tt
first_gives (Some one) m all old rest is order = gives_first one m all old rest is order

-- ---- what the acceptor means

came_so : (caller : MemCaller) (old : MemAcceptorView) (rest : List MemCaller) (calls : ℕ) → IsNewCaller caller → length old.took ≤ length old.handed
    → Comes (visit_of caller) (acceptor_view_of old) (acceptor_view_of (record old { callers = rest; calls = calls; handed = old.handed ++ caller ∷ [] }))
came_so caller old rest calls new back =
    let long = length_push old.handed caller in
    let out : length (old.handed ++ caller ∷ []) - length old.took ≡ (length old.handed - length old.took) + 1 = omega (arith, back, long) in
    record {
      new_one = new;
      count = length (old.handed ++ caller ∷ []);
      grew = record { least = omega (arith, long); most = omega (arith, long); later = omega (arith, long) };
      is = ap₂ (λ (l : List Visit) (n : ℕ). record (acceptor_view_of old) { handed = Some l; came = length (old.handed ++ caller ∷ []); out = Some n })
          (map-append visit_of old.handed (caller ∷ [])) out;
    }

-- the next one came
pub comes : (caller : MemCaller) (old mid new : MemAcceptorView) → mid ≡ record old { calls = counted old.calls } → IsNewCaller caller → length mid.took ≤ length mid.handed → GivesFirst caller mid new
    → Comes (visit_of caller) (acceptor_view_of old) (acceptor_view_of new)
comes caller old mid new counts is_new back first =
    let kept : length old.took ≤ length old.handed = subst (λ (m : MemAcceptorView). length m.took ≤ length m.handed) counts back in
    subst (λ (m : MemAcceptorView). Comes (visit_of caller) (acceptor_view_of old) (acceptor_view_of m))
    (sym (first.is ∙ ap (λ (m : MemAcceptorView). record m { callers = new.callers; handed = m.handed ++ caller ∷ [] }) counts))
    (came_so caller old new.callers (counted old.calls) is_new kept)

-- one was taken back
pub takes_back : (caller : MemCaller) (old new : MemAcceptorView) → new ≡ record old { took = old.took ++ caller ∷ [] } → TakesBack (visit_of caller) (acceptor_view_of old) (acceptor_view_of new)
takes_back caller old new is =
    let long = length_push old.took caller in
    let out : length old.handed - length (old.took ++ caller ∷ []) ≡ (length old.handed - length old.took) - 1 = omega (arith, long) in
    subst (λ (m : MemAcceptorView). TakesBack (visit_of caller) (acceptor_view_of old) (acceptor_view_of m)) (sym is)
    (record {
      count = length (old.took ++ caller ∷ []);
      grew = record { least = omega (arith, long); most = omega (arith, long); later = omega (arith, long) };
      is = ap₂ (λ (l : List Visit) (n : ℕ). record (acceptor_view_of old) { took = Some l; returned = length (old.took ++ caller ∷ []); out = Some n })
          (map-append visit_of old.took (caller ∷ [])) out;
    })
