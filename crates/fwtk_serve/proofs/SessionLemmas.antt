-- What sessions over one pass make of it.
use Rattle.std.proofs.Common.{arith, ◌≡◌, refl, sym, ap, ap₂, subst, ◌∙◌, ℕ, ◌+◌, ◌-◌, ◌^◌, ◌≤◌, min, List, [], ◌∷◌, ◌++◌, flat_map, sum_by, append_assoc, append-nil}
use Rattle.std.proofs.lemmas.List.Sums.{sum_by-cons}
use mathlib.Core.List.{IsPrefix}
use Rattle.auth_machine.specs.Port.{BookOrigin}
use Rattle.auth_port.specs.Shared.{SharedOrigin}
use Rattle.gate_rules.specs.Reading.{RuleBook}
use Rattle.gate_rules.specs.declared.service.Service.{Service}
use Rattle.turn_lock.specs.Known.{Lock}
use Rattle.turn_lock.proofs.Fronts.{front_same, front_trans}
use Rattle.spool_rack.specs.Store.{with_put}
use Rattle.spool_slots.specs.States.{FullView}
use Rattle.fwtk_serve.specs.Passes.{Pass}
use Rattle.fwtk_serve.specs.Sessions.{Both, Held, Sitting, WasServed, WereServed, places_of}

-- ---- one session

module _ (rules : RuleBook) (lock : Lock BookOrigin) (first last : Both) (sitting : Sitting) where
  pub mine_held : Held rules lock first last sitting → last.book.mine ≡ first.book.mine ++ sitting.served.places
  mine_held h = ap (λ (p : Pass). p.mine) h.pass ∙ ap₂ (λ (o : SharedOrigin) (m : List ℕ). o.first.mine ++ m) h.origin (sym h.places)

  pub met_held : Held rules lock first last sitting → last.book.met ≡ first.book.met
  met_held h = ap (λ (p : Pass). p.met) h.pass ∙ ap (λ (o : SharedOrigin). o.first.met) h.origin

  pub parts_held : Held rules lock first last sitting → last.book.parts ≡ first.book.parts
  parts_held h = ap (λ (p : Pass). p.parts) h.pass ∙ ap (λ (o : SharedOrigin). o.first.parts) h.origin

-- ---- one after the other

-- the slots that all these sessions put full
abbrev pub puts_of : List Sitting → List FullView
puts_of sittings = flat_map (λ sitting. sitting.mailed.put) sittings

module _ (rules : List (Service × RuleBook)) (lock : Lock BookOrigin) where
  -- one session more
  pub were_more : (first mid last : Both) (sittings : List Sitting) (one : Sitting) → WereServed rules lock first mid sittings → WasServed rules lock mid last one → WereServed rules lock first last (sittings ++ one ∷ [])
  were_more first mid last [] one were was = record { middle = last; first = subst (λ (p : Both). WasServed rules lock p last one) were was; more = refl }
  were_more first mid last (s ∷ ss) one were was = record {
    middle = were.middle;
    first = were.first;
    more = were_more were.middle mid last ss one were.more was;
  }

  -- the pass of the book has its places and those of all sessions
  pub mine_served : (first last : Both) (sittings : List Sitting) → WereServed rules lock first last sittings → last.book.mine ≡ first.book.mine ++ places_of sittings
  mine_served first last [] were = ap (λ (p : Both). p.book.mine) were ∙ sym (append-nil first.book.mine)
  mine_served first last (s ∷ ss) were =
      mine_served were.middle last ss were.more
      ∙ ap (λ (m : List ℕ). m ++ places_of ss) (mine_held _ lock first were.middle s were.first.held)
      ∙ append_assoc first.book.mine s.served.places (places_of ss)

  -- it has met none
  pub met_served : (first last : Both) (sittings : List Sitting) → WereServed rules lock first last sittings → last.book.met ≡ first.book.met
  met_served first last [] were = ap (λ (p : Both). p.book.met) were
  met_served first last (s ∷ ss) were = met_served were.middle last ss were.more ∙ met_held _ lock first were.middle s were.first.held

  -- it has its parts
  pub parts_served : (first last : Both) (sittings : List Sitting) → WereServed rules lock first last sittings → last.book.parts ≡ first.book.parts
  parts_served first last [] were = ap (λ (p : Both). p.book.parts) were
  parts_served first last (s ∷ ss) were = parts_served were.middle last ss were.more ∙ parts_held _ lock first were.middle s were.first.held

  -- what it had seen at first is a front of what it has seen
  pub seen_served : (first last : Both) (sittings : List Sitting) → WereServed rules lock first last sittings → IsPrefix first.book.seen last.book.seen
  seen_served first last [] were = front_same first.book.seen last.book.seen (sym (ap (λ (p : Both). p.book.seen) were))
  seen_served first last (s ∷ ss) were =
      front_trans first.book.seen were.middle.book.seen last.book.seen were.first.held.begins (seen_served were.middle last ss were.more)

  -- ---- the pass of the pool

  -- nothing was put but what the sessions put
  pub put_served : (first last : Both) (sittings : List Sitting) → WereServed rules lock first last sittings → last.mail.handed ≡ with_put (puts_of sittings) first.mail.handed
  put_served first last [] were =
      ap (λ (p : Both). p.mail.handed) were ∙ ap (λ (put : List FullView). record (first.mail.handed) { put = put }) (sym (append-nil first.mail.handed.put))
  put_served first last (s ∷ ss) were =
      put_served were.middle last ss were.more
      ∙ ap (with_put (puts_of ss)) were.first.held.put
      ∙ ap (λ (put : List FullView). record (first.mail.handed) { put = put }) (append_assoc first.mail.handed.put s.mailed.put (puts_of ss))

  pub no_full_served : (first last : Both) (sittings : List Sitting) → WereServed rules lock first last sittings → last.mail.no_full ≡ first.mail.no_full
  no_full_served first last [] were = ap (λ (p : Both). p.mail.no_full) were
  no_full_served first last (s ∷ ss) were = no_full_served were.middle last ss were.more ∙ were.first.held.no_full

  pub no_free_served : (first last : Both) (sittings : List Sitting) → WereServed rules lock first last sittings
      → min (first.mail.no_free + sum_by (λ (s : Sitting). s.mailed.unslotted) sittings) (2 ^ 64 - 1) ≤ last.mail.no_free
  no_free_served first last [] were = let same = ap (λ (p : Both). p.mail.no_free) were in omega (arith, same)
  no_free_served first last (s ∷ ss) were =
      let one = were.first.held.no_free in
      let rest = no_free_served were.middle last ss were.more in
      let sum = sum_by-cons (λ (s : Sitting). s.mailed.unslotted) s ss in
      omega (arith, one, rest, sum)

  pub broken_served : (first last : Both) (sittings : List Sitting) → WereServed rules lock first last sittings
      → min (first.mail.broken + sum_by (λ (s : Sitting). s.mailed.faulted) sittings) (2 ^ 64 - 1) ≤ last.mail.broken
  broken_served first last [] were = let same = ap (λ (p : Both). p.mail.broken) were in omega (arith, same)
  broken_served first last (s ∷ ss) were =
      let one = were.first.held.broken in
      let rest = broken_served were.middle last ss were.more in
      let sum = sum_by-cons (λ (s : Sitting). s.mailed.faulted) s ss in
      omega (arith, one, rest, sum)
