-- The port of a session is full only where the history has as many entries as fit.
use Rattle.std.proofs.Common.{arith, ◌≡◌, refl, sym, ap, subst, ℕ, ◌≤◌, ◌==◌, Bool, true, false, cond, List, [], ◌∷◌, length, Option, Some, None, IfSome}
use Rattle.std.proofs.lemmas.Bool.{eqb-true}
use mathlib.Core.List.{IsPrefix}
use Rattle.auth_events.specs.declared.entry.Entry.{Entry}
use Rattle.auth_machine.specs.Port.{BookOrigin}
use Rattle.gate_rules.specs.Reading.{RuleBook}
use Rattle.gate_rules.specs.declared.service.Service.{Service}
use Rattle.turn_lock.specs.Known.{Lock}
use Rattle.turn_lock.proofs.Fronts.{front_length, front_trans}
use Rattle.fwtk_serve.specs.Full.{AreFullWith, IsFullWith}
use Rattle.fwtk_serve.specs.Passes.{Pass}
use Rattle.fwtk_serve.specs.Sessions.{Both, Held, Sitting, WereServed}
use Rattle.fwtk_serve.proofs.SessionLemmas.{seen_served}

module _ (lock : Lock BookOrigin) (history : List Entry) (fits : length history ≤ lock.limit) where
  full_by : (seen : List Entry) → length seen ≤ length history → (full : Bool) → (length seen == lock.limit) ≡ full → IfSome (cond full (Some lock.limit) None) (IsFullWith lock history)
  full_by seen front true is = let all = eqb-true (length seen) lock.limit is in (refl, omega (arith, fits, front, all))
  full_by seen front false is = tt

  full_one : (rules : RuleBook) (first last : Both) (sitting : Sitting) → (h : Held rules lock first last sitting) → IsPrefix last.book.seen history → IfSome h.port.full (IsFullWith lock history)
  full_one rules first last sitting h front =
      let seen : last.book.seen ≡ h.port.seen = ap (λ (p : Pass). p.seen) h.pass in
      let shorter : length h.port.seen ≤ length history = subst (λ (s : List Entry). length s ≤ length history) seen (front_length last.book.seen history front) in
      subst (λ (o : Option ℕ). IfSome o (IsFullWith lock history)) (sym h.full) (full_by h.port.seen shorter (length h.port.seen == lock.limit) refl)

  pub full_served : (rules : List (Service × RuleBook)) (first last : Both) (sittings : List Sitting) → (were : WereServed rules lock first last sittings) → IsPrefix last.book.seen history
      → AreFullWith rules lock history first last sittings were
  full_served rules first last [] were front = tt
  full_served rules first last (s ∷ ss) were front =
      let middle = front_trans were.middle.book.seen last.book.seen history (seen_served rules lock were.middle last ss were.more) front in (
        full_one _ first were.middle s were.first.held middle,
        full_served rules were.middle last ss were.more front,
      )
