-- What holds after every history, by its entries one after another.
use Rattle.std.proofs.Common.{◌≡◌, ℕ, suc, ◌+◌, List, [], ◌∷◌, ◌++◌, length, refl, arith}
use Rattle.std.proofs.lemmas.List.{append_assoc, append-nil}
use Rattle.auth_events.specs.declared.entry.Entry.{Entry}
use Rattle.auth_machine.specs.History.{AreSteps, IsStep, after_entries, after_entry}
use Rattle.auth_machine.specs.Policy.{PolicyView}
use Rattle.auth_machine.specs.State.{State}

-- what each step keeps of the entries so far, the next place and the state holds after all entries
module _ (policy : PolicyView) (P : List Entry → ℕ → State → Type 0)
    (step : (done : List Entry) (place : ℕ) (s : State) (entry : Entry) → P done place s → IsStep policy s place entry
    → P (done ++ entry ∷ []) (suc place) (after_entry policy s place entry)) where
  pub reaches : (done entries : List Entry) (place : ℕ) (s : State) → P done place s → AreSteps policy s place entries
      → (last : ℕ) × P (done ++ entries) last (after_entries policy s place entries)
  reaches done [] place s h steps = (place, rw append-nil h)
  reaches done (entry ∷ entries) place s h steps =
      let rest = reaches (done ++ entry ∷ []) entries (suc place) (after_entry policy s place entry) (step done place s entry h steps.0) steps.1 in
      (rest.0, rw append_assoc at rest.1)

-- what each step keeps of the state
module _ (policy : PolicyView) (P : State → Type 0)
    (step : (place : ℕ) (s : State) (entry : Entry) → P s → IsStep policy s place entry → P (after_entry policy s place entry)) where
  pub holds_after : (entries : List Entry) (place : ℕ) (s : State) → P s → AreSteps policy s place entries → P (after_entries policy s place entries)
  holds_after [] place s h steps = h
  holds_after (entry ∷ entries) place s h steps = holds_after entries (suc place) (after_entry policy s place entry) (step place s entry h steps.0) steps.1

-- steps of joined entries part in two
pub parts_before : (policy : PolicyView) (s : State) (place : ℕ) (first more : List Entry) → AreSteps policy s place (first ++ more) → AreSteps policy s place first
parts_before policy s place [] more steps = tt
parts_before policy s place (entry ∷ first) more steps = (steps.0, parts_before policy (after_entry policy s place entry) (suc place) first more steps.1)

pub parts_behind : (policy : PolicyView) (s : State) (place : ℕ) (first more : List Entry) → AreSteps policy s place (first ++ more)
    → AreSteps policy (after_entries policy s place first) (place + length first) more
parts_behind policy s place [] more steps =
    let e : place + 0 ≡ place = omega arith in
    rw e steps
parts_behind policy s place (entry ∷ first) more steps =
    let e : place + suc (length first) ≡ suc place + length first = omega arith in
    rw e (parts_behind policy (after_entry policy s place entry) (suc place) first more steps.1)

pub after_joined : (policy : PolicyView) (s : State) (place : ℕ) (first more : List Entry)
    → after_entries policy s place (first ++ more) ≡ after_entries policy (after_entries policy s place first) (place + length first) more
after_joined policy s place [] more =
    let e : place + 0 ≡ place = omega arith in
    rw e refl
after_joined policy s place (entry ∷ first) more =
    let e : place + suc (length first) ≡ suc place + length first = omega arith in
    rw e (after_joined policy (after_entry policy s place entry) (suc place) first more)
