-- One entry more.
use Rattle.std.proofs.Common.{arith, ◌≡◌, ap, ◌∙◌, subst, ℕ, suc, ◌+◌, ◌≤◌, List, [], ◌∷◌, ◌++◌, length, cond}
use Rattle.fw_outside.specs.KeeperView.{KeeperView}
use Rattle.auth_events.specs.declared.entry.Entry.{Entry}
use Rattle.auth_machine.specs.History.{AreSteps, IsLegal, IsStep, Origin, after, after_entries, after_entry, edits, edits_from, unkept, CountsCalls}
use Rattle.auth_machine.specs.Policy.{PolicyView}
use Rattle.auth_machine.specs.State.{State, first_state}
use Rattle.auth_machine.specs.Step.{keeps}

after_more : (policy : PolicyView) (s : State) (place : ℕ) (h : List Entry) (entry : Entry)
    → after_entries policy s place (h ++ entry ∷ []) ≡ after_entry policy (after_entries policy s place h) (place + length h) entry
after_more policy s place [] entry = ap (λ (n : ℕ). after_entry policy s n entry) (omega (arith))
after_more policy s place (e ∷ h) entry =
    after_more policy (after_entry policy s place e) (suc place) h entry
    ∙ ap (λ (n : ℕ). after_entry policy (after_entries policy (after_entry policy s place e) (suc place) h) n entry) (omega (arith))

-- the state after one entry more
pub after_one_more : (origin : Origin) (h : List Entry) (entry : Entry) → after origin (h ++ entry ∷ []) ≡ after_entry origin.policy (after origin h) (length h) entry
after_one_more origin h entry =
    after_more origin.policy (first_state origin.records) 0 h entry
    ∙ ap (λ (n : ℕ). after_entry origin.policy (after origin h) n entry) (omega (arith))

steps_more : (policy : PolicyView) (s : State) (place : ℕ) (h : List Entry) (entry : Entry)
    → AreSteps policy s place h → IsStep policy (after_entries policy s place h) (place + length h) entry → AreSteps policy s place (h ++ entry ∷ [])
steps_more policy s place [] entry steps step = (subst (λ (n : ℕ). IsStep policy s n entry) (omega (arith)) step, tt)
steps_more policy s place (e ∷ h) entry steps step = (
  steps.0,
  steps_more policy (after_entry policy s place e) (suc place) h entry steps.1
      (subst (λ (n : ℕ). IsStep policy (after_entries policy (after_entry policy s place e) (suc place) h) n entry) (omega (arith)) step),
)

-- a legal history with one step more is legal
pub legal_one_more : (origin : Origin) (h : List Entry) (entry : Entry) → IsLegal origin h → IsStep origin.policy (after origin h) (length h) entry → IsLegal origin (h ++ entry ∷ [])
legal_one_more origin h entry legal step =
    steps_more origin.policy (first_state origin.records) 0 h entry legal
    (subst (λ (n : ℕ). IsStep origin.policy (after origin h) n entry) (omega (arith)) step)

pub unkept_one_more : (h : List Entry) (entry : Entry) → unkept (h ++ entry ∷ []) ≡ unkept h + (cond entry.kept 0 1)
unkept_one_more [] entry = omega (arith)
unkept_one_more (e ∷ h) entry =
    let more : unkept (h ++ entry ∷ []) ≡ unkept h + (cond entry.kept 0 1) = unkept_one_more h entry in
    omega (arith, more)

edits_more : (policy : PolicyView) (s : State) (place : ℕ) (h : List Entry) (entry : Entry)
    → edits_from policy s place (h ++ entry ∷ []) ≡ edits_from policy s place h + cond (keeps policy (after_entries policy s place h) (place + length h) entry.sid entry.at entry.request) 1 0
edits_more policy s place [] entry =
    let none : place ≡ place + 0 = omega (arith) in
    let same : cond (keeps policy s place entry.sid entry.at entry.request) 1 0 + 0 ≡ 0 + cond (keeps policy s place entry.sid entry.at entry.request) 1 0 = omega (arith) in
    subst (λ (n : ℕ). cond (keeps policy s place entry.sid entry.at entry.request) 1 0 + 0 ≡ 0 + cond (keeps policy s n entry.sid entry.at entry.request) 1 0) none same
edits_more policy s place (e ∷ h) entry =
    let rest = edits_more policy (after_entry policy s place e) (suc place) h entry in
    let here : suc place + length h ≡ place + suc (length h) = omega (arith) in
    let more : edits_from policy (after_entry policy s place e) (suc place) (h ++ entry ∷ [])
    ≡ edits_from policy (after_entry policy s place e) (suc place) h + cond (keeps policy (after_entries policy (after_entry policy s place e) (suc place) h) (place + suc (length h)) entry.sid entry.at entry.request) 1 0 =
    subst (λ (n : ℕ). edits_from policy (after_entry policy s place e) (suc place) (h ++ entry ∷ []) ≡ edits_from policy (after_entry policy s place e) (suc place) h + cond (keeps policy (after_entries policy (after_entry policy s place e) (suc place) h) n entry.sid entry.at entry.request) 1 0) here rest in
    omega (arith, more)

-- and one edit more, where the entry edits a record
pub edits_one_more : (origin : Origin) (h : List Entry) (entry : Entry) → edits origin (h ++ entry ∷ []) ≡ edits origin h + cond (keeps origin.policy (after origin h) (length h) entry.sid entry.at entry.request) 1 0
edits_one_more origin h entry =
    let first : 0 + length h ≡ length h = omega (arith) in
    subst (λ (n : ℕ). edits origin (h ++ entry ∷ []) ≡ edits origin h + cond (keeps origin.policy (after origin h) n entry.sid entry.at entry.request) 1 0) first (edits_more origin.policy (first_state origin.records) 0 h entry)

-- calls for so many requests are calls for more
pub calls_for : (called : ℕ) (origin : Origin) (h : List Entry) (asks others : ℕ) (keeper : KeeperView) → asks ≤ others → CountsCalls called origin h asks keeper → CountsCalls called origin h others keeper
calls_for called origin h asks others keeper more calls = record {
  least = calls.least;
  most = λ below. let was = calls.most (omega (arith, more, below)) in omega (arith, was, more);
}

last_of : (policy : PolicyView) (s : State) (place : ℕ) (h : List Entry) (entry : Entry)
    → AreSteps policy s place (h ++ entry ∷ []) → IsStep policy (after_entries policy s place h) (place + length h) entry
last_of policy s place [] entry steps = subst (λ (n : ℕ). IsStep policy s n entry) (omega (arith)) steps.0
last_of policy s place (e ∷ h) entry steps =
    subst (λ (n : ℕ). IsStep policy (after_entries policy (after_entry policy s place e) (suc place) h) n entry) (omega (arith))
    (last_of policy (after_entry policy s place e) (suc place) h entry steps.1)

-- the last entry of a legal history is a step
pub last_step : (origin : Origin) (h : List Entry) (entry : Entry) → IsLegal origin (h ++ entry ∷ []) → IsStep origin.policy (after origin h) (length h) entry
last_step origin h entry legal =
    subst (λ (n : ℕ). IsStep origin.policy (after origin h) n entry) (omega (arith)) (last_of origin.policy (first_state origin.records) 0 h entry legal)
