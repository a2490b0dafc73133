-- One step, by whether it is refused.
use Rattle.std.proofs.Common.{◌≡◌, ◌≢◌, ℕ, Bool, true, false, cond, List, [], ◌∷◌, ◌++◌, refl, sym, ◌∙◌, ◌+◌, length}
use Rattle.auth_events.specs.Port.{session_at}
use Rattle.auth_events.specs.declared.denial.Denial.TheVariants.{NotKept}
use Rattle.auth_events.specs.declared.entry.Entry.{Entry}
use Rattle.auth_machine.specs.Answer.{Answer, answer_of}
use Rattle.auth_machine.specs.Answer.Answer.{Denied}
use Rattle.auth_machine.specs.History.{IsLegal, IsStep, Origin, after, after_entry}
use Rattle.auth_machine.specs.Policy.{PolicyView}
use Rattle.auth_machine.specs.State.{Change, State, at_moment, changed, first_state}
use Rattle.auth_machine.specs.Step.{is_refused, proposed}
use Rattle.auth_machine.proofs.EntriesLemmas.{parts_behind}

answered : (refused : Bool) (x a : Answer) → a ≡ cond refused (Denied NotKept) x → a ≢ Denied NotKept → (refused ≡ false) × (x ≡ a)
answered true x a is not = absurd (not is)
answered false x a is not = (refl, sym is)

-- what is proposed at an entry
abbrev pub proposed_at : PolicyView → State → ℕ → Entry → Change
proposed_at policy s place entry = proposed policy s place entry.sid entry.at entry.request

abbrev pub refused_at : PolicyView → State → ℕ → Entry → Bool
refused_at policy s place entry = is_refused policy s place entry.sid entry.at entry.request entry.kept

-- an answer that isn't `NotKept` is that of the change, which is made
pub step_answered : (policy : PolicyView) (s : State) (place : ℕ) (entry : Entry) (a : Answer) → IsStep policy s place entry → answer_of entry.reply ≡ a → a ≢ Denied NotKept
    → (refused_at policy s place entry ≡ false) × ((proposed_at policy s place entry).answer ≡ a)
step_answered policy s place entry a step is not =
    answered (refused_at policy s place entry) (proposed_at policy s place entry).answer a (sym is ∙ step.reply) not

made : (refused : Bool) (x y : State) → refused ≡ false → cond refused x y ≡ y
made true x y e = absurd (cc)
made false x y e = refl

pub step_made : (policy : PolicyView) (s : State) (place : ℕ) (entry : Entry) → refused_at policy s place entry ≡ false
    → after_entry policy s place entry ≡ changed (session_at entry.request place entry.sid) (proposed_at policy s place entry) (at_moment entry.at s)
step_made policy s place entry e = made (refused_at policy s place entry) _ _ e

-- the last entry of a legal history is a step from what the others left
pub last_step : (origin : Origin) (before : List Entry) (entry : Entry) → IsLegal origin (before ++ entry ∷ []) → IsStep origin.policy (after origin before) (0 + length before) entry
last_step origin before entry legal = (parts_behind origin.policy (first_state origin.records) 0 before (entry ∷ []) legal).0
