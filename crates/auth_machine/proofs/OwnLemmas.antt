-- An entry wasn't kept exactly where it says so, and no entry says that the history is full.
use Rattle.std.proofs.Common.{◌≡◌, ◌≢◌, ℕ, suc, Bool, true, false, cond, not, ◌&&◌, List, [], ◌∷◌, Some, None, refl, sym, ap, ◌∙◌}
use Rattle.std.specs.List.{AllByRecursion}
use Rattle.auth_events.specs.declared.denial.Denial.{Denial}
use Rattle.auth_events.specs.declared.denial.Denial.TheVariants as denials
use Rattle.auth_events.specs.declared.entry.Entry.{Entry}
use Rattle.auth_events.specs.declared.reply.Reply.{Reply}
use Rattle.auth_events.specs.declared.reply.Reply.TheVariants as replies
use Rattle.auth_machine.specs.Answer.{Answer, answer_of}
use Rattle.auth_machine.specs.Answer.Answer.{Denied}
use Rattle.auth_machine.specs.Answers.{full_answer, is_unkept_answer}
use Rattle.auth_machine.specs.History.{AreSteps, IsLegal, IsStep, Origin, after_entry}
use Rattle.auth_machine.specs.Laws.{SaysIfKept}
use Rattle.auth_machine.specs.Policy.{PolicyView}
use Rattle.auth_machine.specs.State.{State, first_state}
use Rattle.auth_machine.specs.Step.{keeps}
use Rattle.auth_machine.proofs.BookLemmas.{own_proposal}
use Rattle.auth_machine.proofs.StepLemmas.{proposed_at}

said_denied : (reply : Reply) (d : Denial) → answer_of reply ≡ Denied d → reply ≡ replies.Denied d
said_denied (replies.Denied other) d is = cc
said_denied (replies.Opened sid) d is = absurd (cc)
said_denied replies.Password d is = absurd (cc)
said_denied (replies.Challenge number word_seed) d is = absurd (cc)
said_denied replies.Ok d is = absurd (cc)
said_denied (replies.Shown summary) d is = absurd (cc)

never_full : (a : Answer) (reply : Reply) → full_answer a ≡ None → answer_of reply ≡ a → (limit : ℕ) → reply ≢ replies.Denied (denials.Full limit)
never_full a reply not_full is limit e =
    let f : full_answer a ≡ Some limit = ap full_answer (sym is ∙ ap answer_of e) in
    absurd (cc)

never_unkept : (a : Answer) (reply : Reply) → is_unkept_answer a ≡ false → answer_of reply ≡ a → reply ≢ replies.Denied denials.NotKept
never_unkept a reply kept_by is e =
    let f : is_unkept_answer a ≡ true = ap is_unkept_answer (sym is ∙ ap answer_of e) in
    absurd (cc)

says : (edit kept : Bool) (a : Answer) (reply : Reply) → full_answer a ≡ None → is_unkept_answer a ≡ false → (edit ≡ false → kept ≡ true)
    → answer_of reply ≡ cond (edit && not kept) (Denied denials.NotKept) a
    → ((limit : ℕ) → reply ≢ replies.Denied (denials.Full limit)) × (kept ≡ false → reply ≡ replies.Denied denials.NotKept) × (reply ≡ replies.Denied denials.NotKept → kept ≡ false)
says true false a reply not_full kept_by at_rest is =
    let said = said_denied reply denials.NotKept is in
    (λ limit e. absurd (cc), λ e. said, λ e. refl)
says true true a reply not_full kept_by at_rest is =
    (λ limit e. never_full a reply not_full is limit e, λ e. absurd (cc), λ e. absurd (never_unkept a reply kept_by is e))
says false true a reply not_full kept_by at_rest is =
    (λ limit e. never_full a reply not_full is limit e, λ e. absurd (cc), λ e. absurd (never_unkept a reply kept_by is e))
says false false a reply not_full kept_by at_rest is = let e = at_rest refl in absurd (cc)

step_says : (policy : PolicyView) (s : State) (place : ℕ) (entry : Entry) → IsStep policy s place entry → SaysIfKept entry
step_says policy s place entry step =
    let own = own_proposal policy s place entry.sid entry.at entry.request in
    let all = says (keeps policy s place entry.sid entry.at entry.request) entry.kept (proposed_at policy s place entry).answer entry.reply own.full own.kept step.kept step.reply in
    record { never_full = all.0; unkept = all.1; says_unkept = all.2 }

all_say : (policy : PolicyView) (entries : List Entry) (place : ℕ) (s : State) → AreSteps policy s place entries → AllByRecursion SaysIfKept entries
all_say policy [] place s steps = tt
all_say policy (entry ∷ entries) place s steps = (step_says policy s place entry steps.0, all_say policy entries (suc place) (after_entry policy s place entry) steps.1)

pub entries_say : (origin : Origin) (history : List Entry) → IsLegal origin history → AllByRecursion SaysIfKept history
entries_say origin history legal = all_say origin.policy history 0 (first_state origin.records) legal
