-- Steps over the data of a mail.
use Rattle.std.proofs.Common.{◌≡◌, ℕ, Bool, false, true, not, List, [], ◌∷◌, ◌++◌, map, Some, append-nil, sym, ap, ◌∙◌}
use Rattle.std.specs.Prelude.{IsTrue, flat_map}
use Rattle.std.specs.List.{list_all}
use Rattle.std.proofs.lemmas.Bool.{and_parts}
use Rattle.smap_lines.specs.Body.{body_after, body_from, mail_body_of}
use Rattle.smap_lines.specs.MailBodyView.{AllGive, GivesBody, MailBodyView, BodyFed, given, is_body_end, body_view_after}
use Rattle.smap_lines.specs.declared.body.BodyStep.{BodyStep}
use Rattle.smap_lines.specs.declared.body.BodyStep.TheVariants.{Bytes, End}
use Rattle.smap_lines.proofs.BodyLemmas.{behind_nothing, behind_twice}

abbrev bytes_of : List BodyFed → List ℕ
bytes_of steps = map (λ step. step.byte) steps

abbrev all_given : List BodyFed → List ℕ
all_given steps = flat_map (λ step. given step.answer) steps

abbrev no_end : List BodyFed → Bool
no_end steps = list_all (λ step. not (is_body_end step.answer)) steps

one : (answer : BodyStep) (before after : MailBodyView) (byte : ℕ) (rest : List ℕ) → not (is_body_end answer) ≡ true → GivesBody answer before after byte →
    body_from before.middle (before.pending ++ byte ∷ rest) ≡ body_after (given answer) (body_from after.middle (after.pending ++ rest))
one (Bytes bytes) before after byte rest more gives = gives rest
one End before after byte rest more gives = absurd (cc)

run : (before : MailBodyView) (steps : List BodyFed) (rest : List ℕ) → AllGive before steps → IsTrue (no_end steps) →
    body_from before.middle (before.pending ++ (bytes_of steps ++ rest)) ≡ body_after (all_given steps) (body_from (body_view_after before steps).middle ((body_view_after before steps).pending ++ rest))
run before [] rest h more = sym (behind_nothing (body_from before.middle (before.pending ++ rest)))
run before (step ∷ steps) rest h more =
    let parts = and_parts (not (is_body_end step.answer)) (no_end steps) more in
    one step.answer before step.after step.byte (bytes_of steps ++ rest) parts.0 h.0
    ∙ ap (body_after (given step.answer)) (run step.after steps rest h.1 parts.1)
    ∙ behind_twice (given step.answer) (all_given steps) (body_from (body_view_after step.after steps).middle ((body_view_after step.after steps).pending ++ rest))

abbrev beginning : MailBodyView
beginning = record { middle = false; pending = [] }

pub front_given : (steps : List BodyFed) (rest : List ℕ) → AllGive beginning steps → IsTrue (no_end steps) →
    mail_body_of (bytes_of steps ++ rest) ≡ body_after (all_given steps) (body_from (body_view_after beginning steps).middle ((body_view_after beginning steps).pending ++ rest))
front_given steps rest h more = run beginning steps rest h more

pub whole_given : (steps : List BodyFed) (byte : ℕ) (after : MailBodyView) (rest : List ℕ) → AllGive beginning steps → IsTrue (no_end steps) → GivesBody End (body_view_after beginning steps) after byte →
    mail_body_of (bytes_of steps ++ byte ∷ rest) ≡ Some record { bytes = all_given steps; rest = rest }
whole_given steps byte after rest h more end =
    run beginning steps (byte ∷ rest) h more ∙ ap (body_after (all_given steps)) (end rest) ∙ ap (λ t. Some record { bytes = t; rest = rest }) (append-nil (all_given steps))
