use Rattle.std.proofs.Common.{◌≡◌, ◌∙◌, ap, sym, subst, Ok, Err, ℕ}
use Rattle.otp_words.specs.Hearing.{HearsTask}
use Rattle.otp_md5.specs.Passwords.{password}
use Rattle.otp_words.proofs.TaskLemmas.{both_heard, first_fault}
use Rattle.otp_words.proofs.task.hear_password.Goals as goal

pub returns-in-Err : goal.returns-in-Err
returns-in-Err g c = first_fault c.in-Err.fault _ _ _ (rw (c.new-reader.ensures, c.in-Err.is) at c.hear_challenge.ensures)

pub returns-in-Ok-hear_phrase : goal.returns-in-Ok-hear_phrase
returns-in-Ok-hear_phrase g c =
    let P : ℕ → Type 0 = λ p. HearsTask (Ok p) (g.S.Source.source_view c.args.from.now) (g.S.Source.source_view c.hear_phrase.new.from) in
    let same : c.password.result ≡ password c.in-Ok.asked.1 c.in-Ok-hear_phrase.phrase.items c.in-Ok.asked.0 = c.password.ensures ∙ ap (λ phrase. password c.in-Ok.asked.1 phrase c.in-Ok.asked.0) c.as_slice.ensures.value in
    subst P (sym same) (both_heard c.in-Ok.asked (Ok c.in-Ok-hear_phrase.phrase.items) _ _ _ _ _ (rw (c.new-reader.ensures, c.in-Ok.is) at c.hear_challenge.ensures) c.in-Ok-hear_phrase.ensures.ok)

pub returns-in-Err-hear_phrase : goal.returns-in-Err-hear_phrase
returns-in-Err-hear_phrase g c =
    both_heard c.in-Ok.asked (Err c.in-Err-hear_phrase.fault) _ _ _ _ _ (rw (c.new-reader.ensures, c.in-Ok.is) at c.hear_challenge.ensures) (c.in-Err-hear_phrase.ensures.err)
