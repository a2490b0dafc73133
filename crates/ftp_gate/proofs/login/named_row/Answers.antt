use Rattle.ftp_gate.specs.Dialogue.{tell_row}
use Rattle.ftp_gate.specs.Texts.{challenge_asked, password_asked}
use Rattle.ftp_gate.specs.declared.place.State.{State}
use Rattle.ftp_gate.proofs.RowLemmas.{row_as}
use Rattle.ftp_gate.proofs.login.named_row.Goals as goal

pub returns-in-Password : goal.returns-in-Password
returns-in-Password g c = rw c.in-Password.is (row_as (λ (s : State). tell_row password_asked s) c.with_account.ensures c.tell_row.ensures)

pub returns-in-Challenge : goal.returns-in-Challenge
returns-in-Challenge g c = rw c.in-Challenge.is (row_as (λ (s : State). tell_row (challenge_asked c.in-Challenge.number c.in-Challenge.word_seed) s) c.with_account-in-Challenge.ensures c.challenged_row.ensures)

pub returns-in-Denied : goal.returns-in-Denied
returns-in-Denied g c = rw c.in-Denied.is c.denied_row.ensures

pub returns-in-Opened : goal.returns-in-Opened
returns-in-Opened g c = rw c.in-Opened.is c.denied_row-in-Opened.ensures

pub returns-in-Ok : goal.returns-in-Ok
returns-in-Ok g c = rw c.in-Ok.is c.denied_row-in-Ok.ensures

pub returns-in-Shown : goal.returns-in-Shown
returns-in-Shown g c = rw c.in-Shown.is c.denied_row-in-Shown.ensures
