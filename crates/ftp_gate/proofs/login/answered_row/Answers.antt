use Rattle.ftp_gate.proofs.login.answered_row.Goals as goal

pub returns-in-Ok : goal.returns-in-Ok
returns-in-Ok g c = rw c.in-Ok.is c.logged_in_row.ensures

pub returns-in-Denied : goal.returns-in-Denied
returns-in-Denied g c = rw c.in-Denied.is c.failed_row.ensures

pub returns-in-Opened : goal.returns-in-Opened
returns-in-Opened g c = rw c.in-Opened.is c.failed_row-in-Opened.ensures

pub returns-in-Password : goal.returns-in-Password
returns-in-Password g c = rw c.in-Password.is c.failed_row-in-Password.ensures

pub returns-in-Challenge : goal.returns-in-Challenge
returns-in-Challenge g c = rw c.in-Challenge.is c.failed_row-in-Challenge.ensures

pub returns-in-Shown : goal.returns-in-Shown
returns-in-Shown g c = rw c.in-Shown.is c.failed_row-in-Shown.ensures
