use Rattle.std.proofs.Common.{sym, ◌∙◌}
use Rattle.session_acts.proofs.OwedLemmas.{closed_fault, closed_none, closed_reply}
use Rattle.session_acts.proofs.session.close.Goals as goal

pub returns-then-not-is_open : goal.returns-then-not-is_open
returns-then-not-is_open g c = closed_none _ _ (sym c.is_open.ensures ∙ c.if-not-is_open.true)

pub returns-in-Ok : goal.returns-in-Ok
returns-in-Ok g c = closed_reply _ _ _ _ (sym c.is_open.ensures ∙ c.if-not-is_open.false) c.in-Ok.ensures

pub returns-in-Err : goal.returns-in-Err
returns-in-Err g c = closed_fault _ c.in-Err.cause _ _ (sym c.is_open.ensures ∙ c.if-not-is_open.false) c.in-Err.ensures
