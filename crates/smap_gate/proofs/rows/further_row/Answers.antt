use Rattle.std.proofs.Common.{sym, ◌∙◌}
use Rattle.smap_gate.proofs.rows.further_row.Goals as goal

pub returns-then-has_room-clause-ran : goal.returns-then-has_room-clause-ran
returns-then-has_room-clause-ran g c = rw (sym c.has_room.ensures ∙ c.if-has_room.true, sym c.path_behind.ensures.is) c.recipient_row.ensures.ran

pub returns-clause-ran : goal.returns-clause-ran
returns-clause-ran g c = rw (sym c.has_room.ensures ∙ c.if-has_room.false) c.tell_at.ensures.ran
