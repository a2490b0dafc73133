use Rattle.std.proofs.Common.{sym, ◌∙◌}
use Rattle.smap_gate.proofs.DraftLemmas.{envelope}
use Rattle.smap_gate.proofs.mail.draft_row.Goals as goal

pub returns-then-is_empty-clause-ran : goal.returns-then-is_empty-clause-ran
returns-then-is_empty-clause-ran g c = rw (sym c.is_empty.ensures ∙ c.if-is_empty.true) c.tell_at.ensures.ran

pub returns-clause-ran : goal.returns-clause-ran
returns-clause-ran g c = rw (sym c.is_empty.ensures ∙ c.if-is_empty.false) c.deposit_row.ensures.ran

pub deposit_row-requires : goal.deposit_row-requires
deposit_row-requires g c = envelope c.args.script.now c.args.sender c.args.rcpts c.most_rcpts.result c.requires c.most_rcpts.ensures.is c.most_rcpts.ensures.fits (sym c.is_empty.ensures ∙ c.if-is_empty.false)
