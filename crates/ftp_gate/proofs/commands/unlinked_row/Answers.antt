use Rattle.std.proofs.Common.{sym, ap, ◌∙◌}
use Rattle.ftp_gate.specs.Kind.{is_quit}
use Rattle.ftp_gate.proofs.commands.unlinked_row.Goals as goal

pub returns-then-is_quit : goal.returns-then-is_quit
returns-then-is_quit g c = rw (ap is_quit (sym (c.text.ensures.text ∙ c.verb.ensures)) ∙ sym c.is_quit.ensures ∙ c.if-is_quit.true) (c.tell.ensures.ran _)

pub returns : goal.returns
returns g c = rw (ap is_quit (sym (c.text.ensures.text ∙ c.verb.ensures)) ∙ sym c.is_quit.ensures ∙ c.if-is_quit.false) c.tell_row.ensures
