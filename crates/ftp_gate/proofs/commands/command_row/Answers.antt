use Rattle.std.proofs.Common.{sym, ap, ◌∙◌}
use Rattle.ftp_gate.specs.Kind.{kind_of}
use Rattle.ftp_gate.proofs.commands.command_row.Goals as goal

pub returns-in-Some : goal.returns-in-Some
returns-in-Some g c = rw (c.in-Some.is, ap kind_of (sym (c.text.ensures.text ∙ c.verb.ensures)) ∙ sym c.kind_of-kind.ensures) c.kind_row.ensures

pub returns-in-None : goal.returns-in-None
returns-in-None g c = rw c.in-None.is c.tell_row.ensures
