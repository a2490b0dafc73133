use Rattle.std.proofs.Common.{sym, ◌∙◌, ap}
use Rattle.std.specs.Option.{option_copied}
use Rattle.ftp_gate.proofs.destinations.again_row.Goals as goal

pub returns-in-Some : goal.returns-in-Some
returns-in-Some g c = rw (sym c.name_there.ensures.is ∙ ap option_copied c.in-Some.is) c.pass_user_row.ensures

pub returns-in-None : goal.returns-in-None
returns-in-None g c = rw (sym c.name_there.ensures.is ∙ ap option_copied c.in-None.is) c.tell_row.ensures
