use Rattle.std.proofs.Common.{refl}
use Rattle.bastion_ready.proofs.readying.open_behind.Goals as goal

pub returns-in-Ok-clause-opened : goal.returns-in-Ok-clause-opened
returns-in-Ok-clause-opened g c = record { doors_are = refl; rules_are = c.ruled.view_is; book_is = c.in-Ok.ensures.opened.0; slots = c.in-Ok.ensures.opened.1 }
