use Rattle.std.specs.Prelude.{IfSome, Ok}
use Rattle.std.proofs.Common.{◌≡◌, ◌∙◌, ap, sym, subst}
use Rattle.fw_outside.specs.KeeperView.{KeeperView}
use Rattle.auth_machine.specs.History.{DecodesTo}
use Rattle.auth_machine.specs.Opening.{records_in}
use Rattle.auth_machine.proofs.OpeningLemmas.{in_order, ok_so, told_so}
use Rattle.auth_machine.proofs.opening.load.Goals as goal

pub returns-in-Ok-clause-ordered : goal.returns-in-Ok-clause-ordered
returns-in-Ok-clause-ordered g c = ok_so c.read_entries.result c.read_entries.ensures.reads (λ records is. in_order c.in-Ok.loaded.items records.items (ap records_in (sym c.deref.ensures.value) ∙ is) c.in-Ok.ensures.loaded.ordered)

pub returns-in-Ok-clause-told : goal.returns-in-Ok-clause-told
returns-in-Ok-clause-told g c = ok_so c.read_entries.result c.read_entries.ensures.reads (λ records is.
    subst (λ (keeper : KeeperView). IfSome keeper.table (DecodesTo records.items)) (sym c.in-Ok.ensures.loaded.is)
    (told_so (g.K.Keeper.keeper_view c.args.keeper.now).table c.in-Ok.loaded.items records.items c.in-Ok.ensures.loaded.told (ap records_in (sym c.deref.ensures.value) ∙ is)))
