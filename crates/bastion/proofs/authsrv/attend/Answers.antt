use Rattle.bastion.proofs.ClientLemmas.{holds_does}
use Rattle.bastion.proofs.authsrv.attend.Goals as goal

pub returns-in-Ok : goal.returns-in-Ok
returns-in-Ok g c = holds_does c.args.name.now c.args.client.now c.in-Ok.rules c.in-Ok.book c.hold_over.result c.args.world.now c.open_for.new.world c.hold_over.new.world c.in-Ok.ensures.opens c.hold_over.ensures
