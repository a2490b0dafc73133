use Rattle.bastion.proofs.ClientLemmas.{link_passes}
use Rattle.bastion.proofs.gateways.pass_link.Goals as goal

pub returns : goal.returns
returns g c =
    let old = c.args.world.now in
    let held = c.pass-ending in
    link_passes c.args.service.now c.args.peer.now c.args.rules.now _ c.new-port.result held.new.port held.result c.refused-refused.result old c.take_ends-from.new.world held.new.world c.put_ends.new.world c.take_ends-from.ensures.there c.take_ends-from.ensures.is
    c.new-port.ensures held.ensures.conn held.ensures.untouched c.refused-refused.ensures held.ensures.files held.ensures.keeper held.ensures.launcher held.ensures.disks c.put_ends.ensures.texts c.put_ends.ensures.is
