use Rattle.bastion.proofs.HandedLemmas.{serves_round}
use Rattle.bastion.proofs.handing_on.hand_over.Goals as goal

pub returns : goal.returns
returns g c =
    let did = c.hand_on-rounded.ensures in
    let told = c.tell_round.ensures in
    serves_round _ c.args.turns c.args.rack c.hand_on-rounded.new.rack c.hand_on-rounded.result.answer c.hand_on-rounded.result.trouble _ c.tell_round.result c.args.world.now c.hand_on-rounded.new.world c.put_disks.new.world c.tell_round.new.world did.hands did.inputs did.output did.files
    c.close.ensures c.put_disks.ensures told.tells told.inputs told.logs told.files
