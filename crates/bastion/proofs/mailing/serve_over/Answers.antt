use Rattle.bastion.proofs.MailedLemmas.{serves_over}
use Rattle.bastion.proofs.mailing.serve_over.Goals as goal

pub returns : goal.returns
returns g c =
    serves_over c.args.peer.now c.args.rules.now c.args.rack c.serve-ending.new.rack c.new-dialer.result c.serve-ending.new.dialer _ c.serve-ending.result c.args.world.now c.serve-ending.new.world c.put_disks.new.world c.new-dialer.ensures c.serve-ending.ensures.conn c.serve-ending.ensures.inputs c.serve-ending.ensures.files
    c.close.ensures c.put_disks.ensures
