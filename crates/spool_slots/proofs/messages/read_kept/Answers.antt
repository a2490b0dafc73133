use Rattle.slot_bytes.specs.SlotView.{mail_view}
use Rattle.spool_slots.proofs.OpenLemmas.{message_is}
use Rattle.spool_slots.proofs.messages.read_kept.Goals as goal

pub returns-in-Ok-clause-message : goal.returns-in-Ok-clause-message
returns-in-Ok-clause-message g c = λ m s. message_is c.args.head c.args.place c.in-Ok.body.items (mail_view c.message_of.result) m (g.D.Disk.disk_view c.args.disk.now) c.message_of.ensures c.requires.head c.in-Ok.ensures.body s
