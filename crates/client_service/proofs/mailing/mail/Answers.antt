use Rattle.fw_outside.specs.DialerView.{DialerView}
use Rattle.session_acts.specs.World.{Devices, mail_devices_with}
use Rattle.smap_gate.specs.Dummies.{no_clock, no_dice, no_port}
use Rattle.client_service.proofs.MailLemmas.{over_nowhere}
use Rattle.client_service.proofs.mailing.mail.Goals as goal

pub returns : goal.returns
returns g c = over_nowhere c.args.said.now c.args.script.now _ _ c.mail_session_over.result c.new-dialer.ensures c.mail_session_over.ensures.session
