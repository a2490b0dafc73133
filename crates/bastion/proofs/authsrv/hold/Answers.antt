use Rattle.gate_rules.specs.declared.service.Service.TheVariants.{Authsrv}
use Rattle.bastion.specs.Serving.{devices_at}
use Rattle.bastion.proofs.ClientLemmas.{conn_undialed_so, same_undialed}
use Rattle.client_service.proofs.ConnLemmas.{conn_dialed, console_undialed}
use Rattle.bastion.proofs.authsrv.hold.Goals as goal

pub returns-then-client-clause-undialed : goal.returns-then-client-clause-undialed
returns-then-client-clause-undialed g c = same_undialed c.args.dialer.now c.hold_at_console.new.dialer
    (console_undialed Authsrv c.args.client.now.peer (devices_at c.args.world.now c.args.book.now c.args.dialer.now) (devices_at c.hold_at_console.new.world c.hold_at_console.new.book c.hold_at_console.new.dialer) c.hold_at_console.result c.hold_at_console.ensures.at_console)

pub returns-clause-undialed : goal.returns-clause-undialed
returns-clause-undialed g c = conn_undialed_so c.args.rules.now c.args.client.now.peer c.args.dialer.now c.hold_by_rules.new.dialer
    (conn_dialed Authsrv c.args.rules.now c.args.client.now.peer (devices_at c.args.world.now c.args.book.now c.args.dialer.now) (devices_at c.hold_by_rules.new.world c.hold_by_rules.new.book c.hold_by_rules.new.dialer) c.hold_by_rules.result c.hold_by_rules.ensures.conn)
