use Rattle.std.proofs.Common.{refl}
use Rattle.fw_outside.specs.SinkView.{SinkView}
use Rattle.session_acts.specs.World.{Devices, mail_devices_with}
use Rattle.client_service.proofs.DenialLemmas.{denied_session}
use Rattle.client_service.proofs.ServiceLemmas.{denied_unstored, denied_untouched, permitted_unstored, permitted_unthrown, permitted_untouched, same_unthrown, treated_deny, treated_permit}
use Rattle.client_service.proofs.serving.treat.Goals as goal

pub returns-in-Deny : goal.returns-in-Deny
returns-in-Deny g c =
    let old : Devices g.row.P-Origin.Denot = mail_devices_with (g.P.AuthPort.port c.args.port.now) (g.S.Source.source_view c.args.from.now) (g.K.Sink.sink_view c.args.to.now) (g.G.Sink.sink_view c.args.logs.now)
    (g.D.Dialer.dialer_view c.args.dialer.now) (g.C.Clock.clock_view c.args.clock.now) (g.R.Dice.dice_view c.args.dice.now) (g.M-SlotStore.store_view c.args.store.now) in
    let told : SinkView = g.K.Sink.sink_view c.deny.new.to in
    let logs : SinkView = g.G.Sink.sink_view c.deny.new.logs in
    let new : Devices g.row.P-Origin.Denot = record old { outlet = told; logs = logs } in
    record {
      treats = treated_deny c.args.verdict c.in-Deny.line c.args.service.now c.args.rules.now c.args.peer.now c.deny.result old new c.in-Deny.is
          (denied_session c.args.service.now c.in-Deny.line c.args.peer.now c.deny.result old told logs c.deny.ensures);
      untouched = denied_untouched c.args.service.now c.args.verdict c.in-Deny.line c.args.port.now c.args.port.now c.in-Deny.is refl;
      unclocked = denied_untouched c.args.service.now c.args.verdict c.in-Deny.line c.args.clock.now c.args.clock.now c.in-Deny.is refl;
      unthrown = same_unthrown c.args.service.now c.args.verdict c.in-Deny.line c.args.dice.now c.args.dice.now c.in-Deny.is refl;
      unstored = denied_unstored c.args.service.now c.args.verdict c.in-Deny.line c.args.store.now c.args.store.now c.in-Deny.is refl;
    }

pub returns-in-Permit : goal.returns-in-Permit
returns-in-Permit g c =
    let old : Devices g.row.P-Origin.Denot = mail_devices_with (g.P.AuthPort.port c.args.port.now) (g.S.Source.source_view c.args.from.now) (g.K.Sink.sink_view c.args.to.now) (g.G.Sink.sink_view c.args.logs.now)
    (g.D.Dialer.dialer_view c.args.dialer.now) (g.C.Clock.clock_view c.args.clock.now) (g.R.Dice.dice_view c.args.dice.now) (g.M-SlotStore.store_view c.args.store.now) in
    let new : Devices g.row.P-Origin.Denot = mail_devices_with (g.P.AuthPort.port c.permit.new.port) (g.S.Source.source_view c.permit.new.from) (g.K.Sink.sink_view c.permit.new.to) (g.G.Sink.sink_view c.permit.new.logs)
    (g.D.Dialer.dialer_view c.permit.new.dialer) (g.C.Clock.clock_view c.permit.new.clock) (g.R.Dice.dice_view c.permit.new.dice) (g.M-SlotStore.store_view c.permit.new.store) in
    record {
      treats = treated_permit c.args.verdict c.in-Permit.line c.args.service.now c.args.rules.now c.args.peer.now c.permit.result old new c.in-Permit.is c.permit.ensures.permits;
      untouched = permitted_untouched c.args.service.now c.args.verdict c.in-Permit.line c.args.port.now c.permit.new.port c.in-Permit.is c.permit.ensures.untouched;
      unclocked = permitted_untouched c.args.service.now c.args.verdict c.in-Permit.line c.args.clock.now c.permit.new.clock c.in-Permit.is c.permit.ensures.unclocked;
      unthrown = permitted_unthrown c.args.service.now c.args.verdict c.in-Permit.line c.args.dice.now c.permit.new.dice c.in-Permit.is c.permit.ensures.unthrown;
      unstored = permitted_unstored c.args.service.now c.args.verdict c.in-Permit.line c.args.store.now c.permit.new.store c.in-Permit.is c.permit.ensures.unstored;
    }
