use Rattle.std.proofs.Common.{subst, sym}
use Rattle.gate_rules.specs.declared.verdict.Verdict.{Verdict}
use Rattle.session_acts.specs.World.{Devices, mail_devices_with}
use Rattle.client_service.specs.Conn.{Conn, Treats, Unstored, Unthrown, Untouched}
use Rattle.client_service.specs.Options.{OptionsFor}
use Rattle.client_service.proofs.ConnLemmas.{conn_caused, conn_dialed, conn_fronts, conn_home, conn_keeps, conn_origin, conn_refused, conn_spent, conn_unasked, conn_waited}
use Rattle.client_service.proofs.KeptLemmas.{conn_kept}
use Rattle.client_service.proofs.OptionsLemmas.{served_options}
use Rattle.client_service.proofs.serving.conn.Goals as goal

pub treat-ending-requires-clause-options : goal.treat-ending-requires-clause-options
treat-ending-requires-clause-options g c lifetimes outlive =
    subst (λ (v : Verdict). OptionsFor v c.args.service.now c.args.rules.now) (sym c.verdict_of-verdict.ensures) (served_options c.args.service.now c.args.rules.now c.args.peer.now c.requires.service)

pub returns : goal.returns
returns g c =
    let old : Devices g.row.P-Origin.Denot = mail_devices_with (g.P.AuthPort.port c.args.port.now) (g.S.Source.source_view c.args.from.now) (g.K.Sink.sink_view c.args.to.now) (g.G.Sink.sink_view c.args.logs.now)
    (g.D.Dialer.dialer_view c.args.dialer.now) (g.C.Clock.clock_view c.args.clock.now) (g.R.Dice.dice_view c.args.dice.now) (g.M-SlotStore.store_view c.args.store.now) in
    let mid : Devices g.row.P-Origin.Denot = mail_devices_with (g.P.AuthPort.port c.treat-ending.new.port) (g.S.Source.source_view c.treat-ending.new.from) (g.K.Sink.sink_view c.treat-ending.new.to) (g.G.Sink.sink_view c.treat-ending.new.logs)
    (g.D.Dialer.dialer_view c.treat-ending.new.dialer) (g.C.Clock.clock_view c.treat-ending.new.clock) (g.R.Dice.dice_view c.treat-ending.new.dice) (g.M-SlotStore.store_view c.treat-ending.new.store) in
    let new : Devices g.row.P-Origin.Denot = record mid { logs = g.G.Sink.sink_view c.note_ending.new.logs } in
    let treats = subst (λ (v : Verdict). Treats v c.args.service.now c.args.rules.now c.args.peer.now c.treat-ending.result old mid) c.verdict_of-verdict.ensures c.treat-ending.ensures.treats in
    let conn : Conn c.args.service.now c.args.rules.now c.args.peer.now old new c.treat-ending.result = record { logs = g.G.Sink.sink_view c.treat-ending.new.logs; treats = treats; noted = c.note_ending.ensures } in
    record {
      conn = conn;
      caused = conn_caused c.args.service.now c.args.rules.now c.args.peer.now old new c.treat-ending.result conn;
      spent = conn_spent c.args.service.now c.args.rules.now c.args.peer.now old new c.treat-ending.result conn;
      waited = conn_waited c.args.service.now c.args.rules.now c.args.peer.now old new c.treat-ending.result conn;
      refused = conn_refused c.args.service.now c.args.rules.now c.args.peer.now old new c.treat-ending.result conn;
      dialed = conn_dialed c.args.service.now c.args.rules.now c.args.peer.now old new c.treat-ending.result conn;
      fronts = conn_fronts c.args.service.now c.args.rules.now c.args.peer.now old new c.treat-ending.result conn;
      unasked = conn_unasked c.args.service.now c.args.rules.now c.args.peer.now old new c.treat-ending.result conn;
      origin = conn_origin c.args.service.now c.args.rules.now c.args.peer.now old new c.treat-ending.result conn;
      home = conn_home c.args.service.now c.args.rules.now c.args.peer.now old new c.treat-ending.result conn;
      untouched = subst (λ (v : Verdict). Untouched c.args.service.now v c.args.port.now c.treat-ending.new.port) c.verdict_of-verdict.ensures c.treat-ending.ensures.untouched;
      unclocked = subst (λ (v : Verdict). Untouched c.args.service.now v c.args.clock.now c.treat-ending.new.clock) c.verdict_of-verdict.ensures c.treat-ending.ensures.unclocked;
      unthrown = subst (λ (v : Verdict). Unthrown c.args.service.now v c.args.dice.now c.treat-ending.new.dice) c.verdict_of-verdict.ensures c.treat-ending.ensures.unthrown;
      unstored = subst (λ (v : Verdict). Unstored c.args.service.now v c.args.store.now c.treat-ending.new.store) c.verdict_of-verdict.ensures c.treat-ending.ensures.unstored;
      kept = conn_kept c.args.service.now c.args.rules.now c.args.peer.now old new c.treat-ending.result conn;
      keeps = conn_keeps c.args.service.now c.args.rules.now c.args.peer.now old new c.treat-ending.result conn;
    }
