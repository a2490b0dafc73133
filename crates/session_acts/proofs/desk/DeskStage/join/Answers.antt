use Rattle.std.proofs.Common.{ap, is_some, refl, rules, sym}
use Rattle.session_acts.specs.declared.joined.Joined.TheVariants.{NoNear, Up}
use Rattle.session_acts.proofs.SideDeskLemmas.{joins_back, joins_door}
use Rattle.session_acts.proofs.desk.DeskStage.join.Goals as goal

pub returns-in-Refused-back : goal.returns-in-Refused-back
returns-in-Refused-back g c =
    joins_back c.args.dest.now c.args.target c.in-Addr.addr c.in-Addr.port NoNear _ _ _ _ c.in-Addr.is c.part.ensures (search rules) (record {
      link = record { from = g.D.DataIn.Source.source_view c.in-Up.far_from; to = g.D.DataOut.Sink.sink_view c.in-Up.far_to };
      middle = g.D.Dialer.dialer_view c.side.new.self;
      later = g.D.Dialer.dialer_view c.back.new.self;
      far = c.in-Up.ensures.up;
      refused = c.in-Refused-back.ensures.refused;
      lets = c.let_go.ensures;
      same = refl;
    })

pub returns-in-Addr : goal.returns-in-Addr
returns-in-Addr g c =
    joins_back c.args.dest.now c.args.target c.in-Addr.addr c.in-Addr.port Up _ _ _ _ c.in-Addr.is c.part.ensures (search rules) (record {
      both = record {
        far = record { from = g.D.DataIn.Source.source_view c.in-Up.far_from; to = g.D.DataOut.Sink.sink_view c.in-Up.far_to };
        near = record { from = g.D.DataIn.Source.source_view c.in-Up-back.from; to = g.D.DataOut.Sink.sink_view c.in-Up-back.to };
      };
      middle = g.D.Dialer.dialer_view c.side.new.self;
      far = c.in-Up.ensures.up;
      near = c.in-Up-back.ensures.up;
      is = c.put_pair.ensures;
    })

pub returns-in-Refused-accept : goal.returns-in-Refused-accept
returns-in-Refused-accept g c =
    joins_door c.args.dest.now c.args.target NoNear _ _ _ _ _ c.in-AtDoor.is c.part.ensures (search rules) (ap is_some (sym c.in-Some.ensures.value)) (search rules) (record {
      link = record { from = g.D.DataIn.Source.source_view c.in-Up-side.far_from; to = g.D.DataOut.Sink.sink_view c.in-Up-side.far_to };
      middle = g.D.Dialer.dialer_view c.side-in-Some.new.self;
      later = g.D.Dialer.dialer_view c.accept.new.self;
      far = c.in-Up-side.ensures.up;
      refused = c.in-Refused-accept.ensures.refused;
      lets = c.let_go-in-Refused-accept.ensures;
      same = refl;
    })

pub returns : goal.returns
returns g c =
    joins_door c.args.dest.now c.args.target Up _ _ _ _ _ c.in-AtDoor.is c.part.ensures (search rules) (ap is_some (sym c.in-Some.ensures.value)) (search rules) (record {
      both = record {
        far = record { from = g.D.DataIn.Source.source_view c.in-Up-side.far_from; to = g.D.DataOut.Sink.sink_view c.in-Up-side.far_to };
        near = record { from = g.D.DataIn.Source.source_view c.in-Up-accept.from; to = g.D.DataOut.Sink.sink_view c.in-Up-accept.to };
      };
      middle = g.D.Dialer.dialer_view c.side-in-Some.new.self;
      far = c.in-Up-side.ensures.up;
      near = c.in-Up-accept.ensures.up;
      is = c.put_pair-in-Up-accept.ensures;
    })
