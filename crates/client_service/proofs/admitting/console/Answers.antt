use Rattle.client_service.proofs.admitting.console.Goals as goal

pub returns : goal.returns
returns g c = record { logs = g.G.Sink.sink_view c.at_console-ending.new.logs; session = c.at_console-ending.ensures; noted = c.note_ending.ensures }
