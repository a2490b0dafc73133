use Rattle.std.proofs.Common.{◌≡◌, Some, refl, sym, ◌∙◌}
use Rattle.session_acts.proofs.RelayLemmas.{relays_link}
use Rattle.session_acts.proofs.relaying.relay_link.Goals as goal

pub returns : goal.returns
returns g c =
    let linked : c.args.link.now ≡ Some c.in-Some.up = sym c.take.ensures.value ∙ c.in-Some.is in
    rw linked (relays_link c.run_ways-there.result.0 c.run_ways-there.result.1 c.stops_by.result c.way_ending.result _ _ _ _ _ c.run_ways-there.ensures c.way_ending.ensures c.stops_by.ensures refl)
