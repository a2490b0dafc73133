-- What stands behind a dialogue: a relay, and what is owed.
-- No public clause cites these: they say what private functions answer.
use Rattle.std.specs.Prelude.{◌≡◌, Option, Some, None, Result, Ok, Err}
use Rattle.auth_events.specs.declared.port.PortFault.{PortFault}
use Rattle.auth_events.specs.declared.reply.Reply.{Reply}
use Rattle.fw_types.specs.declared.ending.Ending.{Ending}
use Rattle.relay_ways.specs.Ending as ways
use Rattle.relay_ways.specs.declared.way_end.WayEnd.{WayEnd}
use Rattle.session_acts.specs.Deeds.{DeedsAll}
use Rattle.session_acts.specs.Met.{Carrying}
use Rattle.session_acts.specs.Relaying.{Flow, stops_by}
use Rattle.session_acts.specs.Session.{ending_of, owed}
use Rattle.session_acts.specs.World.{Speaker, World}
use Rattle.session_acts.specs.declared.cause.Cause.{Cause}

-- what was owed after a dialogue was done, and the session ends by what came first
pub record Finishing {Origin : Type 0} (dialogue : Result (Unit {0}) Cause) (old new : World Origin) (ending : Ending) : Type 0 where
  pub answer : Result Reply PortFault
  pub after : DeedsAll (owed old answer) old new
  pub ends : ending ≡ ending_of dialogue old.office.opened answer

-- both ways of a link were run, and ended so
pub record RunsWays (up down : WayEnd) (client link new_client new_link : Speaker) : Type 0 where
  pub flow : Flow
  pub is_up : flow.up.end ≡ up
  pub is_down : flow.down.end ≡ down
  pub for_client : Carrying flow.up flow.down client new_client
  pub for_server : Carrying flow.down flow.up link new_link

-- a link was relayed, and the session goes on or stops by the ends of its ways
pub record RelaysLink (result : Result (Unit {0}) Cause) (client link new_client : Speaker) (new : Option Speaker) : Type 0 where
  pub flow : Flow
  pub speaker : Speaker
  pub is : result ≡ stops_by (ways.ending_of flow.up.end flow.down.end)
  pub for_client : Carrying flow.up flow.down client new_client
  pub for_server : Carrying flow.down flow.up link speaker
  pub linked : new ≡ Some speaker

-- where no link is up, nothing was done
abbrev pub RelaysSo : Result (Unit {0}) Cause → Speaker → Option Speaker → Speaker → Option Speaker → Type 0
RelaysSo result client None new_client new = (result ≡ Ok tt) × (new_client ≡ client) × (new ≡ None)
RelaysSo result client (Some link) new_client new = RelaysLink result client link new_client new

-- where the dialogue came to its end, there was a relay
abbrev pub RelaysAfter : Result (Unit {0}) Cause → Result (Unit {0}) Cause → Speaker → Option Speaker → Speaker → Option Speaker → Type 0
RelaysAfter (Ok done) result client link new_client new = RelaysSo result client link new_client new
RelaysAfter (Err cause) result client link new_client new = (result ≡ Err cause) × (new_client ≡ client) × (new ≡ link)
