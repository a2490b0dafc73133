-- How a session ends by the ends of its two ways.
use Rattle.fw_types.specs.declared.ending.Ending.{Ending}
use Rattle.fw_types.specs.declared.ending.Ending.TheVariants.{ClientFault, ServerFault}
use Rattle.fw_types.specs.declared.ending.Ending.TheVariants as session
use Rattle.relay_ways.specs.declared.way_end.WayEnd.{WayEnd}
use Rattle.relay_ways.specs.declared.way_end.WayEnd.TheVariants.{Done, ReadFault, WriteFault, Idle, Spent}

-- the first row that applies, of the end of the way from the client and that of the way to the client
abbrev pub ending_of : WayEnd → WayEnd → Ending
ending_of ReadFault _ = ClientFault
ending_of _ WriteFault = ClientFault
ending_of WriteFault _ = ServerFault
ending_of _ ReadFault = ServerFault
ending_of Idle _ = session.Idle
ending_of _ Idle = session.Idle
ending_of Spent _ = session.Spent
ending_of _ Spent = session.Spent
ending_of Done Done = session.Done
