-- What has come of an item gives no data.
use Rattle.std.proofs.Common.{◌≡◌, []}
use Rattle.telnet.specs.Items.{data_of}
use Rattle.telnet.specs.Place.{held}
use Rattle.telnet.specs.declared.place.Place.{Place}
use Rattle.telnet.specs.declared.place.Place.TheVariants.{Data, Command, Choice, Inside, InsideCommand}
use Rattle.telnet.proofs.ItemLemmas.{data_of-is}

pub data_of-held : (place : Place) → data_of (held place) ≡ []
data_of-held Data = data_of-is (held Data)
data_of-held Command = data_of-is (held Command)
data_of-held Choice = data_of-is (held Choice)
data_of-held Inside = data_of-is (held Inside)
data_of-held InsideCommand = data_of-is (held InsideCommand)
