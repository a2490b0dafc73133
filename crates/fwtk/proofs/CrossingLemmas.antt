-- The records may go to another thread. A search alone runs out of steps in the connection.
use denote.RattleType.{RattleType}
use denote.Param.Send.{IsSend, recorded_send, sendable, struct_send}
use denote.Struct.Declared.{shape}
use Rattle.std.proofs.Crossing.{crosses}
use Rattle.std.proofs.option.Option.TheSendSync as option
use Rattle.fw_real.below.sqlite_store.proofs.store.FileStore.TheSendSync as store
use Rattle.fw_real.below.sqlite.proofs.connection.Connection.TheSendSync as connection
use Rattle.fw_real.below.sqlite_disk.specs.contracts.start.Wary as Wary
use Rattle.fw_real.below.sqlite_disk.proofs.modelled.Modelled.TheSendSync as modelled
use Rattle.fw_real.below.sqlite_disk.specs.contracts.modelled.Modelled as Modelled
use Rattle.fw_real.below.sqlite_disk.specs.contracts.start.WaryStart.TheImpl as is_start
use Rattle.fw_real.below.sqlite_std_file.specs.contracts.host.Host as Host
use Rattle.fw_real.below.sqlite_std_file.specs.contracts.host.HostCalls.TheImpl as is_calls
use Rattle.fw_real.below.sqlite_store.specs.contracts.store.FileStoreStore.TheImpl as is_store
use Rattle.fw_types.proofs.octets.Octets.TheSendSync as octets
use Rattle.fw_real.specs.contracts.database.Database as Database
use Rattle.fw_real.specs.contracts.keeper.Records as Records

abbrev Disk : RattleType
Disk = Modelled.the_row Host.the_row Wary.the_row is_calls.ghosts is_start.ghosts

disk_send : IsSend Disk
disk_send = modelled.the_send Host.the_row Wary.the_row is_calls.ghosts is_start.ghosts (search (crosses, sendable) depth 20)

pub database_send : IsSend Database.the_row
database_send = recorded_send (Database.the_field).row _ _ (Database.the_type).to_one (struct_send (shape Database.the_type) (
  connection.the_send _ (is_store.ghosts Disk _ is_store.no_dict) (store.the_send _ _ disk_send),
  (search crosses, tt),
))

pub records_send : IsSend Records.the_row
records_send = recorded_send (Records.the_field).row _ _ (Records.the_type).to_one (struct_send (shape Records.the_type) (
  search sendable,
  (octets.the_send, (option.the_field_send _ database_send, (search sendable, (search sendable, tt)))),
))
