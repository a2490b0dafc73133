-- A pass may be sent to another thread, and a pool shared, wherever a disk may be sent.
use denote.RattleType.{RattleType}
use denote.Param.Send.{IsSend, IsSync, recorded_send, sendable, struct_send, view_send}
use denote.Struct.Declared.{shape}
use Rattle.std.proofs.Crossing.{crosses}
use Rattle.fw_disk.specs.declared.disk.Disk.{Ghosts}
use Rattle.spool_pool.proofs.lanes.Lanes.TheSendSync as Lanes
use Rattle.spool_pool.proofs.pool.Pool.TheSendSync as Sharing
use Rattle.spool_pool.specs.contracts.pass.PoolPass as PoolPass
use Rattle.spool_pool.specs.contracts.pass.PoolPass.TheInside as Pass
use Rattle.spool_pool.specs.contracts.pool.Pool as Pool
use Rattle.spool_pool.specs.contracts.tally.Tally as Tally
use Rattle.spool_pool.specs.contracts.tally.Tally.TheInside as Inside

-- the steps so far have no bytes
tally_send : (D : RattleType) (g : Ghosts D.Denot) → IsSend (Tally.the_row D g)
tally_send D g =
    view_send (Inside.the_row D g) _ _ _ _ (recorded_send (Inside.the_field D g).row _ _ (Inside.the_type D g).to_one (struct_send (shape (Inside.the_type D g)) (search (sendable, crosses) depth 20, tt)))

pub pass_send : (D : RattleType) (g : Ghosts D.Denot) → IsSend D → IsSend (PoolPass.the_row D g)
pass_send D g s =
    view_send (Pass.the_row D g) _ _ _ _ (recorded_send (Pass.the_field D g).row _ _ (Pass.the_type D g).to_one (struct_send (shape (Pass.the_type D g)) (
      search (Lanes.the_field_send, sendable) depth 20,
      (search (tally_send, sendable) depth 20, (search sendable depth 20, (search sendable depth 20, tt))),
    )))

pub pool_sync : (D : RattleType) (g : Ghosts D.Denot) → IsSend D → IsSync (Pool.the_row D g)
pool_sync D g s = Sharing.the_sync D g s
