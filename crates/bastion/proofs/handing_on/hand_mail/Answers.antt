use Rattle.std.proofs.Common.{refl, inl, inr}
use Rattle.bastion.proofs.HandedLemmas.{round_held}
use Rattle.bastion.proofs.handing_on.hand_mail.Goals as goal

pub returns-in-Ok : goal.returns-in-Ok
returns-in-Ok g c = inr (round_held _ c.turns_for-turns.result c.in-Ok.rack c.hand_over.result c.args.world.now c.open_rack.new.world c.hand_over.new.world c.turns_for-turns.ensures c.in-Ok.ensures.opened c.hand_over.ensures)

pub returns-in-Err : goal.returns-in-Err
returns-in-Err g c = inl (c.in-Err.ensures.unopened, refl)
