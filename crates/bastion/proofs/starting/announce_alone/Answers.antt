use Rattle.std.proofs.Common.{refl}
use Rattle.bastion.proofs.starting.announce_alone.Goals as goal

pub returns : goal.returns
returns g c = record {
  decided = c.announce.result;
  middle = c.announce.new.world;
  announced = c.announce.ensures;
  launched = record { is = refl; same = refl };
}
