use Rattle.bastion.proofs.starting.announce_and_launch.Goals as goal

pub returns : goal.returns
returns g c = record {
  decided = c.announce-decided.result;
  middle = c.announce-decided.new.world;
  announced = c.announce-decided.ensures;
  launched = c.launch_if.ensures;
}
