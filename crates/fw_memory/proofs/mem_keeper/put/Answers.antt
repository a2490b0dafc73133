use Rattle.std.proofs.Common.{rules, ◌∙◌}
use Rattle.fw_memory.proofs.MemKeeperLemmas.{put_found, put_missing}
use Rattle.fw_memory.proofs.mem_keeper.put.Goals as goal

pub returns-in-Some-clause-ok : goal.returns-in-Some-clause-ok
returns-in-Some-clause-ok c =
    rw c.twin.ensures (put_found c.args.name.now c.args.bytes c.args.entries.now.items c.in-Some.at (search rules))

pub returns-in_ok-push-in-None-clause-ok : goal.returns-in_ok-push-in-None-clause-ok
returns-in_ok-push-in-None-clause-ok c =
    c.in_ok-push-in-None.ensures.items ∙ rw c.twin-in-None.ensures (put_missing c.args.name.now c.args.bytes c.args.entries.now.items (search rules))
