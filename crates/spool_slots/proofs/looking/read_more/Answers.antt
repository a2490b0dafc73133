use Rattle.std.proofs.Common.{refl, rules, nat_lt, ◌∙◌}
use Rattle.spool_slots.proofs.LookLemmas.{more_front}
use Rattle.spool_slots.proofs.looking.read_more.Goals as goal

pub returns-clause-front : goal.returns-clause-front
returns-clause-front g c =
    more_front c.in_ok-count.count c.len.result _ c.read.new.buf c.args.front.now.items c.extend_from_slice.new.self.items (nat_lt c.in_ok-count.count 4096) (g.D.Disk.disk_view c.args.disk.now) (g.D.Disk.disk_view c.read.new.self)
    c.in_ok-count.ensures (c.len.ensures ∙ c.args.front.now.ok.0) (search rules) c.in_ok-extend_from_slice.ensures.items refl c.requires
