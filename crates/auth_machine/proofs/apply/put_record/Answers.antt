use Rattle.std.proofs.Common.{rules, ◌≡◌}
use Rattle.std.specs.List.{insert}
use Rattle.auth_machine.proofs.SearchLemmas.{put_found, put_missing}
use Rattle.auth_machine.proofs.apply.put_record.Goals as goal

pub returns-then-stands_at : goal.returns-then-stands_at
returns-then-stands_at c =
    put_found c.args.user c.user.inside.record.name c.args.records.now.items c.deref.result.now c.deref-2.result.now c.count_before-at.result c.stands_at.result
    (search rules) c.deref.ensures.value c.deref-2.ensures.value c.requires.ordered c.count_before-at.ensures.count c.stands_at.ensures c.if-stands_at.true

pub returns : goal.returns
returns c =
    let items : c.insert.new.self.items ≡ insert c.args.records.now.items c.count_before-at.result c.args.user = search rules in
    rw items (put_missing c.args.user c.user.inside.record.name c.args.records.now.items c.deref.result.now c.deref-2.result.now c.count_before-at.result c.stands_at.result
    (search rules) c.deref.ensures.value c.deref-2.ensures.value c.requires.ordered c.count_before-at.ensures.count c.stands_at.ensures c.if-stands_at.false)
