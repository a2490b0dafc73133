use Rattle.std.proofs.Common.{◌≡◌, sym, ◌∙◌, false, true, is_some, rules}
use Rattle.fw_types.specs.Keyed.{under}
use Rattle.fw_types.proofs.KeyedLemmas.{place_is_some, placed_ascends, under_added, under_placed, under_shadowed}
use Rattle.fw_outside.specs.KeeperView.{entry_name}
use Rattle.fw_memory.proofs.mem_keeper.add_sorted.Goals as goal

pub returns-then-is_some-clause-same : goal.returns-then-is_some-clause-same
returns-then-is_some-clause-same c =
    let there : is_some (under entry_name c.args.entry.now.0 c.args.sorted.now.items) ≡ true =
    place_is_some entry_name c.args.entry.now.0 c.args.sorted.now.items c.place_of.result (search rules) ∙ search rules in
    λ k. sym (under_shadowed entry_name c.args.entry.now c.args.sorted.now.items k there)

pub returns-clause-ordered : goal.returns-clause-ordered
returns-clause-ordered c =
    let none : is_some (under entry_name c.args.entry.now.0 c.args.sorted.now.items) ≡ false =
    place_is_some entry_name c.args.entry.now.0 c.args.sorted.now.items c.place_of.result (search rules) ∙ search rules in
    rw (c.in_ok-insert.ensures, c.in_ok-twin.ensures) (placed_ascends entry_name c.args.entry.now c.args.sorted.now.items none c.requires)

pub returns-clause-same : goal.returns-clause-same
returns-clause-same c =
    let none : is_some (under entry_name c.args.entry.now.0 c.args.sorted.now.items) ≡ false =
    place_is_some entry_name c.args.entry.now.0 c.args.sorted.now.items c.place_of.result (search rules) ∙ search rules in
    λ k. rw (c.in_ok-insert.ensures, c.in_ok-twin.ensures)
    (under_placed entry_name c.args.entry.now c.args.sorted.now.items k none ∙ sym (under_added entry_name c.args.entry.now c.args.sorted.now.items k none))
