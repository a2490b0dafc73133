use Rattle.std.proofs.Common.{◌≡◌, ◌+◌, ◌<◌, length, take, ◌++◌, ◌∷◌, [], ◌∙◌, sym, ap, arith}
use Rattle.std.proofs.lemmas.List.{take_more}
use Rattle.fw_types.specs.Keyed.{under}
use Rattle.fw_types.proofs.KeyedLemmas.{same_added}
use Rattle.fw_outside.specs.KeeperView.{entry_name}
use Rattle.fw_memory.proofs.mem_keeper.sorted.Goals as goal

pub loop-entry-preserved : goal.loop-entry-preserved
loop-entry-preserved c =
    let within : c.loop-entry.entry-index < length c.args.entries.now = omega (arith, c.loop-entry-test.true) in
    let more : take (c.loop-entry.entry-index + 1) c.args.entries.now ≡ take c.loop-entry.entry-index c.args.entries.now ++ c.entry-item.result ∷ [] = rw c.entry-item.is (take_more c.args.entries.now c.loop-entry.entry-index c.entry-item.result within) in
    record {
      ordered = c.in_ok-add_sorted.ensures.ordered;
      same = λ k. c.in_ok-add_sorted.ensures.same k
          ∙ same_added entry_name c.entry-item.result c.loop-entry.sorted.items (take c.loop-entry.entry-index c.args.entries.now) k (c.loop-entry.invariant.same k)
          ∙ ap (under entry_name k) (sym more);
    }
