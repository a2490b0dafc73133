use Rattle.std.proofs.Common.{◌≡◌, false, length, sym, ◌∙◌, arith}
use Rattle.std.specs.Prelude.{◌==◌}
use Rattle.gate_rules.specs.Lists.{is_verb_word, verb_in}
use Rattle.gate_rules.proofs.ListsLemmas.{all_at_end, items_at_end, verbs_are}
use Rattle.gate_rules.proofs.lists.verbs_of.Goals as goal

pub push-requires : goal.push-requires
push-requires c = omega (arith, c.at_most-few.ensures.few, c.loop-word.invariant.count, c.loop-word-test.true)

pub returns : goal.returns
returns c =
    let few = c.at_most-few.result.now in
    let i = c.loop-word.word-index in
    let some : (length c.args.words.now == 0) ≡ false = sym c.is_empty.ensures ∙ c.if-is_empty.false in
    let all = all_at_end is_verb_word few i c.loop-word-test.false c.loop-word.invariant.all in
    let items = items_at_end verb_in c.loop-word.verbs few i c.loop-word-test.false c.loop-word.invariant.items in
    verbs_are c.args.words.now few c.loop-word.verbs c.at_most-few.ensures.words some c.if-words-gt-MOST_VERBS.false all items
