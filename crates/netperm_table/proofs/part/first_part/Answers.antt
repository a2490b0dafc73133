use Rattle.std.proofs.Common.{◌≡◌, false, rules, tests}
use Rattle.netperm_table.specs.Bytes.{is_brace, is_quote}
use Rattle.netperm_table.proofs.WordLemmas.{plain_word}
use Rattle.netperm_table.proofs.part.first_part.Goals as goal

pub returns-clause-word : goal.returns-clause-word
returns-clause-word c =
    let brace : is_brace c.args.first ≡ false = search rules in
    let quote : is_quote c.args.first ≡ false = search (rules, tests) in
    let part = c.part_of-2.ensures in
    let plain = plain_word c.args.first c.args.after.now c.requires.word brace quote in
    rw (part.text, part.rest, part.quoted, c.count_to_word_end.ensures.count, c.requires.text) plain
