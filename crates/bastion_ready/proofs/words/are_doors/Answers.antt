use Rattle.std.proofs.Common.{◌∙◌, ◌-◌, ap, drop, length, sym, take}
use Rattle.bastion_ready.specs.Words.{door_in}
use Rattle.bastion_ready.proofs.WordLemmas.{look_next, next_front}
use Rattle.bastion_ready.proofs.words.are_doors.Goals as goal

pub loop-words-preserved : goal.loop-words-preserved
loop-words-preserved c =
    let words = c.loop-words.words.now in
    let rest = take (length words - 1) (drop 1 words) in
    let first = next_front words c.word-item.result c.in-len1-up.len_at_least c.word-item.is in
    look_next words rest c.word-item.result c.in-Some.field-0 first (ap door_in (sym c.bytes.ensures) ∙ sym c.read_door.ensures ∙ c.in-Some.is) ∙ c.loop-words.invariant
