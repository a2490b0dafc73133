use Rattle.std.proofs.Common.{◌≡◌, ◌∙◌, ◌-◌, List, ap, drop, length, sym, take}
use Rattle.std.specs.Prelude.{Some}
use Rattle.bastion_ready.specs.Words.{Door, door_in, doors_in}
use Rattle.bastion_ready.proofs.WordLemmas.{look_next, next_front, onto, read_next}
use Rattle.bastion_ready.proofs.words.read_doors.Goals as goal

pub loop-words-preserved : goal.loop-words-preserved
loop-words-preserved c =
    let words = c.loop-words.words.now in
    let rest = take (length words - 1) (drop 1 words) in
    let first = next_front words c.word-item.result c.in-len1-up.len_at_least c.word-item.is in
    let door : door_in c.word-item.result ≡ Some c.in-Some.door = ap door_in (sym c.bytes.ensures) ∙ sym c.read_door.ensures ∙ c.in-Some.is in
    record {
      so_far = ap (λ (doors : List Door). onto doors (doors_in rest)) c.in_ok-push.ensures.items ∙ read_next words rest c.word-item.result c.loop-words.doors.items c.in-Some.door first door ∙ c.loop-words.invariant.so_far;
      good = look_next words rest c.word-item.result c.in-Some.door first door ∙ c.loop-words.invariant.good;
    }
