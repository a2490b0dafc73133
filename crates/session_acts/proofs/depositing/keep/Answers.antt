use Rattle.std.proofs.Common.{refl, sym, ◌∙◌}
use Rattle.session_acts.proofs.FillLemmas.{broken_last, kept_so}
use Rattle.session_acts.proofs.depositing.keep.Goals as goal

pub returns-in-Ok : goal.returns-in-Ok
returns-in-Ok g c = λ sender rcpts body slot filled. (
  sym (c.len-bytes.ensures ∙ filled.len),
  record {
    full = c.in-Ok.full;
    kept = kept_so sender rcpts body slot c.args.filling c.in-Ok.full filled c.in-Ok.ensures.ok c.in-Ok.ensures.read c.in-Ok.ensures.whole c.in-Ok.ensures.gate c.in-Ok.ensures.images c.in-Ok.ensures.events;
    number_is = sym c.number-slot.ensures;
    is = c.put_full.ensures;
  },
)

pub returns-in-Err : goal.returns-in-Err
returns-in-Err g c = λ sender rcpts body slot filled. record {
  broken = c.in-Err.broken;
  fails = broken_last sender rcpts body slot c.args.filling c.in-Err.broken filled c.in-Err.ensures.err c.in-Err.ensures.images c.in-Err.ensures.events;
  puts = c.put_broken.ensures;
}
