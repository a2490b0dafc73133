use Rattle.std.proofs.Common.{◌≡◌, ◌+◌, Ok, Err, drop, sym, ◌∙◌, ap}
use Rattle.gate_rules.specs.Options.{option_at}
use Rattle.gate_rules.proofs.OptionsBuilderLemmas.{from_end, from_fault, from_next, from_start}
use Rattle.gate_rules.proofs.options_builder.built.Goals as goal

pub loop-at-init : goal.loop-at-init
loop-at-init c =
    rw c.new-builder.ensures (from_start c.args.service.now c.args.words.now)

pub returns-in-Err : goal.returns-in-Err
returns-in-Err c =
    let read = c.in_ok-option.ensures in
    let at = c.loop-at.at in
    let fault : option_at c.args.service.now c.index-words-at.result (drop (at + 1) c.args.words.now) ≡ Err c.in-Err.why =
    ap (option_at c.args.service.now c.index-words-at.result) (sym c.from-after.ensures) ∙ sym read ∙ c.in-Err.is in
    sym (from_fault c.args.service.now c.args.words.now at c.loop-at.builder c.index-words-at.result c.in-Err.why c.loop-at-test.true c.index-words-at.is fault) ∙ c.loop-at.invariant

pub loop-at-preserved : goal.loop-at-preserved
loop-at-preserved c =
    let read = c.in_ok-option.ensures in
    let at = c.loop-at.at in
    let option : option_at c.args.service.now c.index-words-at.result (drop (at + 1) c.args.words.now) ≡ Ok c.in-Ok.option =
    ap (option_at c.args.service.now c.index-words-at.result) (sym c.from-after.ensures) ∙ sym read ∙ c.in-Ok.is in
    rw (c.with-builder.ensures, c.width_at.ensures.width, c.from-after.ensures)
    (from_next c.args.service.now c.args.words.now at c.loop-at.builder c.index-words-at.result c.in-Ok.option c.loop-at-test.true c.index-words-at.is option ∙ c.loop-at.invariant)

pub returns : goal.returns
returns c =
    sym (from_end c.args.service.now c.args.words.now c.loop-at.at c.loop-at.builder c.loop-at-test.false) ∙ c.loop-at.invariant
