use Rattle.std.proofs.Common.{◌≡◌, ◌+◌, drop, sym, ◌∙◌, ap}
use Rattle.std.specs.Prelude.{Ok, Err}
use Rattle.gate_rules.specs.Faults.{is_target}
use Rattle.gate_rules.specs.Lists.{mapped}
use Rattle.gate_rules.specs.Options.{option_at}
use Rattle.gate_rules.proofs.OptionCheckLemmas.{told_end, told_fault, told_next, told_start}
use Rattle.gate_rules.proofs.option_check.target_among.Goals as goal

pub loop-at-init : goal.loop-at-init
loop-at-init c = told_start c.args.service.now c.args.words.now

pub returns-in-Err : goal.returns-in-Err
returns-in-Err c =
    let at = c.loop-at.at in
    let read : Err c.in-Err.why ≡ mapped is_target (option_at c.args.service.now c.index-words-at.result (drop (at + 1) c.args.words.now)) =
    c.in-Err.ensures ∙ ap (λ rest. mapped is_target (option_at c.args.service.now c.index-words-at.result rest)) c.from-after.ensures in
    told_fault c.args.service.now c.args.words.now at c.loop-at.has c.index-words-at.result c.in-Err.why c.loop-at-test.true c.index-words-at.is read ∙ c.loop-at.invariant

pub loop-at-preserved : goal.loop-at-preserved
loop-at-preserved c =
    let at = c.loop-at.at in
    let read : Ok c.in-Ok.target ≡ mapped is_target (option_at c.args.service.now c.index-words-at.result (drop (at + 1) c.args.words.now)) =
    c.in-Ok.ensures ∙ ap (λ rest. mapped is_target (option_at c.args.service.now c.index-words-at.result rest)) c.from-after.ensures in
    rw (c.one_of-has.ensures, c.width_at.ensures.width, c.from-after.ensures)
    (told_next c.args.service.now c.args.words.now at c.loop-at.has c.in-Ok.target c.index-words-at.result c.loop-at-test.true c.index-words-at.is read ∙ c.loop-at.invariant)

pub returns : goal.returns
returns c = sym (told_end c.args.service.now c.args.words.now c.loop-at.at c.loop-at.has c.loop-at-test.false) ∙ c.loop-at.invariant
