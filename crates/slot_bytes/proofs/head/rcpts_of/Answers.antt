use Rattle.std.proofs.Common.{◌≡◌, ◌++◌, ◌∷◌, [], ◌<◌, ◌-◌, ℕ, List, Ok, Err, sym, ap, ◌∙◌, arith}
use Rattle.slot_bytes.specs.Reading.{long_text_at, rcpts_at}
use Rattle.slot_bytes.specs.Views.{behind}
use Rattle.slot_bytes.proofs.LoopLemmas.{rcpts_step, rcpts_stop, rcpts_end}
use Rattle.slot_bytes.proofs.head.rcpts_of.Goals as goal

pub returns-in-Err : goal.returns-in-Err
returns-in-Err c =
    let some : 0 < c.loop-left.left = c.loop-left-test.true in
    let read : long_text_at 1 256 c.loop-left.rest.now ≡ Err c.in-Err.stop.left = c.in-Err.ensures in
    c.loop-left.invariant ∙ rcpts_stop c.loop-left.left c.loop-left.rest.now c.in-Err.stop.left c.loop-left.list some read

pub loop-left-preserved : goal.loop-left-preserved
loop-left-preserved c =
    let some : 0 < c.loop-left.left = c.loop-left-test.true in
    let read : long_text_at 1 256 c.loop-left.rest.now ≡ Ok (c.in-Ok.read.0.now, c.in-Ok.read.1.now) = c.in-Ok.ensures in
    let same : c.add.new.list ≡ c.loop-left.list ++ c.in-Ok.read.0.now ∷ [] = c.in_ok-add.ensures in
    c.loop-left.invariant
    ∙ rcpts_step c.loop-left.left c.loop-left.rest.now c.in-Ok.read.0.now c.in-Ok.read.1.now c.loop-left.list some read
    ∙ ap (λ (l : List (List ℕ)). behind l (rcpts_at (c.loop-left.left - 1) c.in-Ok.read.1.now)) (sym same)

pub returns : goal.returns
returns c =
    let none : c.loop-left.left ≡ 0 = omega (arith, c.loop-left-test.false) in
    c.loop-left.invariant ∙ rcpts_end c.loop-left.left c.loop-left.rest.now c.loop-left.list none
