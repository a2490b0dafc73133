use Rattle.std.proofs.Common.{arith, ◌≡◌, ◌+◌, ◌-◌, ◌≤◌, length}
use Rattle.session_acts.proofs.FillLemmas.{broken_on, filled_on, laid_away, laid_open}
use Rattle.session_acts.proofs.depositing.lay_open.Goals as goal

pub returns-in-Ok-clause-tray : goal.returns-in-Ok-clause-tray
returns-in-Ok-clause-tray g c = λ sender rcpts most slot given filled room. (
    let fits : length c.args.bytes.now ≤ c.args.left.now = c.if-bytes-left.false in
    let is : c.args.left.now ≡ (c.args.left.now - length c.args.bytes.now) + length c.args.bytes.now = omega (arith, fits) in
    laid_open sender rcpts most c.args.left.now (c.args.left.now - length c.args.bytes.now) given c.args.bytes.now slot c.in-Ok.filling
    (filled_on sender rcpts given c.args.bytes.now slot c.args.filling c.in-Ok.filling filled c.in-Ok.ensures.ok c.in-Ok.ensures.len c.in-Ok.ensures.draft c.in-Ok.ensures.images c.in-Ok.ensures.events) room is)

pub returns-in-Err-clause-tray : goal.returns-in-Err-clause-tray
returns-in-Err-clause-tray g c = λ sender rcpts most slot given filled room. (
    let fits : length c.args.bytes.now ≤ c.args.left.now = c.if-bytes-left.false in
    laid_away sender rcpts most c.args.left.now given c.args.bytes.now slot c.in-Err.broken
    (broken_on sender rcpts given c.args.bytes.now slot c.args.filling c.in-Err.broken filled c.in-Err.ensures.err c.in-Err.ensures.images c.in-Err.ensures.events) room fits)
