use Rattle.std.proofs.Common.{◌∙◌}
use Rattle.std.specs.Str.{str_to_ascii_lowercase}
use Rattle.host_pattern.proofs.WalkLemmas.{star_taken, both_on, back_again, no_way_back, ends_at, star_is_less, at_star, at_other, at_same, in_low, differs_at, differs_past, Differs}
use Rattle.host_pattern.proofs.walk.globs.Goals as goal
use Rattle.host_pattern.proofs.walk.globs.Goals.{in_default-via-in-Some+else-is_same, in_default-via-in_default}

pub loop-at-smaller-in-42-1 : goal.loop-at-smaller-in-42-1
loop-at-smaller-in-42-1 c =
    let read = c.in-Some-eq42.ensures.lookup in
    star_is_less c.args.pattern.now (str_to_ascii_lowercase c.args.pattern.now) c.args.text.now c.loop-at.place c.loop-at.at c.loop-at.back read.3.0 c.loop-at.invariant.star

pub loop-at-preserved-in-42-1 : goal.loop-at-preserved-in-42-1
loop-at-preserved-in-42-1 c =
    let read = c.in-Some-eq42.ensures.lookup in
    let pattern = c.args.pattern.now in
    let place = c.loop-at.place in
    star_taken _ _ place _ _ (in_low pattern place read.3.0) c.loop-at-test.true (at_star pattern place _ (read.3.1 0) c.in-Some-eq42.field-0-test) c.loop-at.invariant

pub loop-at-preserved-then-is_same : goal.loop-at-preserved-then-is_same
loop-at-preserved-then-is_same c =
    let read = c.in-Some.ensures.lookup in
    let pattern = c.args.pattern.now in
    let place = c.loop-at.place in
    both_on _ _ place c.loop-at.at _ (in_low pattern place read.3.0) c.loop-at-test.true (at_other pattern place _ (read.3.1 0) c.in-Some.byte-test.1) (at_same pattern c.args.text.now place c.loop-at.at _ (read.3.1 0) c.if-is_same.ensures) c.loop-at.invariant

pub loop-at-preserved : goal.loop-at-preserved
loop-at-preserved c =
    let pattern = c.args.pattern.now in
    let text = c.args.text.now in
    let place = c.loop-at.place in
    let at = c.loop-at.at in
    let differs : Differs (str_to_ascii_lowercase pattern) text place at = elim c.in_default.branch [
      | in_default-via-in-Some+else-is_same w ↦ (let read = w.in-Some.ensures.lookup in differs_at pattern text place at _ (read.3.1 0) w.in-Some.byte-test.1 w.if-is_same.ensures)
      | in_default-via-in_default w ↦ (let past = rw w.in_default.is at c.get.ensures.lookup in differs_past pattern text place at past.3)
    ] in
    back_again _ _ place at _ c.loop-at-test.true differs (rw c.in-Some-back.is at c.loop-at.invariant)

pub returns-in-None : goal.returns-in-None
returns-in-None c =
    let pattern = c.args.pattern.now in
    let text = c.args.text.now in
    let place = c.loop-at.place in
    let at = c.loop-at.at in
    let differs : Differs (str_to_ascii_lowercase pattern) text place at = elim c.in_default.branch [
      | in_default-via-in-Some+else-is_same w ↦ (let read = w.in-Some.ensures.lookup in differs_at pattern text place at _ (read.3.1 0) w.in-Some.byte-test.1 w.if-is_same.ensures)
      | in_default-via-in_default w ↦ (let past = rw w.in_default.is at c.get.ensures.lookup in differs_past pattern text place at past.3)
    ] in
    no_way_back _ _ place at c.loop-at-test.true differs (rw c.in-None.is at c.loop-at.invariant)

pub returns : goal.returns
returns c = c.only_stars.ensures ∙ ends_at c.args.pattern.now c.args.text.now c.loop-at.place c.loop-at.at c.loop-at.back c.loop-at-test.false c.loop-at.invariant
