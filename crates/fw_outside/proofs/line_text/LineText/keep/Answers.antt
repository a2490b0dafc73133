use Rattle.std.proofs.Common.{◌≡◌, ◌+◌, length, arith, ap, sym}
use Rattle.fw_outside.specs.LineText.{most}
use Rattle.fw_outside.proofs.LineLemmas.{keeps}
use Rattle.fw_outside.proofs.line_text.LineText.keep.Goals as goal

pub returns : goal.returns
returns c =
    let long : length c.args.self.now ≡ length c.self.inside.bytes.items = sym (ap length c.self.view_is) in
    let full : length c.args.self.now + c.remaining_capacity.result ≡ most = omega (arith, long, c.remaining_capacity.ensures) in
    rw (c.append.ensures.items, c.min-count.ensures, c.self.view_is) (keeps c.args.self.now c.args.bytes.now c.remaining_capacity.result full)
