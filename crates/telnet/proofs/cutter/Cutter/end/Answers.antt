use Rattle.std.proofs.Common.{◌≡◌, ◌<◌, ◌≤◌, length, arith, ap, subst, false}
use Rattle.telnet.specs.Cutting.{CutsData}
use Rattle.telnet.specs.TelnetView.{TelnetView}
use Rattle.telnet.specs.declared.step.TelnetStep.TheVariants.{Line, TooLong}
use Rattle.telnet.proofs.LineLemmas.{end_line, end_long, of}
use Rattle.telnet.proofs.cutter.Cutter.end.Goals as goal

pub returns-then-len-gt-LONGEST-clause-cuts : goal.returns-then-len-gt-LONGEST-clause-cuts
returns-then-len-gt-LONGEST-clause-cuts c =
    let kept = c.self.inside.kept.items in
    let same : c.take-kept.result.items ≡ kept = ap (λ v. v.items) c.take-kept.ensures.value in
    let long : 512 < length kept = omega (arith, c.len.ensures.value, ap length same) in
    let line = c.self.inside.line.items in
    let emptied = c.take-kept.new.self.items in
    let P : TelnetView → Type 0 = λ old. CutsData TooLong old record { line = line; pending = of emptied false } 10 in
    subst P c.self.view_is (end_long kept line line emptied c.self.inside.returned c.self.invariant.0 c.take-kept.ensures.after long)

pub returns-clause-cuts : goal.returns-clause-cuts
returns-clause-cuts c =
    let kept = c.self.inside.kept.items in
    let same : c.take-kept.result.items ≡ kept = ap (λ v. v.items) c.take-kept.ensures.value in
    let short : length kept ≤ 512 = omega (arith, c.len.ensures.value, ap length same) in
    let emptied = c.take-kept.new.self.items in
    let P : TelnetView → Type 0 = λ old. CutsData Line old record { line = c.take-kept.result.items; pending = of emptied false } 10 in
    subst P c.self.view_is (end_line kept c.self.inside.line.items c.take-kept.result.items emptied c.self.inside.returned c.self.invariant.0 c.take-kept.ensures.after same short)
