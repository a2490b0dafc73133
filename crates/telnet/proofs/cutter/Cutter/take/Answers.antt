use Rattle.std.proofs.Common.{◌≡◌, ℕ, List, false, true, sym, ◌∙◌, ap, subst}
use Rattle.telnet.specs.Cutting.{CutsData, ends_line}
use Rattle.telnet.specs.Lines.{lines_of}
use Rattle.telnet.specs.TelnetView.{TelnetView}
use Rattle.telnet.specs.declared.step.TelnetStep.TheVariants.{More}
use Rattle.telnet.proofs.LineLemmas.{ends_alike, lines_of-kept, lines_of-nothing, cuts_byte, cuts_return, of, plain_kept}
use Rattle.telnet.proofs.cutter.Cutter.take.Goals as goal

pub returns-then-ends_line-clause-cuts : goal.returns-then-ends_line-clause-cuts
returns-then-ends_line-clause-cuts c =
    let inside = c.self.inside in
    let is : ends_line inside.returned c.args.byte ≡ true = sym c.ends_line.ensures ∙ c.if-ends_line.true in
    let P : TelnetView → Type 0 = λ old. CutsData c.end.result old c.end.new.self 10 → CutsData c.end.result old c.end.new.self c.args.byte in
    subst P c.self.view_is (ends_alike c.end.result inside.kept.items inside.line.items c.end.new.self inside.returned c.args.byte c.self.invariant.0 is) c.end.ensures.cuts

pub returns-then-ends_line-clause-prompt : goal.returns-then-ends_line-clause-prompt
returns-then-ends_line-clause-prompt c = ap lines_of c.end.ensures.done ∙ lines_of-nothing

pub invariant_of-self-else-byte-eq13 : goal.invariant_of-self-else-byte-eq13
invariant_of-self-else-byte-eq13 c =
    let unended : ends_line c.self.inside.returned c.args.byte ≡ false = sym c.ends_line.ensures ∙ c.if-ends_line.false in
    rw c.keep.ensures (plain_kept c.self.inside.kept.items c.self.inside.returned c.args.byte c.self.invariant.0 unended c.if-byte-eq13.false, c.self.invariant.1)

pub returns-then-byte-eq13-clause-cuts : goal.returns-then-byte-eq13-clause-cuts
returns-then-byte-eq13-clause-cuts c =
    let inside = c.self.inside in
    let P : TelnetView → Type 0 = λ old. CutsData More old record { line = inside.line.items; pending = of inside.kept.items true } 13 in
    rw c.if-byte-eq13.true (subst P c.self.view_is (cuts_return inside.kept.items inside.line.items inside.returned c.self.invariant.0))

pub returns-then-byte-eq13-clause-prompt : goal.returns-then-byte-eq13-clause-prompt
returns-then-byte-eq13-clause-prompt c = lines_of-kept c.self.inside.kept.items true c.self.invariant.0

pub returns-else-byte-eq13-clause-cuts : goal.returns-else-byte-eq13-clause-cuts
returns-else-byte-eq13-clause-cuts c =
    let inside = c.self.inside in
    let unended : ends_line inside.returned c.args.byte ≡ false = sym c.ends_line.ensures ∙ c.if-ends_line.false in
    let now : TelnetView = record { line = inside.line.items; pending = of c.keep.new.kept.items false } in
    let P : TelnetView → Type 0 = λ old. CutsData More old now c.args.byte in
    let Q : List ℕ → Type 0 = λ kept. CutsData More record { line = inside.line.items; pending = of inside.kept.items inside.returned } record { line = inside.line.items; pending = of kept false } c.args.byte in
    subst P c.self.view_is (subst Q (sym c.keep.ensures) (cuts_byte inside.kept.items inside.line.items inside.returned c.args.byte c.self.invariant.0 unended c.if-byte-eq13.false))

pub returns-else-byte-eq13-clause-prompt : goal.returns-else-byte-eq13-clause-prompt
returns-else-byte-eq13-clause-prompt c =
    let unended : ends_line c.self.inside.returned c.args.byte ≡ false = sym c.ends_line.ensures ∙ c.if-ends_line.false in
    ap (λ kept. lines_of (of kept false)) c.keep.ensures
    ∙ lines_of-kept _ false (plain_kept c.self.inside.kept.items c.self.inside.returned c.args.byte c.self.invariant.0 unended c.if-byte-eq13.false)
