use Rattle.std.proofs.Common.{◌≡◌, ◌++◌, ◌<◌, ◌≤◌, ◌==◌, false, length, ap, sym, ◌∙◌, arith}
use Rattle.std.specs.Str.Lines.{strip_carriage_return}
use Rattle.std.proofs.lemmas.List.Elements.{All-append}
use Rattle.netperm_table.specs.Progress.{MayGoOn, Progress}
use Rattle.netperm_table.proofs.LineLemmas.{IsOneLine, over_long}
use Rattle.netperm_table.proofs.ProgressLemmas.{long_line}
use Rattle.netperm_table.proofs.reader.Reader.gather.Goals as goal

pub returns-then-bytes-remaining_capacity-clause-fault : goal.returns-then-bytes-remaining_capacity-clause-fault
returns-then-bytes-remaining_capacity-clause-fault c =
    let inside = c.self.inside in
    let p : Progress = record { made = inside.made.items; number = inside.number; line = inside.line.items } in
    let within = rw (← c.self.view_is) at c.requires.number in
    rw (← c.self.view_is) (long_line p c.args.bytes.now c.self.invariant.0 c.requires.line within (over_long inside.line.items c.args.bytes.now (omega (arith, c.remaining_capacity.ensures, c.if-bytes-remaining_capacity.true))))

pub returns-then-without_return-gt-LONGEST-clause-fault : goal.returns-then-without_return-gt-LONGEST-clause-fault
returns-then-without_return-gt-LONGEST-clause-fault c =
    let inside = c.self.inside in
    let p : Progress = record { made = inside.made.items; number = inside.number; line = inside.line.items } in
    let within = rw (← c.self.view_is) at c.requires.number in
    let stripped : c.without_return.result.now ≡ strip_carriage_return (inside.line.items ++ c.args.bytes.now) =
    c.without_return.ensures ∙ ap strip_carriage_return (c.as_slice.ensures.value ∙ c.append.ensures.items) in
    let over : 2048 < length (strip_carriage_return (inside.line.items ++ c.args.bytes.now)) = rw stripped at c.if-without_return-gt-LONGEST.true in
    rw (← c.self.view_is) (long_line p c.args.bytes.now c.self.invariant.0 c.requires.line within over)

pub invariant_of-self-2 : goal.invariant_of-self-2
invariant_of-self-2 c =
    let line : IsOneLine c.append.new.out.items = rw c.append.ensures.items (All-append (λ b. (b == 10) ≡ false) c.self.inside.line.items c.args.bytes.now c.self.invariant.0 c.requires.line) in
    (line, c.self.invariant.1, omega (arith, c.append.ensures.len))

pub returns-clause-goes_on : goal.returns-clause-goes_on
returns-clause-goes_on c =
    let stripped : c.without_return.result.now ≡ strip_carriage_return c.append.new.out.items =
    c.without_return.ensures ∙ ap strip_carriage_return c.as_slice.ensures.value in
    let within = rw (← c.self.view_is) at c.requires.number in
    record {
      one = rw c.append.ensures.items (All-append (λ b. (b == 10) ≡ false) c.self.inside.line.items c.args.bytes.now c.self.invariant.0 c.requires.line);
      short = rw stripped at c.if-without_return-gt-LONGEST.false;
      numbered = λ some. within;
    }
