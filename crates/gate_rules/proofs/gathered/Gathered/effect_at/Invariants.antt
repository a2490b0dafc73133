use Rattle.std.proofs.Common.{◌≡◌, drop}
use Rattle.std.specs.Prelude.{filter}
use Rattle.gate_rules.specs.Reading.{book_of, is_of, with_book}
use Rattle.gate_rules.proofs.gathered.Gathered.effect_at.Given as goal

abbrev pub invariant-loop-line : goal.invariant-loop-line
invariant-loop-line l = with_book l.gathered (book_of l.service (filter (is_of l.key) (drop l.line-index l.lines))) ≡ book_of l.service (filter (is_of l.key) l.lines)
