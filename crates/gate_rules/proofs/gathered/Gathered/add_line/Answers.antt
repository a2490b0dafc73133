use Rattle.std.proofs.Common.{◌≡◌, sym, true}
use Rattle.std.specs.Prelude.{filter}
use Rattle.std.proofs.lemmas.Result.{IfErr-weaker}
use Rattle.gate_rules.specs.Reading.{book_of, is_of}
use Rattle.gate_rules.proofs.gathered.Gathered.add_line.Goals as goal

pub returns-clause-fault : goal.returns-clause-fault
returns-clause-fault c =
    let is : is_of c.args.key.now c.args.line.now ≡ true = sym c.if-not-is_of.ensures in
    IfErr-weaker c.add_ours.result _ _ (λ e shown lines. rw is (shown (book_of c.args.service.now (filter (is_of c.args.key.now) lines)))) c.add_ours.ensures.fault
