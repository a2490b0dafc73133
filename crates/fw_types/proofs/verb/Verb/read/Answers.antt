use Rattle.std.proofs.Common.{IsTrue, rules}
use Rattle.fw_types.specs.Verb.{is_verb}
use Rattle.fw_types.proofs.VerbLemmas.{upper_is_verb, upper_twice}
use Rattle.fw_types.proofs.verb.Verb.read.Goals as goal

pub invariant_of-result : goal.invariant_of-result
invariant_of-result c =
    let is : IsTrue (is_verb c.args.text.now) = search rules in
    rw c.upper_copy_of.ensures (upper_is_verb c.args.text.now is, upper_twice c.args.text.now)
