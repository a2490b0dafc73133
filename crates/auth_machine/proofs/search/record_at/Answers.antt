use Rattle.std.proofs.Common.{◌∙◌}
use Rattle.auth_machine.proofs.SearchLemmas.{named_there}
use Rattle.auth_machine.proofs.search.record_at.Goals as goal

pub returns : goal.returns
returns c = c.named_at.ensures ∙ named_there c.args.name.now c.args.records.now c.count_before.result c.requires c.count_before.ensures.count
