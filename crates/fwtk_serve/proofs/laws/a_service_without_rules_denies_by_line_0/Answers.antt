use Rattle.fwtk_serve.proofs.RulesLemmas.{unruled}
use Rattle.fwtk_serve.proofs.laws.a_service_without_rules_denies_by_line_0.Goals as goal

pub returns : goal.returns
returns c = unruled
