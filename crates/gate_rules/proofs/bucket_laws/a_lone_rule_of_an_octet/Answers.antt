use Rattle.gate_rules.proofs.LoneRuleLemmas.{alone, steps}
use Rattle.gate_rules.proofs.bucket_laws.a_lone_rule_of_an_octet.Goals as goal

pub returns-clause-alone : goal.returns-clause-alone
returns-clause-alone c = alone

pub returns-clause-steps : goal.returns-clause-steps
returns-clause-steps c = steps
