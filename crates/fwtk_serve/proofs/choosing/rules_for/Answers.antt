use Rattle.std.proofs.Common.{sym, subst, Option}
use Rattle.client_service.specs.Conn.{IsServed}
use Rattle.gate_rules.specs.Reading.{RuleBook}
use Rattle.gate_rules.specs.declared.service.Service.{Service}
use Rattle.fwtk_serve.specs.RulesFor.{found_or_none}
use Rattle.fwtk_serve.proofs.RulesLemmas.{chosen_served}
use Rattle.fwtk_serve.proofs.choosing.rules_for.Goals as goal

pub returns-in-Some-clause-served : goal.returns-in-Some-clause-served
returns-in-Some-clause-served c =
    subst (λ (o : Option (Service × RuleBook)). IsServed c.args.service.now (found_or_none o)) (sym c.in-Some.ensures) (chosen_served c.args.service.now c.args.rules.now c.requires.asked c.requires.may)
