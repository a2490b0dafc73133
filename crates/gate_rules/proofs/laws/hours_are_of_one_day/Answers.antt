use Rattle.gate_rules.proofs.HoursLemmas.{of_day}
use Rattle.gate_rules.proofs.laws.hours_are_of_one_day.Goals as goal

pub returns : goal.returns
returns c = of_day
