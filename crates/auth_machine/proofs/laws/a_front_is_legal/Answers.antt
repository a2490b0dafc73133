use Rattle.auth_machine.specs.State.{first_state}
use Rattle.auth_machine.proofs.EntriesLemmas.{parts_before}
use Rattle.auth_machine.proofs.laws.a_front_is_legal.Goals as goal

pub returns : goal.returns
returns c = λ origin front more legal. parts_before origin.policy (first_state origin.records) 0 front more legal
