use Rattle.std.proofs.Common.{arith}
use Rattle.telnet.proofs.ItemLemmas.{data_of-byte, data_of-choice, data_of-command, data_of-doubled}
use Rattle.telnet.proofs.LawLemmas.{inside_law, is_choice_at, no_choice}
use Rattle.telnet.proofs.laws.items.Goals as goal

pub returns-clause-byte : goal.returns-clause-byte
returns-clause-byte c = λ b rest h. data_of-byte b rest (λ e. omega (arith, e, h))

pub returns-clause-iac : goal.returns-clause-iac
returns-clause-iac c = data_of-doubled

pub returns-clause-command : goal.returns-clause-command
returns-clause-command c = λ b rest h. data_of-command b rest (no_choice b h) (λ e. omega (arith, e, h)) (λ e. omega (arith, e, h))

pub returns-clause-choice : goal.returns-clause-choice
returns-clause-choice c = λ b code rest low high. data_of-choice b code rest (is_choice_at b low high) (λ e. omega (arith, e, high)) (λ e. omega (arith, e, low))

pub returns-clause-inside : goal.returns-clause-inside
returns-clause-inside c = inside_law
