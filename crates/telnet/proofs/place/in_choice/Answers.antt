use Rattle.telnet.proofs.ItemLemmas.{data_of-choice}
use Rattle.std.proofs.Common.{refl, arith}
use Rattle.telnet.proofs.place.in_choice.Goals as goal

pub returns-clause-strips : goal.returns-clause-strips
returns-clause-strips c = record { leads = λ rest. data_of-choice 251 c.args.byte rest refl (λ e. omega (arith, e)) (λ e. omega (arith, e)) }
