use Rattle.std.proofs.Common.{◌≡◌, false, true, arith}
use Rattle.std.proofs.lemmas.Bool.Decides.{nat_tests}
use Rattle.telnet.specs.Items.{is_choice}
use Rattle.telnet.proofs.ItemLemmas.{data_of-doubled, data_of-choices, data_of-command}
use Rattle.telnet.proofs.place.in_command.Goals as goal

pub returns-in-255-clause-strips : goal.returns-in-255-clause-strips
returns-in-255-clause-strips c = record { leads = λ rest. rw c.in-255.is (data_of-doubled rest) }

pub returns-in_default-clause-strips : goal.returns-in_default-clause-strips
returns-in_default-clause-strips c =
    let none : is_choice c.args.byte ≡ false = grind (arith, nat_tests, c.in_default) in
    record { leads = λ rest. data_of-command c.args.byte rest none (λ e. omega (arith, e, c.in_default)) (λ e. omega (arith, e, c.in_default)) }

pub returns-in-251-to-254-clause-strips : goal.returns-in-251-to-254-clause-strips
returns-in-251-to-254-clause-strips c =
    let is : is_choice c.args.byte ≡ true = grind (arith, nat_tests, c.in-251-to-254) in
    record { leads = λ rest. data_of-choices c.args.byte rest is (λ e. omega (arith, e, c.in-251-to-254)) (λ e. omega (arith, e, c.in-251-to-254)) }
