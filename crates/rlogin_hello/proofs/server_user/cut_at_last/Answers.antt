use Rattle.std.proofs.Common.{arith}
use Rattle.rlogin_hello.proofs.UserLemmas.{last_cut, none_cut}
use Rattle.rlogin_hello.proofs.server_user.cut_at_last.Goals as goal

pub returns-in-Some-clause-is : goal.returns-in-Some-clause-is
returns-in-Some-clause-is c =
    let last = c.in-Some.ensures.0 in
    rw (c.front.ensures.is, c.rest.ensures) (last_cut c.args.text.now c.in-Some.at last.high (λ k more less. last.after k (omega (arith, more)) less) c.in-Some.ensures.1)

pub returns-in-None-clause-is : goal.returns-in-None-clause-is
returns-in-None-clause-is c = none_cut c.args.text.now (λ k less. c.in-None.ensures k (omega (arith)) less)
