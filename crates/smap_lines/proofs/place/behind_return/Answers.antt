use Rattle.std.proofs.Common.{arith}
use Rattle.smap_lines.proofs.BodyLemmas.{return_byte, return_end, return_return}
use Rattle.smap_lines.proofs.place.behind_return.Goals as goal

pub returns-in-10 : goal.returns-in-10
returns-in-10 c = rw (c.two.ensures, c.in-10.is) (record { leads = return_end })

pub returns-in-13 : goal.returns-in-13
returns-in-13 c = rw (c.one.ensures, c.in-13.is) (record { leads = return_return })

pub returns-in_default : goal.returns-in_default
returns-in_default c = rw c.two-in_default.ensures (record { leads = λ rest. return_byte c.args.byte rest (λ e. omega (arith, e, c.in_default)) (λ e. omega (arith, e, c.in_default)) })
