use Rattle.std.proofs.Common.{arith}
use Rattle.smap_lines.proofs.BodyLemmas.{last_byte, last_return}
use Rattle.smap_lines.proofs.place.behind_period_return.Goals as goal

pub returns-in-13 : goal.returns-in-13
returns-in-13 c = rw (c.one.ensures, c.in-13.is) (record { leads = last_return })

pub returns-in_default : goal.returns-in_default
returns-in_default c = rw c.two.ensures (record { leads = λ rest. last_byte c.args.byte rest c.requires (λ e. omega (arith, e, c.in_default)) })
