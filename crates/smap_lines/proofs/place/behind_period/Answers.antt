use Rattle.std.proofs.Common.{arith}
use Rattle.smap_lines.proofs.BodyLemmas.{period_byte, period_return}
use Rattle.smap_lines.proofs.place.behind_period.Goals as goal

pub returns-in-13 : goal.returns-in-13
returns-in-13 c = rw (c.new.ensures, c.in-13.is) (record { leads = period_return })

pub returns-in_default : goal.returns-in_default
returns-in_default c = rw c.one.ensures (record { leads = λ rest. period_byte c.args.byte rest (λ e. omega (arith, e, c.in_default)) })
