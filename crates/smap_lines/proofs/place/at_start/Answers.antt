use Rattle.std.proofs.Common.{arith}
use Rattle.smap_lines.proofs.BodyLemmas.{start_byte, start_period, start_return}
use Rattle.smap_lines.proofs.place.at_start.Goals as goal

pub returns-in-46 : goal.returns-in-46
returns-in-46 c = rw (c.new.ensures, c.in-46.is) (record { leads = start_period })

pub returns-in-13 : goal.returns-in-13
returns-in-13 c = rw (c.new-in-13.ensures, c.in-13.is) (record { leads = start_return })

pub returns-in_default : goal.returns-in_default
returns-in_default c = rw c.one.ensures (record { leads = λ rest. start_byte c.args.byte rest (λ e. omega (arith, e, c.in_default)) (λ e. omega (arith, e, c.in_default)) })
