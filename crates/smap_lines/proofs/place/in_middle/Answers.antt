use Rattle.std.proofs.Common.{arith}
use Rattle.smap_lines.proofs.BodyLemmas.{middle_byte, middle_return}
use Rattle.smap_lines.proofs.place.in_middle.Goals as goal

pub returns-in-13 : goal.returns-in-13
returns-in-13 c = rw (c.new.ensures, c.in-13.is) (record { leads = middle_return })

pub returns-in_default : goal.returns-in_default
returns-in_default c = rw c.one.ensures (record { leads = λ rest. middle_byte c.args.byte rest (λ e. omega (arith, e, c.in_default)) })
