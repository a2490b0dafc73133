use Rattle.smap_gate.specs.Draft.{IsPlace}
use Rattle.smap_gate.proofs.RowLemmas.{at_form}
use Rattle.smap_gate.proofs.rows.tell_at.Goals as goal

pub returns-clause-ran : goal.returns-clause-ran
returns-clause-ran g c = c.tell.ensures.ran _

pub returns-clause-form : goal.returns-clause-form
returns-clause-form g c = at_form (IsPlace c.args.script.now) c.tell.result c.requires c.tell.ensures.at
