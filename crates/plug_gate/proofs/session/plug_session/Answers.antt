use Rattle.std.proofs.Common.{◌∙◌}
use Rattle.plug_gate.proofs.EndLemmas.{plug_ends_as, plug_fronts}
use Rattle.plug_gate.proofs.session.plug_session.Goals as goal

pub returns-clause-ends : goal.returns-clause-ends
returns-clause-ends g c =
    plug_ends_as _ _ (c.as_slice.ensures.value ∙ c.connect_line-text.ensures) c.args.dest.now _ _ c.relayed_over.result c.relayed_over.ensures.session

pub returns-clause-fronts : goal.returns-clause-fronts
returns-clause-fronts g c = plug_fronts c.as_slice.result.now c.args.dest.now _ _ c.relayed_over.result c.relayed_over.ensures.session
