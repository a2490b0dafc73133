use Rattle.std.proofs.Common.{ap, ◌∙◌}
use Rattle.turn_lock.proofs.steps.give_back_more.Goals as goal

pub enter-requires-clause-unspent : goal.enter-requires-clause-unspent
enter-requires-clause-unspent g c = (g.V.StandsFor.origin c.args.more, ap (λ m. m.0.origin) c.fill.ensures.filled ∙ c.requires.origin)
