use Rattle.std.proofs.Common.{ap, ◌∙◌}
use Rattle.bastion.specs.Words.{is_remote}
use Rattle.bastion.specs.declared.words.Command.{Command}
use Rattle.bastion.specs.declared.words.Order.TheVariants.{ByTable}
use Rattle.bastion.proofs.ClientLemmas.{ends_wanted}
use Rattle.bastion.proofs.obeying.work.Goals as goal

pub through-requires-clause-remote : goal.through-requires-clause-remote
through-requires-clause-remote g c = λ lifetimes bounds is. c.requires.remote (ap (λ (k : Command). is_remote (ByTable k)) c.in-Gateway.is ∙ ends_wanted c.in-Gateway.kind c.in-Gateway.authorities c.in-Gateway.peer is)
