use Rattle.std.proofs.Common.{ap, ◌∙◌, take, drop}
use Rattle.std.proofs.lemmas.List.{take_min}
use Rattle.smap_lines.proofs.TextLemmas.{drop_min}
use Rattle.smap_lines.proofs.command.halves.Goals as goal

pub returns-clause-front : goal.returns-clause-front
returns-clause-front c = c.split_at.ensures.front ∙ ap (λ n. take n c.args.text.now) c.min.ensures ∙ take_min c.args.count c.args.text.now

pub returns-clause-rest : goal.returns-clause-rest
returns-clause-rest c = c.split_at.ensures.back ∙ ap (λ n. drop n c.args.text.now) c.min.ensures ∙ drop_min c.args.count c.args.text.now
