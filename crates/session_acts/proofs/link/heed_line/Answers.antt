use Rattle.session_acts.proofs.StageLemmas.{hears_in, listens_lines}
use Rattle.session_acts.proofs.link.heed_line.Goals as goal
use Rattle.session_acts.specs.declared.form.Form.TheVariants.{Lines}

pub returns : goal.returns
returns g c = λ outlet. rw c.outcome_of.ensures (hears_in Lines c.next-heard.result _ _ _ _ outlet (listens_lines _ _ _ _ _ c.next-heard.ensures.listens) c.next-heard.ensures.near)
