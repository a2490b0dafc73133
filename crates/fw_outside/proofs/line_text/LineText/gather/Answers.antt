use Rattle.fw_outside.proofs.LineLemmas.{none_in}
use Rattle.fw_outside.proofs.line_text.LineText.gather.Goals as goal

pub returns-in-Some-clause-first : goal.returns-in-Some-clause-first
returns-in-Some-clause-first c = none_in _ c.in-Some.ensures.first

pub returns-in-None-clause-none : goal.returns-in-None-clause-none
returns-in-None-clause-none c = none_in _ c.in-None.ensures.none
