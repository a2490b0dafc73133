use Rattle.smap_lines.proofs.PathLemmas.{is_not_allowed, is_ok, not_allowed_is, ok_is}
use Rattle.smap_lines.proofs.laws.paths.Goals as goal

pub returns-clause-ok : goal.returns-clause-ok
returns-clause-ok c = λ may_be_empty text path. (ok_is may_be_empty text path, is_ok may_be_empty text path)

pub returns-clause-not_allowed : goal.returns-clause-not_allowed
returns-clause-not_allowed c = λ may_be_empty text. (not_allowed_is may_be_empty text, is_not_allowed may_be_empty text)
