use Rattle.session_acts.proofs.CourseLemmas.{held_begun, held_course}
use Rattle.session_acts.proofs.OneSessionLemmas.{held_one, held_one_whole}
use Rattle.session_acts.proofs.laws.a_session_is_closed_once.Goals as goal

pub returns : goal.returns
returns g c = record {
  course = held_course;
  one = λ console may_be rows first old new ending held keeps none entered. held_one console may_be rows first old new ending held keeps none entered;
  whole = λ console may_be rows first old new ending held keeps none empty all. held_one_whole console may_be rows first old new ending held keeps none empty all;
  begun = held_begun;
}
