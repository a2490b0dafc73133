-- What the places of a body's reading stand for.
use Rattle.std.proofs.Common.{◌≡◌, ℕ, true, List, [], ◌∷◌, ◌++◌, Some, None, refl, ap, ◌∙◌, IsTrue}
use Rattle.std.proofs.lemmas.Bool.{eqb-true}
use Rattle.smap_lines.specs.Body.{body_from}
use Rattle.smap_lines.specs.MailBodyView.{may_be_held}
use Rattle.smap_lines.specs.Place.{is_last, view_at}
use Rattle.smap_lines.specs.declared.place.Place.{Place}
use Rattle.smap_lines.specs.declared.place.Place.TheVariants.{Start, Period, PeriodReturn, Middle, Return}
use Rattle.smap_lines.proofs.BodyLemmas.{body, cut-nothing, cut-one, cut-period, front, last_end, more}

-- the last byte of a body
pub ends : (place : Place) (b : ℕ) (rest : List ℕ) → is_last place b ≡ true → body_from (view_at place).middle ((view_at place).pending ++ b ∷ rest) ≡ Some record { bytes = []; rest = rest }
ends PeriodReturn b rest last = rw (eqb-true b 10 last) (last_end rest)
ends Start b rest last = absurd (cc)
ends Period b rest last = absurd (cc)
ends Middle b rest last = absurd (cc)
ends Return b rest last = absurd (cc)

-- no body has its end yet
pub unended : (place : Place) → body_from (view_at place).middle (view_at place).pending ≡ None
unended Start = ap body cut-nothing
unended Period = ap body (cut-one 46)
unended PeriodReturn = ap body (cut-period (13 ∷ []) ∙ ap (front 46) (cut-one 13))
unended Middle = ap more cut-nothing
unended Return = ap more (cut-one 13)

-- what a place stands for may be held back
pub held_back : (place : Place) → IsTrue (may_be_held (view_at place).middle (view_at place).pending)
held_back Start = refl
held_back Period = refl
held_back PeriodReturn = refl
held_back Middle = refl
held_back Return = refl
