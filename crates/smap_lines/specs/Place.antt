-- Where the reading of a body stands.
use Rattle.std.specs.Prelude.{◌≡◌, ℕ, ◌==◌, Bool, true, false, List, [], ◌∷◌, ◌++◌}
use Rattle.smap_lines.specs.Body.{body_after, body_from}
use Rattle.smap_lines.specs.MailBodyView.{MailBodyView}
use Rattle.smap_lines.specs.declared.place.Place.{Place}
use Rattle.smap_lines.specs.declared.place.Place.TheVariants.{Start, Period, PeriodReturn, Middle, Return}

abbrev pub view_at : Place → MailBodyView
view_at Start = record { middle = false; pending = [] }
view_at Period = record { middle = false; pending = 46 ∷ [] }
view_at PeriodReturn = record { middle = false; pending = 46 ∷ 13 ∷ [] }
view_at Middle = record { middle = true; pending = [] }
view_at Return = record { middle = true; pending = 13 ∷ [] }

-- the byte ends the line that is a period alone
abbrev pub is_last : Place → ℕ → Bool
is_last PeriodReturn b = b == 10
is_last _ b = false

-- however the text goes on, the byte leads from one reading to the other and gives these bytes of the body
pub record LeadsTo (old new : MailBodyView) (byte : ℕ) (given : List ℕ) : Type 0 where
  pub leads : (rest : List ℕ) → body_from old.middle (old.pending ++ byte ∷ rest) ≡ body_after given (body_from new.middle (new.pending ++ rest))
