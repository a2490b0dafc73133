-- The numbers of the messages that were answered for.
use Rattle.std.proofs.Common.{◌≡◌, ◌<◌, ◌⊎◌, inl, inr, List, sym, refl, subst}
use Rattle.std.specs.List.{Contains}
use Rattle.spool_law.specs.World.{Letter, OfLetter, Use, World, formatted}
use Rattle.spool_law.specs.Events.{Event, ArePossible, after_all}
use Rattle.spool_law.specs.Safe.{Stands}
use Rattle.spool_law.proofs.WorldLemmas.{IsSound, sound_always}

below_of : (w : World) (l : Letter) → IsSound w → Contains w.accepted l ⊎ Stands l w → l.number < w.begun
below_of w l s (inl is) = s.past l is
below_of w l s (inr st) = s.below st.slot l.number (subst (OfLetter (λ x. x.number ≡ l.number)) (sym st.is) refl)

-- it was given to a message that was begun
pub answered_below : (events : List Event) → ArePossible events formatted → (l : Letter) → Contains (after_all events formatted).answered l → l.number < (after_all events formatted).begun
answered_below events can l has =
    let s = sound_always events can in
    below_of (after_all events formatted) l s (s.answered l has)
