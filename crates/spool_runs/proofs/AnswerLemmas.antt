-- Answers among steps and events.
use Rattle.std.proofs.Common.{◌≡◌, refl, ◌∙◌, ℕ, List, [], ◌∷◌, map, append-nil}
use Rattle.fw_disk.specs.DiskView.{Tape}
use Rattle.spool_law.specs.Events.{Step, after, after_all}
use Rattle.spool_law.specs.Events.Event.{At}
use Rattle.spool_law.specs.Events.Step.{Start, Add, Write, Sync, OpenGate, Answer, Accept, CloseGate, SetAside}
use Rattle.spool_law.specs.Runs.{Does, Known, known_after, tape_after}
use Rattle.spool_law.specs.World.{World}

-- ---- steps of one slot

-- these steps but the answers, which change nothing of the slot
abbrev pub unanswered : List Step → List Step
unanswered [] = []
unanswered (Start from rcpts ∷ steps) = Start from rcpts ∷ unanswered steps
unanswered (Add piece ∷ steps) = Add piece ∷ unanswered steps
unanswered (Write at bytes o ∷ steps) = Write at bytes o ∷ unanswered steps
unanswered (Sync ∷ steps) = Sync ∷ unanswered steps
unanswered (OpenGate o ∷ steps) = OpenGate o ∷ unanswered steps
unanswered (Answer ∷ steps) = unanswered steps
unanswered (Accept ∷ steps) = Accept ∷ unanswered steps
unanswered (CloseGate o ∷ steps) = CloseGate o ∷ unanswered steps
unanswered (SetAside o ∷ steps) = SetAside o ∷ unanswered steps

pub does_unanswered : (steps : List Step) (k : Known) (old : Tape) (l : Known) (new : Tape) → Does steps k old l new → Does (unanswered steps) k old l new
does_unanswered [] k old l new d = d
does_unanswered (Start from rcpts ∷ steps) k old l new d = (d.0, does_unanswered steps (known_after (Start from rcpts) old k) (tape_after (Start from rcpts) k old) l new d.1)
does_unanswered (Add piece ∷ steps) k old l new d = (d.0, does_unanswered steps (known_after (Add piece) old k) (tape_after (Add piece) k old) l new d.1)
does_unanswered (Write at bytes o ∷ steps) k old l new d = (d.0, does_unanswered steps (known_after (Write at bytes o) old k) (tape_after (Write at bytes o) k old) l new d.1)
does_unanswered (Sync ∷ steps) k old l new d = (d.0, does_unanswered steps (known_after Sync old k) (tape_after Sync k old) l new d.1)
does_unanswered (OpenGate o ∷ steps) k old l new d = (d.0, does_unanswered steps (known_after (OpenGate o) old k) (tape_after (OpenGate o) k old) l new d.1)
does_unanswered (Answer ∷ steps) k old l new d = does_unanswered steps k old l new d.1
does_unanswered (Accept ∷ steps) k old l new d = (d.0, does_unanswered steps (known_after Accept old k) (tape_after Accept k old) l new d.1)
does_unanswered (CloseGate o ∷ steps) k old l new d = (d.0, does_unanswered steps (known_after (CloseGate o) old k) (tape_after (CloseGate o) k old) l new d.1)
does_unanswered (SetAside o ∷ steps) k old l new d = (d.0, does_unanswered steps (known_after (SetAside o) old k) (tape_after (SetAside o) k old) l new d.1)

-- by them nothing is answered for
pub answered_none : (n : ℕ) (steps : List Step) (w : World) → (after_all (map (At n) (unanswered steps)) w).answered ≡ w.answered
answered_none n [] w = refl
answered_none n (Start from rcpts ∷ steps) w = answered_none n steps (after (At n (Start from rcpts)) w) ∙ append-nil w.answered
answered_none n (Add piece ∷ steps) w = answered_none n steps (after (At n (Add piece)) w) ∙ append-nil w.answered
answered_none n (Write at bytes o ∷ steps) w = answered_none n steps (after (At n (Write at bytes o)) w) ∙ append-nil w.answered
answered_none n (Sync ∷ steps) w = answered_none n steps (after (At n Sync) w) ∙ append-nil w.answered
answered_none n (OpenGate o ∷ steps) w = answered_none n steps (after (At n (OpenGate o)) w) ∙ append-nil w.answered
answered_none n (Answer ∷ steps) w = answered_none n steps w
answered_none n (Accept ∷ steps) w = answered_none n steps (after (At n Accept) w) ∙ append-nil w.answered
answered_none n (CloseGate o ∷ steps) w = answered_none n steps (after (At n (CloseGate o)) w) ∙ append-nil w.answered
answered_none n (SetAside o ∷ steps) w = answered_none n steps (after (At n (SetAside o)) w) ∙ append-nil w.answered
