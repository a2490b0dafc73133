-- When what one history says is what another one says, but for what no link tells.
use Rattle.std.specs.Prelude.{◌≡◌, ℕ, List, [], ◌∷◌, ◌++◌, length, map}
use Rattle.auth_events.specs.Port.{Port}
use Rattle.auth_events.specs.declared.entry.Entry.{Entry}
use Rattle.auth_events.specs.declared.reply.Reply.{Reply}
use Rattle.auth_events.specs.declared.reply.Reply.TheVariants.{Opened}
use Rattle.auth_events.specs.declared.request.Request.{Request}
use Rattle.auth_events.specs.declared.request.Request.TheVariants.{Open}
use Rattle.session_acts.specs.Course.{AreOfOne}
use Rattle.session_acts.specs.Talk.{AreAt, said_of}

-- the same request, but for whether a session is opened at a console
abbrev pub AsksSame : Request → Request → Type 0
AsksSame (Open console) (Open other) = Unit {0}
AsksSame mine theirs = mine ≡ theirs

-- the same reply, but for the number of a session
abbrev pub SaysSame : Reply → Reply → Type 0
SaysSame (Opened sid) (Opened other) = Unit {0}
SaysSame mine theirs = mine ≡ theirs

-- each of these, with its reply, is the one that comes at its place in others
abbrev pub AreSame : List (Request × Reply) → List (Request × Reply) → Type 0
AreSame [] others = Unit {0}
AreSame (mine ∷ more) (theirs ∷ others) = AsksSame mine.0 theirs.0 × SaysSame mine.1 theirs.1 × AreSame more others
AreSame (mine ∷ more) [] = ⊥

-- The entries that a port made meanwhile are of one session, and stand in its history at these places, one after another. With
-- them these are the same.
pub record Same {Origin : Type 0} (mine : List Entry) (old new : Port Origin) : Type 0 where
  pub places : List ℕ
  pub entries : List Entry
  pub own : new.mine ≡ old.mine ++ places
  pub stand : AreAt (length old.seen) places entries new.seen
  pub one : AreOfOne places entries
  pub same : AreSame (map said_of mine) (map said_of entries)
