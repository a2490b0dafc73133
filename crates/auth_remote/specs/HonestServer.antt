-- A server at the other end of a link that is a session of `authsrv` over a legal history.
use Rattle.std.specs.Prelude.{◌≡◌, ℕ, Bool, List, [], ◌∷◌, ◌++◌, Some}
use Rattle.std.specs.List.{AllByRecursion}
use Rattle.fw_types.specs.declared.ending.Ending.{Ending}
use Rattle.auth_machine.specs.History as histories
use Rattle.auth_machine.specs.History.{IsLegal}
use Rattle.authsrv_gate.specs.Dialogue.{rows, session_row}
use Rattle.authsrv_lines.specs.Reply.{IsReply}
use Rattle.session_acts.specs.Deeds.{gives}
use Rattle.session_acts.specs.Session.{Session, deeds_of}
use Rattle.session_acts.specs.Talk.{answered, asked}
use Rattle.session_acts.specs.World.{Devices}

-- one text begins with another
abbrev pub Begins : List ℕ → List ℕ → Type 0
Begins text part = (rest : List ℕ) × (text ≡ part ++ rest)

-- What was taken from a server is a prefix of what a session of `authsrv` said, from its beginning on, that took a prefix of what
-- was given to the server. The history of the session's port is legal, and each reply is one that the type of replies has.
pub record HonestServer (Origin : Type 0) (given taken : List ℕ) : Type 0 where
  pub console : Bool
  pub old : Devices Origin
  pub new : Devices Origin
  pub ending : Ending
  pub session : Session rows (session_row console) old new ending
  pub heard : List ℕ
  pub heard_none : old.inlet.taken ≡ Some []
  pub heard_all : new.inlet.taken ≡ Some heard
  pub hears : Begins given heard
  pub said : List ℕ
  pub said_none : old.outlet.given ≡ Some []
  pub said_all : new.outlet.given ≡ Some said
  pub says : Begins said taken
  pub origin : histories.Origin
  pub legal : IsLegal origin new.port.seen
  pub replies : AllByRecursion (λ one. IsReply one.1) (answered (gives asked (deeds_of session.held)))
