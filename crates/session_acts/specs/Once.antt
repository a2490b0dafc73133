-- How the requests of a session follow one another where it may try more than once to open one.
use Rattle.std.specs.Prelude.{◌≡◌, Bool, true, false, List, ◌++◌, Option, Some}
use Rattle.std.specs.List.{AllByRecursion}
use Rattle.auth_events.specs.declared.reply.Reply.{Reply}
use Rattle.auth_events.specs.declared.reply.Reply.TheVariants.{Opened}
use Rattle.auth_events.specs.declared.request.Request.{Request}
use Rattle.auth_events.specs.declared.request.Request.TheVariants.{Open}
use Rattle.session_acts.specs.Course.{Course}

abbrev pub is_opened : Option Reply → Bool
is_opened (Some (Opened sid)) = true
is_opened _ = false

-- an opening by which no session was opened
abbrev pub IsTry : Request × Option Reply → Type 0
IsTry ask = (ask.0 ≡ Open false) × (is_opened ask.1 ≡ false)

-- openings in vain, and then nothing, or what is asked in one session: its opening, and then, where it was opened, what is
-- asked in it and its close, once
pub record OpensOnce (asks : List (Request × Option Reply)) : Type 0 where
  pub tries : List (Request × Option Reply)
  pub rest : List (Request × Option Reply)
  pub are_tries : AllByRecursion IsTry tries
  pub course : Course false rest
  pub is : asks ≡ tries ++ rest
