-- The login of a session in the history of its port.
use Rattle.std.specs.Prelude.{◌≡◌, ℕ, true, List, [], ◌∷◌, ◌++◌, filter, map, Option, Some}
use Rattle.auth_events.specs.Login.{login_stands}
use Rattle.auth_events.specs.declared.entry.Entry.{Entry}
use Rattle.auth_events.specs.declared.reply.Reply.{Reply}
use Rattle.auth_events.specs.declared.reply.Reply.TheVariants.{Opened}
use Rattle.auth_events.specs.declared.request.Request.{Request}
use Rattle.session_acts.specs.Talk.{answered, is_entered, said_of}

-- the number that a reply gives to a session, or else this one
abbrev pub number_by : Option Reply → ℕ → ℕ
number_by (Some (Opened sid)) other = sid
number_by _ other = other

-- the number of the session that was opened, and 0 if none was
abbrev pub number_opened : List (Request × Option Reply) → ℕ
number_opened [] = 0
number_opened (ask ∷ asks) = number_by ask.1 (number_opened asks)

-- What was asked so far and entered is a front of the history, and in that a login stands for the session with this number.
pub record LoginStandsIn (sid : ℕ) (asks : List (Request × Option Reply)) (history : List Entry) : Type 0 where
  pub front : List Entry
  pub more : List Entry
  pub is : history ≡ front ++ more
  pub said : map said_of front ≡ filter is_entered (answered asks)
  pub stands : login_stands sid front ≡ true
