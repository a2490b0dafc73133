-- When a login stands.
use Rattle.std.specs.Prelude.{◌≡◌, ℕ, ◌==◌, Bool, true, false, ◌&&◌, ◌||◌, not, List, [], ◌∷◌, ◌++◌, map, filter, IsTrue}
use Rattle.std.specs.List.{list_all}
use Rattle.auth_events.specs.declared.denial.Denial.TheVariants as denials
use Rattle.auth_events.specs.declared.entry.Entry.{Entry}
use Rattle.auth_events.specs.declared.reply.Reply.{Reply}
use Rattle.auth_events.specs.declared.reply.Reply.TheVariants as replies
use Rattle.auth_events.specs.declared.request.Request.{Request}
use Rattle.auth_events.specs.declared.request.Request.TheVariants as requests

abbrev pub is_response : Request → Bool
is_response (requests.Response hash word) = true
is_response _ = false

abbrev pub is_ok : Reply → Bool
is_ok replies.Ok = true
is_ok _ = false

-- what ends a login: to name a user, and to close the session
abbrev pub is_end : Request → Bool
is_end (requests.Authenticate name) = true
is_end requests.Close = true
is_end _ = false

-- refused since no more entries fit
abbrev pub is_full : Reply → Bool
is_full (replies.Denied (denials.Full limit)) = true
is_full _ = false

-- a response that was right gives a login
abbrev pub gives_login : Request × Reply → Bool
gives_login (request, reply) = is_response request && is_ok reply

-- A name ends it, and so does the session's end, whatever they are answered. What was refused since no more entries fit is
-- no entry, and ends none.
abbrev pub ends_login : Request × Reply → Bool
ends_login (request, reply) = is_end request && not (is_full reply)

-- nothing of this ends it
abbrev pub lasts : List (Request × Reply) → Bool
lasts talk = list_all (λ said. not (ends_login said)) talk

-- a login stands in the talk of a session: something in it gives one, and nothing behind that ends it
abbrev pub login_in : List (Request × Reply) → Bool
login_in [] = false
login_in (said ∷ more) = (gives_login said && lasts more) || login_in more

-- what a session has said in a history: its requests, with their replies
abbrev pub said_by : Entry → Request × Reply
said_by entry = (entry.request, entry.reply)

abbrev pub talk_of : ℕ → List Entry → List (Request × Reply)
talk_of sid entries = map said_by (filter (λ entry. entry.sid == sid) entries)

-- a login stands for this session in a history
abbrev pub login_stands : ℕ → List Entry → Bool
login_stands sid entries = login_in (talk_of sid entries)

-- ---- what that comes to

-- it stands by this one of what was said, behind which nothing ends it
pub record HasLogin (talk : List (Request × Reply)) : Type 0 where
  pub before : List (Request × Reply)
  pub login : Request × Reply
  pub after : List (Request × Reply)
  pub is : talk ≡ before ++ login ∷ after
  pub gives : IsTrue (gives_login login)
  pub stays : IsTrue (lasts after)

-- whether it stands after one thing more was said
abbrev pub login_then : Bool → Request × Reply → Bool
login_then stood said = gives_login said || (stood && not (ends_login said))
