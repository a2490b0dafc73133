-- Which replies fit which requests.
use Rattle.std.specs.Prelude.{◌≡◌, ℕ, Bool, true, List, Option, Some, None, IsTrue}
use Rattle.std.specs.Ordering.{is_lt, nat_cmp}
use Rattle.std.specs.Cmp.Lexicographic.{slice_cmp}
use Rattle.auth_events.specs.declared.request.Request.{Request}
use Rattle.auth_events.specs.declared.request.Request.TheVariants as requests
use Rattle.auth_events.specs.declared.reply.Reply.{Reply}
use Rattle.auth_events.specs.declared.reply.Reply.TheVariants as replies

-- a name comes after the one that was told, if any: at the first place where they differ it has the greater byte, or the
-- one that was told ends there
abbrev pub comes_after : Option (List ℕ) → List ℕ → Bool
comes_after None name = true
comes_after (Some told) name = is_lt (slice_cmp nat_cmp told name)

-- a reply that isn't a denial fits the request; the place is that of the request's own entry in the history
abbrev pub IsReplyTo : Request → ℕ → Reply → Type 0
IsReplyTo (requests.Open _) place (replies.Opened sid) = sid ≡ place
IsReplyTo (requests.Authenticate _) place replies.Password = Unit {0}
IsReplyTo (requests.Authenticate _) place (replies.Challenge _ _) = Unit {0}
IsReplyTo (requests.Display _) place (replies.Shown _) = Unit {0}
IsReplyTo (requests.List after) place (replies.Shown summary) = IsTrue (comes_after after summary.name)
IsReplyTo (requests.Open _) place replies.Ok = ⊥
IsReplyTo (requests.Authenticate _) place replies.Ok = ⊥
IsReplyTo (requests.Display _) place replies.Ok = ⊥
IsReplyTo (requests.List _) place replies.Ok = ⊥
IsReplyTo _ place replies.Ok = Unit {0}
IsReplyTo _ place _ = ⊥

-- the reply fits the request: each may be denied
abbrev pub Fits : Request → ℕ → Reply → Type 0
Fits request place (replies.Denied _) = Unit {0}
Fits request place reply = IsReplyTo request place reply
