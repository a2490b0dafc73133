-- Which entries a port may have, and how it stands with its server after them.
use Rattle.std.specs.Prelude.{◌≡◌, ℕ, suc, Bool, true, false, IsTrue, List, [], ◌∷◌, ◌++◌, None, if◌then◌else◌}
use Rattle.auth_events.specs.Port.{session_at}
use Rattle.auth_events.specs.declared.denial.Denial.TheVariants as denials
use Rattle.auth_events.specs.declared.entry.Entry.{Entry}
use Rattle.auth_events.specs.declared.reply.Reply.{Reply}
use Rattle.auth_events.specs.declared.reply.Reply.TheVariants.{Denied}
use Rattle.authsrv_lines.specs.Reply.{IsReply}
use Rattle.authsrv_lines.specs.RequestLine.{IsAsked}
use Rattle.remote_port.specs.Answers.{IsPlaced, is_kept, limit_told, may_answer}
use Rattle.remote_port.specs.Treatment.{standing_after, treatment_of}
use Rattle.remote_port.specs.declared.standing.Standing.{Standing}
use Rattle.remote_port.specs.declared.standing.Standing.TheVariants as standings
use Rattle.remote_port.specs.declared.standing.Treatment.{Treatment}
use Rattle.remote_port.specs.declared.standing.Treatment.TheVariants.{Refuse, Send}

abbrev pub is_sent : Treatment → Bool
is_sent Send = true
is_sent _ = false

-- of some entries, those that the server answered, by how the port stood with it before each
abbrev pub answered_from : Standing → List Entry → List Entry
answered_from standing [] = []
answered_from standing (entry ∷ more) =
    (if is_sent (treatment_of standing entry.sid entry.request) then entry ∷ [] else [])
    ++ answered_from (standing_after standing entry.request entry.reply) more

-- the entries that the server answered, among all
abbrev pub answered : List Entry → List Entry
answered seen = answered_from standings.New seen

-- how a port stands with its server after some entries more
abbrev pub standing_from : Standing → List Entry → Standing
standing_from standing [] = standing
standing_from standing (entry ∷ more) = standing_from (standing_after standing entry.request entry.reply) more

-- how a port with these entries stands with its server, as long as nothing failed and nothing strange came
abbrev pub standing_of : List Entry → Standing
standing_of seen = standing_from standings.New seen

-- what is entered of a request that is treated so: what the server replied, or that the session isn't open
abbrev pub IsEnteredAs : Treatment → Reply → Type 0
IsEnteredAs Send reply = Unit {0}
IsEnteredAs Refuse reply = reply ≡ Denied denials.Closed
IsEnteredAs treatment reply = ⊥

-- An entry at this place of a port that stood so before. Its reply may answer its request, and doesn't say that the history is
-- full. A session's number is the place of the entry that opens it.
pub record IsEntry (standing : Standing) (place : ℕ) (entry : Entry) : Type 0 where
  pub treated : IsEnteredAs (treatment_of standing entry.sid entry.request) entry.reply
  pub may : IsTrue (may_answer entry.request entry.reply)
  pub enters : limit_told entry.reply ≡ None
  pub placed : IsPlaced entry.reply place
  pub own : session_at entry.request place entry.sid ≡ entry.sid
  pub kept : entry.kept ≡ is_kept entry.reply
  pub asked : IsAsked entry.request
  pub is_reply : IsReply entry.reply

-- so is each of these, the first of which has this place
abbrev pub AreEntries : Standing → ℕ → List Entry → Type 0
AreEntries standing place [] = Unit {0}
AreEntries standing place (entry ∷ more) =
    IsEntry standing place entry × AreEntries (standing_after standing entry.request entry.reply) (suc place) more
