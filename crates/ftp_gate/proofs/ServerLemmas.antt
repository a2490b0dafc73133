-- How many bytes of the server may still be heard: only a new link brings more, and a whole reply takes some.
use Rattle.std.proofs.Common.{◌≤◌, ◌<◌, ℕ, List, Option, Result}
use Rattle.fw_acts.specs.Acts.{Row, PlaceTable}
use Rattle.fw_acts.specs.Ran.{Ran}
use Rattle.session_acts.specs.Distance.{ahead_of_server}
use Rattle.session_acts.specs.Met.{ReplyDone, acts}
use Rattle.session_acts.specs.World.{World, most_taken}
use Rattle.session_acts.specs.declared.cause.Cause.{Cause}
use Rattle.session_acts.specs.declared.replied.Replied.TheVariants.{Whole}
use Rattle.session_acts.specs.declared.reply_use.ReplyUse.{ReplyUse}
use Rattle.session_acts.proofs.ServerAheadLemmas.{ran_server_ahead, replied_ahead}

-- no more are ahead than before, but for those of a new link
abbrev pub NoMore : ℕ → ℕ → Type 0
NoMore before behind = (bound : ℕ) → before ≤ bound → most_taken ≤ bound → behind ≤ bound

pub ran_no_more : {Origin P T : Type 0} {rows : PlaceTable (acts Origin) P} {r : Row (acts Origin) P} {at : T → Row (acts Origin) P} {old new : World Origin} {result : Result T Cause}
    → Ran rows r at old new result → NoMore (ahead_of_server old) (ahead_of_server new)
ran_no_more ran = λ bound fits most. (ran_server_ahead ran).within bound most fits

pub reply_nearer : {Origin : Type 0} (how : ReplyUse) (code : ℕ) (six : Option (List ℕ × ℕ)) (old new : World Origin) → ReplyDone how (Whole code six) old new → ahead_of_server new < ahead_of_server old
reply_nearer how code six old new done = replied_ahead how code six done.text old new done.met
