-- What broke off of a session: data are copied only while data links are up, and each transfer of which the gateway tells that it ended early is counted.
use Rattle.std.specs.Prelude.{◌≡◌, ℕ, ◌+◌, ◌-◌, ◌^◌, ◌<◌, ◌≤◌, ◌&&◌, nat_lt, is_some, Bool, true, false, List, [], ◌∷◌, ◌++◌, codes, length, Option, Some, None, Result, Ok, Err, if◌then◌else◌}
use Rattle.relay_ways.specs.Carried.{Way}
use Rattle.session_acts.specs.Acts.{Act, Outcome}
use Rattle.session_acts.specs.Acts.Act.{Copy, Hear, Say}
use Rattle.session_acts.specs.Deeds.{Deed}
use Rattle.session_acts.specs.World.{World, most_taken}
use Rattle.session_acts.specs.declared.toward.Toward.{Toward}
use Rattle.ftp_gate.specs.Known.{begins}

-- whenever data were copied, both data links were up, so that the answer has what was carried
abbrev pub CopiesCarry : List Deed → Type 0
CopiesCarry deeds =
    (before after : List Deed) (toward : Toward) (carried : Option Way) → deeds ≡ before ++ record { act = Copy toward; outcome = Ok carried } ∷ after → is_some carried ≡ true

-- how many bytes a copy took
abbrev pub copied : {Never : Type 0} → Result (Option Way) Never → ℕ
copied (Ok (Some way)) = length way.taken
copied (Ok None) = 0
copied (Err never) = 0

-- how many bytes were taken by the last copy for the command that was heard last, after a deed
abbrev pub taken_then : (act : Act) → Outcome act → ℕ → ℕ
taken_then (Hear form) outcome taken = 0
taken_then (Copy toward) outcome taken = copied outcome
taken_then act outcome taken = taken

-- the gateway tells that a transfer ended early
abbrev pub tells_break : Act → Bool
tells_break (Say text) = begins text (codes "426")
tells_break act = false

-- How often it is told so in answer to a transfer that took fewer than 2^40 bytes. So many were taken by the last copy before these
-- deeds.
abbrev pub breaks_from : ℕ → List Deed → ℕ
breaks_from taken [] = 0
breaks_from taken (deed ∷ deeds) =
    (if tells_break deed.act && nat_lt taken most_taken then 1 else 0) + breaks_from (taken_then deed.act deed.outcome taken) deeds

abbrev pub breaks_told : List Deed → ℕ
breaks_told deeds = breaks_from 0 deeds

-- so many failures and idlenesses of data links were counted together, unless one of these counts stands at its last value
abbrev pub CountsBreaks : {Origin : Type 0} → List Deed → World Origin → World Origin → Type 0
CountsBreaks deeds old new =
    (new.server.dialer.data_faults < 2 ^ 64 - 1) → (new.server.dialer.data_idles < 2 ^ 64 - 1)
    → old.server.dialer.data_faults + old.server.dialer.data_idles + breaks_told deeds ≤ new.server.dialer.data_faults + new.server.dialer.data_idles
