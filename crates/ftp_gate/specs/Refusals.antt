-- What was refused of a session: data links are wanted only where they can be asked for, and what the gateway tells of is counted.
use Rattle.std.specs.Prelude.{◌≡◌, ℕ, ◌+◌, ◌-◌, ◌^◌, ◌≤◌, ◌||◌, Bool, false, List, [], ◌∷◌, ◌++◌, codes, length, min, Ok, if◌then◌else◌}
use Rattle.fw_types.specs.declared.dest.Dest.{Dest}
use Rattle.session_acts.specs.Acts.{Act, Outcome}
use Rattle.session_acts.specs.Acts.Act.{Dial, Join, Reach, Say}
use Rattle.session_acts.specs.Deeds.{Deed, gives}
use Rattle.session_acts.specs.Laws.{Wanted, missed, unreached}
use Rattle.session_acts.specs.Standing.{is_unasked}
use Rattle.session_acts.specs.World.{World}
use Rattle.session_acts.specs.declared.joined.Joined.{Joined}
use Rattle.session_acts.specs.declared.target.Target.{Target}
use Rattle.ftp_gate.specs.Known.{begins}

-- whenever data links were wanted, one was asked for at least
abbrev pub JoinsAsked : List Deed → Type 0
JoinsAsked deeds =
    (before after : List Deed) (dest : Dest) (target : Target) (joined : Joined) → deeds ≡ before ++ record { act = Join dest target; outcome = Ok joined } ∷ after → is_unasked joined ≡ false

-- the gateway tells that there is no door, or no data link
abbrev pub tells_refusal : Act → Bool
tells_refusal (Say text) = begins text (codes "425 No door") || begins text (codes "425 No data")
tells_refusal act = false

-- how often
abbrev pub times_told : List Deed → ℕ
times_told [] = 0
times_told (deed ∷ deeds) = (if tells_refusal deed.act then 1 else 0) + times_told deeds

-- the destinations that were asked for and didn't come up
abbrev pub in_vain : (act : Act) → Outcome act → List Wanted
in_vain (Dial dest) outcome = missed dest outcome
in_vain (Reach dest) outcome = unreached dest outcome
in_vain act outcome = []

-- so many refusals were counted together, as far as the count goes
abbrev pub CountsTold : {Origin : Type 0} → List Deed → World Origin → World Origin → Type 0
CountsTold deeds old new =
    min (old.server.dialer.refusals + (length (gives in_vain deeds) + times_told deeds)) (2 ^ 64 - 1) ≤ new.server.dialer.refusals
