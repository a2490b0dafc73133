-- Each turn comes nearer to the end.
use Rattle.std.proofs.Common.{arith, ◌≡◌, ap, subst, sym, ◌<◌, ◌≤◌, ◌+◌, ◌*◌, ℕ, List, Option, Some, None, IfSome, IfOk, Result, Ok, Err}
use Rattle.fw_outside.specs.declared.heard.Heard.{Heard}
use Rattle.fw_outside.specs.declared.heard.Heard.TheVariants.{Line, TooLong, Stopped}
use Rattle.session_acts.specs.Acts.Act.{Hear, TakeReply}
use Rattle.session_acts.specs.Distance.{ahead_of_client, ahead_of_link, ahead_of_server}
use Rattle.session_acts.specs.Met.{Met, ReplyDone}
use Rattle.session_acts.specs.World.{Server, World, most_taken}
use Rattle.session_acts.specs.declared.cause.Cause.{Cause}
use Rattle.session_acts.specs.declared.replied.Replied.{Replied}
use Rattle.session_acts.specs.declared.replied.Replied.TheVariants.{Whole, Ended}
use Rattle.session_acts.specs.declared.reply_use.ReplyUse.{ReplyUse}
use Rattle.session_acts.proofs.AheadLemmas.{heard_ahead, met_ahead}
use Rattle.ftp_gate.specs.Dialogue.{heard_form}
use Rattle.ftp_gate.specs.Distance.{IsBehind, IsNext, distance}
use Rattle.ftp_gate.specs.declared.place.Place.{Place}
use Rattle.ftp_gate.proofs.ServerLemmas.{NoMore, reply_nearer}

abbrev far : ℕ → ℕ → ℕ
far client server = client * (most_taken + 1) + server

-- a byte of the client is more than all bytes of a link
line_far : (client less server more : ℕ) → less < client → more ≤ server + most_taken → far less more < far client server
line_far client less server more a b = omega (arith, a, b)

reply_far : (client less server more : ℕ) → less ≤ client → more < server → far less more < far client server
reply_far client less server more a b = omega (arith, a, b)

some_near : {Origin : Type 0} (next : Option Place) (old new : World Origin) → far (ahead_of_client new) (ahead_of_server new) < far (ahead_of_client old) (ahead_of_server old)
    → IfSome next (λ p. far (ahead_of_client new) (ahead_of_server new) < far (ahead_of_client old) (ahead_of_server old))
some_near None old new less = tt
some_near (Some place) old new less = less

heard_near : {Origin : Type 0} (old mid new : World Origin) (next : Option Place) → mid.server ≡ old.server → ahead_of_client mid < ahead_of_client old → ahead_of_client new ≤ ahead_of_client mid → NoMore (ahead_of_server mid) (ahead_of_server new)
    → IfSome next (λ p. far (ahead_of_client new) (ahead_of_server new) < far (ahead_of_client old) (ahead_of_server old))
heard_near old mid new next same fewer less bounded =
    let here : ahead_of_server mid ≡ ahead_of_server old = ap (λ (s : Server). ahead_of_link s.link) same in
    let most : ahead_of_server new ≤ ahead_of_server old + most_taken = bounded (ahead_of_server old + most_taken) (omega (arith, here)) (omega (arith)) in
    let few : ahead_of_client new < ahead_of_client old = omega (arith, fewer, less) in
    some_near next old new (line_far (ahead_of_client old) (ahead_of_client new) (ahead_of_server old) (ahead_of_server new) few most)

pub near_line : {Origin : Type 0} (heard : Heard) (old mid new : World Origin) (next : Option Place) → Met (Hear heard_form) (Ok heard) old mid → ahead_of_client new ≤ ahead_of_client mid → NoMore (ahead_of_server mid) (ahead_of_server new) → IsNext heard next
    → IfSome next (λ p. far (ahead_of_client new) (ahead_of_server new) < far (ahead_of_client old) (ahead_of_server old))
near_line (Line line) old mid new next met less bounded fresh = heard_near old mid new next met.server (heard_ahead heard_form (Line line) old mid tt met) less bounded
near_line TooLong old mid new next met less bounded fresh = heard_near old mid new next met.server (heard_ahead heard_form TooLong old mid tt met) less bounded
near_line (Stopped stop) old mid new next met less bounded none = rw none tt

pub near_reply : {Origin : Type 0} {how : ReplyUse} (is_replied : Replied) (old mid new : World Origin) (next : Option Place) → ReplyDone how is_replied old mid → ahead_of_client new ≤ ahead_of_client mid → IsBehind is_replied (ahead_of_server mid) (ahead_of_server new) next
    → IfSome next (λ p. far (ahead_of_client new) (ahead_of_server new) < far (ahead_of_client old) (ahead_of_server old))
near_reply {how = how} (Whole code six) old mid new next done less behind =
    let fewer = met_ahead (TakeReply how) (Ok (Whole code six, done.text)) old mid done.met in
    let taken = reply_nearer how code six old mid done in
    some_near next old new (reply_far (ahead_of_client old) (ahead_of_client new) (ahead_of_server old) (ahead_of_server new) (omega (arith, fewer, less)) (omega (arith, taken, behind)))
near_reply Ended old mid new next done less none = rw none tt

-- behind a whole reply
pub behind_whole : {before behind : ℕ} (result : Result (Option Place) Cause) → behind ≤ before → IfOk result (λ (next : Option Place). behind ≤ before)
behind_whole (Ok next) less = less
behind_whole (Err cause) less = tt

-- each place will do
pub any_place : (result : Result (Option Place) Cause) → IfOk result (λ next. IfSome next (λ place. Unit {0}))
any_place (Err cause) = tt
any_place (Ok None) = tt
any_place (Ok (Some place)) = tt
