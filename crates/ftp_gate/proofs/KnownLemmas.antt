-- Whether a login stands is known by what was asked and answered.
use Rattle.std.proofs.Common.{◌≡◌, refl, sym, ap, ◌∙◌, ℕ, Bool, true, false, ◌&&◌, List, [], ◌∷◌, ◌++◌, Option, Some, None, Result, Ok, Err, append_assoc, append-nil}
use Rattle.std.proofs.lemmas.List.Elements.{filter_map-append}
use Rattle.auth_events.specs.Login.{login_in, login_then}
use Rattle.auth_events.proofs.LoginLemmas.{then_stands}
use Rattle.auth_events.specs.declared.reply.Reply.{Reply}
use Rattle.auth_events.specs.declared.request.Request.{Request}
use Rattle.fw_types.specs.declared.dest.Dest.{Dest}
use Rattle.session_acts.specs.Acts.{Act, Outcome}
use Rattle.session_acts.specs.Acts.Act.{Hear, Say, Try, Log, Note, Ask, Renew, Dial, Reach, Take, Pass, HangUp, Relay, Deposit, Allot, TakeReply, OpenDoor, Join, Copy, Part}
use Rattle.session_acts.specs.Deeds.{Deed, gives}
use Rattle.session_acts.specs.Talk.{answered, asked, replied}
use Rattle.session_acts.specs.declared.joined.Joined.TheVariants as joins
use Rattle.session_acts.specs.declared.replied.Replied.TheVariants.{Whole, Ended}
use Rattle.session_acts.specs.declared.reply_use.ReplyUse.TheVariants.{Passed, Dropped, Greeting}
use Rattle.ftp_gate.specs.Dialogue.{is_well}
use Rattle.ftp_gate.specs.Gate.{Gate}
use Rattle.ftp_gate.specs.Known.{Known, at_start, begins, greeting_by, known, known_after, known_from, saying}
use Rattle.ftp_gate.specs.Texts.{port_ok}

abbrev Talk : Type 0
Talk = List (Request × Reply)

-- after these
abbrev logins : Bool → Talk → Bool
logins stood [] = stood
logins stood (said ∷ more) = logins (login_then stood said) more

logins_both : (stood : Bool) (first more : Talk) → logins stood (first ++ more) ≡ logins (logins stood first) more
logins_both stood [] more = refl
logins_both stood (said ∷ first) more = logins_both (login_then stood said) first more

logins_are : (front talk : Talk) → logins (login_in front) talk ≡ login_in (front ++ talk)
logins_are front [] = ap login_in (sym (append-nil front))
logins_are front (said ∷ more) =
    ap (λ (b : Bool). logins b more) (sym (then_stands front said)) ∙ logins_are (front ++ said ∷ []) more ∙ ap login_in (append_assoc front (said ∷ []) more)

-- ---- a deed

said_login : (gate : Gate) (b : Bool) (k : Known) → (saying gate b k).login ≡ k.login
said_login gate true k = refl
said_login gate false k = refl

greeted_login : (b : Bool) (k : Known) → (greeting_by b k).login ≡ k.login
greeted_login true k = refl
greeted_login false k = refl

and_true : (b : Bool) → b ≡ (b && true)
and_true true = refl
and_true false = refl

login_after : (gate : Gate) (k : Known) (act : Act) (outcome : Outcome act) → (known_after gate k act outcome).login ≡ logins k.login (answered (asked act outcome))
login_after gate k (Hear form) outcome = refl
login_after gate k (Say text) outcome = said_login gate (begins text port_ok) k
login_after gate k (Try text) outcome = refl
login_after gate k (Log text) outcome = refl
login_after gate k (Note text) outcome = refl
login_after gate k (Ask request) (Ok reply) = refl
login_after gate k (Ask request) (Err fault) = refl
login_after gate k (Renew name hash) (Ok salts) = and_true k.login
login_after gate k (Renew name hash) (Err salts) = refl
login_after gate k (Dial dest) (Ok true) = refl
login_after gate k (Dial dest) (Ok false) = refl
login_after gate k (Dial dest) (Err never) = refl
login_after gate k (Reach dest) outcome = refl
login_after gate k Take outcome = refl
login_after gate k (Pass text) outcome = refl
login_after gate k HangUp outcome = refl
login_after gate k Relay outcome = refl
login_after gate k (Deposit sender rcpts words most) outcome = refl
login_after gate k Allot outcome = refl
login_after gate k (TakeReply Passed) outcome = refl
login_after gate k (TakeReply Dropped) outcome = refl
login_after gate k (TakeReply Greeting) (Ok (Whole code six, text)) = greeted_login (is_well code) k
login_after gate k (TakeReply Greeting) (Ok (Ended, text)) = refl
login_after gate k (TakeReply Greeting) (Err halt) = refl
login_after gate k OpenDoor (Ok (Some door)) = refl
login_after gate k OpenDoor (Ok None) = refl
login_after gate k OpenDoor (Err never) = refl
login_after gate k (Join dest target) (Ok joins.Up) = refl
login_after gate k (Join dest target) (Ok joins.NoSide) = refl
login_after gate k (Join dest target) (Ok joins.NoNear) = refl
login_after gate k (Join dest target) (Ok joins.Unready) = refl
login_after gate k (Join dest target) (Err never) = refl
login_after gate k (Copy toward) outcome = refl
login_after gate k Part outcome = refl

-- ---- all deeds

answered_both : (act : Act) (outcome : Outcome act) (deeds : List Deed) → answered (asked act outcome ++ gives asked deeds) ≡ answered (asked act outcome) ++ answered (gives asked deeds)
answered_both act outcome deeds = filter_map-append (λ (ask : Request × Option Reply). replied ask.0 ask.1) (asked act outcome) (gives asked deeds)

login_from : (gate : Gate) (k : Known) (deeds : List Deed) → (known_from gate k deeds).login ≡ logins k.login (answered (gives asked deeds))
login_from gate k [] = refl
login_from gate k (deed ∷ deeds) =
    login_from gate (known_after gate k deed.act deed.outcome) deeds
    ∙ ap (λ (b : Bool). logins b (answered (gives asked deeds))) (login_after gate k deed.act deed.outcome)
    ∙ sym (logins_both k.login (answered (asked deed.act deed.outcome)) (answered (gives asked deeds)))
    ∙ ap (λ (talk : Talk). logins k.login talk) (sym (answered_both deed.act deed.outcome deeds))

pub login_known : (gate : Gate) (deeds : List Deed) → (known gate deeds).login ≡ login_in (answered (gives asked deeds))
login_known gate deeds = login_from gate at_start deeds ∙ logins_are [] (answered (gives asked deeds))
