-- A session of whose link all was taken that may be taken ends by that.
use Rattle.std.proofs.Common.{arith, ◌≡◌, refl, sym, ap, subst, ◌∙◌, ℕ, Bool, true, false, List, [], ◌∷◌, map, Option, Some, None, Result, Ok, Err}
use mathlib.Core.Bool.{true≢false}
use Rattle.std.proofs.lemmas.Bool.{eq-eqb}
use Rattle.auth_events.specs.declared.port.PortFault.{PortFault}
use Rattle.auth_events.specs.declared.reply.Reply.{Reply}
use Rattle.fw_acts.specs.Acts.{Row, Step, PlaceTable}
use Rattle.fw_acts.specs.Acts.Row.{Over}
use Rattle.fw_acts.specs.Ran.{Comes}
use Rattle.fw_acts.specs.Runs.{DoesAll}
use Rattle.fw_acts.proofs.RanLemmas.{stopped}
use Rattle.fw_outside.specs.declared.heard.Heard.{Heard}
use Rattle.fw_types.specs.declared.dest.Dest.{Dest}
use Rattle.fw_types.specs.declared.ending.Ending.{Ending}
use Rattle.session_acts.specs.Acts.{Act, Answer, Front, Halt, Unreplied, cause_by, reply_cause, silence_cause}
use Rattle.session_acts.specs.Acts.Unreplied.{NotHeard, NotSaid}
use Rattle.session_acts.specs.Acts.Act.{Hear, Say, Try, Log, Note, Ask, Renew, Dial, Reach, Take, Pass, HangUp, Relay, Deposit, Allot, TakeReply, OpenDoor, Join, Copy, Part}
use Rattle.session_acts.specs.Causes.{is_spent_or}
use Rattle.session_acts.specs.Deeds.{deeds_ran, done}
use Rattle.session_acts.specs.Met.{Dialing, Met, Passes, ServerRelays, ServerReplies, Takes, acts}
use Rattle.session_acts.specs.Relaying.{Through}
use Rattle.session_acts.specs.Session.{SessionAs, ending_by, ending_of}
use Rattle.session_acts.specs.World.{Devices, Names, Server, Speaker, World, at_first, most_taken}
use Rattle.session_acts.specs.declared.cause.Cause.{Cause}
use Rattle.session_acts.specs.declared.cause.Cause.TheVariants.{ClientFault, ServerFault}
use Rattle.session_acts.specs.declared.form.Form.TheVariants.{Lines}
use Rattle.session_acts.specs.declared.silence.Silence.{Silence}
use Rattle.session_acts.proofs.DeedLemmas.{all_last, deeds_done, ran_deeds}
use Rattle.session_acts.proofs.KeptLemmas.{names_last}
use Rattle.session_acts.proofs.SpentLemmas.{done_left, draws_left, line_left, silent_left, none_left, relay_spent, silence_left, spent_or, told_left}
use Rattle.session_acts.proofs.StaysLemmas.{IsSound, LinkSound, stays_last}
use Rattle.fw_outside.specs.declared.heard.Stop.TheVariants as stops
use Rattle.session_acts.specs.Joining.{OpensAt}
use Rattle.session_acts.specs.Replying.{said_of}
use Rattle.session_acts.specs.declared.replied.Replied.{Replied}
use Rattle.session_acts.specs.declared.replied.Replied.TheVariants.{Whole, Ended}
use Rattle.session_acts.specs.declared.reply_use.ReplyUse.{ReplyUse}
use Rattle.session_acts.proofs.SideLemmas.{copies_side, joining_side}

-- whether no more bytes may be taken over the link that is up
abbrev used_up : Option Speaker → Bool
used_up None = false
used_up (Some link) = none_left link

same_link : (old new : Server) → new ≡ old → used_up old.link ≡ false → used_up new.link ≡ false
same_link old new is more = ap (λ (s : Server). used_up s.link) is ∙ more

-- ---- acts that are done

link_connects : (up : Bool) (dest : Dest) (old new : Server) → Dialing dest up old new → used_up new.link ≡ false
link_connects true dest old new h = ap (λ (s : Server). used_up s.link) h.connects.is
link_connects false dest old new h = ap (λ (s : Server). used_up s.link) h.connects.is

link_takes : (heard : Heard) (link : Option Speaker) (old new : Server) → old.link ≡ link → Takes (Ok heard) link old new → used_up old.link ≡ false → used_up new.link ≡ false
link_takes heard None old new up h more = same_link old new h.1 more
link_takes heard (Some link) old new up h more = ap (λ (s : Server). used_up s.link) h.is ∙ line_left Lines heard link h.speaker h.hears

link_passes : (text : List ℕ) (outcome : Result (Unit {0}) (Front text)) (link : Option Speaker) (old new : Server) → old.link ≡ link → Passes text outcome link old new → used_up old.link ≡ false → used_up new.link ≡ false
link_passes text outcome None old new up h more = same_link old new h.1 more
link_passes text outcome (Some link) old new up h more = ap (λ (s : Server). used_up s.link) h.is ∙ told_left text outcome link h.speaker h.told (sym (ap used_up up) ∙ more)

link_relays : (through : Through) (link : Option Speaker) (old new : Server) → ServerRelays (Some through.flow) link old new → used_up new.link ≡ false
link_relays through None old new h = absurd h
link_relays through (Some link) old new h = ap (λ (s : Server). used_up s.link) h.is ∙ done_left through.flow.down through.flow.up link h.speaker through.down h.carries

link_rests : (link : Option Speaker) (old new : Server) → old.link ≡ link → ServerRelays None link old new → used_up old.link ≡ false → used_up new.link ≡ false
link_rests None old new up h more = same_link old new h more
link_rests (Some link) old new up h more = absurd h

link_replies : (how : ReplyUse) (answer : Replied × List ℕ) (link : Option Speaker) (old new : Server) → old.link ≡ link → ServerReplies {how = how} (Ok answer) link old new → used_up old.link ≡ false → used_up new.link ≡ false
link_replies how answer None old new up h more = same_link old new h.1 more
link_replies how (Whole code six, text) (Some link) old new up h more = ap (λ (s : Server). used_up s.link) h.is ∙ draws_left None text link h.speaker h.draws refl
link_replies how (Ended, text) (Some link) old new up h more = ap (λ (s : Server). used_up s.link) h.is ∙ draws_left (Some stops.End) text link h.speaker h.draws refl

link_opens : (at : Option (List ℕ × ℕ)) (old new : Server) → OpensAt (Ok at) old new → used_up old.link ≡ false → used_up new.link ≡ false
link_opens (Some at) old new h more = ap (λ (s : Server). used_up s.link) h.is ∙ more
link_opens None old new h more = ap (λ (s : Server). used_up s.link) h.is ∙ more

link_left : {Origin : Type 0} (act : Act) (answer : Answer act) (old new : World Origin) → Met act (Ok answer) old new → used_up old.server.link ≡ false → used_up new.server.link ≡ false
link_left (Dial dest) up old new met more = link_connects up dest old.server new.server met.server
link_left (Reach dest) up old new met more = link_connects true dest old.server new.server met.server
link_left Take heard old new met more = link_takes heard old.server.link old.server new.server refl met.server more
link_left (Pass text) done old new met more = link_passes text (Ok done) old.server.link old.server new.server refl met.server more
link_left HangUp done old new met more = ap (λ (s : Server). used_up s.link) met.server.is
link_left Relay None old new met more = link_rests old.server.link old.server new.server refl met.server more
link_left Relay (Some through) old new met more = link_relays through old.server.link old.server new.server met.server
link_left (Hear form) heard old new met more = same_link old.server new.server met.server more
link_left (Say text) done old new met more = same_link old.server new.server met.server more
link_left (Try text) tried old new met more = same_link old.server new.server met.server more
link_left (Log text) done old new met more = same_link old.server new.server met.server more
link_left (Deposit sender rcpts words most) done old new met more = same_link old.server new.server met.server more
link_left Allot done old new met more = same_link old.server new.server met.server more
link_left (TakeReply how) answer old new met more = link_replies how answer old.server.link old.server new.server refl met.server more
link_left OpenDoor at old new met more = link_opens at old.server new.server met.server more
link_left (Join dest target) joined old new met more = ap used_up (joining_side dest target joined old.server new.server met.server).link ∙ more
link_left (Copy toward) carried old new met more = ap used_up (copies_side toward carried old.server.pair old.server new.server met.server).link ∙ more
link_left Part done old new met more = ap (λ (s : Server). used_up s.link) met.server.is ∙ more
link_left (Note text) done old new met more = same_link old.server new.server met.server more
link_left (Ask request) reply old new met more = same_link old.server new.server met.server more
link_left (Renew name hash) salted old new met more = same_link old.server new.server met.server more

-- ---- the act at which it stopped

not_used : (cause : Cause) (relays used : Bool) → used ≡ false → used ≡ true → is_spent_or relays (ending_by cause) ≡ true
not_used cause relays used less all = absurd (true≢false (sym all ∙ less))

take_stops : (relays : Bool) (silence : Silence) (link : Option Speaker) (old new : Server) → Takes (Err silence) link old new → used_up new.link ≡ true → is_spent_or relays (ending_by (silence_cause ServerFault silence)) ≡ true
take_stops relays silence None old new h all = let clash = h.0 in absurd (cc)
take_stops relays silence (Some link) old new h all =
    spent_or relays (ending_by (silence_cause ServerFault silence)) (silence_left ServerFault Lines silence link h.speaker h.hears (sym (ap (λ (s : Server). used_up s.link) h.is) ∙ all))

-- a reply that wasn't said
unsaid_left : (how : ReplyUse) (text : List ℕ) (front : Front (said_of how text)) (link : Option Speaker) (old new : Server) → ServerReplies {how = how} (Err (NotSaid text front)) link old new → used_up new.link ≡ false
unsaid_left how text front None old new h = let clash = h.0 in absurd (cc)
unsaid_left how text front (Some link) old new h = ap (λ (s : Server). used_up s.link) h.is ∙ draws_left None text link h.speaker h.draws refl

reply_stops : (how : ReplyUse) (relays : Bool) (halt : Unreplied how) (link : Option Speaker) (old new : Server) → old.link ≡ link → ServerReplies {how = how} (Err halt) link old new → used_up old.link ≡ false → used_up new.link ≡ true → is_spent_or relays (ending_by (reply_cause halt)) ≡ true
reply_stops how relays (NotHeard silence text begun) None old new up h more all = let clash = h.0 in absurd (cc)
reply_stops how relays (NotHeard silence text begun) (Some link) old new up h more all =
    spent_or relays (ending_by (silence_cause ServerFault silence)) (silent_left ServerFault silence text link h.speaker h.draws (sym (ap (λ (s : Server). used_up s.link) h.is) ∙ all))
reply_stops how relays (NotSaid text front) link old new up h more all = not_used ClientFault relays (used_up new.link) (unsaid_left how text front link old new h) all

stop_used : {Origin : Type 0} (relays : Bool) (act : Act) (halt : Halt act) (old new : World Origin) → Met act (Err halt) old new → old.names.relays ≡ relays → used_up old.server.link ≡ false → used_up new.server.link ≡ true → is_spent_or relays (ending_by (cause_by act halt)) ≡ true
stop_used relays (Hear form) halt old new met lent more all = not_used (cause_by (Hear form) halt) relays (used_up new.server.link) (same_link old.server new.server met.server more) all
stop_used relays (Say text) halt old new met lent more all = not_used (cause_by (Say text) halt) relays (used_up new.server.link) (same_link old.server new.server met.server more) all
stop_used relays (Try text) halt old new met lent more all = absurd halt
stop_used relays (Log text) halt old new met lent more all = not_used (cause_by (Log text) halt) relays (used_up new.server.link) (same_link old.server new.server met.server more) all
stop_used relays (Deposit sender rcpts words most) halt old new met lent more all = not_used (cause_by (Deposit sender rcpts words most) halt) relays (used_up new.server.link) (same_link old.server new.server met.server more) all
stop_used relays Allot halt old new met lent more all = not_used (cause_by Allot halt) relays (used_up new.server.link) (same_link old.server new.server met.server more) all
stop_used relays (TakeReply how) halt old new met lent more all = reply_stops how relays halt old.server.link old.server new.server refl met.server more all
stop_used relays OpenDoor halt old new met lent more all = absurd halt
stop_used relays (Join dest target) halt old new met lent more all = absurd halt
stop_used relays (Copy toward) halt old new met lent more all = absurd halt
stop_used relays Part halt old new met lent more all = absurd halt
stop_used relays (Note text) halt old new met lent more all = absurd halt
stop_used relays (Ask request) halt old new met lent more all = not_used (cause_by (Ask request) halt) relays (used_up new.server.link) (same_link old.server new.server met.server more) all
stop_used relays (Renew name hash) halt old new met lent more all = not_used (cause_by (Renew name hash) halt) relays (used_up new.server.link) (same_link old.server new.server met.server more) all
stop_used relays (Dial dest) halt old new met lent more all = absurd halt
stop_used relays (Reach dest) halt old new met lent more all = not_used (cause_by (Reach dest) halt) relays (used_up new.server.link) (link_connects false dest old.server new.server met.server) all
stop_used relays Take halt old new met lent more all = take_stops relays halt old.server.link old.server new.server met.server all
stop_used relays (Pass text) halt old new met lent more all = not_used (cause_by (Pass text) halt) relays (used_up new.server.link) (link_passes text (Err halt) old.server.link old.server new.server refl met.server more) all
stop_used relays HangUp halt old new met lent more all = absurd halt
stop_used relays Relay halt old new met lent more all = relay_spent halt relays (sym lent ∙ met.may)

-- what was used of a link of which all was taken
sound_used : (link : Option Speaker) (last : Speaker) → link ≡ Some last → IsSound link → last.inlet.amount ≡ most_taken → used_up link ≡ true
sound_used link last is sound whole =
    let here : LinkSound last = subst IsSound is sound in
    let all = here.all in
    let most = here.amount.most in
    let none : last.reader.room ≡ 0 = omega (arith, all, most, whole) in
    ap used_up is ∙ eq-eqb last.reader.room 0 none

-- ---- the session

module _ {Origin : Type 0} where
  steps_used : (steps : List (Step (acts Origin))) (old new : World Origin) → DoesAll steps old new → used_up old.server.link ≡ false → used_up new.server.link ≡ false
  steps_used [] old new does more = ap (λ (w : World Origin). used_up w.server.link) (sym does) ∙ more
  steps_used (step ∷ steps) old new does more = steps_used steps does.0 new does.2 (link_left step.act step.answer old does.0 does.1 more)

  dialogue_used : {P : Type 0} (relays : Bool) (rows : PlaceTable (acts Origin) P) (dialogue : Result (Unit {0}) Cause) (left : Row (acts Origin) P) (before mid : World Origin) (opened : Option ℕ) (answer : Result Reply PortFault)
      → Comes rows (λ (done : Unit {0}). Over) dialogue mid left before → before.names.relays ≡ relays → used_up before.server.link ≡ false → used_up mid.server.link ≡ true → is_spent_or relays (ending_of dialogue opened answer) ≡ true
  dialogue_used relays rows (Ok over) left before mid opened answer comes lent more all =
      absurd (true≢false (sym all ∙ ap (λ (w : World Origin). used_up w.server.link) (sym comes.1) ∙ more))
  dialogue_used relays rows (Err cause) left before mid opened answer comes lent more all =
      let here = stopped rows left cause before mid comes in
      ap (λ (c : Cause). is_spent_or relays (ending_by c)) here.why.is_cause ∙ stop_used relays here.act here.why.halt before mid here.why.met lent more all

  pub link_used : (relays : Bool) {P : Type 0} (rows : PlaceTable (acts Origin) P) (first : Row (acts Origin) P) (old new : Devices Origin) (ending : Ending) (session : SessionAs relays rows first old new ending) (link : Speaker)
      → session.held.mid.server.link ≡ Some link → link.inlet.amount ≡ most_taken → is_spent_or relays ending ≡ true
  link_used relays rows first old new ending session link up whole =
      let held = session.held in
      let start = at_first old session.names in
      let more : used_up held.ran.mid.server.link ≡ false = steps_used held.ran.steps start held.ran.mid held.ran.does refl in
      let names = all_last names_last (map done held.ran.steps) start held.ran.mid (deeds_done held.ran.steps start held.ran.mid held.ran.does) in
      let lent : held.ran.mid.names.relays ≡ relays = ap (λ (n : Names). n.relays) names ∙ session.lent in
      let stays = all_last stays_last (deeds_ran held.ran) start held.mid (ran_deeds held.ran) in
      let all : used_up held.mid.server.link ≡ true = sound_used held.mid.server.link link up (stays.server.sound tt) whole in
      ap (λ (e : Ending). is_spent_or relays e) held.ends ∙ dialogue_used relays rows held.dialogue held.ran.left held.ran.mid held.mid held.mid.office.opened held.answer held.ran.comes lent more all
