-- Each message is of the sender and to the recipients that stood.
use Rattle.std.proofs.Common.{◌≡◌, refl, sym, ap, subst, ◌∙◌, ℕ, List, [], ◌∷◌, ◌++◌, map, length, Option, Some, None, Result, Ok, Err, append-nil}
use Rattle.std.proofs.lemmas.List.Concat.{flat_map-append}
use Rattle.auth_events.specs.declared.port.PortFault.{PortFault}
use Rattle.auth_events.specs.declared.reply.Reply as answers
use Rattle.fw_acts.specs.Acts.{Row, Step}
use Rattle.fw_acts.specs.Acts.Row.{Do, At, Over}
use Rattle.fw_acts.specs.Histories.{AllMay}
use Rattle.fw_acts.specs.Ran.{Comes}
use Rattle.fw_acts.proofs.HistoryLemmas.{run_may}
use Rattle.fw_types.specs.declared.ending.Ending.{Ending}
use Rattle.session_acts.specs.Acts.{Act, Answer, Halt}
use Rattle.session_acts.specs.Acts.Act.{Hear, Say, Try, Log, Note, Ask, Renew, Dial, Reach, Take, Pass, HangUp, Relay, Deposit, Allot, TakeReply, OpenDoor, Join, Copy, Part}
use Rattle.session_acts.specs.Deeds.{Deed, deed_last, done, gives}
use Rattle.session_acts.specs.Met.{acts}
use Rattle.session_acts.specs.Session.{Held, closing, deeds_of, freeing, owed}
use Rattle.session_acts.specs.Stored.{KeptMail, PutsMails, kept}
use Rattle.session_acts.specs.World.{Speaker, World}
use Rattle.session_acts.specs.declared.cause.Cause.{Cause}
use Rattle.session_acts.specs.declared.deposited.Deposited.{Deposited}
use Rattle.session_acts.specs.declared.deposited.Deposited.TheVariants as ends
use Rattle.session_acts.proofs.DeedLemmas.{all_gain, held_deeds}
use Rattle.session_acts.proofs.StoredLemmas.{kept_gains}
use Rattle.smap_gate.specs.Dialogue.{smap_row, smap_rows}
use Rattle.smap_gate.specs.Gate.{Gate}
use Rattle.smap_gate.specs.Messages.{KeepsMessages, Standing, mail_asked, mail_then, mails, stands_then, unasked}
use Rattle.smap_gate.specs.Replies.{Reply, Want, says, to_heard}
use Rattle.smap_gate.specs.Replies.Want.{Nothing, Message}
use Rattle.smap_gate.specs.Texts as texts
use Rattle.smap_gate.specs.declared.place.Place.{Place}
use Rattle.smap_gate.specs.declared.place.Place.TheVariants.{Waiting}
use Rattle.smap_gate.specs.Wanted.{IsWanted, owing_behind, want_behind}
use Rattle.smap_gate.proofs.ReplyLemmas.{first_tells, own_rows, rows_tell, watch}

-- what is owed to the client goes with what stands
record Fits (owing : Reply) (standing : Standing) : Type 0 where
  place : owing.place ≡ standing.place
  asks : (sender : List ℕ) (rcpts : List (List ℕ)) → owing.want ≡ Message sender rcpts → standing.asks ≡ Message sender rcpts

pub no_message : (sender : List ℕ) (rcpts : List (List ℕ)) → Nothing ≡ Message sender rcpts → ⊥
no_message sender rcpts is = cc

pub no_more : (gate : Gate) (count : ℕ) (deposited : Deposited) (sender : List ℕ) (rcpts : List (List ℕ)) → want_behind gate count deposited ≡ Message sender rcpts → ⊥
no_more gate count ends.NoSlot sender rcpts is = cc
no_more gate count ends.NotBegun sender rcpts is = cc
no_more gate count (ends.Kept slot bytes) sender rcpts is = cc
no_more gate count ends.TooLarge sender rcpts is = cc
no_more gate count ends.Faulted sender rcpts is = cc
no_more gate count ends.Ended sender rcpts is = cc

step_fits : (gate : Gate) (owing : Reply) (standing : Standing) (act : Act) (answer : Answer act) → IsWanted gate owing act → Fits owing standing → Fits (owing_behind gate owing act answer) (stands_then gate standing act (Ok answer))
step_fits gate owing standing (Say text) answer may fits = record { place = fits.place; asks = λ sender rcpts is. absurd (no_message sender rcpts is) }
step_fits gate owing standing (Hear form) answer may fits = record {
  place = ap (λ (p : Place). (to_heard gate p answer).place) fits.place;
  asks = λ sender rcpts is. sym (ap (λ (p : Place). (to_heard gate p answer).want) fits.place) ∙ is;
}
step_fits gate owing standing (Log text) answer may fits = record { place = fits.place; asks = λ sender rcpts is. absurd (no_message sender rcpts is) }
step_fits gate owing standing Allot answer may fits = record { place = fits.place; asks = λ sender rcpts is. absurd (no_message sender rcpts is) }
step_fits gate owing standing (TakeReply how) answer may fits = absurd may
step_fits gate owing standing OpenDoor answer may fits = absurd may
step_fits gate owing standing (Join dest target) answer may fits = absurd may
step_fits gate owing standing (Copy toward) answer may fits = absurd may
step_fits gate owing standing Part answer may fits = absurd may
step_fits gate owing standing (Deposit from to words most) answer may fits = record { place = fits.place; asks = λ sender rcpts is. absurd (no_more gate (length to) answer.0 sender rcpts is) }
step_fits gate owing standing (Try text) answer may fits = absurd may
step_fits gate owing standing (Note text) answer may fits = absurd may
step_fits gate owing standing (Ask request) answer may fits = absurd may
step_fits gate owing standing (Renew name hash) answer may fits = absurd may
step_fits gate owing standing (Dial dest) answer may fits = absurd may
step_fits gate owing standing (Reach dest) answer may fits = absurd may
step_fits gate owing standing Take answer may fits = absurd may
step_fits gate owing standing (Pass text) answer may fits = absurd may
step_fits gate owing standing HangUp answer may fits = absurd may
step_fits gate owing standing Relay answer may fits = absurd may

-- what an act keeps is what the lines before it asked for
step_keeps : (gate : Gate) (owing : Reply) (standing : Standing) (act : Act) (answer : Answer act) → IsWanted gate owing act → Fits owing standing → kept act (Ok answer) ≡ mail_then standing act (Ok answer)
step_keeps gate owing standing (Deposit sender rcpts words most) answer may fits = sym (ap (λ (w : Want). mail_asked w answer.0 answer.1) (fits.asks sender rcpts may.0))
step_keeps gate owing standing (Say text) answer may fits = refl
step_keeps gate owing standing (Hear form) answer may fits = refl
step_keeps gate owing standing (Log text) answer may fits = refl
step_keeps gate owing standing Allot answer may fits = refl
step_keeps gate owing standing (TakeReply how) answer may fits = absurd may
step_keeps gate owing standing OpenDoor answer may fits = absurd may
step_keeps gate owing standing (Join dest target) answer may fits = absurd may
step_keeps gate owing standing (Copy toward) answer may fits = absurd may
step_keeps gate owing standing Part answer may fits = absurd may
step_keeps gate owing standing (Try text) answer may fits = absurd may
step_keeps gate owing standing (Note text) answer may fits = absurd may
step_keeps gate owing standing (Ask request) answer may fits = absurd may
step_keeps gate owing standing (Renew name hash) answer may fits = absurd may
step_keeps gate owing standing (Dial dest) answer may fits = absurd may
step_keeps gate owing standing (Reach dest) answer may fits = absurd may
step_keeps gate owing standing Take answer may fits = absurd may
step_keeps gate owing standing (Pass text) answer may fits = absurd may
step_keeps gate owing standing HangUp answer may fits = absurd may
step_keeps gate owing standing Relay answer may fits = absurd may

-- an act that stopped keeps nothing
stop_keeps : (act : Act) (halt : Halt act) (standing : Standing) → kept act (Err halt) ≡ mail_then standing act (Err halt)
stop_keeps (Deposit sender rcpts words most) halt standing = refl
stop_keeps (Say text) halt standing = refl
stop_keeps (Hear form) halt standing = refl
stop_keeps (Log text) halt standing = refl
stop_keeps Allot halt standing = refl
stop_keeps (TakeReply how) halt standing = refl
stop_keeps OpenDoor halt standing = absurd halt
stop_keeps (Join dest target) halt standing = absurd halt
stop_keeps (Copy toward) halt standing = absurd halt
stop_keeps Part halt standing = absurd halt
stop_keeps (Try text) halt standing = refl
stop_keeps (Note text) halt standing = refl
stop_keeps (Ask request) halt standing = refl
stop_keeps (Renew name hash) halt standing = refl
stop_keeps (Dial dest) halt standing = refl
stop_keeps (Reach dest) halt standing = refl
stop_keeps Take halt standing = refl
stop_keeps (Pass text) halt standing = refl
stop_keeps HangUp halt standing = refl
stop_keeps Relay halt standing = refl

kept_both : (first more : List Deed) → gives kept (first ++ more) ≡ gives kept first ++ gives kept more
kept_both first more = flat_map-append (λ (deed : Deed). kept deed.act deed.outcome) first more

-- what is owed keeps nothing
freeing_keeps : (link : Option Speaker) (deeds : List Deed) → gives kept (freeing link ++ deeds) ≡ gives kept deeds
freeing_keeps None deeds = refl
freeing_keeps (Some link) deeds = refl

closing_keeps : (opened : Option ℕ) (answer : Result answers.Reply PortFault) → gives kept (closing opened answer) ≡ []
closing_keeps None answer = refl
closing_keeps (Some sid) answer = refl

module _ {Origin : Type 0} (gate : Gate) where
  last_keeps : (standing : Standing) (dialogue : Result (Unit {0}) Cause) (new mid : World Origin) (left : Row (acts Origin) Place) (comes : Comes (smap_rows gate) (λ (over : Unit {0}). Over) dialogue new left mid)
      → gives kept (deed_last (smap_rows gate) (λ (over : Unit {0}). Over) dialogue new left mid comes) ≡ mails gate standing (deed_last (smap_rows gate) (λ (over : Unit {0}). Over) dialogue new left mid comes)
  last_keeps standing (Ok over) new mid left comes = refl
  last_keeps standing (Err cause) new mid (Do act go) comes = ap (λ (z : List KeptMail). z ++ []) (stop_keeps act comes.halt standing)
  last_keeps standing (Err cause) new mid (At place) comes = ap (λ (z : List KeptMail). z ++ []) (stop_keeps ((own_rows Origin gate).act place) comes.halt standing)
  last_keeps standing (Err cause) new mid Over comes = absurd comes

  steps_keep : (owing : Reply) (standing : Standing) (steps : List (Step (acts Origin))) (last : List Deed) → AllMay (watch Origin gate) owing steps → Fits owing standing → ((s : Standing) → gives kept last ≡ mails gate s last)
      → gives kept (map done steps ++ last) ≡ mails gate standing (map done steps ++ last)
  steps_keep owing standing [] last all fits ends = ends standing
  steps_keep owing standing (step ∷ steps) last all fits ends =
      let later = steps_keep (owing_behind gate owing step.act step.answer) (stands_then gate standing step.act (Ok step.answer)) steps last all.1 (step_fits gate owing standing step.act step.answer all.0 fits) ends in
      ap (λ (z : List KeptMail). z ++ gives kept (map done steps ++ last)) (step_keeps gate owing standing step.act step.answer all.0 fits)
      ∙ ap (λ (z : List KeptMail). mail_then standing step.act (Ok step.answer) ++ z) later

  pub keeps_messages : (old new : World Origin) (ending : Ending) (held : Held (smap_rows gate) smap_row old new ending) → KeepsMessages gate held
  keeps_messages old new ending held =
      let ran = held.ran in
      let start = says texts.ready Waiting in
      let all = run_may (own_rows Origin gate) (watch Origin gate) (rows_tell Origin gate) smap_row ran.left start ran.steps (first_tells Origin gate) ran.run in
      let fits : Fits start unasked = record { place = refl; asks = λ sender rcpts is. is } in
      let last = deed_last (smap_rows gate) (λ (over : Unit {0}). Over) held.dialogue held.mid ran.left ran.mid ran.comes in
      let same : gives kept (map done ran.steps ++ last) ≡ mails gate unasked (map done ran.steps ++ last) = steps_keep start unasked ran.steps last all fits (λ s. last_keeps s held.dialogue held.mid ran.mid ran.left ran.comes) in
      let silent : gives kept (owed held.mid held.answer) ≡ [] = freeing_keeps held.mid.server.link (closing held.mid.office.opened held.answer) ∙ closing_keeps held.mid.office.opened held.answer in
      let are : gives kept (deeds_of held) ≡ mails gate unasked (map done ran.steps ++ last) =
      kept_both (map done ran.steps ++ last) (owed held.mid held.answer) ∙ ap (λ (z : List KeptMail). gives kept (map done ran.steps ++ last) ++ z) silent ∙ append-nil (gives kept (map done ran.steps ++ last)) ∙ same in
      record { are = are; puts = subst (λ (z : List KeptMail). PutsMails z old new) are (all_gain kept_gains (deeds_of held) old new (held_deeds held)) }
