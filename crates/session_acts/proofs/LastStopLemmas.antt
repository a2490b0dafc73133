-- A session stops at one act, behind which nothing but what is owed is done; and of what it lacks memory.
use Rattle.std.proofs.Common.{◌≡◌, refl, sym, ap, ◌∙◌, ℕ, Bool, true, false, ◌||◌, List, [], ◌∷◌, ◌++◌, map, Option, Some, None, Result, Ok, Err, append_assoc}
use Rattle.std.proofs.lemmas.List.Folds.{list_any-append}
use Rattle.auth_events.specs.declared.port.PortFault.{PortFault}
use Rattle.auth_events.specs.declared.port.PortFault.TheVariants as faults
use Rattle.auth_events.specs.declared.reply.Reply.{Reply}
use Rattle.fw_acts.specs.Acts.{Row, PlaceTable}
use Rattle.fw_acts.specs.Acts.Row.{Do, At, Over}
use Rattle.fw_acts.specs.Ran.{Comes}
use Rattle.fw_types.specs.declared.ending.Ending.{Ending}
use Rattle.fw_types.specs.declared.ending.Ending.TheVariants as endings
use Rattle.relay_ways.specs.Ending as ways
use Rattle.relay_ways.specs.declared.way_end.WayEnd.{WayEnd}
use Rattle.relay_ways.specs.declared.way_end.WayEnd.TheVariants.{Done, ReadFault, WriteFault, Idle, Spent}
use Rattle.session_acts.specs.Relaying.{stops_by}
use Rattle.session_acts.specs.Acts.{Act, Halt, cause_by, fault_cause, silence_cause}
use Rattle.session_acts.specs.Acts.Act.{Hear, Say, Try, Log, Note, Ask, Renew, Dial, Reach, Take, Pass, HangUp, Relay, Deposit, Allot, TakeReply, OpenDoor, Join, Copy, Part}
use Rattle.session_acts.specs.Deeds.{Deed, deed_last, done}
use Rattle.session_acts.specs.LastStop.{StopsLast, is_no_memory, lacked_memory, one_lacked_memory}
use Rattle.session_acts.specs.Met.{acts}
use Rattle.session_acts.specs.Session.{Held, closing, deeds_of, ending_by, ending_closed, ending_of, freeing, owed}
use Rattle.session_acts.specs.World.{Speaker, World}
use Rattle.session_acts.specs.declared.cause.Cause.{Cause}
use Rattle.session_acts.specs.declared.cause.Cause.TheVariants as causes
use Rattle.session_acts.specs.declared.silence.Silence.{Silence}
use Rattle.session_acts.specs.declared.silence.Silence.TheVariants.{Quiet, Broken, Limit}
use Rattle.session_acts.specs.Acts.{Undeposited}
use Rattle.session_acts.specs.Acts.Undeposited.{Lacks, Unsaid, Unheard}
use Rattle.session_acts.specs.Acts.{deposit_cause}
use Rattle.session_acts.specs.LastStop.{lacked_depositing}
use Rattle.session_acts.specs.Acts.{Unreplied, reply_cause}
use Rattle.session_acts.specs.Acts.Unreplied.{NotHeard, NotSaid}
use Rattle.session_acts.specs.declared.reply_use.ReplyUse.{ReplyUse}

-- these are the one act that stopped for this cause
record IsStop (cause : Cause) (deeds : List Deed) : Type 0 where
  act : Act
  halt : Halt act
  is_cause : cause ≡ cause_by act halt
  is : deeds ≡ record { act = act; outcome = Err halt } ∷ []

same_cause : (result : Result (Unit {0}) Cause) (a b : Cause) → result ≡ Err a → result ≡ Err b → a ≡ b
same_cause result a b one other = cc

module _ {Origin P : Type 0} where
  stop_of_row : (rows : PlaceTable (acts Origin) P) (result : Result (Unit {0}) Cause) (cause : Cause) (left : Row (acts Origin) P) (before mid : World Origin) (comes : Comes rows (λ (done : Unit {0}). Over) result mid left before)
      → result ≡ Err cause → IsStop cause (deed_last rows (λ (done : Unit {0}). Over) result mid left before comes)
  stop_of_row rows (Ok over) cause left before mid comes same = absurd (cc)
  stop_of_row rows (Err why) cause (Do act go) before mid comes same =
      record { act = act; halt = comes.halt; is_cause = sym (same_cause (Err why) why cause refl same) ∙ comes.is_cause; is = refl }
  stop_of_row rows (Err why) cause (At place) before mid comes same =
      record { act = rows.act place; halt = comes.halt; is_cause = sym (same_cause (Err why) why cause refl same) ∙ comes.is_cause; is = refl }
  stop_of_row rows (Err why) cause Over before mid comes same = absurd comes

  pub stops_last : {rows : PlaceTable (acts Origin) P} {first : Row (acts Origin) P} {old new : World Origin} {ending : Ending} (cause : Cause) (held : Held rows first old new ending) → held.dialogue ≡ Err cause → StopsLast cause held
  stops_last {rows = rows} cause held same =
      let last = deed_last rows (λ (done : Unit {0}). Over) held.dialogue held.mid held.ran.left held.ran.mid held.ran.comes in
      let stop = stop_of_row rows held.dialogue cause held.ran.left held.ran.mid held.mid held.ran.comes same in
      record {
        steps = held.ran.steps;
        act = stop.act;
        halt = stop.halt;
        is_cause = stop.is_cause;
        deeds = append_assoc (map done held.ran.steps) last (owed held.mid held.answer) ∙ ap (λ (l : List Deed). map done held.ran.steps ++ (l ++ owed held.mid held.answer)) stop.is;
      }

-- ---- want of memory

fault_lacks : (fault : PortFault) → fault_cause fault ≡ causes.NoMemory → is_no_memory fault ≡ true
fault_lacks faults.NoMemory is = refl
fault_lacks faults.Link is = absurd (cc)
fault_lacks faults.Strange is = absurd (cc)

hear_lacks : (silence : Silence) → silence_cause causes.ClientFault silence ≡ causes.NoMemory → false ≡ true
hear_lacks Quiet is = absurd (cc)
hear_lacks Broken is = absurd (cc)
hear_lacks Limit is = absurd (cc)

take_lacks : (silence : Silence) → silence_cause causes.ServerFault silence ≡ causes.NoMemory → false ≡ true
take_lacks Quiet is = absurd (cc)
take_lacks Broken is = absurd (cc)
take_lacks Limit is = absurd (cc)

-- no relay stops for want of memory
abbrev failed : Cause → Result (Unit {0}) Cause
failed cause = Err cause

abbrev has_memory : Result (Unit {0}) Cause → Bool
has_memory (Ok done) = true
has_memory (Err causes.NoMemory) = false
has_memory (Err cause) = true

relay_has : (up down : WayEnd) → has_memory (stops_by (ways.ending_of up down)) ≡ true
relay_has ReadFault down = refl
relay_has Done Done = refl
relay_has Done ReadFault = refl
relay_has Done WriteFault = refl
relay_has Done Idle = refl
relay_has Done Spent = refl
relay_has WriteFault Done = refl
relay_has WriteFault ReadFault = refl
relay_has WriteFault WriteFault = refl
relay_has WriteFault Idle = refl
relay_has WriteFault Spent = refl
relay_has Idle Done = refl
relay_has Idle ReadFault = refl
relay_has Idle WriteFault = refl
relay_has Idle Idle = refl
relay_has Idle Spent = refl
relay_has Spent Done = refl
relay_has Spent ReadFault = refl
relay_has Spent WriteFault = refl
relay_has Spent Idle = refl
relay_has Spent Spent = refl

relay_lacks : (up down : WayEnd) (cause : Cause) → stops_by (ways.ending_of up down) ≡ Err cause → cause ≡ causes.NoMemory → false ≡ true
relay_lacks up down cause is none = ap has_memory (sym (is ∙ ap failed none)) ∙ relay_has up down

deposit_lacks : (words : List ℕ) (halt : Undeposited words) → deposit_cause halt ≡ causes.NoMemory → lacked_depositing (Err halt) ≡ true
deposit_lacks words Lacks is = refl
deposit_lacks words (Unsaid front) is = absurd (cc)
deposit_lacks words (Unheard silence data_heard) is = let lacks : false ≡ true = hear_lacks silence is in absurd (cc)

reply_lacks : {how : ReplyUse} (halt : Unreplied how) → reply_cause halt ≡ causes.NoMemory → false ≡ true
reply_lacks (NotHeard silence text begun) is = take_lacks silence is
reply_lacks (NotSaid text front) is = absurd (cc)

stop_lacks : (act : Act) (halt : Halt act) → cause_by act halt ≡ causes.NoMemory → lacked_memory act (Err halt) ≡ true
stop_lacks (Hear form) halt is = hear_lacks halt is
stop_lacks (Say text) halt is = absurd (cc)
stop_lacks (Try text) halt is = absurd halt
stop_lacks (Log text) halt is = absurd (cc)
stop_lacks (Note text) halt is = absurd halt
stop_lacks (Ask request) halt is = fault_lacks halt is
stop_lacks (Renew name hash) halt is = fault_lacks halt.1 is
stop_lacks (Dial dest) halt is = absurd halt
stop_lacks (Reach dest) halt is = absurd (cc)
stop_lacks Take halt is = take_lacks halt is
stop_lacks (Pass text) halt is = absurd (cc)
stop_lacks HangUp halt is = absurd halt
stop_lacks Relay halt is = relay_lacks halt.flow.up.end halt.flow.down.end halt.cause halt.is is
stop_lacks (Deposit sender rcpts words most) halt is = deposit_lacks words halt is
stop_lacks Allot halt is = refl
stop_lacks (TakeReply how) halt is = reply_lacks halt is
stop_lacks OpenDoor halt is = absurd halt
stop_lacks (Join dest target) halt is = absurd halt
stop_lacks (Copy toward) halt is = absurd halt
stop_lacks Part halt is = absurd halt

ending_lacks : (cause : Cause) → ending_by cause ≡ endings.NoMemory → cause ≡ causes.NoMemory
ending_lacks causes.ClientFault is = absurd (cc)
ending_lacks causes.ServerFault is = absurd (cc)
ending_lacks causes.LogFault is = absurd (cc)
ending_lacks causes.AuthFault is = absurd (cc)
ending_lacks causes.Idle is = absurd (cc)
ending_lacks causes.NoRoute is = absurd (cc)
ending_lacks causes.Spent is = absurd (cc)
ending_lacks causes.NoMemory is = refl

or_behind : (a b : Bool) → b ≡ true → (a || b) ≡ true
or_behind true b is = refl
or_behind false b is = is

or_before : (a b : Bool) → a ≡ true → (a || b) ≡ true
or_before true b is = refl
or_before false b is = absurd (cc)

one_of_latter : (first more : List Deed) → one_lacked_memory more ≡ true → one_lacked_memory (first ++ more) ≡ true
one_of_latter first more is =
    list_any-append (λ (deed : Deed). lacked_memory deed.act deed.outcome) first more ∙ or_behind (one_lacked_memory first) (one_lacked_memory more) is

one_of_former : (first more : List Deed) → one_lacked_memory first ≡ true → one_lacked_memory (first ++ more) ≡ true
one_of_former first more is =
    list_any-append (λ (deed : Deed). lacked_memory deed.act deed.outcome) first more ∙ or_before (one_lacked_memory first) (one_lacked_memory more) is

one_stop : (act : Act) (halt : Halt act) → cause_by act halt ≡ causes.NoMemory → one_lacked_memory (record { act = act; outcome = Err halt } ∷ []) ≡ true
one_stop act halt is = or_before (lacked_memory act (Err halt)) false (stop_lacks act halt is)

closing_lacks : (opened : Option ℕ) (answer : Result Reply PortFault) → ending_closed opened answer ≡ endings.NoMemory → one_lacked_memory (closing opened answer) ≡ true
closing_lacks None answer is = absurd (cc)
closing_lacks (Some sid) (Ok reply) is = absurd (cc)
closing_lacks (Some sid) (Err fault) is = or_before (is_no_memory fault) false (fault_lacks fault (ending_lacks (fault_cause fault) is))

module _ {Origin P : Type 0} where
  dialogue_lacks : (rows : PlaceTable (acts Origin) P) (dialogue : Result (Unit {0}) Cause) (left : Row (acts Origin) P) (before mid : World Origin) (opened : Option ℕ) (answer : Result Reply PortFault) (comes : Comes rows (λ (done : Unit {0}). Over) dialogue mid left before) (link : Option Speaker)
      → ending_of dialogue opened answer ≡ endings.NoMemory → one_lacked_memory (deed_last rows (λ (done : Unit {0}). Over) dialogue mid left before comes ++ (freeing link ++ closing opened answer)) ≡ true
  dialogue_lacks rows (Ok over) left before mid opened answer comes link is =
      one_of_latter (freeing link) (closing opened answer) (closing_lacks opened answer is)
  dialogue_lacks rows (Err cause) left before mid opened answer comes link is =
      let stop = stop_of_row rows (Err cause) cause left before mid comes refl in
      let last = deed_last rows (λ (done : Unit {0}). Over) (Err cause) mid left before comes in
      let here = one_stop stop.act stop.halt (sym stop.is_cause ∙ ending_lacks cause is) in
      one_of_former last (freeing link ++ closing opened answer) (ap one_lacked_memory stop.is ∙ here)

  pub memory_lacked : {rows : PlaceTable (acts Origin) P} {first : Row (acts Origin) P} {old new : World Origin} {ending : Ending} (held : Held rows first old new ending) → ending ≡ endings.NoMemory → one_lacked_memory (deeds_of held) ≡ true
  memory_lacked {rows = rows} held is =
      let last = deed_last rows (λ (done : Unit {0}). Over) held.dialogue held.mid held.ran.left held.ran.mid held.ran.comes in
      let behind = dialogue_lacks rows held.dialogue held.ran.left held.ran.mid held.mid held.mid.office.opened held.answer held.ran.comes held.mid.server.link (sym held.ends ∙ is) in
      ap one_lacked_memory (append_assoc (map done held.ran.steps) last (owed held.mid held.answer)) ∙ one_of_latter (map done held.ran.steps) (last ++ owed held.mid held.answer) behind
