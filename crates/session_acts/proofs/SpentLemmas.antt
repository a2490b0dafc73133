-- A session that has taken of its client all that may be taken ends by that.
use Rattle.std.proofs.Common.{arith, ◌≡◌, refl, sym, ap, subst, ◌∙◌, ℕ, ◌+◌, Bool, true, false, List, [], ◌∷◌, length, map, Option, Some, None, Result, Ok, Err}
use mathlib.Core.Bool.{true≢false}
use Rattle.std.proofs.lemmas.Bool.{ne_eqb}
use Rattle.std.specs.Prelude.{◌==◌}
use Rattle.auth_events.specs.declared.port.PortFault.{PortFault}
use Rattle.auth_events.specs.declared.reply.Reply.{Reply}
use Rattle.fw_acts.specs.Acts.{Row, Step, PlaceTable}
use Rattle.fw_acts.specs.Acts.Row.{Over}
use Rattle.fw_acts.specs.Ran.{Comes}
use Rattle.fw_acts.proofs.RanLemmas.{stopped}
use Rattle.fw_acts.specs.Runs.{DoesAll}
use Rattle.fw_outside.specs.declared.heard.Heard.{Heard}
use Rattle.fw_outside.specs.declared.heard.Heard.TheVariants.{Line, TooLong, Stopped}
use Rattle.fw_outside.specs.declared.heard.Stop.TheVariants as stops
use Rattle.fw_types.specs.declared.ending.Ending.{Ending}
use Rattle.fw_types.specs.declared.ending.Ending.TheVariants as endings
use Rattle.relay_ways.specs.Carried.{LeavesSource, Way}
use Rattle.relay_ways.specs.Ending as two_ways
use Rattle.relay_ways.specs.declared.way_end.WayEnd.{WayEnd}
use Rattle.relay_ways.specs.declared.way_end.WayEnd.TheVariants as ways
use Rattle.session_acts.specs.Relaying.{Stuck, stops_by}
use Rattle.session_acts.specs.Acts.{Act, Answer, Front, Halt, cause_by, silence_cause}
use Rattle.session_acts.specs.Acts.Act.{Hear, Say, Try, Log, Note, Ask, Renew, Dial, Reach, Take, Pass, HangUp, Relay, Deposit, Allot, TakeReply, OpenDoor, Join, Copy, Part}
use Rattle.session_acts.specs.Causes.{TakesAs, is_spent_ending, is_spent_or}
use Rattle.session_acts.specs.Deeds.{DeedsAll, done}
use Rattle.session_acts.specs.Met.{Carrying, Hears, Heeds, HeedsLine, IsTold, Met, acts}
use Rattle.session_acts.specs.Session.{Session, SessionAs, closing, ending_by, ending_of, freeing, owed}
use Rattle.session_acts.specs.World.{Devices, Names, Speaker, World, at_first, most_taken}
use Rattle.session_acts.specs.declared.cause.Cause.{Cause}
use Rattle.session_acts.specs.declared.cause.Cause.TheVariants.{ClientFault, Idle, NoMemory}
use Rattle.session_acts.specs.declared.form.Form.{Form}
use Rattle.session_acts.specs.declared.silence.Silence.{Silence}
use Rattle.session_acts.specs.declared.silence.Silence.TheVariants.{Quiet, Broken, Limit}
use Rattle.session_acts.proofs.CauseLemmas.{session_stays}
use Rattle.session_acts.proofs.DeedLemmas.{all_last, deeds_done, deeds_parted}
use Rattle.session_acts.proofs.KeptLemmas.{names_last}
use Rattle.session_acts.specs.Acts.{Undeposited}
use Rattle.session_acts.specs.Acts.Undeposited.{Lacks, Unsaid, Unheard}
use Rattle.session_acts.specs.declared.deposited.Deposited.{Deposited}
use Rattle.session_acts.specs.declared.deposited.Deposited.TheVariants.{NoSlot, NotBegun, Kept, TooLarge, Faulted, Ended}
use Rattle.fw_outside.specs.declared.heard.Stop.{Stop}
use Rattle.session_acts.specs.Acts.{deposit_cause}
use Rattle.session_acts.specs.Depositing.{Draws, data_stop_at_limit}
use Rattle.session_acts.specs.Met.{AtClientDeposit, ClientDeposits, stop_of}
use Rattle.session_acts.specs.Replying.{said_of}
use Rattle.session_acts.proofs.ReplyLemmas.{reply_by}

-- whether no more bytes may be taken of the client
abbrev pub none_left : Speaker → Bool
none_left speaker = speaker.reader.room == 0

same_left : (old new : Speaker) → new ≡ old → none_left old ≡ false → none_left new ≡ false
same_left old new is more = ap none_left is ∙ more

heeds_left : (form : Form) (heard : Heard) (old new : Speaker) (h : Heeds form heard old new) → none_left new ≡ (h.reader.room == 0)
heeds_left form heard old new h = ap none_left h.is

pub line_left : (form : Form) (heard : Heard) (old new : Speaker) → HeedsLine form heard old new → none_left new ≡ false
line_left form (Line line) old new h = heeds_left form (Line line) old new h ∙ sym h.listens.spent
line_left form TooLong old new h = heeds_left form TooLong old new h ∙ sym h.listens.spent
line_left form (Stopped stops.End) old new h = heeds_left form (Stopped stops.End) old new h ∙ sym h.listens.spent
line_left form (Stopped stops.Idle) old new h = absurd h
line_left form (Stopped stops.Failed) old new h = absurd h
line_left form (Stopped stops.Spent) old new h = absurd h

pub told_left : (text : List ℕ) (outcome : Result (Unit {0}) (Front text)) (old new : Speaker) → IsTold text outcome old new → none_left old ≡ false → none_left new ≡ false
told_left text outcome old new h more = ap none_left h.is ∙ more

-- a way that is done leaves some
pub done_left : (off on : Way) (old new : Speaker) → off.end ≡ ways.Done → Carrying off on old new → none_left new ≡ false
done_left off on old new is h =
    let leaves : LeavesSource ways.Done off.lost h.room h.drains.middle h.inlet = subst (λ (e : WayEnd). LeavesSource e off.lost h.room h.drains.middle h.inlet) is h.drains.leaves in
    ap none_left h.is ∙ ne_eqb h.room 0 leaves.0

-- data that come to an end, or to that of the client, leave some
pub draws_left : (stop : Option Stop) (data_heard : List ℕ) (old new : Speaker) → Draws stop data_heard old new → data_stop_at_limit stop ≡ false → none_left new ≡ false
draws_left stop data_heard old new h less = ap none_left h.is ∙ sym h.spent ∙ less

deposited_left : (words : List ℕ) (deposited : Deposited) (data_heard : List ℕ) (old new : Speaker) → ClientDeposits words deposited data_heard old new → none_left old ≡ false → none_left new ≡ false
deposited_left words NoSlot data_heard old new h more = same_left old new h more
deposited_left words NotBegun data_heard old new h more = same_left old new h more
deposited_left words (Kept number bytes) data_heard old new h more = draws_left None data_heard h.middle new h.draws refl
deposited_left words TooLarge data_heard old new h more = draws_left None data_heard h.middle new h.draws refl
deposited_left words Faulted data_heard old new h more = draws_left None data_heard h.middle new h.draws refl
deposited_left words Ended data_heard old new h more = draws_left (Some stops.End) data_heard h.middle new h.draws refl

-- no act that is done takes all
act_left : {Origin : Type 0} (act : Act) (answer : Answer act) (old new : World Origin) → Met act (Ok answer) old new → none_left old.client ≡ false → none_left new.client ≡ false
act_left (Hear form) heard old new met more = line_left form heard old.client new.client met.client
act_left (Say text) done old new met more = told_left text (Ok done) old.client new.client met.client more
act_left (Try text) tried old new met more = told_left text tried old.client new.client met.client more
act_left (Log text) done old new met more = same_left old.client new.client met.client more
act_left (Note text) done old new met more = same_left old.client new.client met.client more
act_left (Ask request) done old new met more = same_left old.client new.client met.client more
act_left (Renew name hash) done old new met more = same_left old.client new.client met.client more
act_left (Dial dest) done old new met more = same_left old.client new.client met.client more
act_left (Reach dest) done old new met more = same_left old.client new.client met.client more
act_left Take done old new met more = same_left old.client new.client met.client more
act_left (Pass text) done old new met more = same_left old.client new.client met.client more
act_left HangUp done old new met more = same_left old.client new.client met.client more
act_left Relay None old new met more = same_left old.client new.client met.client more
act_left Relay (Some through) old new met more = done_left through.flow.up through.flow.down old.client new.client through.up met.client
act_left (Deposit sender rcpts words most) answer old new met more = deposited_left words answer.0 answer.1 old.client new.client met.client more
act_left Allot done old new met more = same_left old.client new.client met.client more
act_left (TakeReply how) answer old new met more = told_left (said_of how answer.1) (Ok tt) old.client new.client met.client more
act_left OpenDoor done old new met more = same_left old.client new.client met.client more
act_left (Join dest target) done old new met more = same_left old.client new.client met.client more
act_left (Copy toward) done old new met more = same_left old.client new.client met.client more
act_left Part done old new met more = same_left old.client new.client met.client more

-- a stop that takes all is one at the limit, or one of a relay
abbrev pub IsSpentBy : Cause → Speaker → Type 0
IsSpentBy cause speaker = none_left speaker ≡ true → is_spent_ending (ending_by cause) ≡ true

pub spent_or : (relays : Bool) (ending : Ending) → is_spent_ending ending ≡ true → is_spent_or relays ending ≡ true
spent_or false ending is = is
spent_or true endings.Done is = is
spent_or true (endings.Denied line) is = is
spent_or true endings.ClientFault is = refl
spent_or true endings.ServerFault is = refl
spent_or true endings.LogFault is = is
spent_or true endings.AuthFault is = is
spent_or true endings.Idle is = refl
spent_or true endings.NoRoute is = is
spent_or true endings.Spent is = is
spent_or true endings.NoMemory is = is

-- no relay stops for another cause
abbrev of_relay : Result (Unit {0}) Cause → Bool
of_relay (Ok done) = true
of_relay (Err cause) = is_spent_or true (ending_by cause)

ways_spent : (up down : WayEnd) → of_relay (stops_by (two_ways.ending_of up down)) ≡ true
ways_spent ways.ReadFault down = refl
ways_spent ways.Done ways.Done = refl
ways_spent ways.Done ways.ReadFault = refl
ways_spent ways.Done ways.WriteFault = refl
ways_spent ways.Done ways.Idle = refl
ways_spent ways.Done ways.Spent = refl
ways_spent ways.WriteFault ways.Done = refl
ways_spent ways.WriteFault ways.ReadFault = refl
ways_spent ways.WriteFault ways.WriteFault = refl
ways_spent ways.WriteFault ways.Idle = refl
ways_spent ways.WriteFault ways.Spent = refl
ways_spent ways.Idle ways.Done = refl
ways_spent ways.Idle ways.ReadFault = refl
ways_spent ways.Idle ways.WriteFault = refl
ways_spent ways.Idle ways.Idle = refl
ways_spent ways.Idle ways.Spent = refl
ways_spent ways.Spent ways.Done = refl
ways_spent ways.Spent ways.ReadFault = refl
ways_spent ways.Spent ways.WriteFault = refl
ways_spent ways.Spent ways.Idle = refl
ways_spent ways.Spent ways.Spent = refl

pub relay_spent : (halt : Stuck) (relays : Bool) → relays ≡ true → is_spent_or relays (ending_by halt.cause) ≡ true
relay_spent halt relays may =
    ap (λ (b : Bool). is_spent_or b (ending_by halt.cause)) may ∙ ap of_relay (sym halt.is) ∙ ways_spent halt.flow.up.end halt.flow.down.end

more_spent : (cause : Cause) (speaker : Speaker) → none_left speaker ≡ false → IsSpentBy cause speaker
more_spent cause speaker more none = absurd (true≢false (sym none ∙ more))

pub silence_left : (fault : Cause) (form : Form) (silence : Silence) (old new : Speaker) → Hears form (Err silence) old new → IsSpentBy (silence_cause fault silence) new
silence_left fault form Quiet old new h = more_spent Idle new (heeds_left form (Stopped stops.Idle) old new h ∙ sym h.listens.spent)
silence_left fault form Broken old new h = more_spent fault new (heeds_left form (Stopped stops.Failed) old new h ∙ sym h.listens.spent)
silence_left fault form Limit old new h = λ none. refl

-- and so it is of a server
pub silent_left : (fault : Cause) (silence : Silence) (text : List ℕ) (old new : Speaker) → Draws (Some (stop_of silence)) text old new → IsSpentBy (silence_cause fault silence) new
silent_left fault Quiet text old new h = more_spent Idle new (draws_left (Some stops.Idle) text old new h refl)
silent_left fault Broken text old new h = more_spent fault new (draws_left (Some stops.Failed) text old new h refl)
silent_left fault Limit text old new h = λ none. refl

data_left : (silence : Silence) (data_heard : List ℕ) (old new : Speaker) → Draws (Some (stop_of silence)) data_heard old new → IsSpentBy (silence_cause ClientFault silence) new
data_left silence data_heard old new h = silent_left ClientFault silence data_heard old new h

deposit_left : (words : List ℕ) (halt : Undeposited words) (old new : Speaker) → AtClientDeposit words (Err halt) old new → none_left old ≡ false → IsSpentBy (deposit_cause halt) new
deposit_left words Lacks old new h more = more_spent NoMemory new (same_left old new h more)
deposit_left words (Unsaid front) old new h more = more_spent ClientFault new (told_left words (Err front) old new h more)
deposit_left words (Unheard silence data_heard) old new h more = data_left silence data_heard h.middle new h.draws

stop_left : {Origin : Type 0} (relays : Bool) (act : Act) (halt : Halt act) (old new : World Origin) → Met act (Err halt) old new → old.names.relays ≡ relays → none_left old.client ≡ false → none_left new.client ≡ true → is_spent_or relays (ending_by (cause_by act halt)) ≡ true
stop_left relays (Hear form) halt old new met lent more none = spent_or relays (ending_by (cause_by (Hear form) halt)) ((silence_left ClientFault form halt old.client new.client met.client) none)
stop_left relays (Say text) halt old new met lent more none = spent_or relays (ending_by (cause_by (Say text) halt)) ((more_spent ClientFault new.client (told_left text (Err halt) old.client new.client met.client more)) none)
stop_left relays (Try text) halt old new met lent more none = absurd halt
stop_left relays (Log text) halt old new met lent more none = spent_or relays (ending_by (cause_by (Log text) halt)) ((more_spent (cause_by (Log text) halt) new.client (same_left old.client new.client met.client more)) none)
stop_left relays (Note text) halt old new met lent more none = absurd halt
stop_left relays (Ask request) halt old new met lent more none = spent_or relays (ending_by (cause_by (Ask request) halt)) ((more_spent (cause_by (Ask request) halt) new.client (same_left old.client new.client met.client more)) none)
stop_left relays (Renew name hash) halt old new met lent more none = spent_or relays (ending_by (cause_by (Renew name hash) halt)) ((more_spent (cause_by (Renew name hash) halt) new.client (same_left old.client new.client met.client more)) none)
stop_left relays (Dial dest) halt old new met lent more none = absurd halt
stop_left relays (Reach dest) halt old new met lent more none = spent_or relays (ending_by (cause_by (Reach dest) halt)) ((more_spent (cause_by (Reach dest) halt) new.client (same_left old.client new.client met.client more)) none)
stop_left relays Take halt old new met lent more none = spent_or relays (ending_by (cause_by Take halt)) ((more_spent (cause_by Take halt) new.client (same_left old.client new.client met.client more)) none)
stop_left relays (Pass text) halt old new met lent more none = spent_or relays (ending_by (cause_by (Pass text) halt)) ((more_spent (cause_by (Pass text) halt) new.client (same_left old.client new.client met.client more)) none)
stop_left relays HangUp halt old new met lent more none = absurd halt
stop_left relays Relay halt old new met lent more none = relay_spent halt relays (sym lent ∙ met.may)
stop_left relays (Deposit sender rcpts words most) halt old new met lent more none = spent_or relays (ending_by (deposit_cause halt)) (deposit_left words halt old.client new.client met.client more none)
stop_left relays Allot halt old new met lent more none = spent_or relays (ending_by (cause_by Allot halt)) ((more_spent (cause_by Allot halt) new.client (same_left old.client new.client met.client more)) none)
stop_left relays (TakeReply how) halt old new met lent more none = absurd (true≢false (sym none ∙ reply_by (λ (s : Speaker). none_left s ≡ false) (Err halt) old.client new.client (λ text tried told. told_left text tried old.client new.client told more) met.client))
stop_left relays OpenDoor halt old new met lent more none = absurd halt
stop_left relays (Join dest target) halt old new met lent more none = absurd halt
stop_left relays (Copy toward) halt old new met lent more none = absurd halt
stop_left relays Part halt old new met lent more none = absurd halt

-- all that was taken
none_by : (bytes : List ℕ) (left : ℕ) → most_taken ≡ length bytes + left → length bytes ≡ most_taken → (left == 0) ≡ true
none_by bytes left room all = let zero_left : left ≡ 0 = omega (arith, room, all) in ap (λ (n : ℕ). n == 0) zero_left

module _ {Origin : Type 0} where
  steps_left : (steps : List (Step (acts Origin))) (old new : World Origin) → DoesAll steps old new → none_left old.client ≡ false → none_left new.client ≡ false
  steps_left [] old new does more = ap (λ (w : World Origin). none_left w.client) (sym does) ∙ more
  steps_left (step ∷ steps) old new does more = steps_left steps does.0 new does.2 (act_left step.act step.answer old does.0 does.1 more)

  -- what is owed takes nothing of the client
  freeing_client : (link : Option Speaker) (old new : World Origin) → DeedsAll (freeing link) old new → new.client ≡ old.client
  freeing_client None old new all = ap (λ (w : World Origin). w.client) (sym all)
  freeing_client (Some link) old new all = ap (λ (w : World Origin). w.client) (sym all.2) ∙ all.1.client

  closing_client : (opened : Option ℕ) (answer : Result Reply PortFault) (old new : World Origin) → DeedsAll (closing opened answer) old new → new.client ≡ old.client
  closing_client None answer old new all = ap (λ (w : World Origin). w.client) (sym all)
  closing_client (Some sid) answer old new all = ap (λ (w : World Origin). w.client) (sym all.2) ∙ all.1.client

  pub owed_client : (mid new : World Origin) (answer : Result Reply PortFault) → DeedsAll (owed mid answer) mid new → new.client ≡ mid.client
  owed_client mid new answer all =
      let parted = deeds_parted (freeing mid.server.link) (closing mid.office.opened answer) mid new all in
      closing_client mid.office.opened answer parted.mid new parted.after ∙ freeing_client mid.server.link mid parted.mid parted.before

  dialogue_left : {P : Type 0} (relays : Bool) (rows : PlaceTable (acts Origin) P) (dialogue : Result (Unit {0}) Cause) (left : Row (acts Origin) P) (before mid : World Origin) (opened : Option ℕ) (answer : Result Reply PortFault)
      → Comes rows (λ (done : Unit {0}). Over) dialogue mid left before → before.names.relays ≡ relays → none_left before.client ≡ false → none_left mid.client ≡ true → is_spent_or relays (ending_of dialogue opened answer) ≡ true
  dialogue_left relays rows (Ok over) left before mid opened answer comes lent more none =
      absurd (true≢false (sym none ∙ ap (λ (w : World Origin). none_left w.client) (sym comes.1) ∙ more))
  dialogue_left relays rows (Err cause) left before mid opened answer comes lent more none =
      let here = stopped rows left cause before mid comes in
      ap (λ (c : Cause). is_spent_or relays (ending_by c)) here.why.is_cause ∙ stop_left relays here.act here.why.halt before mid here.why.met lent more none

  -- where all was taken, the session ends by that
  pub all_spent_or : {relays : Bool} {P : Type 0} {rows : PlaceTable (acts Origin) P} {first : Row (acts Origin) P} {old new : Devices Origin} {ending : Ending} (session : SessionAs relays rows first old new ending)
      → length (session_stays session).client.source.bytes ≡ most_taken → is_spent_or relays ending ≡ true
  all_spent_or {relays = relays} {rows = rows} {old = old} session whole =
      let held = session.held in
      let start = at_first old session.names in
      let source = (session_stays session).client.source in
      let more : none_left held.ran.mid.client ≡ false = steps_left held.ran.steps start held.ran.mid held.ran.does refl in
      let names = all_last names_last (map done held.ran.steps) start held.ran.mid (deeds_done held.ran.steps start held.ran.mid held.ran.does) in
      let lent : held.ran.mid.names.relays ≡ relays = ap (λ (n : Names). n.relays) names ∙ session.lent in
      let same : session.last.client ≡ held.mid.client = owed_client held.mid session.last held.answer held.after in
      ap (λ (e : Ending). is_spent_or relays e) held.ends ∙ dialogue_left relays rows held.dialogue held.ran.left held.ran.mid held.mid held.mid.office.opened held.answer held.ran.comes lent more (sym (ap none_left same) ∙ none_by source.bytes session.last.client.reader.room source.room whole)

  pub all_spent : {P : Type 0} {rows : PlaceTable (acts Origin) P} {first : Row (acts Origin) P} {old new : Devices Origin} {ending : Ending} (session : Session rows first old new ending)
      → length (session_stays session).client.source.bytes ≡ most_taken → is_spent_ending ending ≡ true
  all_spent session whole = all_spent_or session whole

  pub session_spent : {relays : Bool} {P : Type 0} {rows : PlaceTable (acts Origin) P} {first : Row (acts Origin) P} {old new : Devices Origin} {ending : Ending} → SessionAs relays rows first old new ending → TakesAs relays ending old new
  session_spent {relays = relays} {old = old} {ending = ending} session =
      let source = (session_stays session).client.source in
      let room = source.room in
      subst (λ (d : Devices Origin). TakesAs relays ending old d) session.leaves (record {
        took = record { bytes = source.bytes; most = omega (arith, room); grew = source.grew; is = source.took };
        all = λ whole. all_spent_or session whole;
      })
