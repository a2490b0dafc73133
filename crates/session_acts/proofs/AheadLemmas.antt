-- No deed brings more bytes of the client, and a line that is heard takes some.
use Rattle.std.proofs.Common.{arith, ◌≡◌, sym, ap, subst, ◌∙◌, ℕ, ◌+◌, ◌<◌, ◌≤◌, List, [], ◌∷◌, ◌++◌, length, Option, Some, None, Result, Ok, Err}
use Rattle.std.proofs.lemmas.List.{length-append}
use Rattle.fw_acts.specs.Acts.{Row, PlaceTable}
use Rattle.fw_acts.specs.Ran.{Ran}
use Rattle.fw_outside.specs.Lines.{first_line}
use Rattle.fw_outside.specs.declared.heard.Heard.{Heard}
use Rattle.fw_outside.specs.declared.heard.Heard.TheVariants.{Line, TooLong, Stopped}
use Rattle.fw_outside.specs.declared.heard.Stop.TheVariants as stops
use Rattle.relay_ways.specs.Carried.{Way}
use Rattle.session_acts.specs.Relaying.{Flow, flow_of}
use Rattle.session_acts.specs.Acts.{Act, Front, Outcome}
use Rattle.session_acts.specs.Acts.Act.{Hear, Say, Try, Log, Note, Ask, Renew, Dial, Reach, Take, Pass, HangUp, Relay, Deposit, Allot, TakeReply, OpenDoor, Join, Copy, Part}
use Rattle.session_acts.specs.Deeds.{Lasts}
use Rattle.session_acts.specs.Distance.{ahead, ahead_of_client}
use Rattle.session_acts.specs.Met.{AtClient, Carrying, ClientRelays, Hears, Heeds, HeedsLine, IsTold, Met, acts, stop_of}
use Rattle.session_acts.specs.World.{Speaker, World}
use Rattle.session_acts.specs.declared.cause.Cause.{Cause}
use Rattle.session_acts.specs.declared.form.Form.{Form}
use Rattle.session_acts.specs.declared.form.Form.TheVariants.{Lines, Telnet}
use Rattle.session_acts.specs.declared.silence.Silence.{Silence}
use Rattle.session_acts.specs.Forms.{IsHeardIn}
use Rattle.session_acts.proofs.DeedLemmas.{ran_last}
use Rattle.telnet_hearing.proofs.WholeLemmas.{some_bytes}
use Rattle.session_acts.proofs.DepositLemmas.{HoldsThen, deposit_by, draws_ahead}
use Rattle.session_acts.proofs.ReplyLemmas.{reply_by}

pub heeds_ahead : (form : Form) (heard : Heard) (old new : Speaker) (h : Heeds form heard old new) → ahead old ≡ length h.listens.bytes + ahead new
heeds_ahead form heard old new h =
    let lengths : length (old.reader.pending ++ h.listens.reads.taken_now) ≡ length (h.listens.bytes ++ h.reader.pending) = ap length h.listens.reads.reader in
    let left = length-append old.reader.pending h.listens.reads.taken_now in
    let right = length-append h.listens.bytes h.reader.pending in
    let room = h.listens.reads.room in
    let is : ahead old ≡ length h.listens.bytes + (length h.reader.pending + h.reader.room) = omega (arith, lengths, left, right, room) in
    is ∙ ap (λ (s : Speaker). length h.listens.bytes + ahead s) (sym h.is)

heeds_nearer : (form : Form) (heard : Heard) (old new : Speaker) → Heeds form heard old new → ahead new ≤ ahead old
heeds_nearer form heard old new h = let is = heeds_ahead form heard old new h in omega (arith, is)

line_nearer : (form : Form) (heard : Heard) (old new : Speaker) → HeedsLine form heard old new → ahead new ≤ ahead old
line_nearer form (Line line) old new h = heeds_nearer form (Line line) old new h
line_nearer form TooLong old new h = heeds_nearer form TooLong old new h
line_nearer form (Stopped stops.End) old new h = heeds_nearer form (Stopped stops.End) old new h
line_nearer form (Stopped stops.Idle) old new h = absurd h
line_nearer form (Stopped stops.Failed) old new h = absurd h
line_nearer form (Stopped stops.Spent) old new h = absurd h

pub hears_nearer : (form : Form) (outcome : Result Heard Silence) (old new : Speaker) → Hears form outcome old new → ahead new ≤ ahead old
hears_nearer form (Ok heard) old new h = line_nearer form heard old new h
hears_nearer form (Err silence) old new h = heeds_nearer form (Stopped (stop_of silence)) old new h

same_nearer : (old new : Speaker) → new ≡ old → ahead new ≤ ahead old
same_nearer old new is = subst (λ (s : Speaker). ahead s ≤ ahead old) (sym is) (omega (arith))

pub carrying_nearer : (off on : Way) (old new : Speaker) → Carrying off on old new → ahead new ≤ ahead old
carrying_nearer off on old new h =
    let room = h.drains.room in
    subst (λ (s : Speaker). ahead s ≤ ahead old) (sym h.is) (omega (arith, room))

relays_nearer : (flow : Option Flow) (old new : Speaker) → ClientRelays flow old new → ahead new ≤ ahead old
relays_nearer None old new h = same_nearer old new h
relays_nearer (Some flow) old new h = carrying_nearer flow.up flow.down old new h

pub told_nearer : (text : List ℕ) (outcome : Result (Unit {0}) (Front text)) (old new : Speaker) → IsTold text outcome old new → ahead new ≤ ahead old
told_nearer text outcome old new h = subst (λ (s : Speaker). ahead s ≤ ahead old) (sym h.is) (omega (arith))

draws_nearer : (words : List ℕ) (old : Speaker) → HoldsThen (λ (s : Speaker). ahead s ≤ ahead old) words old
draws_nearer words old = record {
  stays = omega (arith);
  cut = λ front new h. told_nearer words (Err front) old new h;
  draws = λ stop data_heard new h. (
      let told = told_nearer words (Ok tt) old h.middle h.told in
      let drawn = draws_ahead stop data_heard h.middle new h.draws in
      omega (arith, told, drawn));
}

client_nearer : (act : Act) (outcome : Outcome act) (old new : Speaker) → AtClient act outcome old new → ahead new ≤ ahead old
client_nearer (Hear form) outcome old new h = hears_nearer form outcome old new h
client_nearer (Say text) outcome old new h = told_nearer text outcome old new h
client_nearer (Try text) (Ok tried) old new h = told_nearer text tried old new h
client_nearer (Try text) (Err never) old new h = absurd never
client_nearer (Log text) outcome old new h = same_nearer old new h
client_nearer (Note text) outcome old new h = same_nearer old new h
client_nearer (Ask request) outcome old new h = same_nearer old new h
client_nearer (Renew name hash) outcome old new h = same_nearer old new h
client_nearer (Dial dest) outcome old new h = same_nearer old new h
client_nearer (Reach dest) outcome old new h = same_nearer old new h
client_nearer Take outcome old new h = same_nearer old new h
client_nearer (Pass text) outcome old new h = same_nearer old new h
client_nearer HangUp outcome old new h = same_nearer old new h
client_nearer Relay outcome old new h = relays_nearer (flow_of outcome) old new h
client_nearer (Deposit sender rcpts words most) outcome old new h = deposit_by (λ (s : Speaker). ahead s ≤ ahead old) words outcome old new (draws_nearer words old) h
client_nearer Allot outcome old new h = same_nearer old new h
client_nearer (TakeReply how) outcome old new h = reply_by (λ (s : Speaker). ahead s ≤ ahead old) outcome old new (λ text tried told. told_nearer text tried old new told) h
client_nearer OpenDoor outcome old new h = same_nearer old new h
client_nearer (Join dest target) outcome old new h = same_nearer old new h
client_nearer (Copy toward) outcome old new h = same_nearer old new h
client_nearer Part outcome old new h = same_nearer old new h

pub met_ahead : {Origin : Type 0} (act : Act) (outcome : Outcome act) (old new : World Origin) → Met act outcome old new → ahead_of_client new ≤ ahead_of_client old
met_ahead act outcome old new met = client_nearer act outcome old.client new.client met.client

pub ahead_lasts : {Origin : Type 0} → Lasts Origin (λ old new. ahead_of_client new ≤ ahead_of_client old)
ahead_lasts = record {
  none = λ world. omega (arith);
  both = λ old mid new a b. omega (arith, a, b);
  one = met_ahead;
}

-- no run of rows brings more
pub ran_ahead : {Origin P T : Type 0} {rows : PlaceTable (acts Origin) P} {r : Row (acts Origin) P} {at : T → Row (acts Origin) P} {old new : World Origin} {result : Result T Cause}
    → Ran rows r at old new result → ahead_of_client new ≤ ahead_of_client old
ran_ahead ran = ran_last ahead_lasts ran

no_line : (bytes line : List ℕ) → first_line bytes ≡ Some (line, []) → 0 < length bytes
no_line [] line is = absurd (cc)
no_line (b ∷ bytes) line is = omega (arith)

-- a line, or one that is too long
abbrev pub IsSomeLine : Heard → Type 0
IsSomeLine (Line line) = Unit {0}
IsSomeLine TooLong = Unit {0}
IsSomeLine (Stopped stop) = ⊥

-- such a line is some bytes, in each form
some_line : (form : Form) (heard : Heard) (bytes : List ℕ) → IsSomeLine heard → IsHeardIn form heard bytes → 0 < length bytes
some_line Lines (Line line) bytes some is = no_line bytes line.items is.is
some_line Lines TooLong bytes some is = no_line bytes is.line is.is
some_line Lines (Stopped stop) bytes some is = absurd some
some_line Telnet (Line line) bytes some is = some_bytes (Line line) bytes is
some_line Telnet TooLong bytes some is = some_bytes TooLong bytes is
some_line Telnet (Stopped stop) bytes some is = absurd some

-- hearing one takes some bytes
pub heard_ahead : {Origin : Type 0} (form : Form) (heard : Heard) (old new : World Origin) → IsSomeLine heard → Met (Hear form) (Ok heard) old new → ahead_of_client new < ahead_of_client old
heard_ahead form (Line line) old new some met =
    let h : Heeds form (Line line) old.client new.client = met.client in
    let is = heeds_ahead form (Line line) old.client new.client h in
    let more : 0 < length h.listens.bytes = some_line form (Line line) h.listens.bytes some h.listens.is_heard in
    omega (arith, is, more)
heard_ahead form TooLong old new some met =
    let h : Heeds form TooLong old.client new.client = met.client in
    let is = heeds_ahead form TooLong old.client new.client h in
    let more : 0 < length h.listens.bytes = some_line form TooLong h.listens.bytes some h.listens.is_heard in
    omega (arith, is, more)
heard_ahead form (Stopped stop) old new some met = absurd some
