-- What every deed keeps of the devices.
use Rattle.std.proofs.Common.{arith, ◌≡◌, refl, sym, subst, ℕ, ◌+◌, Bool, true, false, List, [], length, Option, Some, None, Result, Ok, Err, ap, ◌∙◌}
use Rattle.auth_events.specs.declared.port.PortFault.{PortFault}
use Rattle.auth_events.specs.declared.reply.Reply.{Reply}
use Rattle.auth_events.specs.declared.request.Request.{Request}
use Rattle.auth_events.specs.declared.request.Request.TheVariants as requests
use Rattle.fw_outside.proofs.CountLemmas.{grew_by}
use Rattle.fw_outside.specs.Counts.{Grew}
use Rattle.fw_outside.specs.DialerView.{DialerView}
use Rattle.fw_outside.specs.SinkView.{SinkView}
use Rattle.fw_outside.specs.SourceView.{SourceView}
use Rattle.fw_outside.specs.declared.heard.Heard.{Heard}
use Rattle.fw_outside.specs.declared.heard.Heard.TheVariants.{Line, TooLong, Stopped}
use Rattle.fw_outside.specs.declared.heard.Stop.TheVariants as stops
use Rattle.fw_types.specs.declared.dest.Dest.{Dest}
use Rattle.relay_ways.specs.Carried.{Way}
use Rattle.session_acts.specs.Relaying.{Flow, flow_of}
use Rattle.session_acts.specs.Acts.{Act, Front, Outcome, Unreplied}
use Rattle.session_acts.specs.Acts.Act.{Hear, Say, Try, Log, Note, Ask, Renew, Dial, Reach, Take, Pass, HangUp, Relay, Deposit, Allot, TakeReply, OpenDoor, Join, Copy, Part}
use Rattle.session_acts.specs.Deeds.{Lasts}
use Rattle.session_acts.specs.Met.{Asking, AtClient, AtLogs, AtOffice, AtServer, Carrying, ClientRelays, Clears, ConnectsIf, Dialing, Gets, Hanging, Hears, Heeds, HeedsLine, IsTold, Met, Passes, ServerRelays, ServerReplies, Takes, number_told, stop_of}
use Rattle.session_acts.specs.World.{Office, Pair, Server, Speaker, World, most_taken}
use Rattle.session_acts.specs.declared.form.Form.{Form}
use Rattle.session_acts.specs.declared.form.Form.TheVariants.{Lines}
use Rattle.session_acts.specs.declared.silence.Silence.{Silence}
use Rattle.session_acts.proofs.DeviceLemmas.{DialerKeeps, PortKeeps, SinkHolds, SinkKeeps, SourceKeeps, asks_port, both_dialer, both_holds, both_port, both_sink, both_source, drains_source, listens_source, rose_if, same_dialer, same_port, same_sink, same_source, sink_holds, supplies_sink}
use Rattle.fw_outside.specs.declared.heard.Stop.{Stop}
use Rattle.session_acts.specs.Depositing.{Draws}
use Rattle.session_acts.proofs.DepositLemmas.{HoldsThen, deposit_by}
use Rattle.session_acts.proofs.DeviceLemmas.{draws_source}
use Rattle.session_acts.specs.Joining.{LetsPairGo}
use Rattle.session_acts.specs.ServersHeard.{reply_text}
use Rattle.session_acts.specs.declared.replied.Replied.{Replied}
use Rattle.session_acts.specs.declared.reply_use.ReplyUse.{ReplyUse}
use Rattle.session_acts.proofs.ReplyLemmas.{reply_by, reply_draws}
use Rattle.session_acts.proofs.SideLemmas.{SideKeeps, comes_keeps, copies_side, joining_side, opens_none_side, opens_side, pair_keeps, parting_side, refuses_keeps}

-- ---- who is heard and told

pub record SpeakerKeeps (old new : Speaker) : Type 0 where
  pub source : SourceKeeps old.inlet new.inlet old.reader new.reader
  pub sink : SinkHolds old.outlet new.outlet

same_speaker : (old new : Speaker) → new ≡ old → SpeakerKeeps old new
same_speaker old new is = subst (λ (s : Speaker). SpeakerKeeps old s) (sym is) (record { source = same_source old.inlet old.reader; sink = sink_holds old.outlet old.outlet (same_sink old.outlet) })

heeds_keeps : (form : Form) (heard : Heard) (old new : Speaker) → Heeds form heard old new → SpeakerKeeps old new
heeds_keeps form heard old new h =
    subst (λ (s : Speaker). SpeakerKeeps old s) (sym h.is) (record { source = listens_source form heard old.reader h.reader old.inlet h.inlet h.listens; sink = sink_holds old.outlet old.outlet (same_sink old.outlet) })

line_keeps : (form : Form) (heard : Heard) (old new : Speaker) → HeedsLine form heard old new → SpeakerKeeps old new
line_keeps form (Line line) old new h = heeds_keeps form (Line line) old new h
line_keeps form TooLong old new h = heeds_keeps form TooLong old new h
line_keeps form (Stopped stops.End) old new h = heeds_keeps form (Stopped stops.End) old new h
line_keeps form (Stopped stops.Idle) old new h = absurd h
line_keeps form (Stopped stops.Failed) old new h = absurd h
line_keeps form (Stopped stops.Spent) old new h = absurd h

pub hears_keeps : (form : Form) (outcome : Result Heard Silence) (old new : Speaker) → Hears form outcome old new → SpeakerKeeps old new
hears_keeps form (Ok heard) old new h = line_keeps form heard old new h
hears_keeps form (Err silence) old new h = heeds_keeps form (Stopped (stop_of silence)) old new h

pub gets_keeps : (text : List ℕ) (outcome : Result (Unit {0}) (Front text)) (old new : SinkView) → Gets text outcome old new → SinkKeeps old new
gets_keeps text (Ok done) old new h = subst (λ (s : SinkView). SinkKeeps old s) (sym h) (record { drops = omega (arith); shut = refl })
gets_keeps text (Err front) old new h = subst (λ (s : SinkView). SinkKeeps old s) (sym h.is) (record { drops = h.rose.0; shut = refl })

pub told_keeps : (text : List ℕ) (outcome : Result (Unit {0}) (Front text)) (old new : Speaker) → IsTold text outcome old new → SpeakerKeeps old new
told_keeps text outcome old new h =
    subst (λ (s : Speaker). SpeakerKeeps old s) (sym h.is) (record { source = same_source old.inlet old.reader; sink = sink_holds old.outlet h.outlet (gets_keeps text outcome old.outlet h.outlet h.gets) })

pub carrying_keeps : (off on : Way) (old new : Speaker) → Carrying off on old new → SpeakerKeeps old new
carrying_keeps off on old new h =
    subst (λ (s : Speaker). SpeakerKeeps old s) (sym h.is) (record { source = drains_source off old.reader.pending old.reader (record { pending = []; room = h.room }) old.inlet h.inlet h.drains; sink = supplies_sink on old.outlet h.outlet h.supplies })

relays_keeps : (flow : Option Flow) (old new : Speaker) → ClientRelays flow old new → SpeakerKeeps old new
relays_keeps None old new h = same_speaker old new h
relays_keeps (Some flow) old new h = carrying_keeps flow.up flow.down old new h

draws_keeps : (stop : Option Stop) (data_heard : List ℕ) (old new : Speaker) → Draws stop data_heard old new → SpeakerKeeps old new
draws_keeps stop data_heard old new h =
    subst (λ (s : Speaker). SpeakerKeeps old s) (sym h.is) (record { source = draws_source stop data_heard old new h; sink = sink_holds old.outlet old.outlet (same_sink old.outlet) })

both_keeps : (old mid new : Speaker) → SpeakerKeeps old mid → SpeakerKeeps mid new → SpeakerKeeps old new
both_keeps old mid new a b = record { source = both_source old.inlet mid.inlet new.inlet old.reader mid.reader new.reader a.source b.source; sink = both_holds old.outlet mid.outlet new.outlet a.sink b.sink }

deposit_keeps : (words : List ℕ) (old : Speaker) → HoldsThen (λ (s : Speaker). SpeakerKeeps old s) words old
deposit_keeps words old = record {
  stays = same_speaker old old refl;
  cut = λ front new h. told_keeps words (Err front) old new h;
  draws = λ stop data_heard new h. both_keeps old h.middle new (told_keeps words (Ok tt) old h.middle h.told) (draws_keeps stop data_heard h.middle new h.draws);
}

client_keeps : (act : Act) (outcome : Outcome act) (old new : Speaker) → AtClient act outcome old new → SpeakerKeeps old new
client_keeps (Hear form) outcome old new h = hears_keeps form outcome old new h
client_keeps (Say text) outcome old new h = told_keeps text outcome old new h
client_keeps (Try text) (Ok tried) old new h = told_keeps text tried old new h
client_keeps (Try text) (Err never) old new h = absurd never
client_keeps (Log text) outcome old new h = same_speaker old new h
client_keeps (Note text) outcome old new h = same_speaker old new h
client_keeps (Ask request) outcome old new h = same_speaker old new h
client_keeps (Renew name hash) outcome old new h = same_speaker old new h
client_keeps (Dial dest) outcome old new h = same_speaker old new h
client_keeps (Reach dest) outcome old new h = same_speaker old new h
client_keeps Take outcome old new h = same_speaker old new h
client_keeps (Pass text) outcome old new h = same_speaker old new h
client_keeps HangUp outcome old new h = same_speaker old new h
client_keeps Relay outcome old new h = relays_keeps (flow_of outcome) old new h
client_keeps (Deposit sender rcpts words most) outcome old new h = deposit_by (λ (s : Speaker). SpeakerKeeps old s) words outcome old new (deposit_keeps words old) h
client_keeps Allot outcome old new h = same_speaker old new h
client_keeps (TakeReply how) outcome old new h = reply_by (λ (s : Speaker). SpeakerKeeps old s) outcome old new (λ text tried told. told_keeps text tried old new told) h
client_keeps OpenDoor outcome old new h = same_speaker old new h
client_keeps (Join dest target) outcome old new h = same_speaker old new h
client_keeps (Copy toward) outcome old new h = same_speaker old new h
client_keeps Part outcome old new h = same_speaker old new h

-- ---- the log

same_logs : (old new : SinkView) → new ≡ old → SinkKeeps old new
same_logs old new is = subst (λ (s : SinkView). SinkKeeps old s) (sym is) (same_sink old)

logs_keeps : (act : Act) (outcome : Outcome act) (old new : SinkView) → AtLogs act outcome old new → SinkKeeps old new
logs_keeps (Log text) outcome old new h = gets_keeps text outcome old new h
logs_keeps (Note text) (Ok tried) old new h = gets_keeps text tried old new h
logs_keeps (Note text) (Err never) old new h = absurd never
logs_keeps (Hear form) outcome old new h = same_logs old new h
logs_keeps (Say text) outcome old new h = same_logs old new h
logs_keeps (Try text) outcome old new h = same_logs old new h
logs_keeps (Ask request) outcome old new h = same_logs old new h
logs_keeps (Renew name hash) outcome old new h = same_logs old new h
logs_keeps (Dial dest) outcome old new h = same_logs old new h
logs_keeps (Reach dest) outcome old new h = same_logs old new h
logs_keeps Take outcome old new h = same_logs old new h
logs_keeps (Pass text) outcome old new h = same_logs old new h
logs_keeps HangUp outcome old new h = same_logs old new h
logs_keeps Relay outcome old new h = same_logs old new h
logs_keeps (Deposit sender rcpts words most) outcome old new h = same_logs old new h
logs_keeps Allot outcome old new h = same_logs old new h
logs_keeps (TakeReply how) outcome old new h = same_logs old new h
logs_keeps OpenDoor outcome old new h = same_logs old new h
logs_keeps (Join dest target) outcome old new h = same_logs old new h
logs_keeps (Copy toward) outcome old new h = same_logs old new h
logs_keeps Part outcome old new h = same_logs old new h

-- ---- the office

module _ {Origin : Type 0} where
  same_office : (old new : Office Origin) → new ≡ old → PortKeeps old.port new.port
  same_office old new is = subst (λ (o : Office Origin). PortKeeps old.port o.port) (sym is) (same_port old.port)

  asking_keeps : (request : Request) (reply : Result Reply PortFault) (old new : Office Origin) → Asking request reply old new → PortKeeps old.port new.port
  asking_keeps request reply old new h =
      subst (λ (o : Office Origin). PortKeeps old.port o.port) (sym h.is) (asks_port reply (number_told old.opened) h.moment request old.port h.port h.asks)

  office_keeps : (act : Act) (outcome : Outcome act) (old new : Office Origin) → AtOffice act outcome old new → PortKeeps old.port new.port
  office_keeps (Ask request) outcome old new h = asking_keeps request outcome old new h.asking
  office_keeps (Renew name hash) (Ok salted) old new h = asking_keeps (requests.Password name salted.0 hash) (Ok salted.1) (record old { dice = h.dice }) new h.asking
  office_keeps (Renew name hash) (Err salted) old new h = asking_keeps (requests.Password name salted.0 hash) (Err salted.1) (record old { dice = h.dice }) new h.asking
  office_keeps (Hear form) outcome old new h = same_office old new h
  office_keeps (Say text) outcome old new h = same_office old new h
  office_keeps (Try text) outcome old new h = same_office old new h
  office_keeps (Log text) outcome old new h = same_office old new h
  office_keeps (Deposit sender rcpts words most) outcome old new h = same_office old new h
  office_keeps Allot outcome old new h = same_office old new h
  office_keeps (TakeReply how) outcome old new h = same_office old new h
  office_keeps OpenDoor outcome old new h = same_office old new h
  office_keeps (Join dest target) outcome old new h = same_office old new h
  office_keeps (Copy toward) outcome old new h = same_office old new h
  office_keeps Part outcome old new h = same_office old new h
  office_keeps (Note text) outcome old new h = same_office old new h
  office_keeps (Dial dest) outcome old new h = same_office old new h
  office_keeps (Reach dest) outcome old new h = same_office old new h
  office_keeps Take outcome old new h = same_office old new h
  office_keeps (Pass text) outcome old new h = same_office old new h
  office_keeps HangUp outcome old new h = same_office old new h
  office_keeps Relay outcome old new h = same_office old new h

-- ---- the server

-- what was taken over a link is what its buffer has no more room for
pub record LinkSound (link : Speaker) : Type 0 where
  pub used : ℕ
  pub all : most_taken ≡ used + link.reader.room
  pub amount : Grew used 0 link.inlet.amount

abbrev pub IsSound : Option Speaker → Type 0
IsSound None = Unit {0}
IsSound (Some link) = LinkSound link

-- the source of a link that is up waits so long
abbrev pub IsPatient : ℕ → Option Speaker → Type 0
IsPatient seconds None = Unit {0}
IsPatient seconds (Some link) = link.inlet.waits ≡ seconds

pub record ServerKeeps (old new : Server) : Type 0 where
  pub dialer : DialerKeeps old.dialer new.dialer
  pub sound : IsSound old.link → IsSound new.link
  pub patient : IsPatient old.dialer.waits old.link → IsPatient new.dialer.waits new.link

-- what leaves the main link
by_side : (old new : Server) → SideKeeps old new → ServerKeeps old new
by_side old new side = record {
  dialer = side.dialer;
  sound = λ sound. subst IsSound (sym side.link) sound;
  patient = λ patient. subst (λ (seconds : ℕ). IsPatient seconds new.link) (sym side.dialer.waits) (subst (λ (l : Option Speaker). IsPatient old.dialer.waits l) (sym side.link) patient);
}

same_server : (old new : Server) → new ≡ old → ServerKeeps old new
same_server old new is = subst (λ (s : Server). ServerKeeps old s) (sym is) (record { dialer = same_dialer old.dialer; sound = λ sound. sound; patient = λ patient. patient })

pub clears_keeps : (link : Option Speaker) (old new : DialerView) → Clears link old new → DialerKeeps old new
clears_keeps None old new h = subst (λ (d : DialerView). DialerKeeps old d) (sym h) (same_dialer old)
clears_keeps (Some link) old new h =
    subst (λ (d : DialerView). DialerKeeps old d) (sym h.is) (record { came = omega (arith); refusals = omega (arith); link_faults = rose_if _ old.link_faults h.faults h.faults_rose; link_idles = rose_if _ old.link_idles h.idles h.idles_rose; data_faults = omega (arith); data_idles = omega (arith); waits = refl })

-- a pair is let go before
pub both_clear : (pair : Option Pair) (link : Option Speaker) (old apart new : DialerView) → LetsPairGo pair old apart → Clears link apart new → DialerKeeps old new
both_clear pair link old apart new lets clears = both_dialer old apart new (pair_keeps pair old apart lets) (clears_keeps link apart new clears)

-- dialing, where no link is up
record Linking (old : DialerView) (new : Server) : Type 0 where
  dialer : DialerKeeps old new.dialer
  sound : IsSound new.link
  patient : IsPatient new.dialer.waits new.link

connects_keeps : (up : Bool) (dest : Dest) (old : DialerView) (new : Server) → ConnectsIf up dest old new → Linking old new
connects_keeps true dest old new h =
    subst (λ (s : Server). Linking old s) (sym h.is) (record {
      dialer = comes_keeps _ h.inlet h.outlet old h.dialer h.up;
      sound = record {
        used = 0;
        all = refl;
        amount = subst (λ (source : SourceView). Grew 0 0 source.amount) (sym h.up.new_source) (record { least = omega (arith); most = omega (arith); later = omega (arith) });
      };
      patient = ap (λ (source : SourceView). source.waits) h.up.new_source ∙ sym (ap (λ (d : DialerView). d.waits) h.up.is);
    })
connects_keeps false dest old new h =
    subst (λ (s : Server). Linking old s) (sym h.is) (record {
      dialer = refuses_keeps _ old h.dialer h.refused;
      sound = tt;
      patient = tt;
    })

dialing_keeps : (dest : Dest) (up : Bool) (old new : Server) → Dialing dest up old new → ServerKeeps old new
dialing_keeps dest up old new h =
    let linking = connects_keeps up dest h.cleared new h.connects in
    record { dialer = both_dialer old.dialer h.cleared new.dialer (both_clear old.pair old.link old.dialer h.apart h.cleared h.lets h.clears) linking.dialer; sound = λ sound. linking.sound; patient = λ patient. linking.patient }

hanging_keeps : (old new : Server) → Hanging old new → ServerKeeps old new
hanging_keeps old new h =
    subst (λ (s : Server). ServerKeeps old s) (sym h.is) (record { dialer = both_clear old.pair old.link old.dialer h.apart h.dialer h.lets h.clears; sound = λ sound. tt; patient = λ patient. tt })

-- a link stays sound when the server is heard or told
link_sound : (old new : Speaker) → SpeakerKeeps old new → LinkSound old → LinkSound new
link_sound old new keeps sound =
    let bytes = keeps.source.bytes in
    let room = keeps.source.room in
    let all = sound.all in
    record {
      used = sound.used + length bytes;
      all = omega (arith, room, all);
      amount = grew_by sound.used (length bytes) (sound.used + length bytes) 0 old.inlet.amount new.inlet.amount refl sound.amount keeps.source.grew;
    }

link_keeps : (link speaker : Speaker) (old new : Server) → old.link ≡ Some link → SpeakerKeeps link speaker → new ≡ record old { link = Some speaker } → ServerKeeps old new
link_keeps link speaker old new up keeps is =
    subst (λ (s : Server). ServerKeeps old s) (sym is) (record { dialer = same_dialer old.dialer; sound = λ sound. link_sound link speaker keeps (subst IsSound up sound); patient = λ patient. keeps.source.waits ∙ subst (IsPatient old.dialer.waits) up patient })

takes_keeps : (outcome : Result Heard Silence) (link : Option Speaker) (old new : Server) → old.link ≡ link → Takes outcome link old new → ServerKeeps old new
takes_keeps outcome None old new up h = same_server old new h.1
takes_keeps outcome (Some link) old new up h = link_keeps link h.speaker old new up (hears_keeps Lines outcome link h.speaker h.hears) h.is

passes_keeps : (text : List ℕ) (outcome : Result (Unit {0}) (Front text)) (link : Option Speaker) (old new : Server) → old.link ≡ link → Passes text outcome link old new → ServerKeeps old new
passes_keeps text outcome None old new up h = same_server old new h.1
passes_keeps text outcome (Some link) old new up h = link_keeps link h.speaker old new up (told_keeps text outcome link h.speaker h.told) h.is

server_relays : (flow : Option Flow) (link : Option Speaker) (old new : Server) → old.link ≡ link → ServerRelays flow link old new → ServerKeeps old new
server_relays None None old new up h = same_server old new h
server_relays None (Some link) old new up h = absurd h
server_relays (Some flow) None old new up h = absurd h
server_relays (Some flow) (Some link) old new up h = link_keeps link h.speaker old new up (carrying_keeps flow.down flow.up link h.speaker h.carries) h.is

replies_keeps : {how : ReplyUse} (outcome : Result (Replied × List ℕ) (Unreplied how)) (link : Option Speaker) (old new : Server) → old.link ≡ link → ServerReplies outcome link old new → ServerKeeps old new
replies_keeps outcome None old new up h = same_server old new h.1
replies_keeps outcome (Some link) old new up h =
    let drawn = reply_draws outcome link h.speaker h.draws in
    link_keeps link h.speaker old new up (draws_keeps drawn.stop (reply_text outcome) link h.speaker drawn.draws) h.is

server_keeps : (act : Act) (outcome : Outcome act) (old new : Server) → AtServer act outcome old new → ServerKeeps old new
server_keeps (Dial dest) (Ok up) old new h = dialing_keeps dest up old new h
server_keeps (Dial dest) (Err never) old new h = absurd never
server_keeps (Reach dest) (Ok up) old new h = dialing_keeps dest true old new h
server_keeps (Reach dest) (Err halt) old new h = dialing_keeps dest false old new h
server_keeps Take outcome old new h = takes_keeps outcome old.link old new refl h
server_keeps (Pass text) outcome old new h = passes_keeps text outcome old.link old new refl h
server_keeps HangUp (Ok done) old new h = hanging_keeps old new h
server_keeps HangUp (Err never) old new h = absurd never
server_keeps Relay outcome old new h = server_relays (flow_of outcome) old.link old new refl h
server_keeps (Hear form) outcome old new h = same_server old new h
server_keeps (Say text) outcome old new h = same_server old new h
server_keeps (Try text) outcome old new h = same_server old new h
server_keeps (Log text) outcome old new h = same_server old new h
server_keeps (Deposit sender rcpts words most) outcome old new h = same_server old new h
server_keeps Allot outcome old new h = same_server old new h
server_keeps (TakeReply how) outcome old new h = replies_keeps outcome old.link old new refl h
server_keeps OpenDoor (Ok (Some at)) old new h = by_side old new (opens_side at.0 at.1 old new h)
server_keeps OpenDoor (Ok None) old new h = by_side old new (opens_none_side old new h)
server_keeps OpenDoor (Err never) old new h = absurd never
server_keeps (Join dest target) (Ok joined) old new h = by_side old new (joining_side dest target joined old new h)
server_keeps (Join dest target) (Err never) old new h = absurd never
server_keeps (Copy toward) (Ok carried) old new h = by_side old new (copies_side toward carried old.pair old new h)
server_keeps (Copy toward) (Err never) old new h = absurd never
server_keeps Part (Ok done) old new h = by_side old new (parting_side old new h)
server_keeps Part (Err never) old new h = absurd never
server_keeps (Note text) outcome old new h = same_server old new h
server_keeps (Ask request) outcome old new h = same_server old new h
server_keeps (Renew name hash) outcome old new h = same_server old new h

-- ---- all parts

pub record Stays {Origin : Type 0} (old new : World Origin) : Type 0 where
  pub client : SpeakerKeeps old.client new.client
  pub logs : SinkKeeps old.logs new.logs
  pub port : PortKeeps old.office.port new.office.port
  pub server : ServerKeeps old.server new.server

module _ {Origin : Type 0} where
  pub stays_same : (old : World Origin) → Stays old old
  stays_same old = record {
    client = same_speaker old.client old.client refl;
    logs = same_sink old.logs;
    port = same_port old.office.port;
    server = same_server old.server old.server refl;
  }

  pub stays_both : (old mid new : World Origin) → Stays old mid → Stays mid new → Stays old new
  stays_both old mid new a b = record {
    client = record {
      source = both_source old.client.inlet mid.client.inlet new.client.inlet old.client.reader mid.client.reader new.client.reader a.client.source b.client.source;
      sink = both_holds old.client.outlet mid.client.outlet new.client.outlet a.client.sink b.client.sink;
    };
    logs = both_sink old.logs mid.logs new.logs a.logs b.logs;
    port = both_port old.office.port mid.office.port new.office.port a.port b.port;
    server = record {
      dialer = both_dialer old.server.dialer mid.server.dialer new.server.dialer a.server.dialer b.server.dialer;
      sound = λ sound. b.server.sound (a.server.sound sound);
      patient = λ patient. b.server.patient (a.server.patient patient);
    };
  }

  stays_one : (act : Act) (outcome : Outcome act) (old new : World Origin) → Met act outcome old new → Stays old new
  stays_one act outcome old new met = record {
    client = client_keeps act outcome old.client new.client met.client;
    logs = logs_keeps act outcome old.logs new.logs met.logs;
    port = office_keeps act outcome old.office new.office met.office;
    server = server_keeps act outcome old.server new.server met.server;
  }

  pub stays_last : Lasts Origin Stays
  stays_last = record { none = stays_same; both = stays_both; one = stays_one }
