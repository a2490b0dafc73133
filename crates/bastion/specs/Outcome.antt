-- What a run comes to: its status, its line in the log, and whose count has risen. Three tables, by cases.
use Rattle.std.specs.Prelude.{◌≡◌, ℕ, zero, suc, ◌⊎◌, Bool, true, false, List, [], ◌∷◌, ◌++◌, Option, Some, None, Result, Ok, Err, unwrap_or, codes, if◌then◌else◌}
use Rattle.std.specs.List.{list_any}
use Rattle.std.specs.Fmt.{decimal}
use Rattle.auth_events.specs.declared.port.PortFault.{PortFault}
use Rattle.auth_events.specs.declared.port.PortFault.TheVariants as faults
use Rattle.fw_disk.specs.DiskView.{DiskView}
use Rattle.fw_mail.specs.MailerView.{MailerView}
use Rattle.fw_outside.specs.Counts.{Rose}
use Rattle.fw_outside.specs.KeeperView.{KeeperView}
use Rattle.fw_types.specs.declared.ending.Ending.{Ending}
use Rattle.fw_types.specs.declared.ending.Ending.TheVariants as endings
use Rattle.gate_rules.specs.declared.verdict.Verdict.{Verdict}
use Rattle.gate_rules.specs.declared.verdict.Verdict.TheVariants.{Permit, Deny}
use Rattle.gate_rules.specs.Why as rule
use Rattle.netperm_table.specs.Fault as table
use Rattle.otp_words.specs.declared.dict_fault.DictFault.{DictFault}
use Rattle.otp_words.specs.declared.dict_fault.DictFault.TheVariants as dictionary
use Rattle.otp_words.specs.declared.words_fault.WordsFault.{WordsFault}
use Rattle.otp_words.specs.declared.words_fault.WordsFault.TheVariants as spelled
use Rattle.remote_port.specs.Link.{failures}
use Rattle.remote_port.specs.Remote.{RemoteOrigin}
use Rattle.session_acts.specs.Acts as doing
use Rattle.session_acts.specs.Acts.{Act}
use Rattle.session_acts.specs.Acts.Act.{Ask, Renew}
use Rattle.session_acts.specs.Deeds.{Deed, gives}
use Rattle.bastion.specs.Words.{LineView}
use Rattle.bastion.specs.WorldView.{Post, WorldView}
use Rattle.bastion.specs.declared.outcome.Device.{Device}
use Rattle.bastion.specs.declared.outcome.Device.TheVariants as device
use Rattle.bastion.specs.declared.outcome.Outcome.{Outcome}
use Rattle.bastion.specs.declared.outcome.Outcome.TheVariants.{Usage, Unread, Failed, NoMemory, Done, Decided, Ended}
use Rattle.bastion.specs.declared.outcome.OtpRefusal.{OtpRefusal}
use Rattle.bastion.specs.declared.outcome.OtpRefusal.TheVariants as otp
use Rattle.bastion.specs.declared.outcome.Refusal.{Refusal}
use Rattle.bastion.specs.declared.outcome.Refusal.TheVariants.{Table, Rule, Record, Slot, Otp}
use Rattle.bastion.specs.declared.words.Authorities.{Authorities}
use Rattle.bastion.specs.declared.words.Authorities.TheVariants.{Records, Remote}
use Rattle.bastion.specs.declared.words.Command.{Command}
use Rattle.bastion.specs.declared.words.Command.TheVariants.{PlugGw, Gateway, Smap}
use Rattle.bastion.specs.declared.words.Order.{Order}
use Rattle.bastion.specs.declared.words.Order.TheVariants.{ByTable, Alone}

-- ---- the status

-- a permission is 0, a denial 1
abbrev pub verdict_status : Verdict → ℕ
verdict_status (Permit line) = 0
verdict_status (Deny line) = 1

abbrev pub ending_status : Ending → ℕ
ending_status endings.Done = 0
ending_status (endings.Denied line) = 1
ending_status endings.ClientFault = 4
ending_status endings.ServerFault = 4
ending_status endings.LogFault = 4
ending_status endings.AuthFault = 4
ending_status endings.Idle = 4
ending_status endings.NoRoute = 4
ending_status endings.Spent = 6
ending_status endings.NoMemory = 5

-- a session was done, but a request of it was refused since the history was full
abbrev pub is_at_limit : Ending → Bool → Bool
is_at_limit endings.Done refused = refused
is_at_limit _ refused = false

abbrev pub status_of : Outcome → ℕ
status_of Usage = 2
status_of (Unread refusal) = 3
status_of (Failed which) = 4
status_of (NoMemory step) = 5
status_of Done = 0
status_of (Decided verdict) = verdict_status verdict
status_of (Ended ending refused) = if is_at_limit ending refused then 6 else ending_status ending

-- what the command needs couldn't be had
abbrev pub is_stopped : Outcome → Bool
is_stopped (Unread refusal) = true
is_stopped (Failed which) = true
is_stopped (NoMemory step) = true
is_stopped _ = false

-- ---- the line in the log

abbrev pub device_text : Device → List ℕ
device_text device.Table = codes "table"
device_text device.Output = codes "output"
device_text device.Log = codes "log"
device_text device.Records = codes "records"
device_text device.Program = codes "program"
device_text device.Mailer = codes "mailer"
device_text device.Dictionary = codes "dictionary"
device_text device.Input = codes "input"
device_text (device.Disk slot) = codes "disk " ++ decimal slot

-- a line, by its number, and what is wrong with it
abbrev pub line_text : ℕ → List ℕ → List ℕ
line_text line why = codes " line " ++ decimal line ++ codes " " ++ why

-- whose record can't be read, and the place of its first bad byte
abbrev pub record_text : List ℕ → ℕ → List ℕ
record_text name at = name ++ codes " at " ++ decimal at

-- which slot can't be read, and the place of its first bad byte
abbrev pub slot_text : ℕ → ℕ → List ℕ
slot_text slot at = decimal slot ++ codes " at " ++ decimal at

-- a line of a dictionary, or its length; faults of the source and of memory have no text here
abbrev pub dictionary_text : DictFault → List ℕ
dictionary_text (dictionary.BadWord line) = codes "line " ++ decimal line
dictionary_text (dictionary.Twice line) = codes "line " ++ decimal line
dictionary_text dictionary.Long = codes "long"
dictionary_text (dictionary.Short words) = codes "short"
dictionary_text dictionary.ReadFault = []
dictionary_text dictionary.NoMemory = []

abbrev pub words_text : WordsFault → List ℕ
words_text spelled.Count = codes "count"
words_text (spelled.NoWord at) = codes "word " ++ decimal at
words_text spelled.Check = codes "check"

abbrev pub otp_text : OtpRefusal → List ℕ
otp_text (otp.Dictionary fault) = codes "dictionary " ++ dictionary_text fault
otp_text otp.Challenge = codes "challenge"
otp_text (otp.Words fault) = codes "words " ++ words_text fault

abbrev pub refusal_text : Refusal → List ℕ
refusal_text (Table fault) = codes "table" ++ line_text (unwrap_or (table.line_of fault) 0) (table.table_why_text fault)
refusal_text (Rule fault) = codes "rule" ++ line_text fault.line (rule.why_text fault.why)
refusal_text (Record name at) = codes "record " ++ record_text name at
refusal_text (Slot slot at) = codes "slot " ++ slot_text slot at
refusal_text (Otp refusal) = otp_text refusal

-- what went wrong, where something did; what a session ended with has a line of its own, but for its limit
abbrev pub fault_line_of : Outcome → Option (List ℕ)
fault_line_of Usage = Some (codes "fault usage\n")
fault_line_of (Unread refusal) = Some (codes "fault " ++ refusal_text refusal ++ codes "\n")
fault_line_of (Failed which) = Some (codes "fault outside " ++ device_text which ++ codes "\n")
fault_line_of (NoMemory step) = Some (codes "fault memory\n")
fault_line_of Done = None
fault_line_of (Decided verdict) = None
fault_line_of (Ended ending refused) = if is_at_limit ending refused then Some (codes "fault limit\n") else None

-- ---- whose count has risen

-- the keeper's count of failures rose
abbrev pub KeeperRose : Option KeeperView → Option KeeperView → Type 0
KeeperRose (Some old) (Some new) = Rose old.faults new.faults
KeeperRose _ _ = ⊥

-- the device's own count rose; the files count names without a source, and sources that failed; the input how often it failed, and how
-- often nothing came in time; those of the disks and the
-- mailers are said apart, of what calls them
abbrev pub DeviceRose : Device → WorldView → WorldView → Type 0
DeviceRose device.Table old new = Rose old.files.missing new.files.missing ⊎ Rose old.files.read_faults new.files.read_faults
DeviceRose device.Output old new = Rose old.output.faults new.output.faults
DeviceRose device.Log old new = Rose old.logs.faults new.logs.faults
DeviceRose device.Records old new = KeeperRose old.inputs.keeper new.inputs.keeper
DeviceRose device.Program old new = Rose old.inputs.launcher.faults new.inputs.launcher.faults
DeviceRose device.Mailer old new = ⊥
DeviceRose device.Dictionary old new = Rose old.files.missing new.files.missing ⊎ Rose old.files.read_faults new.files.read_faults
DeviceRose device.Input old new = Rose old.inputs.input.faults new.inputs.input.faults ⊎ Rose old.inputs.input.idles new.inputs.input.idles
DeviceRose (device.Disk slot) old new = ⊥

-- what a session that ended with status 4 has counted: of the client, its source failed, or nothing came of it in time, or
-- its sink failed
abbrev pub EndingRose : Ending → WorldView → WorldView → Type 0
EndingRose endings.ClientFault old new = Rose old.inputs.input.faults new.inputs.input.faults ⊎ Rose old.output.faults new.output.faults
EndingRose endings.LogFault old new = Rose old.logs.faults new.logs.faults
EndingRose endings.Idle old new = Rose old.inputs.input.idles new.inputs.input.idles
EndingRose endings.ServerFault old new = ⊥
EndingRose endings.AuthFault old new = ⊥
EndingRose endings.NoRoute old new = ⊥
EndingRose _ old new = Unit {0}

-- a failure names a device whose count rose, and so does an ending
abbrev pub CountRose : Outcome → WorldView → WorldView → Type 0
CountRose (Failed which) old new = DeviceRose which old new
CountRose (Ended ending refused) old new = EndingRose ending old new
CountRose _ old new = Unit {0}

-- the same of a session over a link: a link failed, or nothing came over it in time, or none came up
abbrev pub LinkRose : Ending → WorldView → WorldView → Type 0
LinkRose endings.ServerFault old new = Rose old.inputs.dialer.link_faults new.inputs.dialer.link_faults
LinkRose endings.Idle old new = Rose old.inputs.input.idles new.inputs.input.idles ⊎ Rose old.inputs.dialer.link_idles new.inputs.dialer.link_idles
LinkRose endings.NoRoute old new = Rose old.inputs.dialer.refusals new.inputs.dialer.refusals
LinkRose ending old new = EndingRose ending old new

-- the link to a server elsewhere failed: its source or its sink, or nothing came of it in time
abbrev pub EndsRose : Option RemoteOrigin → Option RemoteOrigin → Type 0
EndsRose (Some old) (Some new) = Rose (failures old.source old.sink) (failures new.source new.sink)
EndsRose _ _ = ⊥

-- why a request got no reply
abbrev pub fault_in : {A : Type 0} → Result A PortFault → List PortFault
fault_in (Ok reply) = []
fault_in (Err fault) = fault ∷ []

abbrev pub fault_with : {A : Type 0} → Result A (List ℕ × PortFault) → List PortFault
fault_with (Ok reply) = []
fault_with (Err salted) = salted.1 ∷ []

abbrev pub unanswered : (act : Act) → doing.Outcome act → List PortFault
unanswered (Ask request) outcome = fault_in outcome
unanswered (Renew name hash) outcome = fault_with outcome
unanswered act outcome = []

abbrev pub is_strange : PortFault → Bool
is_strange faults.Strange = true
is_strange _ = false

-- something strange came: a request of this session was answered so, which its port counts
abbrev pub WasStrange : List Deed → Type 0
WasStrange deeds = list_any is_strange (gives unanswered deeds) ≡ true

-- what ends a session by whom it asks: a book never does
abbrev pub AuthRose : Authorities → List Deed → WorldView → WorldView → Type 0
AuthRose Records deeds old new = ⊥
AuthRose Remote deeds old new = EndsRose old.inputs.remote new.inputs.remote ⊎ WasStrange deeds

-- and of one of a gateway, which no link that is refused ends
abbrev pub GateRose : Authorities → List Deed → Ending → WorldView → WorldView → Type 0
GateRose authorities deeds endings.NoRoute old new = ⊥
GateRose authorities deeds endings.AuthFault old new = AuthRose authorities deeds old new
GateRose authorities deeds ending old new = LinkRose ending old new

-- the disk at a place counted a failure
abbrev pub DiskRose : ℕ → List DiskView → List DiskView → Type 0
DiskRose zero (old ∷ olds) (new ∷ news) = Rose old.faults new.faults
DiskRose (suc slot) (old ∷ olds) (new ∷ news) = DiskRose slot olds news
DiskRose slot _ _ = ⊥

-- the slots' disks may be called, too
abbrev pub SlotsRose : Outcome → WorldView → WorldView → Type 0
SlotsRose (Failed (device.Disk slot)) old new = DiskRose slot old.inputs.disks new.inputs.disks
SlotsRose outcome old new = CountRose outcome old new

-- a mailer's count of failures rose: that of the first, to which messages are handed
abbrev pub MailersRose : List MailerView → List MailerView → Type 0
MailersRose (old ∷ olds) (new ∷ news) = Rose old.faults new.faults
MailersRose _ _ = ⊥

-- a job may call a mailer, too
abbrev pub JobRose : Post → Outcome → WorldView → WorldView → Type 0
JobRose post (Failed device.Mailer) old new = MailersRose post.before post.after
JobRose post outcome old new = SlotsRose outcome old new

-- only a session of the plug or of a gateway has a link, and only one of the mail gateway slots; these are the deeds of the session
abbrev pub RoseFor : Command → List Deed → Outcome → WorldView → WorldView → Type 0
RoseFor (PlugGw caller) deeds (Ended ending refused) old new = LinkRose ending old new
RoseFor (Gateway kind authorities peer) deeds (Ended ending refused) old new = GateRose authorities deeds ending old new
RoseFor (Smap peer) deeds outcome old new = SlotsRose outcome old new
RoseFor command deeds outcome old new = CountRose outcome old new

abbrev pub OrderRose : Post → Order → List Deed → Outcome → WorldView → WorldView → Type 0
OrderRose post (ByTable command) deeds outcome old new = RoseFor command deeds outcome old new
OrderRose post (Alone job) deeds outcome old new = JobRose post outcome old new

abbrev pub RoseIn : Post → Option LineView → List Deed → Outcome → WorldView → WorldView → Type 0
RoseIn post None deeds outcome old new = CountRose outcome old new
RoseIn post (Some line) deeds outcome old new = OrderRose post line.order deeds outcome old new
