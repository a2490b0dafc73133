-- What a client is told: the greeting, each reply of its talk, and each fault of a line, in the order in which they came.
use Rattle.std.specs.Prelude.{◌≡◌, ℕ, Bool, true, false, List, [], ◌∷◌, ◌++◌, Result, Ok, Err, codes, if◌then◌else◌}
use Rattle.auth_events.specs.declared.port.PortFault.{PortFault}
use Rattle.auth_events.specs.declared.reply.Reply.{Reply}
use Rattle.authsrv_gate.specs.Dialogue.{is_no_such, rows, session_row}
use Rattle.authsrv_lines.specs.Fault.{wire_fault_text}
use Rattle.authsrv_lines.specs.Reply.{reply_line}
use Rattle.authsrv_lines.specs.Request.{request_of}
use Rattle.authsrv_lines.specs.declared.wire.Wire.{Wire}
use Rattle.authsrv_lines.specs.declared.wire.Wire.TheVariants as wires
use Rattle.authsrv_lines.specs.declared.wire.WireFault.{WireFault}
use Rattle.authsrv_lines.specs.declared.wire.WireFault.TheVariants.{LongLine}
use Rattle.fw_outside.specs.declared.heard.Heard.{Heard}
use Rattle.fw_outside.specs.declared.heard.Heard.TheVariants.{Line, TooLong, Stopped}
use Rattle.fw_types.specs.declared.ending.Ending.{Ending}
use Rattle.session_acts.specs.Acts.{Act, Outcome}
use Rattle.session_acts.specs.Acts.Act.{Hear, Ask, Renew}
use Rattle.session_acts.specs.Deeds.{Deed, deeds_ran, gives}
use Rattle.session_acts.specs.Laws.{told}
use Rattle.session_acts.specs.Session.{Held, deeds_of}
use Rattle.session_acts.specs.World.{World}
use Rattle.session_acts.specs.declared.silence.Silence.{Silence}

-- whether the client has said all that it says, and whether it asked for a list last
pub record Hearer : Type 0 where
  pub ended : Bool
  pub listing : Bool

-- ---- what a client is to be told for what came

-- for a reply its line; in a list, `ok` for the reply that no further record is there
abbrev pub reply_words : (listing : Bool) → Reply → List ℕ
reply_words true reply = if is_no_such reply then codes "ok" ++ 10 ∷ [] else reply_line reply ++ 10 ∷ []
reply_words false reply = reply_line reply ++ 10 ∷ []

abbrev pub asked_words : (listing : Bool) → Result Reply PortFault → List ℕ
asked_words listing (Ok reply) = reply_words listing reply
asked_words listing (Err fault) = []

abbrev pub renewed_words : Result (List ℕ × Reply) (List ℕ × PortFault) → List ℕ
renewed_words (Ok salted) = reply_line salted.1 ++ 10 ∷ []
renewed_words (Err salted) = []

-- for a line that asks for nothing, why
abbrev pub line_words : Result Wire WireFault → List ℕ
line_words (Ok wire) = []
line_words (Err fault) = wire_fault_text fault ++ 10 ∷ []

abbrev pub heard_words : Heard → List ℕ
heard_words (Line line) = line_words (request_of line.items)
heard_words TooLong = wire_fault_text LongLine ++ 10 ∷ []
heard_words (Stopped stop) = []

abbrev pub hearing_words : Result Heard Silence → List ℕ
hearing_words (Ok heard) = heard_words heard
hearing_words (Err silence) = []

-- a client that has said all is told nothing more
abbrev pub unless_ended : Bool → List ℕ → List ℕ
unless_ended true words = []
unless_ended false words = words

abbrev pub due : Hearer → (act : Act) → Outcome act → List ℕ
due hearer (Hear form) outcome = hearing_words outcome
due hearer (Ask request) outcome = unless_ended hearer.ended (asked_words hearer.listing outcome)
due hearer (Renew name hash) outcome = unless_ended hearer.ended (renewed_words outcome)
due hearer act outcome = []

-- ---- how far the client has come

abbrev pub asks_list : Result Wire WireFault → Bool
asks_list (Ok wires.List) = true
asks_list _ = false

abbrev pub heard_so : Heard → Hearer
heard_so (Line line) = record { ended = false; listing = asks_list (request_of line.items) }
heard_so TooLong = record { ended = false; listing = false }
heard_so (Stopped stop) = record { ended = true; listing = false }

abbrev pub hearing_so : Hearer → Result Heard Silence → Hearer
hearing_so hearer (Ok heard) = heard_so heard
hearing_so hearer (Err silence) = hearer

abbrev pub hearer_after : Hearer → (act : Act) → Outcome act → Hearer
hearer_after hearer (Hear form) outcome = hearing_so hearer outcome
hearer_after hearer act outcome = hearer

-- what a client is to be told for these deeds, one thing after another
abbrev pub words : Hearer → List Deed → List ℕ
words hearer [] = []
words hearer (deed ∷ deeds) = due hearer deed.act deed.outcome ++ words (hearer_after hearer deed.act deed.outcome) deeds

-- at first it has said nothing
abbrev pub unheard : Hearer
unheard = record { ended = false; listing = false }

-- what it was told is a front of that, and all of it where the dialogue came to its end
pub record ToldInOrder {Origin : Type 0} {console : Bool} {old new : World Origin} {ending : Ending} (held : Held rows (session_row console) old new ending) : Type 0 where
  pub rest : List ℕ
  pub is : words unheard (deeds_ran held.ran) ≡ gives told (deeds_of held) ++ rest
  pub whole : held.dialogue ≡ Ok tt → rest ≡ []
