-- How the end of a session is told.
use Rattle.std.specs.Prelude.{◌≡◌, ℕ, List, ◌++◌, Option, Some, None, Result, codes}
use Rattle.std.specs.Fmt.{decimal}
use Rattle.std.specs.Option.{option_map}
use Rattle.fw_outside.specs.SinkView.{Gives, SinkView}
use Rattle.fw_outside.specs.declared.failed.Failed.{Failed}
use Rattle.fw_types.specs.Peer.{peer_text}
use Rattle.fw_types.specs.declared.ending.Ending.{Ending}
use Rattle.fw_types.specs.declared.ending.Ending.TheVariants.{Done, Denied, ClientFault, ServerFault, LogFault, AuthFault, Idle, NoRoute, Spent, NoMemory}
use Rattle.fw_types.specs.declared.peer.Peer.{Peer}
use Rattle.gate_rules.specs.Service.{service_text}
use Rattle.gate_rules.specs.declared.service.Service.{Service}
use Rattle.gate_rules.specs.declared.service.Service.TheVariants.{Authsrv, FtpGw, PlugGw, Smap, TnGw}
use Rattle.tn_gate.specs.Texts.{refusal}

-- the log's word for an ending; a denial was logged by its verdict, and a log that failed is told nothing
abbrev pub ending_word : Ending → Option (List ℕ)
ending_word Done = Some (codes "done")
ending_word (Denied line) = None
ending_word ClientFault = Some (codes "client")
ending_word ServerFault = Some (codes "server")
ending_word LogFault = None
ending_word AuthFault = Some (codes "auth")
ending_word Idle = Some (codes "idle")
ending_word NoRoute = Some (codes "noroute")
ending_word Spent = Some (codes "spent")
ending_word NoMemory = Some (codes "memory")

-- `end SERVICE PEER WORD`
abbrev pub end_text : Service → Peer → List ℕ → List ℕ
end_text service peer word = codes "end " ++ service_text service ++ codes " " ++ peer_text peer ++ codes " " ++ word ++ codes "\n"

-- the log's line of an ending
abbrev pub ending_line : Service → Peer → Ending → Option (List ℕ)
ending_line service peer ending = option_map (end_text service peer) (ending_word ending)

-- a sink was given a line, in whole or in part
pub record Noted (line : List ℕ) (old new : SinkView) : Type 0 where
  pub told : Result (Unit {0}) Failed
  pub gives : Gives told line old new

-- where there is one
abbrev pub NotedIf : Option (List ℕ) → SinkView → SinkView → Type 0
NotedIf None old new = new ≡ old
NotedIf (Some line) old new = Noted line old new

-- ---- the words to a client that the line with this number denies

-- `denied line N`
abbrev pub denied_text : ℕ → List ℕ
denied_text line = codes "denied line " ++ decimal line ++ codes "\n"

-- `421 Denied (line N)`
abbrev pub refusal_reply : ℕ → List ℕ
refusal_reply line = codes "421 Denied (line " ++ decimal line ++ codes ")\r\n"

-- by the service: `denied line N` for a client of `authsrv`, `Denied (line N)` for one of `tn-gw`, `421 Denied (line N)` for
-- one of `ftp-gw` or `smap`, and nothing for one of the plug; nor is there anything for a service whose clients aren't served
abbrev pub denied_words : Service → ℕ → Option (List ℕ)
denied_words Authsrv line = Some (denied_text line)
denied_words TnGw line = Some (refusal line)
denied_words FtpGw line = Some (refusal_reply line)
denied_words Smap line = Some (refusal_reply line)
denied_words (PlugGw port) line = None
denied_words service line = None
