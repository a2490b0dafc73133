-- The lines of the log.
use Rattle.std.specs.Prelude.{ℕ, List, ◌++◌, codes}
use Rattle.std.specs.Fmt.{decimal}
use Rattle.auth_events.specs.declared.denial.Denial.{Denial}
use Rattle.authsrv_lines.specs.Reply.{cause}
use Rattle.fw_types.specs.Host.{host_text}
use Rattle.fw_types.specs.Peer.{peer_text}
use Rattle.fw_types.specs.declared.dest.Dest.{Dest}
use Rattle.ftp_gate.specs.Gate.{Gate}

-- `ftp-gw PEER`, behind what is told of the client
abbrev pub whose : List ℕ → Gate → List ℕ
whose word gate = word ++ codes " ftp-gw " ++ peer_text gate.peer

-- ` line N`
abbrev pub by_line : ℕ → List ℕ
by_line line = codes " line " ++ decimal line

-- `connect ftp-gw PEER to HOST PORT line N`, and so on
abbrev pub toward : List ℕ → Gate → Dest → ℕ → List ℕ
toward word gate dest line =
    whose word gate ++ codes " to " ++ host_text dest.host ++ codes " " ++ decimal dest.port ++ by_line line ++ codes "\n"

abbrev pub connect_line : Gate → Dest → List ℕ
connect_line gate dest = toward (codes "connect") gate dest gate.line

abbrev pub refuse_line : Gate → Dest → ℕ → List ℕ
refuse_line gate dest line = toward (codes "refuse") gate dest line

-- `login ftp-gw PEER user NAME line N`
abbrev pub login_line : Gate → List ℕ → List ℕ
login_line gate name = whose (codes "login") gate ++ codes " user " ++ name ++ by_line gate.line ++ codes "\n"

-- `fail ftp-gw PEER user NAME line N WHY`
abbrev pub fail_line : Gate → List ℕ → Denial → List ℕ
fail_line gate name denial =
    whose (codes "fail") gate ++ codes " user " ++ name ++ by_line gate.line ++ codes " " ++ cause denial ++ codes "\n"

-- `blocked ftp-gw PEER VERB line N`
abbrev pub blocked_line : Gate → List ℕ → List ℕ
blocked_line gate verb = whose (codes "blocked") gate ++ codes " " ++ verb ++ by_line gate.line ++ codes "\n"

-- `command ftp-gw PEER VERB`
abbrev pub command_line : Gate → List ℕ → List ℕ
command_line gate verb = whose (codes "command") gate ++ codes " " ++ verb ++ codes "\n"
