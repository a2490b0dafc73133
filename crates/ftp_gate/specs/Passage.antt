-- What a command is passed to the server as, and which destination it asks for. No place and no row is named here.
use Rattle.std.specs.Prelude.{◌≡◌, ℕ, Bool, true, false, ◌&&◌, ◌||◌, not, List, [], ◌∷◌, ◌++◌, Option, Some, None, if◌then◌else◌}
use Rattle.fw_types.specs.declared.dest.Dest.{Dest}
use Rattle.gate_rules.specs.Verdict.{allows}
use Rattle.session_acts.specs.declared.target.Target.{Target}
use Rattle.ftp_gate.specs.Gate.{Gate, asks_login, has_verb}
use Rattle.ftp_gate.specs.Kind.{kind_of}
use Rattle.ftp_gate.specs.Order.{Order}
use Rattle.ftp_gate.specs.Texts.{passed_line, pasv_text, user_text}
use Rattle.ftp_gate.specs.User.{name_there, user_of}
use Rattle.ftp_gate.specs.declared.kind.Kind.{Kind}
use Rattle.ftp_gate.specs.declared.kind.Kind.TheVariants as kinds
use Rattle.ftp_gate.specs.declared.kind.Outward.{Outward}
use Rattle.ftp_gate.specs.declared.kind.Outward.TheVariants.{User, Served}
use Rattle.ftp_gate.specs.declared.kind.Served as served
use Rattle.ftp_gate.specs.declared.kind.Served.TheVariants.{Port, Pasv, Extended, Transfer, Quit, Other}

-- How it stands with a command: before it, whether a login stands, to which destination a link is up whose server greeted
-- well, and what is set for a transfer; and since it was heard, whether permission was given, whether such a link came up, and
-- whether both data links did.
pub record Standing : Type 0 where
  pub login : Bool
  pub link : Option Dest
  pub setting : Option Target
  pub permitted : Bool
  pub greeted : Bool
  pub joined : Bool

abbrev pub name_text : Option (List ℕ) → List ℕ
name_text None = []
name_text (Some name) = user_text name

abbrev pub first_name : Option (List ℕ × Dest) → Option (List ℕ)
first_name None = None
first_name (Some user) = Some user.0

-- a user is named where the link is up or comes up by this very command
abbrev pub passed_user : Option Dest → Bool → List ℕ → List ℕ
passed_user (Some dest) greeted arg = name_text (name_there dest arg)
passed_user None true arg = name_text (first_name (user_of arg))
passed_user None false arg = []

abbrev pub line_if : Bool → List ℕ → List ℕ
line_if true line = passed_line line
line_if false line = []

-- a transfer, where it is set what the client's data link is to be
abbrev pub passed_transfer : Option Target → Bool → List ℕ → List ℕ
passed_transfer None joined line = []
passed_transfer (Some target) joined line = pasv_text ++ line_if joined line

abbrev pub passed_served : Standing → Order → served.Served → List ℕ
passed_served standing order Port = []
passed_served standing order Pasv = []
passed_served standing order Extended = []
passed_served standing order (Transfer toward) = passed_transfer standing.setting standing.joined order.line
passed_served standing order Quit = passed_line order.line
passed_served standing order Other = passed_line order.line

abbrev pub passed_linked : Option Dest → Standing → Order → served.Served → List ℕ
passed_linked None standing order asked = []
passed_linked (Some dest) standing order asked = passed_served standing order asked

abbrev pub passed_allowed : Standing → Order → Outward → List ℕ
passed_allowed standing order User = passed_user standing.link standing.greeted order.arg
passed_allowed standing order (Served asked) = passed_linked standing.link standing order asked

-- where a login is asked for that doesn't stand
abbrev pub passed_unless : Bool → Standing → Order → Outward → List ℕ
passed_unless true standing order asked = []
passed_unless false standing order asked = passed_allowed standing order asked

-- where the verb is denied
abbrev pub passed_outward : Gate → Bool → Standing → Order → Outward → List ℕ
passed_outward gate true standing order asked = []
passed_outward gate false standing order asked = passed_unless (asks_login gate.options order.verb && not standing.login) standing order asked

abbrev pub passed_kind : Gate → Standing → Order → Kind → List ℕ
passed_kind gate standing order kinds.Authorize = []
passed_kind gate standing order kinds.Response = []
passed_kind gate standing order (kinds.Outward asked) = passed_outward gate (has_verb gate.options.deny order.verb) standing order asked

-- what a line is passed as, if it is a command
abbrev pub passed_as : Gate → Standing → Option Order → List ℕ
passed_as gate standing None = []
passed_as gate standing (Some order) = passed_kind gate standing order (kind_of order.verb)

-- ---- destinations

abbrev pub dest_if : Bool → Dest → List Dest
dest_if true dest = dest ∷ []
dest_if false dest = []

-- the destination that is named, where the permission line allows it and, with `-extnd`, permission for it was given
abbrev pub asked_dest : Gate → Standing → Option (List ℕ × Dest) → List Dest
asked_dest gate standing None = []
asked_dest gate standing (Some user) = dest_if (allows gate.options user.1 && (not gate.options.extnd || standing.permitted)) user.1

-- where no link is up
abbrev pub asked_user : Gate → Standing → Option Dest → List ℕ → List Dest
asked_user gate standing None arg = asked_dest gate standing (user_of arg)
asked_user gate standing (Some dest) arg = []

abbrev pub asked_allowed : Gate → Standing → Order → Outward → List Dest
asked_allowed gate standing order User = asked_user gate standing standing.link order.arg
asked_allowed gate standing order (Served asked) = []

abbrev pub asked_unless : Gate → Bool → Standing → Order → Outward → List Dest
asked_unless gate true standing order asked = []
asked_unless gate false standing order asked = asked_allowed gate standing order asked

abbrev pub asked_outward : Gate → Bool → Standing → Order → Outward → List Dest
asked_outward gate true standing order asked = []
asked_outward gate false standing order asked = asked_unless gate (asks_login gate.options order.verb && not standing.login) standing order asked

abbrev pub asked_kind : Gate → Standing → Order → Kind → List Dest
asked_kind gate standing order kinds.Authorize = []
asked_kind gate standing order kinds.Response = []
asked_kind gate standing order (kinds.Outward asked) = asked_outward gate (has_verb gate.options.deny order.verb) standing order asked

-- which destination a line asks for, if it is a command that does
abbrev pub asked_by : Gate → Standing → Option Order → List Dest
asked_by gate standing None = []
asked_by gate standing (Some order) = asked_kind gate standing order (kind_of order.verb)
