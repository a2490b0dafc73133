-- Which users the lines of a client name to the gateway. No place and no row is named here.
use Rattle.std.specs.Prelude.{ℕ, List, [], ◌∷◌, Option, Some, None}
use Rattle.fw_types.specs.Name.{name_of}
use Rattle.session_acts.specs.Acts.{Act, Outcome}
use Rattle.session_acts.specs.Acts.Act.{Hear}
use Rattle.session_acts.specs.Hearing.{heard_by}
use Rattle.ftp_gate.specs.Kind.{kind_of}
use Rattle.ftp_gate.specs.Known.{order_in}
use Rattle.ftp_gate.specs.Order.{Order}
use Rattle.ftp_gate.specs.declared.kind.Kind.{Kind}
use Rattle.ftp_gate.specs.declared.kind.Kind.TheVariants as kinds

-- AUTHORIZE with a name
abbrev pub named_by : Kind → Option (List ℕ) → List (List ℕ)
named_by kinds.Authorize (Some name) = name ∷ []
named_by kinds.Authorize None = []
named_by kind name = []

abbrev pub named_in : Option Order → List (List ℕ)
named_in None = []
named_in (Some order) = named_by (kind_of order.verb) (name_of order.arg)

-- the user whom the line that is heard names, if it does
abbrev pub names : (act : Act) → Outcome act → List (List ℕ)
names (Hear form) outcome = named_in (order_in (heard_by outcome))
names act outcome = []
