-- A small session that puts a client through to a server, once it has said a line, which it is told.
use Rattle.fw_acts.specs.Acts.{Row, PlaceTable}
use Rattle.fw_acts.specs.Acts.Row.{Do, At, Over}
use Rattle.fw_outside.specs.declared.heard.Heard.{Heard}
use Rattle.fw_outside.specs.declared.heard.Heard.TheVariants.{Line, TooLong, Stopped}
use Rattle.fw_types.specs.declared.dest.Dest.{Dest}
use Rattle.session_acts.specs.Acts.{Act, Answer}
use Rattle.session_acts.specs.Acts.Act.{Hear, Say, Reach, HangUp}
use Rattle.session_acts.specs.Met.{acts}
use Rattle.session_acts.specs.declared.form.Form.{Form}
use Rattle.session_rows.specs.declared.through.Knocking.{Knocking}
use Rattle.session_rows.specs.declared.through.Knocking.TheVariants.{ForLine}

-- the client is heard in a form
abbrev pub act_at : Form → Knocking → Act
act_at form place = Hear form

module _ {Origin : Type 0} where
  -- a client that says a line is told it and put through; from one that says none the link is taken away
  abbrev pub line_row : Heard → Row (acts Origin) Knocking
  line_row (Line line) = Do (Say line.items) (λ said. Over)
  line_row TooLong = Do HangUp (λ done. Over)
  line_row (Stopped stop) = Do HangUp (λ done. Over)

  abbrev pub row_at : (form : Form) (place : Knocking) → Answer (act_at form place) → Row (acts Origin) Knocking
  row_at form place heard = line_row heard

  abbrev pub rows : Form → PlaceTable (acts Origin) Knocking
  rows form = record { act = act_at form; go = row_at form }

  abbrev pub first_row : Dest → Row (acts Origin) Knocking
  first_row dest = Do (Reach dest) (λ up. At ForLine)
