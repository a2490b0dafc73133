use Rattle.std.proofs.Common.{ap, sym, ◌∙◌}
use Rattle.ftp_lines.specs.Six.{six_of}
use Rattle.fw_types.specs.declared.peer.Peer.{Peer}
use Rattle.ftp_gate.specs.Dialogue.{own_target, tell_row}
use Rattle.ftp_gate.specs.Texts.{port_ok}
use Rattle.ftp_gate.specs.declared.place.State.{State}
use Rattle.ftp_gate.proofs.RowLemmas.{row_as}
use Rattle.ftp_gate.proofs.settings.port_row.Goals as goal

pub returns-in-Some : goal.returns-in-Some
returns-in-Some g c =
    rw (ap (λ (p : Peer). own_target p.addr (six_of c.args.arg.now)) (sym c.peer.ensures) ∙ sym c.own_target.ensures ∙ c.in-Some.is)
    (row_as (λ (s : State). tell_row port_ok s) c.with_setting.ensures c.tell_row.ensures)

pub returns-in-None : goal.returns-in-None
returns-in-None g c = rw (ap (λ (p : Peer). own_target p.addr (six_of c.args.arg.now)) (sym c.peer.ensures) ∙ sym c.own_target.ensures ∙ c.in-None.is) c.tell_row-in-None.ensures
