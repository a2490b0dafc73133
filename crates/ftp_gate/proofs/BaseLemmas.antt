-- Where nothing of a command was passed yet.
use Rattle.std.proofs.Common.{◌≡◌, ◌≤◌, refl, sym, ap, subst, ◌∙◌, ℕ, Bool, true, false, not, ◌&&◌, ◌||◌, List, [], ◌∷◌, ◌++◌, Option, Some, None, Result, Ok, Err, inl, inr, codes, append_assoc, append-nil}
use mathlib.Core.Bool.{true≢false}
use Rattle.std.specs.Prelude.{◌/◌, ◌==◌, nat_le, if◌then◌else◌}
use Rattle.std.specs.Option.{option_map}
use Rattle.std.specs.Str.{bytes_eq}
use Rattle.std.proofs.lemmas.Slice.Eq.{bytes_eq-Decides}
use Rattle.auth_events.specs.Login.{is_full, is_ok, login_then}
use Rattle.auth_events.specs.declared.denial.Denial.{Denial}
use Rattle.auth_events.specs.declared.denial.Denial.TheVariants.{NotIn}
use Rattle.auth_events.specs.declared.reply.Reply.{Reply}
use Rattle.auth_events.specs.declared.reply.Reply.TheVariants as replies
use Rattle.auth_events.specs.declared.request.OpService.TheVariants as services
use Rattle.auth_events.specs.declared.request.Request.{Request}
use Rattle.auth_events.specs.declared.request.Request.TheVariants as requests
use Rattle.fw_acts.specs.Acts.{Row, PlaceTable}
use Rattle.fw_acts.specs.Acts.Row.{Do, At, Over}
use Rattle.fw_acts.specs.Histories.{Keeps, Leaves, Watch}
use Rattle.fw_types.specs.declared.dest.Dest.{Dest}
use Rattle.md5.specs.Md5.{md5}
use Rattle.otp_md5.specs.Hexadecimal.{read_of}
use Rattle.session_acts.specs.Acts.{Act, Outcome}
use Rattle.session_acts.specs.Acts.Act.{Ask, Copy, Dial, HangUp, Hear, Join, Log, OpenDoor, Part, Pass, Say, TakeReply}
use Rattle.session_acts.specs.Client.{line_logged}
use Rattle.session_acts.specs.Deeds.{Deed}
use Rattle.session_acts.specs.Met.{acts}
use Rattle.session_acts.specs.declared.target.Target.{Target}
use Rattle.session_acts.specs.declared.target.Target.TheVariants.{Addr, AtDoor}
use Rattle.ftp_gate.specs.Dialogue as rows
use Rattle.ftp_gate.specs.Dialogue.{heard_form, is_in, reason_of, with_account}
use Rattle.ftp_gate.specs.Gate.{Gate, asks_login, has_verb}
use Rattle.ftp_gate.specs.Kind.{kind_of}
use Rattle.ftp_gate.specs.LogLines.{blocked_line, command_line, connect_line, fail_line, login_line, refuse_line}
use Rattle.ftp_gate.specs.Order.{Order}
use Rattle.ftp_gate.specs.Passage.{Standing, asked_by, passed_as}
use Rattle.ftp_gate.specs.Texts as texts
use Rattle.ftp_gate.specs.declared.kind.Kind.{Kind}
use Rattle.ftp_gate.specs.declared.kind.Kind.TheVariants as kinds
use Rattle.ftp_gate.specs.declared.place.Account.{Account}
use Rattle.ftp_gate.specs.declared.place.Account.TheVariants.{Unopened, Opened}
use Rattle.ftp_gate.specs.declared.place.Place.{Place}
use Rattle.ftp_gate.specs.declared.place.Place.TheVariants.{Listening, Answering, Dropping}
use Rattle.ftp_gate.specs.declared.place.State.{State}
use Rattle.ftp_gate.specs.Laws.{EndsWith, IsAbout, IsCleared, IsDisallowed, IsFailure, IsLoggedFirst, IsNoName, IsOwnPair, IsOwnTarget, IsPassable, IsRefusal, IsUnblocked, IsUnpermitted, Wants, asked_so, clearing, fails, granted, granted_if}
use Rattle.ftp_gate.specs.Known.{Known, begins, dests_in, known_after, order_in, passage_in}
use Rattle.ftp_gate.proofs.AccountLemmas.{Noted, at_first, deed_of, named_login, note}
use Rattle.ftp_gate.proofs.WatchLemmas.{Behind, Even, Holds, IsOwnSetting, IsPlain, IsUser, Knows, May, behind, clash, closed_leaves, ftp_watch, logged_even, logged_holds, logged_knows, plain_first, say_leaves, tell_leaves}

-- a command that is passed as nothing and asks for no destination, however it stands
pub record Silent (gate : Gate) (order : Order) : Type 0 where
  pub passes : (st : Standing) → passed_as gate st (Some order) ≡ []
  pub asks : (st : Standing) → asked_by gate st (Some order) ≡ []

-- nothing of this command, which was heard last, was passed or asked for yet
pub record Base (order : Order) (n : Noted) : Type 0 where
  pub heard : n.k.order ≡ Some order
  pub passed : n.passed ≡ n.k.earlier
  pub calls : n.calls ≡ n.k.before

-- where it is to be nothing, that is all
pub even_at : (gate : Gate) (order : Order) (n : Noted) → Base order n → passed_as gate n.k.standing (Some order) ≡ [] → asked_by gate n.k.standing (Some order) ≡ [] → Even gate n
even_at gate order n base passes asks = record {
  is = ap (λ (o : Option Order). n.k.earlier ++ passed_as gate n.k.standing o) base.heard ∙ ap (λ (z : List ℕ). n.k.earlier ++ z) passes ∙ append-nil n.k.earlier ∙ sym base.passed;
  asks = ap (λ (o : Option Order). n.k.before ++ asked_by gate n.k.standing o) base.heard ∙ ap (λ (z : List Dest). n.k.before ++ z) asks ∙ append-nil n.k.before ∙ sym base.calls;
}

pub even_of : (gate : Gate) (order : Order) (n : Noted) → Base order n → Silent gate order → Even gate n
even_of gate order n base silent = even_at gate order n base (silent.passes n.k.standing) (silent.asks n.k.standing)

pub asked_base : (gate : Gate) (order : Order) (n : Noted) (request : Request) (reply : Reply) → Base order n → Base order (note gate n (Ask request) (Ok reply))
asked_base gate order n request reply base = record { heard = base.heard; passed = append-nil n.passed ∙ base.passed; calls = append-nil n.calls ∙ base.calls }

pub logged_base : (gate : Gate) (order : Order) (n : Noted) (line : List ℕ) → Base order n → Base order (note gate n (Log line) (Ok tt))
logged_base gate order n line base = record { heard = base.heard; passed = append-nil n.passed ∙ base.passed; calls = append-nil n.calls ∙ base.calls }
