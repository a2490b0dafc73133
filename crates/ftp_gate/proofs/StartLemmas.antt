-- A command that is for a server and isn't blocked.
use Rattle.std.proofs.Common.{◌≡◌, ◌≤◌, refl, sym, ap, subst, ◌∙◌, ℕ, Bool, true, false, not, ◌&&◌, ◌||◌, List, [], ◌∷◌, ◌++◌, Option, Some, None, Result, Ok, Err, inl, inr, codes, append_assoc, append-nil}
use mathlib.Core.Bool.{true≢false}
use Rattle.std.specs.Prelude.{◌/◌, ◌==◌, nat_le, if◌then◌else◌}
use Rattle.std.specs.Option.{option_map}
use Rattle.std.specs.Str.{bytes_eq}
use Rattle.std.proofs.lemmas.Slice.Eq.{bytes_eq-Decides}
use Rattle.auth_events.specs.Login.{is_full, is_ok, login_then}
use Rattle.auth_events.specs.declared.denial.Denial.{Denial}
use Rattle.auth_events.specs.declared.denial.Denial.TheVariants.{NotIn}
use Rattle.auth_events.specs.declared.reply.Reply.{Reply}
use Rattle.auth_events.specs.declared.reply.Reply.TheVariants as replies
use Rattle.auth_events.specs.declared.request.OpService.TheVariants as services
use Rattle.auth_events.specs.declared.request.Request.{Request}
use Rattle.auth_events.specs.declared.request.Request.TheVariants as requests
use Rattle.fw_acts.specs.Acts.{Row, PlaceTable}
use Rattle.fw_acts.specs.Acts.Row.{Do, At, Over}
use Rattle.fw_acts.specs.Histories.{Keeps, Leaves, Watch}
use Rattle.fw_types.specs.declared.dest.Dest.{Dest}
use Rattle.md5.specs.Md5.{md5}
use Rattle.otp_md5.specs.Hexadecimal.{read_of}
use Rattle.session_acts.specs.Acts.{Act, Outcome}
use Rattle.session_acts.specs.Acts.Act.{Ask, Copy, Dial, HangUp, Hear, Join, Log, OpenDoor, Part, Pass, Say, TakeReply}
use Rattle.session_acts.specs.Client.{line_logged}
use Rattle.session_acts.specs.Deeds.{Deed}
use Rattle.session_acts.specs.Met.{acts}
use Rattle.session_acts.specs.declared.target.Target.{Target}
use Rattle.session_acts.specs.declared.target.Target.TheVariants.{Addr, AtDoor}
use Rattle.ftp_gate.specs.Dialogue as rows
use Rattle.ftp_gate.specs.Dialogue.{heard_form, is_in, reason_of, with_account}
use Rattle.ftp_gate.specs.Gate.{Gate, asks_login, has_verb}
use Rattle.ftp_gate.specs.Kind.{kind_of}
use Rattle.ftp_gate.specs.LogLines.{blocked_line, command_line, connect_line, fail_line, login_line, refuse_line}
use Rattle.ftp_gate.specs.Order.{Order}
use Rattle.ftp_gate.specs.Passage.{Standing, asked_allowed, asked_by, asked_dest, asked_kind, asked_outward, asked_unless, asked_user, dest_if, first_name, line_if, name_text, passed_allowed, passed_as, passed_kind, passed_linked, passed_outward, passed_transfer, passed_unless, passed_user}
use Rattle.ftp_gate.specs.Texts as texts
use Rattle.ftp_gate.specs.declared.kind.Kind.{Kind}
use Rattle.ftp_gate.specs.declared.kind.Kind.TheVariants as kinds
use Rattle.ftp_gate.specs.declared.place.Account.{Account}
use Rattle.ftp_gate.specs.declared.place.Account.TheVariants.{Unopened, Opened}
use Rattle.ftp_gate.specs.declared.place.Place.{Place}
use Rattle.ftp_gate.specs.declared.place.Place.TheVariants.{Listening, Answering, Dropping}
use Rattle.ftp_gate.specs.declared.place.State.{State}
use Rattle.ftp_gate.specs.Laws.{EndsWith, IsAbout, IsCleared, IsDisallowed, IsFailure, IsLoggedFirst, IsNoName, IsOwnPair, IsOwnTarget, IsPassable, IsRefusal, IsUnblocked, IsUnpermitted, Wants, asked_so, clearing, fails, granted, granted_if}
use Rattle.ftp_gate.specs.Known.{Known, begins, dests_in, greeted_with, greeting_by, joined_with, known_after, order_in, passage_in, port_set, set_by, used_up, with_deed}
use Rattle.ftp_gate.proofs.AccountLemmas.{Noted, at_first, deed_of, named_login, note}
use Rattle.ftp_gate.proofs.WatchLemmas.{Behind, Due, Even, Holds, IsOwnSetting, IsPlain, IsUser, Knows, May, behind, clash, closed_leaves, ftp_watch, logged_even, logged_holds, logged_knows, plain_first, say_leaves, tell_leaves}
use Rattle.fw_types.specs.Name.{name_of}
use Rattle.ftp_gate.proofs.BaseLemmas.{Base, Silent, asked_base, even_at, even_of, logged_base}
use Rattle.fw_types.specs.declared.host.Host.{Host}
use Rattle.gate_rules.specs.Verdict.{allows}
use Rattle.session_acts.specs.declared.replied.Replied.{Replied}
use Rattle.session_acts.specs.declared.replied.Replied.TheVariants as replied
use Rattle.session_acts.specs.declared.reply_use.ReplyUse.TheVariants.{Passed, Dropped, Greeting}
use Rattle.ftp_gate.specs.User.{name_there, user_of}
use Rattle.ftp_gate.specs.declared.kind.Outward.{Outward}
use Rattle.ftp_gate.specs.declared.kind.Outward.TheVariants.{User, Served}

-- behind the hearing of a command nothing was done
pub record Start (gate : Gate) (state : State) (order : Order) (n : Noted) : Type 0 where
  pub base : Base order n
  pub knows : Knows gate state n.k
  pub since : n.k.since ≡ []
  pub login : n.k.standing.login ≡ is_in state.account
  pub link : n.k.standing.link ≡ state.dest
  pub setting : n.k.standing.setting ≡ state.setting
  pub permitted : n.k.standing.permitted ≡ false
  pub greeted : n.k.standing.greeted ≡ false
  pub joined : n.k.standing.joined ≡ false

pub stands_by : (a l : Bool) → (a && not l) ≡ false → a ≡ true → l ≡ true
stands_by a true is asks = refl
stands_by true false is asks = clash (sym is)
stands_by false false is asks = clash asks

-- the command isn't blocked
pub record Free (gate : Gate) (state : State) (order : Order) (asked : Outward) : Type 0 where
  pub kind : kind_of order.verb ≡ kinds.Outward asked
  pub denied : has_verb gate.options.deny order.verb ≡ false
  pub missing : (asks_login gate.options order.verb && not (is_in state.account)) ≡ false

module _ (gate : Gate) (state : State) (order : Order) (asked : Outward) (free : Free gate state order asked) where
  missing_at : (st : Standing) → st.login ≡ is_in state.account → (asks_login gate.options order.verb && not st.login) ≡ false
  missing_at st login = ap (λ (b : Bool). asks_login gate.options order.verb && not b) login ∙ free.missing

  -- it is passed as what it is passed as where it is allowed
  pub passes_allowed : (st : Standing) → st.login ≡ is_in state.account → passed_as gate st (Some order) ≡ passed_allowed st order asked
  passes_allowed st login =
      ap (λ (kind : Kind). passed_kind gate st order kind) free.kind ∙ ap (λ (b : Bool). passed_outward gate b st order asked) free.denied
      ∙ ap (λ (b : Bool). passed_unless b st order asked) (missing_at st login)

  pub asks_allowed : (st : Standing) → st.login ≡ is_in state.account → asked_by gate st (Some order) ≡ asked_allowed gate st order asked
  asks_allowed st login =
      ap (λ (kind : Kind). asked_kind gate st order kind) free.kind ∙ ap (λ (b : Bool). asked_outward gate b st order asked) free.denied
      ∙ ap (λ (b : Bool). asked_unless gate b st order asked) (missing_at st login)

  pub unblocked : (k : Known) → k.order ≡ Some order → k.login ≡ is_in state.account → IsUnblocked gate order k
  unblocked k heard login = record { heard = heard; denied = free.denied; login = λ asks. login ∙ stands_by (asks_login gate.options order.verb) (is_in state.account) free.missing asks }

  -- a command that is no transfer leaves what is set
  pub keeps_set : (k : Known) → k.order ≡ Some order → ((s : Option Target) → used_up (kinds.Outward asked) s ≡ s) → set_by (λ o kind s. used_up kind s) k.order k.setting ≡ k.setting
  keeps_set k heard keeps =
      ap (λ (o : Option Order). set_by (λ o kind s. used_up kind s) o k.setting) heard ∙ ap (λ (kind : Kind). used_up kind k.setting) free.kind ∙ keeps k.setting

-- ---- what is passed

pub due_behind : (gate : Gate) (text : List ℕ) (n : Noted) → Due gate text n → Behind gate n
due_behind gate text n due = record { rest = text; is = due.is; more = []; asks = due.asks ∙ sym (append-nil n.calls) }

pub due_even : (gate : Gate) (text : List ℕ) (n : Noted) → Due gate text n → Even gate (note gate n (Pass text) (Ok tt))
due_even gate text n due = record { is = due.is; asks = due.asks ∙ sym (append-nil n.calls) }

pub due_logged : (gate : Gate) (text line : List ℕ) (n : Noted) → Due gate text n → Due gate text (note gate n (Log line) (Ok tt))
due_logged gate text line n due = record { is = due.is ∙ ap (λ (z : List ℕ). z ++ text) (sym (append-nil n.passed)); asks = due.asks ∙ sym (append-nil n.calls) }

pub still_passable : (gate : Gate) (line : List ℕ) (n : Noted) → IsPassable gate n.k → IsPassable gate (note gate n (Log line) (Ok tt)).k
still_passable gate line n may = record {
  order = may.order;
  unblocked = record { heard = may.unblocked.heard; denied = may.unblocked.denied; login = may.unblocked.login };
  main = may.main;
  link = may.link;
}

module _ (Origin : Type 0) (gate : Gate) where
  abbrev watch : Watch (acts Origin) Place
  watch = ftp_watch Origin gate

  -- what is known behind a text that was passed, where it leaves what is set
  pub given_knows : (state : State) (text : List ℕ) (n : Noted) → set_by (λ o kind s. used_up kind s) n.k.order n.k.setting ≡ n.k.setting → Knows gate state n.k → Knows gate state (note gate n (Pass text) (Ok tt)).k
  given_knows state text n kept knows = record { login = knows.login; user = knows.user; link = knows.link; up = knows.up; setting = kept ∙ knows.setting; own = knows.own }

  give_leaves : (state : State) (text : List ℕ) (quits : Bool) (n : Noted) → Due gate text n → IsPassable gate n.k → set_by (λ o kind s. used_up kind s) n.k.order n.k.setting ≡ n.k.setting → Knows gate state n.k
      → Leaves watch (Do (Pass text) (λ done. At (Answering state quits))) n
  give_leaves state text quits n due may kept knows = ((may, due), λ done. (given_knows state text n kept knows, due_even gate text n due))

  pub pass_leaves : (state : State) (verb text : List ℕ) (quits b : Bool) (n : Noted) → Due gate text n → IsPassable gate n.k → set_by (λ o kind s. used_up kind s) n.k.order n.k.setting ≡ n.k.setting → Knows gate state n.k
      → Leaves watch (rows.logged_row gate verb b (Do (Pass text) (λ done. At (Answering state quits)))) n
  pass_leaves state verb text quits true n due may kept knows =
      let line = command_line gate verb in
      (due_behind gate text n due, λ logged. give_leaves state text quits (note gate n (Log line) (Ok tt)) (due_logged gate text line n due) (still_passable gate line n may) kept (logged_knows Origin gate n line state knows))
  pass_leaves state verb text quits false n due may kept knows = give_leaves state text quits n due may kept knows
