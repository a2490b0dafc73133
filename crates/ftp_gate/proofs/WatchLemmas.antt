-- What the rows keep.
use Rattle.std.proofs.Common.{◌≡◌, ◌≤◌, refl, sym, ap, subst, ◌∙◌, ℕ, Bool, true, false, not, ◌&&◌, ◌||◌, List, [], ◌∷◌, ◌++◌, Option, Some, None, Result, Ok, Err, inl, inr, codes, append_assoc, append-nil}
use mathlib.Core.Bool.{true≢false}
use Rattle.std.specs.Prelude.{◌/◌, ◌==◌, nat_le, if◌then◌else◌}
use Rattle.std.specs.Option.{option_map}
use Rattle.std.specs.Str.{bytes_eq}
use Rattle.std.proofs.lemmas.Slice.Eq.{bytes_eq-Decides}
use Rattle.auth_events.specs.Login.{is_full, is_ok, login_then}
use Rattle.auth_events.specs.declared.denial.Denial.{Denial}
use Rattle.auth_events.specs.declared.denial.Denial.TheVariants.{NotIn}
use Rattle.auth_events.specs.declared.reply.Reply.{Reply}
use Rattle.auth_events.specs.declared.reply.Reply.TheVariants as replies
use Rattle.auth_events.specs.declared.request.OpService.TheVariants as services
use Rattle.auth_events.specs.declared.request.Request.{Request}
use Rattle.auth_events.specs.declared.request.Request.TheVariants as requests
use Rattle.fw_acts.specs.Acts.{Row, PlaceTable}
use Rattle.fw_acts.specs.Acts.Row.{Do, At, Over}
use Rattle.fw_acts.specs.Histories.{Keeps, Leaves, Watch}
use Rattle.fw_types.specs.declared.dest.Dest.{Dest}
use Rattle.md5.specs.Md5.{md5}
use Rattle.otp_md5.specs.Hexadecimal.{read_of}
use Rattle.session_acts.specs.Acts.{Act, Outcome}
use Rattle.session_acts.specs.Acts.Act.{Ask, Copy, Dial, HangUp, Hear, Join, Log, OpenDoor, Part, Pass, Say, TakeReply}
use Rattle.session_acts.specs.Client.{line_logged}
use Rattle.session_acts.specs.Deeds.{Deed}
use Rattle.session_acts.specs.Met.{acts}
use Rattle.session_acts.specs.declared.target.Target.{Target}
use Rattle.session_acts.specs.declared.target.Target.TheVariants.{Addr, AtDoor}
use Rattle.ftp_gate.specs.Dialogue as rows
use Rattle.ftp_gate.specs.Dialogue.{heard_form, is_in, reason_of, with_account}
use Rattle.ftp_gate.specs.Gate.{Gate, asks_login, has_verb}
use Rattle.ftp_gate.specs.Kind.{kind_of}
use Rattle.ftp_gate.specs.Known.{Known, begins, dests_in, passage_in, saying, with_deed}
use Rattle.ftp_gate.specs.Laws.{HasCause, IsAskedOf, IsCleared, IsClosed, IsCutShort, IsDueReply, IsFailure, IsLoggedFirst, IsNoName, IsOwnCopy, IsOwnDoor, IsOwnPair, IsOwnTarget, IsPassable, IsUnblocked, asked_so}
use Rattle.ftp_gate.specs.LogLines.{blocked_line, command_line, connect_line, fail_line, login_line, refuse_line}
use Rattle.ftp_gate.specs.Order.{Order}
use Rattle.ftp_gate.specs.Passage.{Standing, asked_by, passed_as}
use Rattle.ftp_gate.specs.Texts as texts
use Rattle.ftp_gate.specs.declared.kind.Kind.{Kind}
use Rattle.ftp_gate.specs.declared.kind.Kind.TheVariants as kinds
use Rattle.ftp_gate.specs.declared.place.Account.{Account}
use Rattle.ftp_gate.specs.declared.place.Account.TheVariants.{Unopened, Opened}
use Rattle.ftp_gate.specs.declared.place.Place.{Place}
use Rattle.ftp_gate.specs.declared.place.Place.TheVariants.{Listening, Answering, Dropping}
use Rattle.ftp_gate.specs.declared.place.State.{State}
use Rattle.ftp_gate.proofs.AccountLemmas.{Noted, at_first, deed_of, named_login, note}

pub clash : {A : Type 0} → false ≡ true → A
clash is = absurd (true≢false (sym is))

-- ---- the watch

-- what was passed and asked for is a front of what was to be
pub record Behind (gate : Gate) (n : Noted) : Type 0 where
  pub rest : List ℕ
  pub is : passage_in gate n.k ≡ n.passed ++ rest
  pub more : List Dest
  pub asks : dests_in gate n.k ≡ n.calls ++ more

-- and here it is all of it
pub record Even (gate : Gate) (n : Noted) : Type 0 where
  pub is : passage_in gate n.k ≡ n.passed
  pub asks : dests_in gate n.k ≡ n.calls

-- all that is to be passed of a command is this text
pub record Due (gate : Gate) (text : List ℕ) (n : Noted) : Type 0 where
  pub is : passage_in gate n.k ≡ n.passed ++ text
  pub asks : dests_in gate n.k ≡ n.calls

abbrev pub May : Gate → Noted → Act → Type 0
May gate n (Hear form) = (form ≡ heard_form) × Behind gate n
May gate n (Say text) = (IsLoggedFirst gate text n.k × HasCause text n.k.since) × Behind gate n
May gate n (Log text) = Behind gate n
May gate n (Ask request) = IsAskedOf gate request n.k × Behind gate n
May gate n (Dial dest) = IsCleared gate dest n.k × Behind gate n
May gate n (Pass text) = IsPassable gate n.k × Due gate text n
May gate n (TakeReply how) = IsDueReply how n.k.since × Behind gate n
May gate n OpenDoor = IsOwnDoor gate n.k × Behind gate n
May gate n (Join dest target) = IsOwnPair gate dest target n.k × Behind gate n
May gate n (Copy toward) = IsOwnCopy gate toward n.k × Behind gate n
May gate n Part = Behind gate n
May gate n HangUp = Behind gate n
May gate n act = ⊥

-- the setting is the client's own
abbrev pub IsOwnSetting : Gate → Option Target → Type 0
IsOwnSetting gate None = Unit {0}
IsOwnSetting gate (Some target) = IsOwnTarget gate.peer target

abbrev pub IsUser : Account → Option (List ℕ) → Type 0
IsUser Unopened user = Unit {0}
IsUser (Opened name logged_in) user = user ≡ Some name

-- what a place knows is so
pub record Knows (gate : Gate) (state : State) (k : Known) : Type 0 where
  pub login : k.login ≡ is_in state.account
  pub user : IsUser state.account k.user
  pub link : k.link ≡ state.dest
  pub up : k.dialed ≡ state.dest
  pub setting : k.setting ≡ state.setting
  pub own : IsOwnSetting gate state.setting

abbrev pub state_of : Place → State
state_of (Listening state) = state
state_of (Answering state quits) = state
state_of (Dropping state) = state

abbrev pub Holds : Gate → Noted → State → Type 0
Holds gate n state = Knows gate state n.k × Even gate n

abbrev pub HoldsAt : Gate → Noted → Place → Type 0
HoldsAt gate n (Listening state) = Holds gate n state
HoldsAt gate n (Answering state quits) = Holds gate n state
HoldsAt gate n (Dropping state) = Holds gate n state × IsCutShort n.k.since

abbrev pub ftp_watch : (Origin : Type 0) → Gate → Watch (acts Origin) Place
ftp_watch Origin gate = record {
  Noted = Noted;
  note = λ n act answer. note gate n act (Ok answer);
  may = λ n act. May gate n act;
  holds = λ n place. HoldsAt gate n place;
  over = λ n. Even gate n;
}

-- ---- small facts

pub behind : (gate : Gate) (n : Noted) → Even gate n → Behind gate n
behind gate n even = record { rest = []; is = even.is ∙ sym (append-nil n.passed); more = []; asks = even.asks ∙ sym (append-nil n.calls) }

-- words that are no denial
pub record IsPlain (text : List ℕ) : Type 0 where
  pub other : begins text texts.port_ok ≡ false
  pub verb : begins text (codes "500 Denied") ≡ false
  pub login : begins text (codes "530 Log in") ≡ false
  pub dest : begins text (codes "530 Denied") ≡ false
  pub failed : begins text (codes "530 Login") ≡ false

pub plain_first : (gate : Gate) (text : List ℕ) (k : Known) → IsPlain text → IsLoggedFirst gate text k
plain_first gate text k plain = record {
  verb = λ is. clash (sym plain.verb ∙ is);
  login = λ is. clash (sym plain.login ∙ is);
  dest = λ is. clash (sym plain.dest ∙ is);
  failed = λ is. clash (sym plain.failed ∙ is);
}

-- words that say of nothing that it failed
pub calm : {text : List ℕ} {since : List Deed} → begins text (codes "425 No route") ≡ false → begins text (codes "425 No door") ≡ false → begins text (codes "425 No data") ≡ false → begins text (codes "425 Server") ≡ false
    → begins text (codes "421") ≡ false → begins text (codes "426") ≡ false → HasCause text since
calm route door pair port closed early = record {
  route = λ is. clash (sym route ∙ is);
  door = λ is. clash (sym door ∙ is);
  pair = λ is. clash (sym pair ∙ is);
  port = λ is. clash (sym port ∙ is);
  closed = λ is. clash (sym closed ∙ is);
  early = λ is. clash (sym early ∙ is);
}

-- ---- rows of any line

module _ (Origin : Type 0) (gate : Gate) where
  abbrev watch : Watch (acts Origin) Place
  watch = ftp_watch Origin gate

  -- what is said with a text that isn't that of PORT changes nothing
  abbrev said : Noted → List ℕ → Bool → Noted
  said n text b = record { k = with_deed (deed_of (Say text) (Ok tt)) n.k.since (saying gate b n.k); passed = n.passed ++ []; calls = n.calls ++ [] }

  said_even : (n : Noted) (text : List ℕ) → begins text texts.port_ok ≡ false → Even gate n → Even gate (note gate n (Say text) (Ok tt))
  said_even n text other even =
      subst (λ (b : Bool). Even gate (said n text b)) (sym other) (record { is = even.is ∙ sym (append-nil n.passed); asks = even.asks ∙ sym (append-nil n.calls) })

  said_knows : (n : Noted) (text : List ℕ) (state : State) → begins text texts.port_ok ≡ false → Knows gate state n.k → Knows gate state (note gate n (Say text) (Ok tt)).k
  said_knows n text state other knows =
      subst (λ (b : Bool). Knows gate state (said n text b).k) (sym other) (record { login = knows.login; user = knows.user; link = knows.link; up = knows.up; setting = knows.setting; own = knows.own })

  pub say_leaves : (n : Noted) (words : List ℕ) (state : State) → begins words texts.port_ok ≡ false → IsLoggedFirst gate words n.k → HasCause words n.k.since → Holds gate n state → Leaves watch (rows.tell_row words state) n
  say_leaves n words state other first cause holds =
      (((first, cause), behind gate n holds.1), λ done. (said_knows n words state other holds.0, said_even n words other holds.1))

  pub tell_leaves : (n : Noted) (words : List ℕ) (state : State) → IsPlain words → HasCause words n.k.since → Holds gate n state → Leaves watch (rows.tell_row words state) n
  tell_leaves n words state plain cause holds = say_leaves n words state plain.other (plain_first gate words n.k plain) cause holds

  -- behind the server's end
  pub closed_leaves : (n : Noted) → IsClosed n.k.since → Even gate n → Leaves watch rows.closed_row n
  closed_leaves n closed even =
      let plain : IsPlain texts.server_closed = record { other = refl; verb = refl; login = refl; dest = refl; failed = refl } in
      let cause : HasCause texts.server_closed n.k.since = record { route = λ is. clash is; door = λ is. clash is; pair = λ is. clash is; port = λ is. clash is; closed = λ is. closed; early = λ is. clash is } in
      (((plain_first gate texts.server_closed n.k plain, cause), behind gate n even), λ done. said_even n texts.server_closed refl even)

  pub logged_even : (n : Noted) (line : List ℕ) → Even gate n → Even gate (note gate n (Log line) (Ok tt))
  logged_even n line even = record { is = even.is ∙ sym (append-nil n.passed); asks = even.asks ∙ sym (append-nil n.calls) }

  pub logged_knows : (n : Noted) (line : List ℕ) (state : State) → Knows gate state n.k → Knows gate state (note gate n (Log line) (Ok tt)).k
  logged_knows n line state knows = record { login = knows.login; user = knows.user; link = knows.link; up = knows.up; setting = knows.setting; own = knows.own }

  pub logged_holds : (n : Noted) (line : List ℕ) (state : State) → Holds gate n state → Holds gate (note gate n (Log line) (Ok tt)) state
  logged_holds n line state holds = (logged_knows n line state holds.0, logged_even n line holds.1)
