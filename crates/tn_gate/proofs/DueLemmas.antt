-- What the rows log: right behind each deed the line that is due, which is told or dialed next.
use Rattle.std.proofs.Common.{◌≡◌, refl, sym, ap, subst, ◌∙◌, ℕ, Bool, true, false, not, ◌&&◌, ◌||◌, List, [], ◌∷◌, ◌++◌, Option, Some, None, Result, Ok, Err, ◌⊎◌, inl, inr, codes, append_assoc, append-nil}
use mathlib.Core.Bool.{true≢false}
use Rattle.std.specs.Prelude.{unwrap_or, if◌then◌else◌}
use Rattle.std.specs.Option.{option_map}
use Rattle.std.proofs.lemmas.List.Elements.{filter_map-append}
use Rattle.auth_events.specs.Login.{ends_login, gives_login, is_ok, login_in, login_then}
use Rattle.auth_events.proofs.LoginLemmas.{then_stands}
use Rattle.auth_events.specs.declared.denial.Denial.{Denial}
use Rattle.auth_events.specs.declared.reply.Reply.{Reply}
use Rattle.auth_events.specs.declared.reply.Reply.TheVariants as replies
use Rattle.auth_events.specs.declared.request.OpService.TheVariants as services
use Rattle.auth_events.specs.declared.request.Request.{Request}
use Rattle.auth_events.specs.declared.request.Request.TheVariants as requests
use Rattle.fw_acts.specs.Acts.{PlaceTable}
use Rattle.fw_acts.specs.Acts.Row.{Do, At, Over}
use Rattle.fw_acts.specs.Histories.{Keeps, Leaves, Watch}
use Rattle.fw_outside.specs.declared.heard.Heard.{Heard}
use Rattle.fw_outside.specs.declared.heard.Heard.TheVariants.{Line, TooLong, Stopped}
use Rattle.fw_types.specs.Name.{name_of}
use Rattle.fw_types.specs.declared.dest.Dest.{Dest}
use Rattle.gate_rules.specs.Verdict.{allows}
use Rattle.md5.specs.Md5.{md5}
use Rattle.otp_md5.specs.Challenge.{challenge}
use Rattle.otp_md5.specs.Hexadecimal.{read_of}
use Rattle.session_acts.specs.Acts.{Act, Front, Outcome}
use Rattle.session_acts.specs.Acts.Act.{Hear, Say, Log, Ask, Dial}
use Rattle.session_acts.specs.Client.{line_logged}
use Rattle.session_acts.specs.Deeds.{Deed, gives}
use Rattle.session_acts.specs.Met.{acts}
use Rattle.session_acts.specs.Talk.{answered, asked, replied}
use Rattle.session_acts.proofs.CourseLemmas.{asked_both}
use Rattle.tn_gate.specs.Asked.{asks_back, dest_of, line_dest}
use Rattle.tn_gate.specs.Command.{command_of}
use Rattle.tn_gate.specs.Dialogue.{answered_row, answering_row, ask_command, ask_name, authenticate_row, command_row, commanding_row, connect_row, dest_row, dialed_row, failed_row, first_by, heard_form, name_row, named_row, naming_row, opened_row, operated_row, permitted_row, reason_of, refuse_row, refusing_line, respond_row, response_row, tn_row, tn_rows}
use Rattle.tn_gate.specs.Due.{asks_from, asks_last, due, due_answered, due_heard, due_permitted, due_wanted, fails, heard_from, heard_last, heard_or, line_toward, named_from, named_last, named_or, takes_commands, text_of, user_asking, writes}
use Rattle.tn_gate.specs.Gate.{Gate, asks_login}
use Rattle.tn_gate.specs.Laws.{IsDisallowed, IsFailure, IsLoggedFirst, IsNoName, IsUnpermitted, IsWanted, asked_so, begins}
use Rattle.tn_gate.specs.LogLines.{connect_line, fail_line, login_line, refuse_line}
use Rattle.tn_gate.specs.Texts.{challenge_asked, command_prompt, connected, goodbye, help, login_denied, name_prompt, no_route, password_asked, password_ended, refusal, unknown_command}
use Rattle.tn_gate.specs.declared.command.Command.{Command}
use Rattle.tn_gate.specs.declared.command.Command.TheVariants.{Nothing, Connect, Quit, Help, Unknown}
use Rattle.tn_gate.specs.declared.place.Place.{Place}
use Rattle.tn_gate.specs.declared.place.Place.TheVariants.{Naming, Answering, Commanding}
use Rattle.tn_gate.proofs.AccountLemmas.{Talk, deed_of}

pub clash : {A : Type 0} → false ≡ true → A
clash is = absurd (true≢false (sym is))

-- ---- the watch

abbrev pub logging : Option (List ℕ) → Option Act
logging line = option_map Log line

-- all deeds, the line that is due behind the last of them, and the line that this logged whole
pub record Trail : Type 0 where
  pub deeds : List Deed
  pub due : Option (List ℕ)
  pub line : Option (List ℕ)

abbrev pub if_whole : {text : List ℕ} → Result (Unit {0}) (Front text) → Option (List ℕ)
if_whole {text} (Ok done) = Some text
if_whole (Err front) = None

abbrev pub whole_line : (act : Act) → Outcome act → Option (List ℕ)
whole_line (Log line) outcome = if_whole outcome
whole_line act outcome = None

-- these deeds, and then this one
abbrev pub behind : Gate → List Deed → (act : Act) → Outcome act → Trail
behind gate deeds act outcome = record { deeds = deeds ++ deed_of act outcome ∷ []; due = due gate deeds act outcome; line = whole_line act outcome }

-- behind a connect line comes its dial
abbrev pub DialsNext : Gate → Option (List ℕ) → Act → Type 0
DialsNext gate None act = Unit {0}
DialsNext gate (Some line) act = begins line (codes "connect ") ≡ true → (dest : Dest) × (line ≡ connect_line gate dest) × (act ≡ Dial dest)

abbrev pub Tells : Gate → List Deed → Act → Type 0
Tells gate deeds (Say text) = IsLoggedFirst gate text deeds
Tells gate deeds act = Unit {0}

pub record May (gate : Gate) (t : Trail) (act : Act) : Type 0 where
  pub due : writes act ≡ logging t.due
  pub dials : DialsNext gate t.line act
  pub tells : Tells gate t.deeds act

abbrev pub NoDial : Option (List ℕ) → Type 0
NoDial None = Unit {0}
NoDial (Some line) = begins line (codes "connect ") ≡ false

-- no line is due, and no dial
pub record IsFree (t : Trail) : Type 0 where
  pub due : t.due ≡ None
  pub line : NoDial t.line

abbrev talk : List Deed → Talk
talk deeds = answered (gives asked deeds)

abbrev StateAt : Gate → Place → List Deed → Type 0
StateAt gate (Naming open_) deeds = (takes_commands gate deeds ≡ false) × (asks_last (talk deeds) ≡ false)
StateAt gate (Answering name hidden) deeds = (takes_commands gate deeds ≡ false) × (named_last deeds ≡ name)
StateAt gate Commanding deeds = takes_commands gate deeds ≡ true

pub record WaitsAt (gate : Gate) (t : Trail) (place : Place) : Type 0 where
  pub free : IsFree t
  pub state : StateAt gate place t.deeds

abbrev pub due_watch : (Origin : Type 0) → Gate → Watch (acts Origin) Place
due_watch Origin gate = record {
  Noted = Trail;
  note = λ t act answer. behind gate t.deeds act (Ok answer);
  may = λ t act. May gate t act;
  holds = λ t place. WaitsAt gate t place;
  over = λ t. IsFree t;
}

pub no_dial : (gate : Gate) (line : Option (List ℕ)) (act : Act) → NoDial line → DialsNext gate line act
no_dial gate None act free = tt
no_dial gate (Some line) act free = λ is. clash (sym free ∙ is)

pub may_free : (gate : Gate) (t : Trail) (act : Act) → IsFree t → writes act ≡ None → Tells gate t.deeds act → May gate t act
may_free gate t act free none tells = record { due = none ∙ ap logging (sym free.due); dials = no_dial gate t.line act free.line; tells = tells }

-- ---- one deed more

heard_both : (text : List ℕ) (first more : List Deed) → heard_from text (first ++ more) ≡ heard_from (heard_from text first) more
heard_both text [] more = refl
heard_both text (deed ∷ first) more = heard_both (heard_or text deed.act deed.outcome) first more

named_both : (name : List ℕ) (first more : List Deed) → named_from name (first ++ more) ≡ named_from (named_from name first) more
named_both name [] more = refl
named_both name (deed ∷ first) more = named_both (named_or name deed.act deed.outcome) first more

heard_more : (deeds : List Deed) (deed : Deed) → heard_last (deeds ++ deed ∷ []) ≡ heard_or (heard_last deeds) deed.act deed.outcome
heard_more deeds deed = heard_both [] deeds (deed ∷ [])

named_more : (deeds : List Deed) (deed : Deed) → named_last (deeds ++ deed ∷ []) ≡ named_or (named_last deeds) deed.act deed.outcome
named_more deeds deed = named_both [] deeds (deed ∷ [])

talk_more : (deeds : List Deed) (deed : Deed) → talk (deeds ++ deed ∷ []) ≡ talk deeds ++ talk (deed ∷ [])
talk_more deeds deed =
    ap answered (asked_both deeds (deed ∷ [])) ∙ filter_map-append (λ (ask : Request × Option Reply). replied ask.0 ask.1) (gives asked deeds) (gives asked (deed ∷ []))

-- nothing was asked
talk_quiet : (deeds : List Deed) (deed : Deed) → talk (deed ∷ []) ≡ [] → talk (deeds ++ deed ∷ []) ≡ talk deeds
talk_quiet deeds deed none = talk_more deeds deed ∙ ap (λ (z : Talk). talk deeds ++ z) none ∙ append-nil (talk deeds)

asks_more : (asks : Bool) (said : Talk) (one : Request × Reply) → asks_from asks (said ++ one ∷ []) ≡ asks_back one
asks_more asks [] one = refl
asks_more asks (first ∷ said) one = asks_more (asks_back first) said one

none_yet : (free stood lasts gives : Bool) → gives ≡ false → (free || stood) ≡ false → (free || (gives || (stood && lasts))) ≡ false
none_yet true stood lasts gives none is = absurd (true≢false is)
none_yet false true lasts gives none is = absurd (true≢false is)
none_yet false false lasts gives none is = ap (λ (b : Bool). b || false) none

pub at_last : (free : Bool) → (free || true) ≡ true
at_last true = refl
at_last false = refl

pub still_so : (free stood : Bool) → (free || stood) ≡ true → (free || (stood && true)) ≡ true
still_so true stood is = refl
still_so false true is = refl
still_so false false is = absurd (true≢false (sym is))

module _ (gate : Gate) where
  abbrev free_of : Bool
  free_of = not (asks_login gate.options)

  commands_quiet : (deeds : List Deed) (deed : Deed) (b : Bool) → talk (deed ∷ []) ≡ [] → takes_commands gate deeds ≡ b → takes_commands gate (deeds ++ deed ∷ []) ≡ b
  commands_quiet deeds deed b none is = ap (λ (z : Talk). free_of || login_in z) (talk_quiet deeds deed none) ∙ is

  commands_then : (deeds : List Deed) (request : Request) (reply : Reply) → takes_commands gate (deeds ++ asked_so request reply ∷ []) ≡ (free_of || login_then (login_in (talk deeds)) (request, reply))
  commands_then deeds request reply =
      ap (λ (z : Talk). free_of || login_in z) (talk_more deeds (asked_so request reply)) ∙ ap (λ (b : Bool). free_of || b) (then_stands (talk deeds) (request, reply))

  commands_ask : (deeds : List Deed) (request : Request) (reply : Reply) → gives_login (request, reply) ≡ false → takes_commands gate deeds ≡ false → takes_commands gate (deeds ++ asked_so request reply ∷ []) ≡ false
  commands_ask deeds request reply none is = commands_then deeds request reply ∙ none_yet free_of (login_in (talk deeds)) (not (ends_login (request, reply))) (gives_login (request, reply)) none is

  commands_right : (deeds : List Deed) (text : List ℕ) → takes_commands gate (deeds ++ asked_so (requests.Response (md5 text) (read_of text)) replies.Ok ∷ []) ≡ true
  commands_right deeds text = commands_then deeds (requests.Response (md5 text) (read_of text)) replies.Ok ∙ at_last free_of

  commands_still : (deeds : List Deed) (dest : Dest) (reply : Reply) → takes_commands gate deeds ≡ true → takes_commands gate (deeds ++ asked_so (requests.Operation services.Telnet dest.host) reply ∷ []) ≡ true
  commands_still deeds dest reply is = commands_then deeds (requests.Operation services.Telnet dest.host) reply ∙ still_so free_of (login_in (talk deeds)) is

  asks_quiet : (deeds : List Deed) (deed : Deed) → talk (deed ∷ []) ≡ [] → asks_last (talk deeds) ≡ false → asks_last (talk (deeds ++ deed ∷ [])) ≡ false
  asks_quiet deeds deed none is = ap asks_last (talk_quiet deeds deed none) ∙ is

  asks_then : (deeds : List Deed) (request : Request) (reply : Reply) → asks_back (request, reply) ≡ false → asks_last (talk (deeds ++ asked_so request reply ∷ [])) ≡ false
  asks_then deeds request reply none = ap asks_last (talk_more deeds (asked_so request reply)) ∙ asks_more false (talk deeds) (request, reply) ∙ none

-- ---- texts

plain : (gate : Gate) (text : List ℕ) (deeds : List Deed) → begins text (codes "Denied") ≡ false → begins text (codes "Login denied") ≡ false → IsLoggedFirst gate text deeds
plain gate text deeds refused failed = record { refused = λ is. clash (sym refused ∙ is); failed = λ is. clash (sym failed ∙ is) }

challenge_plain : (gate : Gate) (number : ℕ) (word_seed : List ℕ) (deeds : List Deed) → IsLoggedFirst gate (challenge_asked number word_seed) deeds
unfolding challenge
challenge_plain gate number word_seed deeds = plain gate (challenge_asked number word_seed) deeds refl refl

-- ---- the rows

abbrev hear : Heard → Deed
hear heard = deed_of (Hear heard_form) (Ok heard)

module _ (Origin : Type 0) (gate : Gate) where
  abbrev watch : Watch (acts Origin) Place
  watch = due_watch Origin gate

  ask_name_leaves : (t : Trail) (words : List ℕ) (open_ : Bool) → IsFree t → takes_commands gate t.deeds ≡ false → asks_last (talk t.deeds) ≡ false → IsLoggedFirst gate (words ++ name_prompt) t.deeds → Leaves watch (ask_name words open_) t
  ask_name_leaves t words open_ free login asks logged = (
    may_free gate t (Say (words ++ name_prompt)) free refl logged,
    λ done. record {
      free = record { due = refl; line = tt };
      state = (commands_quiet gate t.deeds (deed_of (Say (words ++ name_prompt)) (Ok done)) false refl login, asks_quiet gate t.deeds (deed_of (Say (words ++ name_prompt)) (Ok done)) refl asks);
    },
  )

  ask_command_leaves : (t : Trail) (words : List ℕ) → IsFree t → takes_commands gate t.deeds ≡ true → IsLoggedFirst gate (words ++ command_prompt) t.deeds → Leaves watch (ask_command words) t
  ask_command_leaves t words free login logged = (
    may_free gate t (Say (words ++ command_prompt)) free refl logged,
    λ done. record { free = record { due = refl; line = tt }; state = commands_quiet gate t.deeds (deed_of (Say (words ++ command_prompt)) (Ok done)) true refl login },
  )

  -- ---- the login

  failed_leaves : (t : Trail) (name : List ℕ) (denial : Denial) (open_ : Bool) → t.due ≡ Some (fail_line gate name denial) → NoDial t.line → takes_commands gate t.deeds ≡ false → asks_last (talk t.deeds) ≡ false
      → IsFailure gate (t.deeds ++ line_logged (fail_line gate name denial) ∷ []) → Leaves watch (failed_row gate name denial open_) t
  failed_leaves t name denial open_ due line login asks failure =
      let words = fail_line gate name denial in (
        record { due = ap logging (sym due); dials = no_dial gate t.line (Log words) line; tells = tt },
        λ logged. ask_name_leaves (behind gate t.deeds (Log words) (Ok logged)) login_denied open_ (record { due = refl; line = refl }) (commands_quiet gate t.deeds (line_logged words) false refl login)
            (asks_quiet gate t.deeds (line_logged words) refl asks) (record { refused = λ is. clash is; failed = λ is. inl failure }),
      )

  failing : (deeds : List Deed) (request : Request) (reply : Reply) (name : List ℕ) (open_ : Bool) → user_asking deeds request ≡ name → due_answered gate deeds request reply ≡ Some (fail_line gate (user_asking deeds request) (reason_of reply))
      → fails request reply ≡ true → gives_login (request, reply) ≡ false → asks_back (request, reply) ≡ false → takes_commands gate deeds ≡ false → Leaves watch (failed_row gate name (reason_of reply) open_) (behind gate deeds (Ask request) (Ok reply))
  failing deeds request reply name open_ who due failed gives_none back login =
      failed_leaves (behind gate deeds (Ask request) (Ok reply)) name (reason_of reply) open_ (due ∙ ap (λ (n : List ℕ). Some (fail_line gate n (reason_of reply))) who) tt (commands_ask gate deeds request reply gives_none login)
      (asks_then gate deeds request reply back)
      (record {
        request = request;
        reply = reply;
        failed = failed;
        earlier = deeds;
        logged =
            append_assoc deeds (asked_so request reply ∷ []) (line_logged (fail_line gate name (reason_of reply)) ∷ [])
            ∙ ap (λ (n : List ℕ). deeds ++ asked_so request reply ∷ line_logged (fail_line gate n (reason_of reply)) ∷ []) (sym who);
      })

  -- the user was named, and is asked for a response
  asked_leaves : (deeds : List Deed) (name text : List ℕ) (reply : Reply) (hidden : Bool) → due_answered gate deeds (requests.Authenticate name) reply ≡ None → takes_commands gate deeds ≡ false
      → IsLoggedFirst gate text (deeds ++ asked_so (requests.Authenticate name) reply ∷ []) → Leaves watch (Do (Say text) (λ done. At (Answering name hidden))) (behind gate deeds (Ask (requests.Authenticate name)) (Ok reply))
  asked_leaves deeds name text reply hidden none login logged =
      let past = deeds ++ asked_so (requests.Authenticate name) reply ∷ [] in (
        may_free gate (behind gate deeds (Ask (requests.Authenticate name)) (Ok reply)) (Say text) (record { due = none; line = tt }) refl logged,
        λ done. record {
          free = record { due = refl; line = tt };
          state = (commands_quiet gate past (deed_of (Say text) (Ok done)) false refl (commands_ask gate deeds (requests.Authenticate name) reply refl login), named_more past (deed_of (Say text) (Ok done)) ∙ named_more deeds (asked_so (requests.Authenticate name) reply));
        },
      )

  named_leaves : (deeds : List Deed) (name : List ℕ) (reply : Reply) → takes_commands gate deeds ≡ false → Leaves watch (named_row gate name reply) (behind gate deeds (Ask (requests.Authenticate name)) (Ok reply))
  named_leaves deeds name replies.Password login =
      asked_leaves deeds name password_asked replies.Password true refl login (plain gate password_asked (deeds ++ asked_so (requests.Authenticate name) replies.Password ∷ []) refl refl)
  named_leaves deeds name (replies.Challenge number word_seed) login =
      asked_leaves deeds name (challenge_asked number word_seed) (replies.Challenge number word_seed) false refl login (challenge_plain gate number word_seed (deeds ++ asked_so (requests.Authenticate name) (replies.Challenge number word_seed) ∷ []))
  named_leaves deeds name (replies.Denied denial) login = failing deeds (requests.Authenticate name) (replies.Denied denial) name true refl refl refl refl refl login
  named_leaves deeds name (replies.Opened sid) login = failing deeds (requests.Authenticate name) (replies.Opened sid) name true refl refl refl refl refl login
  named_leaves deeds name replies.Ok login = failing deeds (requests.Authenticate name) replies.Ok name true refl refl refl refl refl login
  named_leaves deeds name (replies.Shown summary) login = failing deeds (requests.Authenticate name) (replies.Shown summary) name true refl refl refl refl refl login

  authenticate_leaves : (t : Trail) (name : List ℕ) → IsFree t → takes_commands gate t.deeds ≡ false → Leaves watch (authenticate_row gate name) t
  authenticate_leaves t name free login = (may_free gate t (Ask (requests.Authenticate name)) free refl tt, λ reply. named_leaves t.deeds name reply login)

  module _ (deeds : List Deed) (name : List ℕ) (heard : unwrap_or (name_of (heard_last deeds)) [] ≡ name) (login : takes_commands gate deeds ≡ false) where
    opened_leaves : (reply : Reply) → Leaves watch (opened_row gate name reply) (behind gate deeds (Ask (requests.Open false)) (Ok reply))
    opened_leaves (replies.Opened sid) =
        authenticate_leaves (behind gate deeds (Ask (requests.Open false)) (Ok (replies.Opened sid))) name (record { due = refl; line = tt }) (commands_ask gate deeds (requests.Open false) (replies.Opened sid) refl login)
    opened_leaves (replies.Denied denial) = failing deeds (requests.Open false) (replies.Denied denial) name false heard refl refl refl refl login
    opened_leaves replies.Password = failing deeds (requests.Open false) replies.Password name false heard refl refl refl refl login
    opened_leaves (replies.Challenge number word_seed) = failing deeds (requests.Open false) (replies.Challenge number word_seed) name false heard refl refl refl refl login
    opened_leaves replies.Ok = failing deeds (requests.Open false) replies.Ok name false heard refl refl refl refl login
    opened_leaves (replies.Shown summary) = failing deeds (requests.Open false) (replies.Shown summary) name false heard refl refl refl refl login

  name_leaves : (t : Trail) (open_ : Bool) (name : List ℕ) → IsFree t → unwrap_or (name_of (heard_last t.deeds)) [] ≡ name → takes_commands gate t.deeds ≡ false → Leaves watch (name_row gate open_ (Some name)) t
  name_leaves t true name free heard login = authenticate_leaves t name free login
  name_leaves t false name free heard login = (may_free gate t (Ask (requests.Open false)) free refl tt, λ reply. opened_leaves t.deeds name heard login reply)

  -- ---- the response

  module _ (deeds : List Deed) (name text : List ℕ) (login : takes_commands gate deeds ≡ false) (user : named_last deeds ≡ name) where
    abbrev response : Request
    response = requests.Response (md5 text) (read_of text)

    answered_leaves : (reply : Reply) → Leaves watch (answered_row gate name reply) (behind gate deeds (Ask response) (Ok reply))
    answered_leaves replies.Ok =
        let past = deeds ++ asked_so response replies.Ok ∷ [] in (
          record { due = ap (λ (n : List ℕ). logging (Some (login_line gate n))) (sym user); dials = tt; tells = tt },
          λ logged. ask_command_leaves (behind gate past (Log (login_line gate name)) (Ok logged)) [] (record { due = refl; line = refl }) (commands_quiet gate past (line_logged (login_line gate name)) true refl (commands_right gate deeds text))
              (plain gate command_prompt (past ++ line_logged (login_line gate name) ∷ []) refl refl),
        )
    answered_leaves (replies.Denied denial) = failing deeds response (replies.Denied denial) name true user refl refl refl refl login
    answered_leaves (replies.Opened sid) = failing deeds response (replies.Opened sid) name true user refl refl refl refl login
    answered_leaves replies.Password = failing deeds response replies.Password name true user refl refl refl refl login
    answered_leaves (replies.Challenge number word_seed) = failing deeds response (replies.Challenge number word_seed) name true user refl refl refl refl login
    answered_leaves (replies.Shown summary) = failing deeds response (replies.Shown summary) name true user refl refl refl refl login

  respond_leaves : (t : Trail) (name text : List ℕ) → IsFree t → takes_commands gate t.deeds ≡ false → named_last t.deeds ≡ name → Leaves watch (respond_row gate name text) t
  respond_leaves t name text free login user =
      (may_free gate t (Ask (requests.Response (md5 text) (read_of text))) free refl tt, λ reply. answered_leaves t.deeds name text login user reply)

  response_leaves : (t : Trail) (name : List ℕ) (hidden : Bool) (text : List ℕ) → IsFree t → takes_commands gate t.deeds ≡ false → named_last t.deeds ≡ name → Leaves watch (response_row gate name hidden text) t
  response_leaves t name true text free login user = (
    may_free gate t (Say password_ended) free refl (plain gate password_ended t.deeds refl refl),
    λ done. respond_leaves (behind gate t.deeds (Say password_ended) (Ok done)) name text (record { due = refl; line = tt }) (commands_quiet gate t.deeds (deed_of (Say password_ended) (Ok done)) false refl login)
        (named_more t.deeds (deed_of (Say password_ended) (Ok done)) ∙ user),
  )
  response_leaves t name false text free login user = respond_leaves t name text free login user

  -- ---- destinations

  module _ (t : Trail) (dest : Dest) (line : NoDial t.line) (login : takes_commands gate t.deeds ≡ true) where
    refuse_leaves : (number : ℕ) → t.due ≡ Some (refuse_line gate dest number) → IsDisallowed gate dest number t.deeds ⊎ IsUnpermitted gate dest number t.deeds → Leaves watch (refuse_row gate dest number) t
    refuse_leaves number due cause =
        let words = refuse_line gate dest number in (
          record { due = ap logging (sym due); dials = no_dial gate t.line (Log words) line; tells = tt },
          λ logged. ask_command_leaves (behind gate t.deeds (Log words) (Ok logged)) (refusal number) (record { due = refl; line = refl }) (commands_quiet gate t.deeds (line_logged words) true refl login)
              (record { refused = λ is. record { dest = dest; line = number; is = refl; earlier = t.deeds; logged = refl; cause = cause }; failed = λ is. clash is }),
        )

    dialed_leaves : (deeds : List Deed) (up : Bool) → takes_commands gate deeds ≡ true → Leaves watch (dialed_row up) (behind gate deeds (Dial dest) (Ok up))
    dialed_leaves deeds true stands =
        (may_free gate (behind gate deeds (Dial dest) (Ok true)) (Say connected) (record { due = refl; line = tt }) refl (plain gate connected (deeds ++ deed_of (Dial dest) (Ok true) ∷ []) refl refl), λ done. record { due = refl; line = tt })
    dialed_leaves deeds false stands =
        ask_command_leaves (behind gate deeds (Dial dest) (Ok false)) no_route (record { due = refl; line = tt }) (commands_quiet gate deeds (deed_of (Dial dest) (Ok false)) true refl stands)
        (plain gate (no_route ++ command_prompt) (deeds ++ deed_of (Dial dest) (Ok false) ∷ []) refl refl)

    connect_leaves : t.due ≡ Some (connect_line gate dest) → Leaves watch (connect_row gate dest) t
    connect_leaves due =
        let words = connect_line gate dest in (
          record { due = ap logging (sym due); dials = no_dial gate t.line (Log words) line; tells = tt },
          λ logged. (
            record { due = refl; dials = λ is. (dest, refl, refl); tells = tt },
            λ up. dialed_leaves (t.deeds ++ line_logged words ∷ []) up (commands_quiet gate t.deeds (line_logged words) true refl login),
          ),
        )

  -- behind a line that is a command
  module _ (deeds : List Deed) (heard : Heard) (login : takes_commands gate deeds ≡ true) where
    abbrev past : List Deed
    past = deeds ++ hear heard ∷ []

    abbrev now : Trail
    now = behind gate deeds (Hear heard_form) (Ok heard)

    stands : takes_commands gate past ≡ true
    stands = commands_quiet gate deeds (hear heard) true refl login

    module _ (dest : Dest) (command : command_of (text_of heard) ≡ Connect dest) (wanted : IsWanted dest past) (due : now.due ≡ due_wanted gate dest) where
      abbrev operation : Request
      operation = requests.Operation services.Telnet dest.host

      permission_due : (reply : Reply) → due_answered gate past operation reply ≡ due_permitted gate reply dest
      permission_due reply =
          ap (λ (z : List ℕ). line_toward (due_permitted gate reply) (command_of z)) (heard_more deeds (hear heard)) ∙ ap (λ (c : Command). line_toward (due_permitted gate reply) c) command

      unpermitted_leaves : (reply : Reply) → is_ok reply ≡ false → Leaves watch (refuse_row gate dest (refusing_line gate.line reply)) (behind gate past (Ask operation) (Ok reply))
      unpermitted_leaves reply bad =
          refuse_leaves (behind gate past (Ask operation) (Ok reply)) dest tt (commands_still gate past dest reply stands) (refusing_line gate.line reply)
          (permission_due reply ∙ ap (λ (b : Bool). if b then Some (connect_line gate dest) else Some (refuse_line gate dest (refusing_line gate.line reply))) bad)
          (inr (record { earlier = past; wanted = wanted; reply = reply; last = refl; denied = bad; by = refl }))

      operated_leaves : (reply : Reply) → Leaves watch (operated_row gate dest reply) (behind gate past (Ask operation) (Ok reply))
      operated_leaves replies.Ok =
          connect_leaves (behind gate past (Ask operation) (Ok replies.Ok)) dest tt (commands_still gate past dest replies.Ok stands) (permission_due replies.Ok)
      operated_leaves (replies.Denied denial) = unpermitted_leaves (replies.Denied denial) refl
      operated_leaves (replies.Opened sid) = unpermitted_leaves (replies.Opened sid) refl
      operated_leaves replies.Password = unpermitted_leaves replies.Password refl
      operated_leaves (replies.Challenge number word_seed) = unpermitted_leaves (replies.Challenge number word_seed) refl
      operated_leaves (replies.Shown summary) = unpermitted_leaves (replies.Shown summary) refl

      abbrev line_for : Bool → Bool → Option (List ℕ)
      line_for allowed extnd = if allowed then if extnd then None else Some (connect_line gate dest) else Some (refuse_line gate dest gate.line)

      permitted_leaves : (extnd : Bool) → now.due ≡ line_for true extnd → Leaves watch (permitted_row extnd gate dest) now
      permitted_leaves true none = (may_free gate now (Ask operation) (record { due = none; line = tt }) refl tt, λ reply. operated_leaves reply)
      permitted_leaves false is = connect_leaves now dest tt stands is

      dest_leaves : (allowed : Bool) → allows gate.options dest ≡ allowed → Leaves watch (dest_row allowed gate dest) now
      dest_leaves true allowed = permitted_leaves gate.options.extnd (due ∙ ap (λ (b : Bool). line_for b gate.options.extnd) allowed)
      dest_leaves false allowed =
          refuse_leaves now dest tt stands gate.line (due ∙ ap (λ (b : Bool). line_for b gate.options.extnd) allowed) (inl (record { wanted = wanted; denied = allowed; by = refl }))

    words_leaves : (words : List ℕ) → now.due ≡ None → IsLoggedFirst gate (words ++ command_prompt) past → Leaves watch (ask_command words) now
    words_leaves words none logged = ask_command_leaves now words (record { due = none; line = tt }) stands logged

    command_leaves : (command : Command) → command_of (text_of heard) ≡ command → line_dest heard ≡ dest_of (command_of (text_of heard)) → now.due ≡ line_toward (due_wanted gate) command → Leaves watch (command_row gate command) now
    command_leaves Nothing is wants due = words_leaves [] due (plain gate command_prompt past refl refl)
    command_leaves (Connect dest) is wants due =
        dest_leaves dest is (record { heard = heard; wants = wants ∙ ap dest_of is; last = (deeds, refl) }) due (allows gate.options dest) refl
    command_leaves Quit is wants due =
        (may_free gate now (Say goodbye) (record { due = due; line = tt }) refl (plain gate goodbye past refl refl), λ done. record { due = refl; line = tt })
    command_leaves Help is wants due = words_leaves help due (plain gate (help ++ command_prompt) past refl refl)
    command_leaves Unknown is wants due = words_leaves unknown_command due (plain gate (unknown_command ++ command_prompt) past refl refl)

  -- ---- the table

  commanding_leaves : (deeds : List Deed) (heard : Heard) → takes_commands gate deeds ≡ true → Leaves watch (commanding_row gate heard) (behind gate deeds (Hear heard_form) (Ok heard))
  commanding_leaves deeds (Line line) login =
      command_leaves deeds (Line line) login (command_of line.items) refl refl (ap (λ (b : Bool). due_heard gate b (Line line)) login)
  commanding_leaves deeds TooLong login =
      words_leaves deeds TooLong login unknown_command (ap (λ (b : Bool). due_heard gate b TooLong) login) (plain gate (unknown_command ++ command_prompt) (deeds ++ hear TooLong ∷ []) refl refl)
  commanding_leaves deeds (Stopped stop) login = record { due = ap (λ (b : Bool). due_heard gate b (Stopped stop)) login; line = tt }

  -- no line is due behind what is heard before a login
  silent : (deeds : List Deed) (heard : Heard) → takes_commands gate deeds ≡ false → IsFree (behind gate deeds (Hear heard_form) (Ok heard))
  silent deeds heard login = record { due = ap (λ (b : Bool). due_heard gate b heard) login; line = tt }

  answering_leaves : (deeds : List Deed) (name : List ℕ) (hidden : Bool) (heard : Heard) → takes_commands gate deeds ≡ false → named_last deeds ≡ name → Leaves watch (answering_row gate name hidden heard) (behind gate deeds (Hear heard_form) (Ok heard))
  answering_leaves deeds name hidden (Line line) login user =
      response_leaves (behind gate deeds (Hear heard_form) (Ok (Line line))) name hidden line.items (silent deeds (Line line) login) (commands_quiet gate deeds (hear (Line line)) false refl login) (named_more deeds (hear (Line line)) ∙ user)
  answering_leaves deeds name hidden TooLong login user =
      response_leaves (behind gate deeds (Hear heard_form) (Ok TooLong)) name hidden [] (silent deeds TooLong login) (commands_quiet gate deeds (hear TooLong) false refl login) (named_more deeds (hear TooLong) ∙ user)
  answering_leaves deeds name hidden (Stopped stop) login user = silent deeds (Stopped stop) login

  -- a line that is no name
  no_name_leaves : (deeds : List Deed) (open_ : Bool) (heard : Heard) → IsNoName heard → takes_commands gate deeds ≡ false → asks_last (talk deeds) ≡ false → Leaves watch (name_row gate open_ None) (behind gate deeds (Hear heard_form) (Ok heard))
  no_name_leaves deeds open_ heard none login asks =
      let still = asks_quiet gate deeds (hear heard) refl asks in
      ask_name_leaves (behind gate deeds (Hear heard_form) (Ok heard)) login_denied open_ (silent deeds heard login) (commands_quiet gate deeds (hear heard) false refl login) still
      (record { refused = λ is. clash is; failed = λ is. inr (record { heard = heard; is = none; last = (deeds, refl); naming = commands_quiet gate deeds (hear heard) false refl login; unasked = still }) })

  naming_leaves : (deeds : List Deed) (open_ : Bool) (heard : Heard) → takes_commands gate deeds ≡ false → asks_last (talk deeds) ≡ false → Leaves watch (naming_row gate open_ heard) (behind gate deeds (Hear heard_form) (Ok heard))
  naming_leaves deeds open_ (Line line) login asks = choose (name_of line.items) refl
    where
      choose : (name : Option (List ℕ)) → name_of line.items ≡ name → Leaves watch (name_row gate open_ name) (behind gate deeds (Hear heard_form) (Ok (Line line)))
      choose None is = no_name_leaves deeds open_ (Line line) is login asks
      choose (Some name) is =
          name_leaves (behind gate deeds (Hear heard_form) (Ok (Line line))) open_ name (silent deeds (Line line) login)
          (ap (λ (z : List ℕ). unwrap_or (name_of z) []) (heard_more deeds (hear (Line line))) ∙ ap (λ (n : Option (List ℕ)). unwrap_or n []) is) (commands_quiet gate deeds (hear (Line line)) false refl login)
  naming_leaves deeds open_ TooLong login asks = no_name_leaves deeds open_ TooLong tt login asks
  naming_leaves deeds open_ (Stopped stop) login asks = silent deeds (Stopped stop) login

  abbrev own : PlaceTable (acts Origin) Place
  own = tn_rows gate

  place_leaves : (place : Place) (t : Trail) (heard : Heard) → StateAt gate place t.deeds → Leaves watch (own.go place heard) (behind gate t.deeds (Hear heard_form) (Ok heard))
  place_leaves (Naming open_) t heard state = naming_leaves t.deeds open_ heard state.0 state.1
  place_leaves (Answering name hidden) t heard state = answering_leaves t.deeds name hidden heard state.0 state.1
  place_leaves Commanding t heard state = commanding_leaves t.deeds heard state

  pub rows_log : Keeps own watch
  rows_log place t waits = (may_free gate t (Hear heard_form) waits.free refl tt, λ heard. place_leaves place t heard waits.state)

  first_leaves : (asks : Bool) → asks_login gate.options ≡ asks → Leaves watch (first_by asks) (record { deeds = []; due = None; line = None })
  first_leaves true asks =
      ask_name_leaves (record { deeds = []; due = None; line = None }) [] false (record { due = refl; line = tt }) (ap (λ (b : Bool). not b || false) asks) refl (plain gate name_prompt [] refl refl)
  first_leaves false asks =
      ask_command_leaves (record { deeds = []; due = None; line = None }) [] (record { due = refl; line = tt }) (ap (λ (b : Bool). not b || false) asks) (plain gate command_prompt [] refl refl)

  pub first_logs : Leaves watch (tn_row gate) (record { deeds = []; due = None; line = None })
  first_logs = first_leaves (asks_login gate.options) refl
