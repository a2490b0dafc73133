-- How a session moves from one phase to the next.
use Rattle.std.proofs.Common.{◌≡◌, ◌≢◌, ℕ, Bool, true, false, cond, not, ◌&&◌, List, Option, Some, None, option_map, nat_eq, refl, sym, ap, subst, ◌∙◌}
use Rattle.std.proofs.lemmas.Bool.{eqb-true, eqb-false}
use Rattle.auth_events.specs.Port.{session_at}
use Rattle.auth_events.specs.declared.denial.Denial.TheVariants as denials
use Rattle.auth_events.specs.declared.entry.Entry.{Entry}
use Rattle.auth_events.specs.declared.reply.Reply.{Reply}
use Rattle.auth_events.specs.declared.reply.Reply.TheVariants as replies
use Rattle.auth_events.specs.declared.request.Request.{Request}
use Rattle.auth_events.specs.declared.request.Request.TheVariants as requests
use Rattle.auth_machine.specs.Answer.{Answer, answer_of}
use Rattle.auth_machine.specs.Answer.Answer.{Denied, Ok}
use Rattle.auth_machine.specs.History.{IsStep, after_entry}
use Rattle.auth_machine.specs.Logins.{IsLogin, is_end, is_naming, is_own_request, is_response, phase_of}
use Rattle.auth_machine.specs.Login.{in_phase}
use Rattle.auth_machine.specs.Policy.{PolicyView}
use Rattle.auth_machine.specs.State.{Change, State, at_moment, changed, session_of, sessions_after}
use Rattle.auth_machine.specs.Step.{is_record_change, keeps, proposed}
use Rattle.auth_machine.specs.declared.record_change.SessionChange.{SessionChange}
use Rattle.auth_machine.specs.declared.record_change.SessionChange.TheVariants.{Become, End, Stay}
use Rattle.auth_machine.specs.declared.session.Phase.{Phase}
use Rattle.auth_machine.specs.declared.session.Phase.TheVariants.{Bogus, Idle, In, Waiting}
use Rattle.auth_machine.specs.declared.session.Session.{Session}
use Rattle.auth_machine.proofs.ActLemmas.{Administers, Happens, happens, is_other}
use Rattle.auth_machine.proofs.LoginActs.{Asks, Responds, waits_not_in}
use Rattle.auth_machine.proofs.ActLemmas.Administers.{alters, makes, nothing, removes}
use Rattle.auth_machine.proofs.LoginActs.Asks.{asks_a_word, asks_denied, asks_nobody, asks_password}
use Rattle.auth_machine.proofs.ActLemmas.Happens.{absent, administering, asking, closing, opening, responding}
use Rattle.auth_machine.proofs.LoginActs.Responds.{dropped, right_password, right_word, stays, turned_down, wrong_one}
use Rattle.auth_machine.proofs.StepLemmas.{proposed_at, refused_at}
use Rattle.auth_machine.proofs.SessionLemmas.{became_other, became_own, ended_other, ended_own, found_sid, itself}

-- ---- moves

-- the phase of the session of this number before and after an entry at this place
pub data Moves (sid place : ℕ) (entry : Entry) : Option Phase → Option Phase → Type 0 where
  same : (p : Option Phase) → is_own_request sid is_end entry ≡ false → (IsLogin sid entry → ⊥) → Moves sid place entry p p
  missing : (IsLogin sid entry → ⊥) → Moves sid place entry None None
  opened : (p : Option Phase) → place ≡ sid → (IsLogin sid entry → ⊥) → Moves sid place entry p (Some Idle)
  turned_away : (p : Phase) → is_own_request sid is_naming entry ≡ true → Moves sid place entry (Some p) (Some Idle)
  failed : (p : Phase) → ((name : List ℕ) → p ≢ In name) → (IsLogin sid entry → ⊥) → Moves sid place entry (Some p) (Some Idle)
  waits : (p : Phase) (name : List ℕ) → entry.sid ≡ sid → entry.request ≡ requests.Authenticate name → Moves sid place entry (Some p) (Some (Waiting name))
  fooled : (p : Phase) → is_own_request sid is_naming entry ≡ true → Moves sid place entry (Some p) (Some Bogus)
  logs_in : (name : List ℕ) → IsLogin sid entry → Moves sid place entry (Some (Waiting name)) (Some (In name))
  closed : (p : Phase) → is_own_request sid is_end entry ≡ true → is_response entry.request ≡ false → Moves sid place entry (Some p) None

abbrev phase_in : Option Session → Option Phase
phase_in found = option_map (λ session. session.phase) found

-- ---- facts of an entry

pub ok_reply : (reply : Reply) → answer_of reply ≡ Ok → reply ≡ replies.Ok
ok_reply (replies.Opened sid) is = absurd (cc)
ok_reply replies.Password is = absurd (cc)
ok_reply (replies.Challenge number word_seed) is = absurd (cc)
ok_reply replies.Ok is = refl
ok_reply (replies.Shown summary) is = absurd (cc)
ok_reply (replies.Denied denial) is = absurd (cc)

other_no_end : (request : Request) → is_other request ≡ true → is_end request ≡ false
other_no_end (requests.Open console) h = refl
other_no_end (requests.Authenticate name) h = absurd (cc)
other_no_end (requests.Response hash word) h = refl
other_no_end requests.Close h = absurd (cc)
other_no_end _ h = refl

pub other_no_response : (request : Request) → is_other request ≡ true → is_response request ≡ false
other_no_response (requests.Open console) h = refl
other_no_response (requests.Authenticate name) h = refl
other_no_response (requests.Response hash word) h = absurd (cc)
other_no_response requests.Close h = refl
other_no_response _ h = refl

administers_stay : (s : State) (session : Session) (request : Request) (change : Change) → Administers s session request change → change.session ≡ Stay
administers_stay s session request change (nothing _ a) = refl
administers_stay s session request change (makes name long group none to) = refl
administers_stay s session request change (removes name f there power) = refl
administers_stay s session request change (alters _ name f to there power) = refl

pub no_edit : {A : Type 0} → (true ≡ true → false ≡ true) → A
no_edit h = let e = h refl in absurd (cc)

module _ (policy : PolicyView) (s : State) (place : ℕ) (entry : Entry) where
  owns : (is_kind : Request → Bool) (request : Request) → entry.request ≡ request → is_own_request entry.sid is_kind entry ≡ is_kind request
  owns is_kind request is = ap (λ (b : Bool). b && is_kind entry.request) (itself entry.sid) ∙ ap is_kind is

  no_response : (sid : ℕ) (request : Request) → entry.request ≡ request → is_response request ≡ false → IsLogin sid entry → ⊥
  no_response sid request is none login =
      let e : is_response entry.request ≡ false = ap is_response is ∙ none in
      let f = login.1 in
      cc

  no_ok : (sid : ℕ) (a : Answer) → answer_of entry.reply ≡ a → a ≢ Ok → IsLogin sid entry → ⊥
  no_ok sid a reply not login = not (sym reply ∙ ap answer_of login.2)

  module _ (k : ℕ) (k_is : k ≡ entry.sid) where
    moved : (session : Session) (q : Phase) → session_of entry.sid s.sessions ≡ Some session → Moves entry.sid place entry (Some session.phase) (Some q)
        → Moves entry.sid place entry (phase_of entry.sid s) (phase_in (session_of entry.sid (sessions_after (Become (in_phase q session)) k s.sessions)))
    moved session q there move =
        let own : session.sid ≡ entry.sid = found_sid entry.sid s.sessions session there in
        let new : phase_in (session_of entry.sid (sessions_after (Become (in_phase q session)) k s.sessions)) ≡ Some q =
        ap phase_in (became_own (in_phase q session) entry.sid k s.sessions own) in
        let old : phase_of entry.sid s ≡ Some session.phase = ap phase_in there in
        subst (λ p. Moves entry.sid place entry p (phase_in (session_of entry.sid (sessions_after (Become (in_phase q session)) k s.sessions)))) (sym old)
        (subst (λ p. Moves entry.sid place entry (Some session.phase) p) (sym new) move)

    own_asks : (name : List ℕ) (session : Session) (change : Change) → session_of entry.sid s.sessions ≡ Some session → Asks policy s session name change
        → entry.request ≡ requests.Authenticate name → (refused : Bool) → (refused ≡ true → is_record_change change.records s.records ≡ true)
        → Moves entry.sid place entry (phase_of entry.sid s) (phase_of entry.sid (cond refused s (changed k change s)))
    own_asks name session change there (asks_denied d) is true edit = no_edit edit
    own_asks name session change there (asks_denied d) is false edit = moved session Idle there (turned_away session.phase (owns is_naming _ is))
    own_asks name session change there asks_nobody is true edit = no_edit edit
    own_asks name session change there asks_nobody is false edit = moved session Bogus there (fooled session.phase (owns is_naming _ is))
    own_asks name session change there asks_password is true edit = no_edit edit
    own_asks name session change there asks_password is false edit = moved session (Waiting name) there (waits session.phase name refl is)
    own_asks name session change there (asks_a_word otp) is true edit = no_edit edit
    own_asks name session change there (asks_a_word otp) is false edit = moved session (Waiting name) there (waits session.phase name refl is)

    no_end : (hash : List ℕ) (word : Option ℕ) → entry.request ≡ requests.Response hash word → is_own_request entry.sid is_end entry ≡ false
    no_end hash word is = owns is_end (requests.Response hash word) is

    logged : (hash : List ℕ) (word : Option ℕ) (name : List ℕ) (session : Session) → entry.request ≡ requests.Response hash word → session.phase ≡ Waiting name → answer_of entry.reply ≡ Ok
        → Moves entry.sid place entry (Some session.phase) (Some (In name))
    logged hash word name session is phase reply =
        subst (λ (p : Phase). Moves entry.sid place entry (Some p) (Some (In name))) (sym phase) (logs_in name (refl, ap is_response is, ok_reply entry.reply reply))

    own_responds : (hash : List ℕ) (word : Option ℕ) (session : Session) (change : Change) → session_of entry.sid s.sessions ≡ Some session → Responds policy s session word change
        → entry.request ≡ requests.Response hash word → (refused : Bool) → (refused ≡ true → is_record_change change.records s.records ≡ true)
        → answer_of entry.reply ≡ cond refused (Denied denials.NotKept) change.answer
        → Moves entry.sid place entry (phase_of entry.sid s) (phase_of entry.sid (cond refused s (changed k change s)))
    own_responds hash word session change there stays is true edit reply = no_edit edit
    own_responds hash word session change there stays is false edit reply = same _ (no_end hash word is) (no_ok entry.sid _ reply (λ e. absurd (cc)))
    own_responds hash word session change there (turned_down d out) is true edit reply = no_edit edit
    own_responds hash word session change there (turned_down d out) is false edit reply = moved session Idle there (failed session.phase out (no_ok entry.sid _ reply (λ e. absurd (cc))))
    own_responds hash word session change there (dropped d out) is true edit reply = no_edit edit
    own_responds hash word session change there (dropped d out) is false edit reply = moved session Idle there (failed session.phase out (no_ok entry.sid _ reply (λ e. absurd (cc))))
    own_responds hash word session change there (wrong_one name f awaits) is true edit reply = same _ (no_end hash word is) (no_ok entry.sid _ reply (λ e. absurd (cc)))
    own_responds hash word session change there (wrong_one name f awaits) is false edit reply =
        moved session Idle there (failed session.phase (waits_not_in session.phase name awaits.phase) (no_ok entry.sid _ reply (λ e. absurd (cc))))
    own_responds hash word session change there (right_password name f awaits proto) is true edit reply = same _ (no_end hash word is) (no_ok entry.sid _ reply (λ e. absurd (cc)))
    own_responds hash word session change there (right_password name f awaits proto) is false edit reply = moved session (In name) there (logged hash word name session is awaits.phase reply)
    own_responds hash word session change there (right_word name f otp w awaits given chain) is true edit reply = same _ (no_end hash word is) (no_ok entry.sid _ reply (λ e. absurd (cc)))
    own_responds hash word session change there (right_word name f otp w awaits given chain) is false edit reply = moved session (In name) there (logged hash word name session is awaits.phase reply)

    stayed : (change : Change) (refused : Bool) → change.session ≡ Stay → phase_of entry.sid (cond refused s (changed k change s)) ≡ phase_of entry.sid s
    stayed change true is = refl
    stayed change false is = ap (λ turn. phase_in (session_of entry.sid (sessions_after turn k s.sessions))) is

    own_move : (request : Request) (change : Change) → Happens policy s place entry.sid request change → entry.request ≡ request → session_at request place entry.sid ≡ entry.sid
        → (refused : Bool) → (refused ≡ true → is_record_change change.records s.records ≡ true) → answer_of entry.reply ≡ cond refused (Denied denials.NotKept) change.answer
        → Moves entry.sid place entry (phase_of entry.sid s) (phase_of entry.sid (cond refused s (changed k change s)))
    own_move request change (opening console) is own true edit reply = no_edit edit
    own_move request change (opening console) is own false edit reply =
        subst (λ p. Moves entry.sid place entry (phase_of entry.sid s) p)
        (sym (ap phase_in (became_own (record { sid = place; console = console; phase = Idle }) entry.sid k s.sessions own)))
        (opened (phase_of entry.sid s) own (no_response entry.sid (requests.Open console) is refl))
    own_move request change (absent _ none) is own true edit reply = no_edit edit
    own_move request change (absent _ none) is own false edit reply =
        subst (λ p. Moves entry.sid place entry p p) (sym (ap phase_in none)) (missing (no_ok entry.sid _ reply (λ e. absurd (cc))))
    own_move request change (asking name session _ there asks) is own refused edit reply = own_asks name session change there asks is refused edit
    own_move request change (responding hash word session _ there responds) is own refused edit reply = own_responds hash word session change there responds is refused edit reply
    own_move request change (administering _ session _ there other administers) is own refused edit reply =
        subst (λ p. Moves entry.sid place entry (phase_of entry.sid s) p) (sym (stayed change refused (administers_stay s session request change administers)))
        (same (phase_of entry.sid s) (owns is_end request is ∙ other_no_end request other) (no_response entry.sid request is (other_no_response request other)))
    own_move request change (closing session there) is own true edit reply = no_edit edit
    own_move request change (closing session there) is own false edit reply =
        let new : phase_in (session_of entry.sid (sessions_after End k s.sessions)) ≡ None =
        ap phase_in (ap (λ (n : ℕ). session_of entry.sid (sessions_after End n s.sessions)) k_is ∙ ended_own entry.sid s.sessions) in
        let old : phase_of entry.sid s ≡ Some session.phase = ap phase_in there in
        subst (λ p. Moves entry.sid place entry p (phase_in (session_of entry.sid (sessions_after End k s.sessions)))) (sym old)
        (subst (λ p. Moves entry.sid place entry (Some session.phase) p) (sym new)
        (closed session.phase (owns is_end requests.Close is) (ap is_response is)))

-- ---- the sessions of other numbers

data IsOwnTurn (own : ℕ) : SessionChange → Type 0 where
  own_stay : IsOwnTurn own Stay
  own_become : (x : Session) → x.sid ≡ own → IsOwnTurn own (Become x)
  own_end : IsOwnTurn own End

module _ (policy : PolicyView) (s : State) (own : ℕ) where
  own_asking : (name : List ℕ) (session : Session) (change : Change) → session.sid ≡ own → Asks policy s session name change → IsOwnTurn own change.session
  own_asking name session change is (asks_denied d) = own_become _ is
  own_asking name session change is asks_nobody = own_become _ is
  own_asking name session change is asks_password = own_become _ is
  own_asking name session change is (asks_a_word otp) = own_become _ is

  own_responding : (word : Option ℕ) (session : Session) (change : Change) → session.sid ≡ own → Responds policy s session word change → IsOwnTurn own change.session
  own_responding word session change is stays = own_stay
  own_responding word session change is (turned_down d out) = own_become _ is
  own_responding word session change is (dropped d out) = own_become _ is
  own_responding word session change is (wrong_one name f awaits) = own_become _ is
  own_responding word session change is (right_password name f awaits proto) = own_become _ is
  own_responding word session change is (right_word name f otp w awaits given chain) = own_become _ is

  own_turn : (place : ℕ) (request : Request) (change : Change) → Happens policy s place own request change → session_at request place own ≡ own → IsOwnTurn own change.session
  own_turn place request change (opening console) is = own_become _ is
  own_turn place request change (absent _ none) is = own_stay
  own_turn place request change (asking name session _ there asks) is = own_asking name session change (found_sid own s.sessions session there) asks
  own_turn place request change (responding hash word session _ there responds) is = own_responding word session change (found_sid own s.sessions session there) responds
  own_turn place request change (administering _ session _ there other administers) is =
      subst (IsOwnTurn own) (sym (administers_stay s session request change administers)) own_stay
  own_turn place request change (closing session there) is = own_end

untouched : (own sid k : ℕ) (turn : SessionChange) (xs : List Session) → nat_eq own sid ≡ false → k ≡ own → IsOwnTurn own turn → session_of sid (sessions_after turn k xs) ≡ session_of sid xs
untouched own sid k turn xs other is own_stay = refl
untouched own sid k turn xs other is (own_become x x_is) = became_other x sid k xs (ap (λ (n : ℕ). nat_eq n sid) x_is ∙ other)
untouched own sid k turn xs other is own_end = ended_other k sid xs (ap (λ (n : ℕ). nat_eq n sid) is ∙ other)

-- ---- every step

step_untouched : (sid own k : ℕ) (s : State) (change : Change) (refused : Bool) → nat_eq own sid ≡ false → k ≡ own → IsOwnTurn own change.session
    → phase_of sid (cond refused s (changed k change s)) ≡ phase_of sid s
step_untouched sid own k s change true other is turn = refl
step_untouched sid own k s change false other is turn = ap phase_in (untouched own sid k change.session s.sessions other is turn)

-- a change that isn't kept was one of the records
was_edit : (edit kept : Bool) → edit && not kept ≡ true → edit ≡ true
was_edit true kept e = refl
was_edit false kept e = e

module _ (policy : PolicyView) (s : State) (place : ℕ) (entry : Entry) (step : IsStep policy s place entry) where
  pub proposed_happens : Happens policy (at_moment entry.at s) place entry.sid entry.request (proposed_at policy s place entry)
  unfolding proposed
  proposed_happens = happens policy (at_moment entry.at s) place entry.sid entry.request

  pub edits : refused_at policy s place entry ≡ true → is_record_change (proposed_at policy s place entry).records s.records ≡ true
  edits e = was_edit (keeps policy s place entry.sid entry.at entry.request) entry.kept e

  pub step_moves : (sid : ℕ) → Moves sid place entry (phase_of sid s) (phase_of sid (after_entry policy s place entry))
  step_moves sid = choose (nat_eq entry.sid sid) refl
    where
      choose : (b : Bool) → nat_eq entry.sid sid ≡ b → Moves sid place entry (phase_of sid s) (phase_of sid (after_entry policy s place entry))
      choose true e =
          subst (λ (n : ℕ). Moves n place entry (phase_of n s) (phase_of n (after_entry policy s place entry))) (eqb-true entry.sid sid e)
          (own_move policy (at_moment entry.at s) place entry (session_at entry.request place entry.sid) step.sid entry.request (proposed_at policy s place entry)
          proposed_happens refl step.sid (refused_at policy s place entry) edits step.reply)
      choose false e =
          subst (λ p. Moves sid place entry (phase_of sid s) p)
          (sym (step_untouched sid entry.sid (session_at entry.request place entry.sid) (at_moment entry.at s) (proposed_at policy s place entry) (refused_at policy s place entry) e step.sid
          (own_turn policy (at_moment entry.at s) entry.sid place entry.request (proposed_at policy s place entry) proposed_happens step.sid)))
          (same (phase_of sid s) (ap (λ (b : Bool). b && is_end entry.request) e) (λ login. eqb-false entry.sid sid e login.0))
