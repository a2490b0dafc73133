-- What is known, and what was passed and asked for, kept deed by deed.
use Rattle.std.proofs.Common.{◌≡◌, refl, sym, ap, ◌∙◌, ℕ, Bool, true, false, not, ◌&&◌, List, [], ◌∷◌, ◌++◌, Option, Some, None, Result, Ok, Err, append_assoc, append-nil}
use Rattle.auth_events.specs.Login.{is_full, login_then}
use Rattle.auth_events.specs.declared.reply.Reply.{Reply}
use Rattle.auth_events.specs.declared.request.Request.TheVariants as requests
use Rattle.fw_types.specs.declared.dest.Dest.{Dest}
use Rattle.session_acts.specs.Acts.{Act, Outcome}
use Rattle.session_acts.specs.Deeds.{Deed, gives}
use Rattle.ftp_gate.specs.Gate.{Gate}
use Rattle.ftp_gate.specs.Known.{Known, asked_for, at_start, dests_in, known, known_after, known_from, passage, passage_in}
use Rattle.ftp_gate.specs.Laws.{given_to_server, main_asked}

abbrev pub deed_of : (act : Act) → Outcome act → Deed
deed_of act outcome = record { act = act; outcome = outcome }

-- what is known, all that was passed, and all destinations that were asked for
pub record Noted : Type 0 where
  pub k : Known
  pub passed : List ℕ
  pub calls : List Dest

abbrev pub note : Gate → Noted → (act : Act) → Outcome act → Noted
note gate n act outcome = record { k = known_after gate n.k act outcome; passed = n.passed ++ given_to_server act outcome; calls = n.calls ++ main_asked act outcome }

abbrev pub at_first : Noted
at_first = record { k = at_start; passed = []; calls = [] }

abbrev pub noted_after : Gate → Noted → List Deed → Noted
noted_after gate n [] = n
noted_after gate n (deed ∷ deeds) = noted_after gate (note gate n deed.act deed.outcome) deeds

pub noted_both : (gate : Gate) (n : Noted) (first more : List Deed) → noted_after gate n (first ++ more) ≡ noted_after gate (noted_after gate n first) more
noted_both gate n [] more = refl
noted_both gate n (deed ∷ first) more = noted_both gate (note gate n deed.act deed.outcome) first more

known_by : (gate : Gate) (n : Noted) (deeds : List Deed) → (noted_after gate n deeds).k ≡ known_from gate n.k deeds
known_by gate n [] = refl
known_by gate n (deed ∷ deeds) = known_by gate (note gate n deed.act deed.outcome) deeds

passed_by : (gate : Gate) (n : Noted) (deeds : List Deed) → (noted_after gate n deeds).passed ≡ n.passed ++ gives given_to_server deeds
passed_by gate n [] = sym (append-nil n.passed)
passed_by gate n (deed ∷ deeds) =
    passed_by gate (note gate n deed.act deed.outcome) deeds ∙ append_assoc n.passed (given_to_server deed.act deed.outcome) (gives given_to_server deeds)

calls_by : (gate : Gate) (n : Noted) (deeds : List Deed) → (noted_after gate n deeds).calls ≡ n.calls ++ gives main_asked deeds
calls_by gate n [] = sym (append-nil n.calls)
calls_by gate n (deed ∷ deeds) =
    calls_by gate (note gate n deed.act deed.outcome) deeds ∙ append_assoc n.calls (main_asked deed.act deed.outcome) (gives main_asked deeds)

pub all_known : (gate : Gate) (deeds : List Deed) → (noted_after gate at_first deeds).k ≡ known gate deeds
all_known gate deeds = known_by gate at_first deeds

pub all_passed : (gate : Gate) (deeds : List Deed) → (noted_after gate at_first deeds).passed ≡ gives given_to_server deeds
all_passed gate deeds = passed_by gate at_first deeds

pub all_calls : (gate : Gate) (deeds : List Deed) → (noted_after gate at_first deeds).calls ≡ gives main_asked deeds
all_calls gate deeds = calls_by gate at_first deeds

-- ---- logins

-- a name ends a login, unless no more entries fit
pub named_login : (stood : Bool) (name : List ℕ) (reply : Reply) → login_then stood (requests.Authenticate name, reply) ≡ (stood && is_full reply)
named_login false name reply = refl
named_login true name reply = not_not (is_full reply)
  where
    not_not : (b : Bool) → not (not b) ≡ b
    not_not true = refl
    not_not false = refl
