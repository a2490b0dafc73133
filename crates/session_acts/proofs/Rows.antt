-- The definitions, computed on small examples.
use Rattle.std.proofs.Common.{◌≡◌, [], ◌∷◌, refl}
use Rattle.std.specs.Prelude.{Some, None, Ok, Err, true, false, codes}
use Rattle.auth_events.specs.declared.port.PortFault.TheVariants as faults
use Rattle.auth_events.specs.declared.reply.Reply.TheVariants as replies
use Rattle.auth_events.specs.declared.request.Request.TheVariants as requests
use Rattle.auth_events.specs.declared.denial.Denial.TheVariants as denials
use Rattle.fw_outside.specs.declared.heard.Heard.TheVariants.{Stopped}
use Rattle.fw_outside.specs.declared.heard.Stop.TheVariants as stops
use Rattle.fw_types.specs.declared.dest.Dest.{Dest}
use Rattle.fw_types.specs.declared.ending.Ending.TheVariants as endings
use Rattle.session_acts.specs.Acts.{Front, cause_by}
use Rattle.session_acts.specs.Acts.Act.{Hear, Say, Try, Log, Note, Renew, Dial, Reach, Take, Pass, HangUp, Relay}
use Rattle.session_acts.specs.Deeds.{gives}
use Rattle.session_acts.specs.FullPort.{limit_told}
use Rattle.session_acts.specs.Hearing.{heard_in}
use Rattle.session_acts.specs.Hearing.Fate.{IsHeard}
use Rattle.session_acts.specs.Laws.{logged, told}
use Rattle.session_acts.specs.Passing.{passed_over}
use Rattle.session_acts.specs.Met.{opened_then}
use Rattle.session_acts.specs.RelayFronts.{before_relay, flow_in, is_quiet, may_lose_down, may_lose_up}
use Rattle.session_acts.specs.Session.{closing, ending_of}
use Rattle.session_acts.specs.Talk.{asked, numbers_told, thrown}
use Rattle.session_acts.specs.declared.cause.Cause.TheVariants as causes
use Rattle.session_acts.specs.declared.form.Form.TheVariants.{Lines}
use Rattle.session_acts.specs.declared.silence.Silence.TheVariants.{Quiet, Broken, Limit}

-- a text of two bytes, cut behind the first
cut_front : Front (1 ∷ 2 ∷ [])
cut_front = record { part = 1 ∷ []; rest = 2 ∷ []; cut = refl; short = λ some none. cc }

a_text_is_told : told (Say (codes "ok")) (Ok tt) ≡ codes "ok"
a_text_is_told = refl

a_front_is_told : told (Say (1 ∷ 2 ∷ [])) (Err cut_front) ≡ 1 ∷ []
unfolding cut_front
a_front_is_told = refl

a_tried_front_is_told : told (Try (1 ∷ 2 ∷ [])) (Ok (Err cut_front)) ≡ 1 ∷ []
unfolding cut_front
a_tried_front_is_told = refl

a_line_is_not_told : told (Log (codes "ok")) (Ok tt) ≡ []
a_line_is_not_told = refl

a_line_is_logged : gives logged (record { act = Log (codes "a"); outcome = Ok tt } ∷ record { act = Say (codes "b"); outcome = Ok tt } ∷ record { act = Note (codes "c"); outcome = Ok (Ok tt) } ∷ []) ≡ codes "ac"
a_line_is_logged = refl

a_salt_is_thrown_though_none_answers : thrown (Renew (codes "mjr") []) (Err (5 ∷ [], faults.Link)) ≡ (5 ∷ []) ∷ []
a_salt_is_thrown_though_none_answers = refl

a_renewal_is_a_password : asked (Renew (codes "mjr") []) (Ok (5 ∷ [], replies.Ok)) ≡ (requests.Password (codes "mjr") (5 ∷ []) [], Some replies.Ok) ∷ []
a_renewal_is_a_password = refl

a_number_is_told_behind_its_open : numbers_told None ((requests.Open false, Some (replies.Opened 7)) ∷ (requests.Close, None) ∷ (requests.Close, None) ∷ []) ≡ 18446744073709551615 ∷ 7 ∷ 18446744073709551615 ∷ []
a_number_is_told_behind_its_open = refl

a_close_without_an_answer_closes : opened_then requests.Close None (Some 7) ≡ None
a_close_without_an_answer_closes = refl

a_second_open_that_is_denied_changes_nothing : opened_then (requests.Open true) None (Some 7) ≡ Some 7
a_second_open_that_is_denied_changes_nothing = refl

a_silent_server : cause_by Take Broken ≡ causes.ServerFault
a_silent_server = refl

a_silent_client : cause_by (Hear Lines) Limit ≡ causes.Spent
a_silent_client = refl

two_texts_are_passed : (dest : Dest) → passed_over None (record { act = Reach dest; outcome = Ok tt } ∷ record { act = Pass (codes "a"); outcome = Ok tt } ∷ record { act = Pass (codes "b"); outcome = Ok tt } ∷ record { act = HangUp; outcome = Ok tt } ∷ []) ≡ codes "ab" ∷ []
two_texts_are_passed dest = refl

a_dial_hangs_up : (dest : Dest) → passed_over None (record { act = Dial dest; outcome = Ok true } ∷ record { act = Pass (codes "a"); outcome = Ok tt } ∷ record { act = Dial dest; outcome = Ok false } ∷ record { act = Pass (codes "b"); outcome = Ok tt } ∷ []) ≡ codes "a" ∷ []
a_dial_hangs_up dest = refl

a_front_is_passed : (dest : Dest) → passed_over None (record { act = Reach dest; outcome = Ok tt } ∷ record { act = Pass (1 ∷ 2 ∷ []); outcome = Err cut_front } ∷ record { act = HangUp; outcome = Ok tt } ∷ []) ≡ (1 ∷ []) ∷ []
unfolding cut_front
a_front_is_passed dest = refl

an_idle_client_is_heard_so : heard_in (Hear Lines) (Err Quiet) ≡ IsHeard Lines (Stopped stops.Idle) ∷ []
an_idle_client_is_heard_so = refl

a_full_port_tells_its_limit : limit_told (replies.Denied (denials.Full 3)) ≡ Some 3
a_full_port_tells_its_limit = refl

no_link_no_flow : flow_in (record { act = Relay; outcome = Ok None } ∷ []) ≡ None
no_link_no_flow = refl

the_talk_is_before_the_relay : before_relay (record { act = Say (codes "a"); outcome = Ok tt } ∷ record { act = Relay; outcome = Ok None } ∷ record { act = HangUp; outcome = Ok tt } ∷ []) ≡ record { act = Say (codes "a"); outcome = Ok tt } ∷ []
the_talk_is_before_the_relay = refl

a_take_is_not_quiet : is_quiet Take ≡ false
a_take_is_not_quiet = refl

a_fault_of_the_server_may_lose : may_lose_up endings.ServerFault ≡ true
a_fault_of_the_server_may_lose = refl

but_nothing_for_the_client : may_lose_down endings.ServerFault ≡ false
but_nothing_for_the_client = refl

nothing_is_owed : closing None (Err faults.Link) ≡ []
nothing_is_owed = refl

a_cause_goes_before_the_close : ending_of (Err causes.Idle) (Some 7) (Err faults.Link) ≡ endings.Idle
a_cause_goes_before_the_close = refl

a_close_without_an_answer_ends : ending_of (Ok tt) (Some 7) (Err faults.Link) ≡ endings.AuthFault
a_close_without_an_answer_ends = refl

done_where_none_is_open : ending_of (Ok tt) None (Err faults.Link) ≡ endings.Done
done_where_none_is_open = refl
