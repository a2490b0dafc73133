-- From what a session of the mail gateway did to the headline, and to a run in which no count rose.
use Rattle.std.proofs.Common.{◌≡◌, ◌≢◌, ◌≤◌, ◌∙◌, arith, ℕ, List, [], ◌++◌, refl, sym, ap, subst, inl, inr, ◌⊎◌, false}
use Rattle.std.specs.Prelude.{Option}
use Rattle.client_service.proofs.ConnLemmas.{conn_caused}
use Rattle.client_service.proofs.SinkLemmas.{same_low}
use Rattle.client_service.specs.Conn.{Causes, NotedIf}
use Rattle.client_service.specs.Decision.{decision_text}
use Rattle.client_service.specs.Endings.{ending_line, refusal_reply}
use Rattle.client_service.specs.Kind.Kind.{Alone}
use Rattle.client_service.specs.MailService.{mail_devices}
use Rattle.client_service.specs.Meeting.{patient, timeout_of}
use Rattle.fw_outside.specs.SinkView.{SinkView}
use Rattle.fw_outside.specs.ToldList.{grown}
use Rattle.fw_types.specs.declared.ending.Ending.{Ending}
use Rattle.fw_types.specs.declared.ending.Ending.TheVariants as endings
use Rattle.fw_types.specs.declared.peer.Peer.{Peer}
use Rattle.gate_rules.specs.Verdict.{verdict_of}
use Rattle.gate_rules.specs.declared.service.Service.TheVariants as services
use Rattle.gate_rules.specs.declared.verdict.Verdict.{Verdict}
use Rattle.gate_rules.specs.declared.verdict.Verdict.TheVariants.{Permit, Deny}
use Rattle.session_acts.proofs.CauseLemmas.{session_keeps}
use Rattle.session_acts.proofs.DeedLemmas.{all_gain, held_deeds}
use Rattle.session_acts.proofs.ToldLemmas.{by_both, logged_gains}
use Rattle.session_acts.specs.Client.{with_line}
use Rattle.session_acts.specs.Deeds.{Deed, gives}
use Rattle.session_acts.specs.Dummies.{nowhere}
use Rattle.session_acts.specs.Laws.{logged}
use Rattle.session_acts.specs.Met.{Gets}
use Rattle.session_acts.specs.Session.{deeds_of}
use Rattle.session_acts.specs.Stored.{kept}
use Rattle.session_acts.specs.World.{Devices, at_first}
use Rattle.spool_slots.specs.declared.slot_why.SlotWhy.{SlotWhy}
use Rattle.spool_slots.specs.declared.slot_why.SlotWhy.TheVariants as whys
use Rattle.bastion.specs.Basis.{Course, no_course, of_session}
use Rattle.bastion.specs.Complete.{HasEnded, IsMailedWhole, IsTakenWhole, IsWhole, closing_text}
use Rattle.bastion.specs.Headline.{IsDenied, IsPermitted, LogsDenial}
use Rattle.bastion.specs.Inputs.{Inputs}
use Rattle.bastion.specs.MailKept.{IsShutOut, IsTakenIn, IsUnheard, OfMail}
use Rattle.bastion.specs.Mailing.{MailServed, Mailed, SlotsUnread, mailed_devices, slot_fault}
use Rattle.bastion.specs.Outcome.{fault_line_of, status_of, verdict_status}
use Rattle.bastion.specs.Run.{ReadsOnly, TellsIf}
use Rattle.bastion.specs.Works.{with_given}
use Rattle.bastion.specs.WorldView.{SessionInputs, WorldView}
use Rattle.bastion.specs.declared.outcome.Outcome.{Outcome}
use Rattle.bastion.specs.declared.outcome.Outcome.TheVariants.{Ended}
use Rattle.bastion.specs.declared.words.Command.TheVariants.{Smap}
use Rattle.bastion.proofs.DenialLemmas.{got_whole, session_gave}
use Rattle.bastion.proofs.LeftLemmas.{Later, tells_later}
use Rattle.bastion.proofs.MailedLemmas.{CutOff, LetIn, OfServed, ShutOut, served_so, session_leaves, stand_behind}
use Rattle.bastion.proofs.QuietLemmas.{Quiet, same_from}
use Rattle.bastion.proofs.TalkLemmas.{concluded_whole, tells_noted}
use Rattle.spool_runs.specs.OnDisks.{RunsSpool}
use Rattle.slot_bytes.specs.Layout.{Mail}
use Rattle.bastion.proofs.MailSpoolLemmas.{opened_spool, session_spool, unread_spool}

-- what the headline says of a client, by its inputs
pub record MailHeadline (peer : Peer) (inputs : Inputs) (course : Course) (status : ℕ) (old new : WorldView) : Type 0 where
  pub taken : IsTakenIn peer inputs course status old new
  pub denials : LogsDenial (Smap peer) services.Smap peer inputs status old new

-- ---- no session was held

unread_one : (slot : ℕ) (why : SlotWhy) → status_of (slot_fault slot why) ≢ 1
unread_one slot (whys.BadSlot at) is = omega (arith, is)
unread_one slot whys.DiskFault is = omega (arith, is)
unread_one slot whys.NoMemory is = omega (arith, is)

unread_none : (slot : ℕ) (why : SlotWhy) → status_of (slot_fault slot why) ≢ 0
unread_none slot (whys.BadSlot at) is = omega (arith, is)
unread_none slot whys.DiskFault is = omega (arith, is)
unread_none slot whys.NoMemory is = omega (arith, is)

unread_six : (slot : ℕ) (why : SlotWhy) → status_of (slot_fault slot why) ≢ 6
unread_six slot (whys.BadSlot at) is = omega (arith, is)
unread_six slot whys.DiskFault is = omega (arith, is)
unread_six slot whys.NoMemory is = omega (arith, is)

later_spool : (answered accepted : List Mail) (old mid new : WorldView) → Later mid new → RunsSpool answered accepted old.inputs.disks mid.inputs.disks → RunsSpool answered accepted old.inputs.disks new.inputs.disks
later_spool answered accepted old mid new later runs = subst (λ (i : SessionInputs). RunsSpool answered accepted old.inputs.disks i.disks) (sym later.inputs) runs

unread_unheard : (out : Outcome) (old mid new : WorldView) → SlotsUnread out old mid → Later mid new → IsUnheard (status_of out) old new
unread_unheard out old mid new u later = record {
  spool = later_spool [] [] old mid new later (unread_spool out old mid u);
  silent = record { output = later.output ∙ ap (λ (w : WorldView). w.output) u.is; undenied = subst (λ (o : Outcome). status_of o ≢ 1) (sym u.comes) (unread_one u.slot u.why) };
  unheld = (subst (λ (o : Outcome). status_of o ≢ 0) (sym u.comes) (unread_none u.slot u.why), subst (λ (o : Outcome). status_of o ≢ 6) (sym u.comes) (unread_six u.slot u.why));
}

module _ (peer : Peer) (inputs : Inputs) (out : Outcome) (old mid new : WorldView) (h : MailServed peer inputs out old mid) (tells : TellsIf (fault_line_of out) mid new) where
  abbrev starts : Devices (Unit {0})
  starts = mailed_devices old nowhere h.first

  abbrev leaves : Devices (Unit {0})
  leaves = mailed_devices mid h.dialer h.store

  later : Later mid new
  later = tells_later (fault_line_of out) mid new tells

  -- the status and the line behind a session, by its ending
  status_by : (ending : Ending) → h.ending ≡ ending → status_of out ≡ status_of (Ended ending false)
  status_by ending is = ap status_of h.comes ∙ ap (λ (e : Ending). status_of (Ended e false)) is

  tells_by : (ending : Ending) → h.ending ≡ ending → TellsIf (fault_line_of (Ended ending false)) mid new
  tells_by ending is = subst (λ (e : Ending). TellsIf (fault_line_of (Ended e false)) mid new) is (subst (λ (o : Outcome). TellsIf (fault_line_of o) mid new) h.comes tells)

  noted_by : (ending : Ending) → h.ending ≡ ending → NotedIf (ending_line services.Smap peer ending) h.serves.logs mid.logs
  noted_by ending is = subst (λ (e : Ending). NotedIf (ending_line services.Smap peer e) h.serves.logs mid.logs) is h.serves.noted

  cut_unheard : CutOff peer inputs.rules starts leaves h.serves.logs h.ending → IsUnheard (status_of out) old new
  cut_unheard cut =
      let four : status_of out ≡ 4 = status_by endings.LogFault cut.ends in
      record {
        spool = later_spool [] [] old mid new later (opened_spool peer inputs out old mid h cut.store);
        silent = record { output = later.output ∙ cut.output; undenied = λ is. omega (arith, four, is) };
        unheld = (λ is. omega (arith, four, is), λ is. omega (arith, four, is));
      }

  -- ---- whom a line denies

  module _ (shut : ShutOut peer inputs.rules starts leaves h.serves.logs h.ending) where
    shut_same : new ≡ mid
    shut_same = tells_by (endings.Denied shut.line) shut.ends

    shut_out : IsShutOut peer inputs old new
    shut_out = record {
      line = shut.line;
      denied = shut.denied;
      tried = shut.away.tried;
      gets = subst (λ (s : SinkView). Gets (refusal_reply shut.line) shut.away.tried old.output s) (sym later.output) shut.away.gets;
      spool = later_spool [] [] old mid new later (opened_spool peer inputs out old mid h (ap (λ (d : Devices (Unit {0})). d.store) shut.away.same));
    }

    shut_logs : new.logs ≡ with_given old.logs (decision_text (Deny shut.line) services.Smap peer)
    shut_logs = ap (λ (w : WorldView). w.logs) shut_same ∙ noted_by (endings.Denied shut.line) shut.ends ∙ ap (λ (d : Devices (Unit {0})). d.logs) shut.away.same

    shut_denied : IsDenied (Smap peer) services.Smap peer inputs (status_of out) old new
    shut_denied = record { line = shut.line; denied = shut.denied; logged = shut_logs; status_is = status_by (endings.Denied shut.line) shut.ends }

  -- ---- whom a line permits

  module _ (let_in : LetIn peer inputs.rules starts leaves h.serves.logs h.ending) where
    abbrev text : List ℕ
    text = decision_text (Permit let_in.line) services.Smap peer

    abbrev begun : Devices (Unit {0})
    begun = mail_devices (patient (timeout_of inputs.rules) starts)

    abbrev ended : Devices (Unit {0})
    ended = mail_devices (record leaves { logs = h.serves.logs })

    abbrev deeds : List Deed
    deeds = deeds_of let_in.behind.session.held

    let_logged : h.serves.logs.given ≡ grown old.logs.given (text ++ gives logged deeds)
    let_logged =
        let session = let_in.behind.session in
        ap (λ (d : Devices (Unit {0})). d.logs.given) (sym session.leaves) ∙ all_gain logged_gains deeds (at_first (with_line text begun) session.names) session.last (held_deeds session.held) ∙ by_both old.logs.given text (gives logged deeds)

    abbrev let_course : Course
    let_course = of_session deeds h.ending

    -- with what the world had before the last line was told
    abbrev Held : SessionInputs → SinkView → Type 0
    Held i o = OfMail peer inputs let_course (status_of out) old (record new { inputs = i; output = o })

    let_held : Held mid.inputs mid.output
    let_held = record {
      line = let_in.line;
      permitted = let_in.permitted;
      first = h.first;
      opened = h.opened;
      store = h.store;
      logs = h.serves.logs;
      session = let_in.behind.session;
      deeds = refl;
      replies = let_in.behind.replies;
      asked = let_in.behind.asked;
      due = let_in.behind.due;
      told = session_gave let_in.behind.session;
      logged_so = let_logged;
      stand = (stand_behind (gives kept deeds) peer inputs out old mid h (session_leaves text peer inputs.rules h.ending begun ended let_in.behind)).stand;
      spool = session_spool text peer inputs out old mid h begun ended refl refl let_in.behind;
      concluded = record {
        ended = mid.logs;
        noted = h.serves.noted;
        limited = tells_noted (fault_line_of (Ended h.ending false)) mid new (tells_by h.ending refl);
        status_is = ap status_of h.comes;
      };
    }

    pub let_mail : OfMail peer inputs let_course (status_of out) old new
    let_mail = subst (λ (o : SinkView). Held new.inputs o) (sym later.output) (subst (λ (i : SessionInputs). Held i mid.output) (sym later.inputs) let_held)

    caused : Causes Alone (Permit let_in.line) h.ending starts leaves
    caused = subst (λ (v : Verdict). Causes Alone v h.ending starts leaves) let_in.permitted (conn_caused services.Smap inputs.rules peer starts leaves h.ending h.serves)

    undenied_by : (ending : Ending) → Causes Alone (Permit let_in.line) ending starts leaves → status_of (Ended ending false) ≢ 1
    undenied_by endings.Done c is = omega (arith, is)
    undenied_by (endings.Denied other) c is = absurd (cc)
    undenied_by endings.ClientFault c is = omega (arith, is)
    undenied_by endings.ServerFault c is = omega (arith, is)
    undenied_by endings.LogFault c is = omega (arith, is)
    undenied_by endings.AuthFault c is = omega (arith, is)
    undenied_by endings.Idle c is = omega (arith, is)
    undenied_by endings.NoRoute c is = omega (arith, is)
    undenied_by endings.Spent c is = omega (arith, is)
    undenied_by endings.NoMemory c is = omega (arith, is)

    let_permitted : IsPermitted (Smap peer) inputs (status_of out)
    let_permitted = record {
      permitted = λ outside. ap verdict_status let_in.permitted;
      undenied = subst (λ (o : Outcome). status_of o ≢ 1) (sym h.comes) (undenied_by h.ending caused);
    }

  -- what was done in the session, if one was held
  abbrev pub course_by : OfServed peer inputs.rules starts leaves h.serves.logs h.ending → Course
  course_by (inl cut) = no_course
  course_by (inr (inl shut)) = no_course
  course_by (inr (inr let_in)) = let_course let_in

  unheard : (course : Course) → IsUnheard (status_of out) old new → MailHeadline peer inputs course (status_of out) old new
  unheard course h = record { taken = inl h; denials = inl h.silent }

  served_by : (so : OfServed peer inputs.rules starts leaves h.serves.logs h.ending) → MailHeadline peer inputs (course_by so) (status_of out) old new
  served_by (inl cut) = unheard no_course (cut_unheard cut)
  served_by (inr (inl shut)) = record { taken = inr (inl (shut_out shut)); denials = inr (inr (shut_denied shut)) }
  served_by (inr (inr let_in)) = record { taken = inr (inr (let_mail let_in)); denials = inr (inl (let_permitted let_in)) }

abbrev pub mail_course : (peer : Peer) (inputs : Inputs) (out : Outcome) (old mid new : WorldView) → Mailed peer inputs out old mid → TellsIf (fault_line_of out) mid new → Course
mail_course peer inputs out old mid new (inl u) tells = no_course
mail_course peer inputs out old mid new (inr h) tells = course_by peer inputs out old mid new h tells (served_so peer inputs out old mid h)

pub mail_headline : (peer : Peer) (inputs : Inputs) (out : Outcome) (old mid new : WorldView) → (h : Mailed peer inputs out old mid) → (tells : TellsIf (fault_line_of out) mid new)
    → MailHeadline peer inputs (mail_course peer inputs out old mid new h tells) (status_of out) old new
mail_headline peer inputs out old mid new (inl u) tells = let unheard = unread_unheard out old mid new u (tells_later (fault_line_of out) mid new tells) in record { taken = inl unheard; denials = inl unheard.silent }
mail_headline peer inputs out old mid new (inr h) tells = served_by peer inputs out old mid new h tells (served_so peer inputs out old mid h)

-- ---- a run in which no count rose

module _ (name : List ℕ) (peer : Peer) (inputs : Inputs) (out : Outcome) (old middle mid new : WorldView) (q : Quiet old new) (never : status_of out ≡ 4 → ⊥) (only : ReadsOnly name false old middle) (h : MailServed peer inputs out middle mid)
    (tells : TellsIf (fault_line_of out) mid new) where
  abbrev Whole : Course → Verdict → Type 0
  Whole course verdict = (status_of out ≡ 5) ⊎ IsTakenWhole verdict peer inputs course (status_of out) old middle new

  abbrev from_here : Devices (Unit {0})
  from_here = mailed_devices middle nowhere h.first

  abbrev to_there : Devices (Unit {0})
  to_there = mailed_devices mid h.dialer h.store

  mail_whole : (course : Course) → (x : OfMail peer inputs course (status_of out) middle new) → HasEnded course → IsMailedWhole peer x.line inputs course (status_of out) old middle new
  mail_whole course x ends =
      let Says : List Deed → Type 0 = λ d. new.logs.given ≡ grown old.logs.given (decision_text (Permit x.line) services.Smap peer ++ gives logged d ++ closing_text services.Smap peer course.ending false) in
      let closing : List ℕ = closing_text services.Smap peer course.ending false in
      let said : List ℕ = decision_text (Permit x.line) services.Smap peer ++ gives logged (deeds_of x.session.held) in
      let start : old.logs.faults ≤ middle.logs.faults = same_from old.logs middle.logs only.logs in
      let low : middle.logs.faults ≤ x.logs.faults = (session_keeps x.session).log_drops in
      let closed : new.logs.given ≡ grown x.logs.given closing =
      concluded_whole services.Smap peer course.ending false (status_of out) x.logs new.logs (λ a b more high rose. q.logs a b (omega (arith, start, low, more)) high rose) x.concluded in
      record {
        session = x;
        ends = ends;
        logs = subst Says x.deeds (closed ∙ ap (λ (g : Option (List ℕ)). grown g closing) (x.logged_so ∙ ap (λ (s : SinkView). grown s.given said) only.logs) ∙ by_both old.logs.given said closing);
      }

  module _ (let_in : LetIn peer inputs.rules from_here to_there h.serves.logs h.ending) where
    abbrev course : Course
    course = let_course peer inputs out middle mid new h tells let_in

    -- a session that came to an end
    ended_whole : HasEnded course → Whole course (Permit let_in.line)
    ended_whole ends =
        let x = let_mail peer inputs out middle mid new h tells let_in in
        let same : Permit x.line ≡ Permit let_in.line = sym x.permitted ∙ let_in.permitted in
        inr (subst (λ (v : Verdict). IsTakenWhole v peer inputs course (status_of out) old middle new) same (mail_whole course x ends))

    held_whole : (ending : Ending) → h.ending ≡ ending → Whole course (Permit let_in.line)
    held_whole endings.Done is = ended_whole (inl is)
    held_whole endings.Spent is = ended_whole (inr is)
    held_whole endings.NoMemory is = inl (status_by peer inputs out middle mid new h tells endings.NoMemory is)
    held_whole (endings.Denied other) is =
        let clash : Permit let_in.line ≡ Deny other = subst (λ (e : Ending). Causes Alone (Permit let_in.line) e from_here to_there) is (caused peer inputs out middle mid new h tells let_in) in
        absurd (cc)
    held_whole endings.ClientFault is = absurd (never (status_by peer inputs out middle mid new h tells endings.ClientFault is))
    held_whole endings.ServerFault is = absurd (never (status_by peer inputs out middle mid new h tells endings.ServerFault is))
    held_whole endings.LogFault is = absurd (never (status_by peer inputs out middle mid new h tells endings.LogFault is))
    held_whole endings.AuthFault is = absurd (never (status_by peer inputs out middle mid new h tells endings.AuthFault is))
    held_whole endings.Idle is = absurd (never (status_by peer inputs out middle mid new h tells endings.Idle is))
    held_whole endings.NoRoute is = absurd (never (status_by peer inputs out middle mid new h tells endings.NoRoute is))

  shut_whole : (shut : ShutOut peer inputs.rules from_here to_there h.serves.logs h.ending) → IsWhole (decision_text (Deny shut.line) services.Smap peer) (refusal_reply shut.line) 1 (status_of out) old new
  shut_whole shut =
      let same : new ≡ mid = shut_same peer inputs out middle mid new h tells shut in
      let behind : mid.output.faults ≤ new.output.faults = same_low mid.output.faults new.output.faults (ap (λ (w : WorldView). w.output.faults) same) in
      let given : mid.output.given ≡ grown middle.output.given (refusal_reply shut.line) =
      got_whole (refusal_reply shut.line) shut.away.tried middle.output mid.output (q.output middle.output.faults mid.output.faults (same_from old.output middle.output only.output) behind) shut.away.gets in
      record {
        logs = ap (λ (l : SinkView). l.given) (shut_logs peer inputs out middle mid new h tells shut) ∙ ap (λ (l : SinkView). grown l.given (decision_text (Deny shut.line) services.Smap peer)) only.logs;
        output = ap (λ (w : WorldView). w.output.given) same ∙ given ∙ ap (λ (l : SinkView). grown l.given (refusal_reply shut.line)) only.output;
        status_is = status_by peer inputs out middle mid new h tells (endings.Denied shut.line) shut.ends;
      }

  whole_by : (so : OfServed peer inputs.rules from_here to_there h.serves.logs h.ending) → Whole (course_by peer inputs out middle mid new h tells so) (verdict_of inputs.rules peer)
  whole_by (inl cut) = absurd (never (status_by peer inputs out middle mid new h tells endings.LogFault cut.ends))
  whole_by (inr (inl shut)) = subst (Whole no_course) (sym shut.denied) (inr (shut_whole shut))
  whole_by (inr (inr let_in)) = subst (Whole (course let_in)) (sym let_in.permitted) (held_whole let_in h.ending refl)

  pub served_whole : Whole (course_by peer inputs out middle mid new h tells (served_so peer inputs out middle mid h)) (verdict_of inputs.rules peer)
  served_whole = whole_by (served_so peer inputs out middle mid h)
