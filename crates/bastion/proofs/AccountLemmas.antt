-- From what a run did to all that is said of it, by one reading and one session.
use Rattle.std.proofs.Common.{◌≡◌, ℕ, List, [], refl, sym, ◌∙◌, ap, subst, inl, inr, ◌⊎◌}
use Rattle.std.specs.Prelude.{Option, Some, None}
use Rattle.fw_types.specs.declared.peer.Peer.{Peer}
use Rattle.session_acts.specs.Deeds.{Deed}
use Rattle.gate_rules.specs.Verdict.{verdict_of}
use Rattle.bastion.specs.Account.{Account}
use Rattle.bastion.specs.Basis.{Basis, Course, no_course, of_session}
use Rattle.bastion.specs.Complete.{IsAllDone, IsComplete, IsOrderComplete}
use Rattle.bastion.specs.Headline.{HandsStand, Headline, HeadlineBy, HeadlineOf, Headlines, IsBasis, IsLineBasis, IsOrderBasis, LogsDenial}
use Rattle.bastion.specs.Gateways.{gateway_service}
use Rattle.bastion.specs.Gating.{Gated}
use Rattle.bastion.specs.Inputs.{Inputs}
use Rattle.bastion.specs.Jobs.{DoesJob}
use Rattle.bastion.specs.Outcome.{CountRose, OrderRose, RoseFor, RoseIn, fault_line_of, status_of}
use Rattle.bastion.specs.Run.{DoesLine, DoesOrder, Stops, TellsIf, Worked, line_went_by, order_went_by, stopped_by}
use Rattle.bastion.specs.Status.{IsStatus, IsStatusOf, RoseBy, RoseInOrder, RoseOf}
use Rattle.bastion.specs.Words.{LineView}
use Rattle.bastion.specs.WorldView.{Post, SessionInputs, WorldView}
use Rattle.bastion.specs.declared.outcome.Outcome.{Outcome}
use Rattle.bastion.specs.declared.outcome.Outcome.TheVariants.{Usage, Unread, Failed, NoMemory, Done, Decided, Ended}
use Rattle.bastion.specs.declared.words.Authorities.{Authorities}
use Rattle.bastion.specs.declared.words.Caller.{Caller}
use Rattle.bastion.specs.declared.words.Command.{Command}
use Rattle.bastion.specs.declared.words.Command.TheVariants.{Netacl, NetaclRun, Table, Authsrv, PlugGw, Gateway, Smap}
use Rattle.bastion.specs.declared.words.GatewayKind.{GatewayKind}
use Rattle.bastion.specs.declared.words.GatewayKind.TheVariants as kinds
use Rattle.bastion.specs.declared.words.Job.{Job}
use Rattle.bastion.specs.declared.words.Job.TheVariants as jobs
use Rattle.bastion.specs.declared.words.Order.{Order}
use Rattle.bastion.specs.declared.words.Order.TheVariants.{ByTable, Alone}
use Rattle.bastion.proofs.CompleteLemmas.{GateComes, gateway_complete, job_complete, job_course, linked_complete, mailed_complete, netacl_complete, netacl_run_complete, served_complete, stops_complete, table_complete, usage_complete}
use Rattle.bastion.proofs.FtpGatewayLemmas.{ftp_headline}
use Rattle.bastion.proofs.GateStatusLemmas.{gateway_course}
use Rattle.bastion.proofs.GatewayLemmas.{telnet_headline}
use Rattle.bastion.proofs.HandedLemmas.{handed_on}
use Rattle.bastion.proofs.HeadlineLemmas.{attended_headline, netacl_by, netacl_run_by, stops_headline}
use Rattle.bastion.proofs.JobLemmas.{job_left, job_status}
use Rattle.bastion.proofs.JobRoseLemmas.{job_rose}
use Rattle.bastion.proofs.LeftLemmas.{tells_later}
use Rattle.bastion.proofs.LinkedLemmas.{linked_headline}
use Rattle.bastion.proofs.MailKeptLemmas.{mail_course, mail_headline}
use Rattle.bastion.proofs.RoseLemmas.{rose_for, stops_rose, worked_deeds, worked_rose}
use Rattle.bastion.proofs.RunLemmas.{IsCourseOf, stops_status, worked_status, worked_unasked}

-- ---- a command whose inputs were read

gateway_headline : (kind : GatewayKind) (authorities : Authorities) (peer : Peer) (inputs : Inputs) (out : Outcome) (old mid new : WorldView) (h : Gated authorities (gateway_service kind) peer inputs out old mid) → TellsIf (fault_line_of out) mid new
    → GateComes kind authorities peer inputs (gateway_course kind authorities peer inputs out old mid h) (status_of out) old new × LogsDenial (Gateway kind authorities peer) (gateway_service kind) peer inputs (status_of out) old new
gateway_headline kinds.Telnet authorities peer inputs out old mid new h tells = telnet_headline authorities peer inputs out old mid new h tells
gateway_headline kinds.Ftp authorities peer inputs out old mid new h tells = ftp_headline authorities peer inputs out old mid new h tells

-- all that is said of a command, by what its session did
record Accounts (name : List ℕ) (command : Command) (outcome : Outcome) (old mid new : WorldView) (h : Worked name command outcome old mid) : Type 0 where
  course : Course
  same : IsCourseOf command course (worked_deeds name command outcome old mid h)
  headline : HeadlineBy command h.inputs course (status_of outcome) h.middle new
  complete : (RoseBy command old new → ⊥) → (status_of outcome ≡ 5) ⊎ IsAllDone command h.inputs course (status_of outcome) old h.middle new

worked_accounts : (name : List ℕ) (command : Command) (outcome : Outcome) (old mid new : WorldView) → (h : Worked name command outcome old mid) → TellsIf (fault_line_of outcome) mid new → Accounts name command outcome old mid new h
worked_accounts name (Netacl query) outcome old mid new h tells = record {
  course = no_course;
  same = tt;
  headline = record {
    replies_legal = tt;
    asks_permitted = worked_unasked name (Netacl query) outcome old mid new h (tells_later (fault_line_of outcome) mid new tells);
    denials_logged = netacl_by (Netacl query) query h.inputs (verdict_of h.inputs.rules query.peer) _ outcome h.middle mid new refl h.works.logging h.works.logged h.works.printed tells;
    answered_stands = tt;
  };
  complete = λ none. netacl_complete name query outcome no_course old mid new none h tells;
}
worked_accounts name (NetaclRun query) outcome old mid new h tells = record {
  course = no_course;
  same = tt;
  headline = record {
    replies_legal = tt;
    asks_permitted = worked_unasked name (NetaclRun query) outcome old mid new h (tells_later (fault_line_of outcome) mid new tells);
    denials_logged = netacl_run_by query h.inputs outcome h.middle mid new h.works tells;
    answered_stands = tt;
  };
  complete = λ none. netacl_run_complete name query outcome no_course old mid new none h tells;
}
worked_accounts name (Table query) outcome old mid new h tells = record {
  course = no_course;
  same = tt;
  headline = record { replies_legal = tt; asks_permitted = worked_unasked name (Table query) outcome old mid new h (tells_later (fault_line_of outcome) mid new tells); denials_logged = tt; answered_stands = tt };
  complete = λ none. table_complete name query outcome no_course old mid new none h tells;
}
worked_accounts name (Authsrv client) outcome old mid new h tells =
    let so = attended_headline client h.inputs outcome h.middle mid new h.works tells in
    record {
      course = so.course;
      same = tt;
      headline = record {
        replies_legal = so.replied;
        asks_permitted = worked_unasked name (Authsrv client) outcome old mid new h (tells_later (fault_line_of outcome) mid new tells);
        denials_logged = so.denials;
        answered_stands = tt;
      };
      complete = λ none. served_complete name client outcome so.course old mid new none h tells so.replied;
    }
worked_accounts name (PlugGw caller) outcome old mid new h tells =
    let so = linked_headline caller h.inputs outcome h.middle mid new h.works tells in
    let course : Course = of_session [] h.works.ending in
    record {
      course = course;
      same = tt;
      headline = record { replies_legal = tt; asks_permitted = so.asks; denials_logged = (so.denials, so.untold); answered_stands = tt };
      complete = λ none. linked_complete name caller outcome course old mid new none h tells so;
    }
worked_accounts name (Gateway kind authorities peer) outcome old mid new h tells =
    let so = gateway_headline kind authorities peer h.inputs outcome h.middle mid new h.works tells in
    record {
      course = gateway_course kind authorities peer h.inputs outcome h.middle mid h.works;
      same = refl;
      headline = record { replies_legal = so.0; asks_permitted = so.0; denials_logged = so.1; answered_stands = tt };
      complete = λ none. gateway_complete name kind authorities peer outcome old mid new none h tells so.0;
    }
worked_accounts name (Smap peer) outcome old mid new h tells =
    let so = mail_headline peer h.inputs outcome h.middle mid new h.works tells in
    record {
      course = mail_course peer h.inputs outcome h.middle mid new h.works tells;
      same = tt;
      headline = record {
        replies_legal = tt;
        asks_permitted = worked_unasked name (Smap peer) outcome old mid new h (tells_later (fault_line_of outcome) mid new tells);
        denials_logged = so.denials;
        answered_stands = so.taken;
      };
      complete = λ none. mailed_complete name peer outcome old mid new none h tells;
    }

-- of the plug it is the same by whatever deeds
any_rose : (caller : Caller) (deeds : List Deed) (outcome : Outcome) (old new : WorldView) → RoseFor (PlugGw caller) [] outcome old new → RoseFor (PlugGw caller) deeds outcome old new
any_rose caller deeds (Ended ending refused) old new h = h
any_rose caller deeds Usage old new h = h
any_rose caller deeds (Unread refusal) old new h = h
any_rose caller deeds (Failed which) old new h = h
any_rose caller deeds (NoMemory step) old new h = h
any_rose caller deeds Done old new h = h
any_rose caller deeds (Decided verdict) old new h = h

-- what a failure that is named has counted, by that course
course_rose : (name : List ℕ) (command : Command) (outcome : Outcome) (course : Course) (old mid : WorldView) → (h : Worked name command outcome old mid) → IsCourseOf command course (worked_deeds name command outcome old mid h) → RoseFor command course.deeds outcome old mid
course_rose name (Gateway kind authorities peer) outcome course old mid h same =
    subst (λ (d : List Deed). RoseFor (Gateway kind authorities peer) d outcome old mid) (sym same) (worked_rose name (Gateway kind authorities peer) outcome old mid h)
course_rose name (Netacl query) outcome course old mid h same = worked_rose name (Netacl query) outcome old mid h
course_rose name (NetaclRun query) outcome course old mid h same = worked_rose name (NetaclRun query) outcome old mid h
course_rose name (Table query) outcome course old mid h same = worked_rose name (Table query) outcome old mid h
course_rose name (Authsrv client) outcome course old mid h same = worked_rose name (Authsrv client) outcome old mid h
course_rose name (PlugGw caller) outcome course old mid h same = any_rose caller course.deeds outcome old mid (worked_rose name (PlugGw caller) outcome old mid h)
course_rose name (Smap peer) outcome course old mid h same = worked_rose name (Smap peer) outcome old mid h

-- ---- whatever the words say

record OrderAccounts (post : Post) (order : Order) (basis : Basis) (outcome : Outcome) (old mid new : WorldView) : Type 0 where
  course : Course
  rose : OrderRose post order course.deeds outcome old mid
  headline : HeadlineOf post order basis course (status_of outcome) old new
  status : IsStatusOf post order basis course (status_of outcome) old new
  complete : (RoseInOrder post order old new → ⊥) → IsOrderComplete post order basis course (status_of outcome) old new

job_stands : (post : Post) → (job : Job) (outcome : Outcome) (old mid new : WorldView) → (h : DoesJob post job outcome old mid) → TellsIf (fault_line_of outcome) mid new → HandsStand post job (job_course post job outcome old mid h) (status_of outcome) old new
job_stands post (jobs.Drill drill) outcome old mid new h tells = tt
job_stands post jobs.SpoolInit outcome old mid new h tells = tt
job_stands post (jobs.OtpCalc file) outcome old mid new h tells = tt
job_stands post (jobs.OtpHex spelling) outcome old mid new h tells = tt
job_stands post jobs.Smapd outcome old mid new h tells = handed_on post outcome old mid new h tells

order_accounts : (post : Post) (name : List ℕ) (order : Order) (outcome : Outcome) (old mid new : WorldView) → (h : DoesOrder post name order outcome old mid) → TellsIf (fault_line_of outcome) mid new
    → OrderAccounts post order (order_went_by post name order outcome old mid h) outcome old mid new
order_accounts post name (ByTable command) outcome old mid new (inl h) tells = record {
  course = no_course;
  rose = rose_for command [] outcome old mid (stops_rose name command outcome old mid h);
  headline = stops_headline name command outcome no_course old mid new h tells;
  status = stops_status name command outcome no_course old mid new h (tells_later (fault_line_of outcome) mid new tells);
  complete = λ none. stops_complete name command outcome no_course old mid new none h tells;
}
order_accounts post name (ByTable command) outcome old mid new (inr h) tells =
    let so = worked_accounts name command outcome old mid new h tells in
    record {
      course = so.course;
      rose = course_rose name command outcome so.course old mid h so.same;
      headline = so.headline;
      status = worked_status name command outcome so.course old mid new h so.same (tells_later (fault_line_of outcome) mid new tells);
      complete = so.complete;
    }
order_accounts post name (Alone job) outcome old mid new h tells = record {
  course = job_course post job outcome old mid h;
  rose = job_rose post job outcome old mid h;
  headline = record {
    unasked = ap (λ (i : SessionInputs). i.dialer) (tells_later (fault_line_of outcome) mid new tells).inputs ∙ (job_left post job outcome old mid h).dialer;
    answered_stands = job_stands post job outcome old mid new h tells;
  };
  status = job_status post job outcome old mid new h (tells_later (fault_line_of outcome) mid new tells);
  complete = λ none. job_complete post job outcome old mid new none h tells;
}

record LineAccounts (post : Post) (line : Option LineView) (basis : Basis) (outcome : Outcome) (old mid new : WorldView) : Type 0 where
  course : Course
  rose : RoseIn post line course.deeds outcome old mid
  headline : Headlines post line basis course (status_of outcome) old new
  status : IsStatus post line basis course (status_of outcome) old new
  complete : (RoseOf post line old new → ⊥) → IsComplete post line basis course (status_of outcome) old new

line_accounts : (post : Post) (line : Option LineView) (outcome : Outcome) (old mid new : WorldView) → (h : DoesLine post line outcome old mid) → TellsIf (fault_line_of outcome) mid new
    → LineAccounts post line (line_went_by post line outcome old mid h) outcome old mid new
line_accounts post None outcome old mid new h tells = record {
  course = no_course;
  rose = subst (λ (o : Outcome). CountRose o old mid) (sym h.usage) tt;
  headline = ap (λ (i : SessionInputs). i.dialer) (tells_later (fault_line_of outcome) mid new tells).inputs ∙ ap (λ (w : WorldView). w.inputs.dialer) h.is;
  status = ap status_of h.usage;
  complete = λ none. usage_complete outcome old mid new none h tells;
}
line_accounts post (Some line) outcome old mid new h tells =
    let so = order_accounts post line.table line.order outcome old mid new h tells in
    record { course = so.course; rose = so.rose; headline = so.headline; status = so.status; complete = so.complete }

-- ---- the run

-- from what it came to
pub run_account : (post : Post) (line : Option LineView) (outcome : Outcome) (status : ℕ) (old mid new : WorldView) → DoesLine post line outcome old mid → TellsIf (fault_line_of outcome) mid new → status ≡ status_of outcome → Account post line status old new
run_account post line outcome status old mid new does tells is =
    let basis = line_went_by post line outcome old mid does in
    let so : LineAccounts post line basis outcome old mid new = line_accounts post line outcome old mid new does tells in
    record {
      ran = record { outcome = outcome; middle = mid; does = does; course = so.course; rose = so.rose; tells = tells; status_is = is };
      headline = subst (λ (s : ℕ). Headlines post line basis so.course s old new) (sym is) so.headline;
      status = subst (λ (s : ℕ). IsStatus post line basis so.course s old new) (sym is) so.status;
      complete = λ none. subst (λ (s : ℕ). IsComplete post line basis so.course s old new) (sym is) (so.complete none);
    }

-- ---- the headline by itself

stops_basis : (name : List ℕ) (command : Command) (outcome : Outcome) (old new : WorldView) → (h : Stops name command outcome old new) → IsBasis name command (stopped_by name command outcome old new h) old
stops_basis name command (Unread refusal) old new h = h.read
stops_basis name command Usage old new h = tt
stops_basis name command (Failed which) old new h = tt
stops_basis name command (NoMemory step) old new h = tt
stops_basis name command Done old new h = tt
stops_basis name command (Decided verdict) old new h = tt
stops_basis name command (Ended ending refused) old new h = tt

order_basis : (post : Post) (name : List ℕ) (order : Order) (outcome : Outcome) (old new : WorldView) → (h : DoesOrder post name order outcome old new) → IsOrderBasis name order (order_went_by post name order outcome old new h) old
order_basis post name (ByTable command) outcome old new (inl h) = stops_basis name command outcome old new h
order_basis post name (ByTable command) outcome old new (inr h) = (h.read, h.only)
order_basis post name (Alone job) outcome old new h = tt

line_basis : (post : Post) (line : Option LineView) (outcome : Outcome) (old new : WorldView) → (h : DoesLine post line outcome old new) → IsLineBasis line (line_went_by post line outcome old new h) old
line_basis post None outcome old new h = tt
line_basis post (Some line) outcome old new h = order_basis post line.table line.order outcome old new h

pub account_headline : (post : Post) (line : Option LineView) (status : ℕ) (old new : WorldView) → Account post line status old new → Headline post line status old new
account_headline post line status old new a = record {
  basis = line_went_by post line a.ran.outcome old a.ran.middle a.ran.does;
  is_basis = line_basis post line a.ran.outcome old a.ran.middle a.ran.does;
  course = a.ran.course;
  so = a.headline;
}
