-- From the book that was opened to what a session over it comes to and leaves.
use Rattle.std.proofs.Common.{◌≡◌, sym, ◌∙◌, ap, subst, refl, inl, inr, ℕ, List, Bool, true, false}
use Rattle.auth_machine.specs.Book.{BookView}
use Rattle.auth_machine.specs.History.{CountsCalls, CountsUnkept, HasRecords, IsLegal, IsSound, Origin}
use Rattle.auth_machine.specs.Port.{BookOrigin, book_origin, book_port}
use Rattle.client_service.proofs.ConnLemmas.{conn_origin, console_origin}
use Rattle.client_service.specs.Conn.{Conn, IsServed, Untouched}
use Rattle.client_service.specs.Meeting.{dialer_then}
use Rattle.fw_outside.specs.DialerView.{DialerView}
use Rattle.fw_types.specs.declared.ending.Ending.{Ending}
use Rattle.fw_types.specs.declared.peer.Peer.{Peer}
use Rattle.gate_rules.specs.Reading.{RuleBook, rules_of}
use Rattle.gate_rules.specs.Verdict.{verdict_of}
use Rattle.gate_rules.specs.declared.service.Service.{Service}
use Rattle.gate_rules.specs.declared.service.Service.TheVariants as services
use Rattle.gate_rules.specs.declared.verdict.Verdict.{Verdict}
use Rattle.gate_rules.specs.declared.verdict.Verdict.TheVariants.{Permit, Deny}
use Rattle.remote_port.specs.Remote.{RemoteOrigin, RemoteView, remote_port}
use Rattle.remote_port.specs.Texts.{RemoteTexts}
use Rattle.session_acts.specs.Dummies.{nowhere}
use Rattle.std.specs.Prelude.{Some, None, Ok, Err}
use Rattle.bastion.specs.Answering.{answerer_of, remote_at_first}
use Rattle.bastion.specs.Gating.{Gated, devices_over}
use Rattle.bastion.specs.Run.{DoesFor}
use Rattle.bastion.specs.Serving.{Attended, OverBook, Serves, UntouchedAt, book_at_first, devices_at, most_entries, origin_of}
use Rattle.bastion.specs.Reading.{Finds, Found, Unfound}
use Rattle.bastion.specs.SessionSteps.{EndsOver, HoldsOver, IsUndialed, Opens, PassesLink, PassesOver, StopsEach}
use Rattle.bastion.specs.Words.{is_remote}
use Rattle.bastion.specs.WorldView.{WorldView}
use Rattle.bastion.specs.declared.outcome.Outcome.{Outcome}
use Rattle.bastion.specs.declared.outcome.Outcome.TheVariants.{Ended}
use Rattle.bastion.specs.declared.words.Authorities.{Authorities}
use Rattle.bastion.specs.declared.words.Authorities.TheVariants.{Records, Remote}
use Rattle.bastion.specs.declared.words.Client.{Client}
use Rattle.bastion.specs.declared.words.Command.TheVariants as commands
use Rattle.bastion.specs.declared.words.GatewayKind.{GatewayKind}
use Rattle.bastion.specs.declared.words.Order.TheVariants.{ByTable}
use Rattle.bastion.specs.declared.words.GatewayKind.TheVariants as kinds
use Rattle.bastion.specs.Gateways.{gateway_service}
use Rattle.bastion.specs.Inputs.{book_needs, no_inputs}
use Rattle.bastion.proofs.DoesLemmas.{AskedFiles, stops_rules}
use Rattle.bastion.proofs.InputLemmas.{NeedsRules, alone, inputs_rules}

-- ---- what the history stands on stays

serves_origin : (console : Bool) (rules : RuleBook) (peer : Peer) (old new : WorldView) (first last : BookView) (before after : DialerView) (ending : Ending) → Serves console rules peer (devices_at old first before) (devices_at new last after) ending
    → book_origin last ≡ book_origin first
serves_origin true rules peer old new first last before after ending h = console_origin services.Authsrv peer (devices_at old first before) (devices_at new last after) ending h
serves_origin false rules peer old new first last before after ending h = conn_origin services.Authsrv rules peer (devices_at old first before) (devices_at new last after) ending h

-- ---- the book

module _ (name : List ℕ) (service : Service) (rules : RuleBook) (first : BookView) (old mid : WorldView) (o : Opens name service rules first old mid) where
  abbrev begun : BookView
  begun = book_at_first (origin_of o.inputs) most_entries o.before

  over_book : (book : BookView) (ending : Ending) (out : Outcome) (held new : WorldView) → book_origin book ≡ book_origin first → held.files ≡ mid.files → held.inputs.launcher ≡ mid.inputs.launcher → held.inputs.disks ≡ mid.inputs.disks → held.inputs.remote ≡ mid.inputs.remote → EndsOver book ending out held new
      → OverBook o.inputs o.before book ending out o.middle new
  over_book book ending out held new same files launcher disks remote ends =
      let back = ends.back in
      let origin : book.origin ≡ origin_of o.inputs = ap (λ (b : BookOrigin). b.origin) same ∙ ap (λ (b : BookView). b.origin) o.at_first in
      let limit : book.limit ≡ most_entries = ap (λ (b : BookOrigin). b.limit) same ∙ ap (λ (b : BookView). b.limit) o.at_first in
      let failed : book.failed_before ≡ o.before.faults = ap (λ (b : BookOrigin). b.failed_before) same ∙ ap (λ (b : BookView). b.failed_before) o.at_first in
      let calls : book.called_before ≡ o.before.calls = ap (λ (b : BookOrigin). b.called_before) same ∙ ap (λ (b : BookView). b.called_before) o.at_first in
      record {
        keeper = o.keeper;
        sound = subst (λ (g : Origin). IsSound g) origin back.sound;
        legal = subst (λ (g : Origin). IsLegal g book.history) origin back.legal;
        has = subst (λ (g : Origin). HasRecords g book.history book.keeper) origin back.has;
        faults = subst (λ (n : ℕ). CountsUnkept n book.history book.keeper) failed back.faults;
        called = subst (λ (n : ℕ). CountsCalls n (origin_of o.inputs) book.history book.asks book.keeper) calls
            (subst (λ (g : Origin). CountsCalls book.called_before g book.history book.asks book.keeper) origin back.called);
        full = λ was. ends.full was ∙ limit;
        comes = ends.comes;
        kept = ap (λ (d : WorldView). d.inputs.keeper) back.is;
        files = ap (λ (d : WorldView). d.files) back.is ∙ files ∙ ap (λ (d : WorldView). d.files) o.is;
        launcher = ap (λ (d : WorldView). d.inputs.launcher) back.is ∙ launcher ∙ ap (λ (d : WorldView). d.inputs.launcher) o.is;
        disks = ap (λ (d : WorldView). d.inputs.disks) back.is ∙ disks ∙ ap (λ (d : WorldView). d.inputs.disks) o.is;
        remote = ap (λ (d : WorldView). d.inputs.remote) back.is ∙ remote ∙ ap (λ (d : WorldView). d.inputs.remote) o.is;
      }

  -- ---- a client of the authentication server

  untouched_at : (console : Bool) (verdict : Verdict) (book : BookView) → UntouchedAt console verdict first book → UntouchedAt console verdict o.before book.keeper
  untouched_at true verdict book h = tt
  untouched_at false (Permit line) book h = tt
  untouched_at false (Deny line) book h = ap (λ (b : BookView). b.keeper) h ∙ ap (λ (b : BookView). b.keeper) o.at_first

  -- the same session by the inputs, from the world that has its keeper to the one that has it again
  holds_attended : (client : Client) (out : Outcome) (new : WorldView) → HoldsOver client rules first out mid new → Attended client o.inputs out o.middle new
  holds_attended client out new h =
      let Meets : RuleBook → BookView → WorldView → WorldView → Type 0 = λ r b one other. Serves client.console r client.peer (devices_at one b nowhere) (devices_at other h.book h.dialer) h.ending in
      let same : book_origin h.book ≡ book_origin first = serves_origin client.console rules client.peer mid h.middle first h.book nowhere h.dialer h.ending h.serves in
      let back : Meets rules first mid new = subst (λ (w : WorldView). Meets rules first mid w) (sym h.ends.back.is) h.serves in
      let here : Meets rules first o.middle new = subst (λ (w : WorldView). Meets rules first w new) o.is back in
      record {
        before = o.before;
        book = h.book;
        ending = h.ending;
        over = over_book h.book h.ending out h.middle new same h.files h.launcher h.disks h.remote h.ends;
        dialer = h.dialer;
        serves = subst (λ (r : RuleBook). Meets r begun o.middle new) o.rules_are (subst (λ (b : BookView). Meets rules b o.middle new) o.at_first here);
        undialed = h.undialed;
        untouched = subst (λ (r : RuleBook). UntouchedAt client.console (verdict_of r client.peer) o.before h.book.keeper) o.rules_are (untouched_at client.console (verdict_of rules client.peer) h.book h.untouched);
        links = ap (λ (d : WorldView). d.inputs.dialer) h.ends.back.is ∙ h.links ∙ ap (λ (d : WorldView). d.inputs.dialer) o.is;
      }

  -- ---- a client of a gateway

  telnet_untouched : (verdict : Verdict) (book : BookView) → Untouched services.TnGw verdict first book → Untouched services.TnGw verdict o.before book.keeper
  telnet_untouched (Permit line) book h = tt
  telnet_untouched (Deny line) book h = ap (λ (b : BookView). b.keeper) h ∙ ap (λ (b : BookView). b.keeper) o.at_first

  ftp_untouched : (verdict : Verdict) (book : BookView) → Untouched services.FtpGw verdict first book → Untouched services.FtpGw verdict o.before book.keeper
  ftp_untouched (Permit line) book h = tt
  ftp_untouched (Deny line) book h = ap (λ (b : BookView). b.keeper) h ∙ ap (λ (b : BookView). b.keeper) o.at_first

  -- the same session by the inputs, if what a denied client leaves is left so
  passes_gated : (by : Service) (peer : Peer) → ((verdict : Verdict) (book : BookView) → Untouched by verdict first book → Untouched by verdict o.before book.keeper)
      → (out : Outcome) (new : WorldView) → PassesOver by peer rules first out mid new → Gated Records by peer o.inputs out o.middle new
  passes_gated by peer untouched out new h =
      let Meets : RuleBook → BookView → WorldView → WorldView → Type 0 = λ r b one other. Conn by r peer (devices_over one (book_port b)) (devices_over other (book_port h.book)) h.ending in
      let same : book_origin h.book ≡ book_origin first = conn_origin by rules peer (devices_over mid (book_port first)) (devices_over h.middle (book_port h.book)) h.ending h.serves in
      let back : Meets rules first mid new = subst (λ (w : WorldView). Meets rules first mid w) (sym h.ends.back.is) h.serves in
      let here : Meets rules first o.middle new = subst (λ (w : WorldView). Meets rules first w new) o.is back in
      record {
        before = o.before;
        view = h.book;
        ending = h.ending;
        over = over_book h.book h.ending out h.middle new same h.files h.launcher h.disks h.remote h.ends;
        serves = subst (λ (r : RuleBook). Meets r begun o.middle new) o.rules_are (subst (λ (b : BookView). Meets rules b o.middle new) o.at_first here);
        untouched = subst (λ (r : RuleBook). Untouched by (verdict_of r peer) o.before h.book.keeper) o.rules_are (untouched (verdict_of rules peer) h.book h.untouched);
      }

-- ---- the commands

pub holds_does : (name : List ℕ) (client : Client) (rules : RuleBook) (first : BookView) (out : Outcome) (old mid new : WorldView) → Opens name services.Authsrv rules first old mid → HoldsOver client rules first out mid new → DoesFor name (commands.Authsrv client) out old new
holds_does name client rules first out old mid new o h =
    inr (record { reading = o.reading; inputs = o.inputs; read = o.read (commands.Authsrv client) refl; middle = o.middle; only = o.only; works = holds_attended name services.Authsrv rules first old mid o client out new h })

gateway_untouched : (name : List ℕ) (kind : GatewayKind) (rules : RuleBook) (first : BookView) (old mid : WorldView) (o : Opens name (gateway_service kind) rules first old mid) (verdict : Verdict) (book : BookView) → Untouched (gateway_service kind) verdict first book
    → Untouched (gateway_service kind) verdict o.before book.keeper
gateway_untouched name kinds.Telnet rules first old mid o verdict book h = telnet_untouched name services.TnGw rules first old mid o verdict book h
gateway_untouched name kinds.Ftp rules first old mid o verdict book h = ftp_untouched name services.FtpGw rules first old mid o verdict book h

gateway_gated : (name : List ℕ) (kind : GatewayKind) (peer : Peer) (rules : RuleBook) (first : BookView) (out : Outcome) (old mid new : WorldView) → Opens name (gateway_service kind) rules first old mid → PassesOver (gateway_service kind) peer rules first out mid new
    → DoesFor name (commands.Gateway kind Records peer) out old new
gateway_gated name kind peer rules first out old mid new o h =
    let gated = passes_gated name (gateway_service kind) rules first old mid o (gateway_service kind) peer (gateway_untouched name kind rules first old mid o) out new h in
    inr (record { reading = o.reading; inputs = o.inputs; read = o.read (commands.Gateway kind Records peer) refl; middle = o.middle; only = o.only; works = gated })

module _ (name : List ℕ) (kind : GatewayKind) (peer : Peer) (service : Service) (is : service ≡ gateway_service kind) where
  pub gateway_does : (rules : RuleBook) (first : BookView) (out : Outcome) (old mid new : WorldView) → Opens name service rules first old mid → PassesOver service peer rules first out mid new → DoesFor name (commands.Gateway kind Records peer) out old new
  gateway_does rules first out old mid new o h =
      gateway_gated name kind peer rules first out old mid new (subst (λ (s : Service). Opens name s rules first old mid) is o) (subst (λ (s : Service). PassesOver s peer rules first out mid new) is h)

  pub gateway_stops : (out : Outcome) (old new : WorldView) → StopsEach name service out old new → DoesFor name (commands.Gateway kind Records peer) out old new
  gateway_stops out old new h = inl (h (commands.Gateway kind Records peer) (ap book_needs (sym is)))

-- ---- over the link to a server elsewhere

-- a client was served over the ends that were taken out, and then they were put back
pub link_passes : (service : Service) (peer : Peer) (rules : RuleBook) (ends : RemoteOrigin) (first remote : RemoteView) (ending : Ending) (refused : Bool) (old mid held new : WorldView) → old.inputs.remote ≡ Some ends → mid ≡ record old { inputs = record (old.inputs) { remote = None } }
    → first ≡ remote_at_first ends → Conn service rules peer (devices_over mid (remote_port first)) (devices_over held (remote_port remote)) ending → Untouched service (verdict_of rules peer) first remote → refused ≡ remote.talk.refused
    → held.files ≡ mid.files → held.inputs.keeper ≡ mid.inputs.keeper → held.inputs.launcher ≡ mid.inputs.launcher → held.inputs.disks ≡ mid.inputs.disks
    → RemoteTexts remote → new ≡ record held { inputs = record (held.inputs) { remote = Some (answerer_of Remote remote) } }
    → PassesLink service peer rules (Ended ending refused) old new
link_passes service peer rules ends first remote ending refused old mid held new there taken is serves untouched was files keeper launcher disks texts given =
    let Meets : RemoteView → WorldView → WorldView → Type 0 = λ r one other. Conn service rules peer (devices_over one (remote_port r)) (devices_over other (remote_port remote)) ending in
    let here : Meets first old held = subst (λ (w : WorldView). Meets first w held) taken serves in
    let back : Meets first old new = subst (λ (w : WorldView). Meets first old w) (sym given) here in
    record {
      ends = ends;
      there = there;
      remote = remote;
      ending = ending;
      serves = subst (λ (r : RemoteView). Meets r old new) is back;
      untouched = subst (λ (r : RemoteView). Untouched service (verdict_of rules peer) r remote) is untouched;
      texts = texts;
      comes = ap (λ (b : Bool). Ended ending b) was;
      back = (ap (λ (w : WorldView). w.inputs.remote) given, ap (λ (w : WorldView). w.inputs.keeper) given ∙ keeper ∙ ap (λ (w : WorldView). w.inputs.keeper) taken);
      files = ap (λ (w : WorldView). w.files) given ∙ files ∙ ap (λ (w : WorldView). w.files) taken;
      launcher = ap (λ (w : WorldView). w.inputs.launcher) given ∙ launcher ∙ ap (λ (w : WorldView). w.inputs.launcher) taken;
      disks = ap (λ (w : WorldView). w.inputs.disks) given ∙ disks ∙ ap (λ (w : WorldView). w.inputs.disks) taken;
    }

link_untouched : (kind : GatewayKind) (verdict : Verdict) (ends : RemoteOrigin) (remote : RemoteView) → Untouched (gateway_service kind) verdict (remote_at_first ends) remote → Untouched (gateway_service kind) verdict ends (answerer_of Remote remote)
link_untouched kinds.Telnet (Permit line) ends remote h = tt
link_untouched kinds.Telnet (Deny line) ends remote h = ap (answerer_of Remote) h
link_untouched kinds.Ftp (Permit line) ends remote h = tt
link_untouched kinds.Ftp (Deny line) ends remote h = ap (answerer_of Remote) h

link_gated : (kind : GatewayKind) (peer : Peer) (rules : RuleBook) (out : Outcome) (old new : WorldView) → PassesLink (gateway_service kind) peer rules out old new → Gated Remote (gateway_service kind) peer (record no_inputs { rules = rules }) out old new
link_gated kind peer rules out old new h = record {
  before = h.ends;
  view = h.remote;
  ending = h.ending;
  over = record {
    there = h.there;
    origin = conn_origin (gateway_service kind) rules peer (devices_over old (remote_port (remote_at_first h.ends))) (devices_over new (remote_port h.remote)) h.ending h.serves;
    texts = h.texts;
    comes = h.comes;
    back = h.back;
    files = h.files;
    launcher = h.launcher;
    disks = h.disks;
  };
  serves = h.serves;
  untouched = link_untouched kind (verdict_of rules peer) h.ends h.remote h.untouched;
}

needs_link : (kind : GatewayKind) (peer : Peer) → NeedsRules (commands.Gateway kind Remote peer) (gateway_service kind)
needs_link kind peer = record { only = refl; no_records = refl }

module _ (name : List ℕ) (kind : GatewayKind) (peer : Peer) (service : Service) (is : service ≡ gateway_service kind) where
  pub link_does : (rules : RuleBook) (out : Outcome) (old mid new : WorldView) → Finds (rules_of service) name (Ok rules) old.files mid.files → AskedFiles old mid → PassesLink service peer rules out mid new → DoesFor name (commands.Gateway kind Remote peer) out old new
  link_does rules out old mid new found asked h =
      let here : Found (rules_of (gateway_service kind)) name rules old.files mid.files = subst (λ (s : Service). Found (rules_of s) name rules old.files mid.files) is found in
      inr (record {
        reading = alone here.by.table;
        inputs = record no_inputs { rules = rules };
        read = inputs_rules (commands.Gateway kind Remote peer) (gateway_service kind) (needs_link kind peer) name rules old here.by;
        middle = mid;
        only = record { files = here.asks; inputs = asked.inputs; output = asked.output; logs = asked.logs };
        works = link_gated kind peer rules out mid new (subst (λ (s : Service). PassesLink s peer rules out mid new) is h);
      })

  pub link_stops : (out : Outcome) (old new : WorldView) → Finds (rules_of service) name (Err out) old.files new.files → AskedFiles old new → DoesFor name (commands.Gateway kind Remote peer) out old new
  link_stops out old new unfound asked =
      stops_rules name (commands.Gateway kind Remote peer) (gateway_service kind) (needs_link kind peer) out old new (subst (λ (s : Service). Unfound (rules_of s) name out old.files new.files) is unfound) asked

-- neither is the plug
served_by_kind : (kind : GatewayKind) (rules : RuleBook) → IsServed (gateway_service kind) rules
served_by_kind kinds.Telnet rules = tt
served_by_kind kinds.Ftp rules = tt

pub gateway_served : (kind : GatewayKind) (service : Service) → service ≡ gateway_service kind → (rules : RuleBook) → IsServed service rules
gateway_served kind service is rules = subst (λ (s : Service). IsServed s rules) (sym is) (served_by_kind kind rules)

-- ---- the dialer

verdict_undialed : (verdict : Verdict) (rules : RuleBook) (old new : DialerView) → new ≡ dialer_then verdict rules old → IsUndialed old new
verdict_undialed (Permit line) rules old new is = is ∙ ap (λ (d : DialerView). record old { waits = d.waits }) (sym is)
verdict_undialed (Deny line) rules old new is = is ∙ ap (λ (d : DialerView). record old { waits = d.waits }) (sym is)

pub conn_undialed_so : (rules : RuleBook) (peer : Peer) (old new : DialerView) → new ≡ dialer_then (verdict_of rules peer) rules old → IsUndialed old new
conn_undialed_so rules peer old new is = verdict_undialed (verdict_of rules peer) rules old new is

pub same_undialed : (old new : DialerView) → new ≡ old → IsUndialed old new
same_undialed old new is = is ∙ ap (λ (d : DialerView). record old { waits = d.waits }) (sym is)

-- a gateway whose users a server elsewhere knows wants both ends
pub ends_wanted : (kind : GatewayKind) (authorities : Authorities) (peer : Peer) → authorities ≡ Remote → is_remote (ByTable (commands.Gateway kind authorities peer)) ≡ true
ends_wanted kind Records peer is = absurd (cc)
ends_wanted kind Remote peer is = refl
