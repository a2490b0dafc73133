-- From what a session of the plug did to the headline, and to a run in which no count rose.
use Rattle.std.proofs.Common.{◌≡◌, ◌≢◌, ◌∙◌, ℕ, List, [], ◌∷◌, ◌++◌, refl, sym, ap, subst, inl, inr, ◌⊎◌, arith, append_assoc, Bool, false}
use Rattle.std.specs.Prelude.{Option, Some, None, unwrap_or, codes, if◌then◌else◌}
use Rattle.client_service.proofs.PlugLemmas.{IsLoggedAlone, silent_denial}
use Rattle.client_service.specs.Conn.{NotedIf, Treats}
use Rattle.client_service.specs.Meeting.{denied_by, logged_row, patient, timeout_of}
use Rattle.client_service.specs.Decision.{decision_text}
use Rattle.client_service.specs.Endings.{ending_line}
use Rattle.fw_outside.specs.Counts.{Rose}
use Rattle.fw_outside.specs.DialerView.{DialerView, LinkView, dialer_waiting}
use Rattle.fw_outside.specs.SinkView.{SinkView}
use Rattle.fw_outside.specs.ToldList.{grown}
use Rattle.fw_outside.specs.declared.ask.Ask.TheVariants.{Main}
use Rattle.fw_types.specs.declared.dest.Dest.{Dest}
use Rattle.fw_types.specs.declared.ending.Ending.{Ending}
use Rattle.fw_types.specs.declared.ending.Ending.TheVariants as endings
use Rattle.gate_rules.specs.Reading.{RuleBook}
use Rattle.gate_rules.specs.Verdict.{verdict_of}
use Rattle.gate_rules.specs.declared.service.Service.TheVariants as services
use Rattle.gate_rules.specs.declared.verdict.Verdict.{Verdict}
use Rattle.gate_rules.specs.declared.verdict.Verdict.TheVariants.{Permit, Deny}
use Rattle.plug_gate.proofs.EndLemmas.{plug_ends, plug_fronts}
use Rattle.plug_gate.specs.Dummies.{lent}
use Rattle.plug_gate.specs.Dialogue.{connect_text, plug_row}
use Rattle.plug_gate.specs.Laws.{Ends, GivesFronts, IsPlugged, IsTurnedDown, IsWhole}
use Rattle.session_acts.proofs.ClientLemmas.{logs_first}
use Rattle.session_acts.proofs.LinkedLemmas.{adds_one}
use Rattle.session_acts.proofs.ToldLemmas.{by_both, by_nothing}
use Rattle.session_acts.specs.Client.{LogFails, LogsFirst, with_line}
use Rattle.session_acts.specs.Denying.{no_rows}
use Rattle.session_acts.specs.Laws.{Adds}
use Rattle.session_acts.specs.Relayed.{relayed}
use Rattle.session_acts.specs.Session.{RelaySession}
use Rattle.session_acts.specs.World.{Devices}
use Rattle.client_service.specs.PlugService.{LinksTo, target_of}
use Rattle.bastion.specs.Basis.{Course}
use Rattle.bastion.specs.Asking.{AsksAtMost, FailsAtLog, IsAsked, IsUnasked, linking_text}
use Rattle.bastion.specs.Complete as complete
use Rattle.bastion.specs.Complete.{IsLinkedWhole, IsPutThrough}
use Rattle.bastion.specs.Headline.{LogsDenial}
use Rattle.bastion.specs.Inputs.{Inputs}
use Rattle.bastion.specs.Linking.{Linked, devices_for, linked_devices}
use Rattle.bastion.specs.Outcome.{ending_status, fault_line_of, is_at_limit, status_of, verdict_status}
use Rattle.bastion.specs.Run.{ReadsOnly, TellsIf, verdict_for}
use Rattle.bastion.specs.Status.{IsLinked}
use Rattle.bastion.specs.Works.{with_given}
use Rattle.bastion.specs.WorldView.{SessionInputs, WorldView}
use Rattle.bastion.specs.declared.outcome.Outcome.{Outcome}
use Rattle.bastion.specs.declared.outcome.Outcome.TheVariants.{Ended}
use Rattle.bastion.specs.declared.words.Caller.{Caller}
use Rattle.bastion.specs.declared.words.Command.TheVariants.{PlugGw}
use Rattle.bastion.proofs.LinkingLemmas.{linked_status}
use Rattle.bastion.proofs.QuietLemmas.{Quiet, noted_whole, same_from}

-- ---- what a client came to

-- the rules permit the peer
record IsAdmitted (caller : Caller) (rules : RuleBook) (old new : Devices (Unit {0})) (ending : Ending) : Type 0 where
  line : ℕ
  permitted : verdict_of rules caller.peer ≡ Permit line
  dest : Dest
  target : target_of rules line ≡ Some dest
  logs : SinkView
  session : RelaySession (relayed no_rows) (logged_row (decision_text (Permit line) (services.PlugGw caller.port) caller.peer) (plug_row (connect_text caller.port caller.peer dest line) dest)) (patient (timeout_of rules) old) (record new { logs = logs }) ending
  noted : NotedIf (ending_line (services.PlugGw caller.port) caller.peer ending) logs new.logs

-- the log failed within the line of a denial, or has it, and nothing else was done
abbrev TurnedSo : Caller → ℕ → Devices (Unit {0}) → Devices (Unit {0}) → Ending → Type 0
TurnedSo caller line old new ending =
    ((new ≡ record old { logs = new.logs }) × (ending ≡ endings.LogFault)) ⊎ ((new ≡ with_line (decision_text (Deny line) (services.PlugGw caller.port) caller.peer) old) × (ending ≡ endings.Denied line))

-- the rules deny the peer
record IsTurnedOff (caller : Caller) (rules : RuleBook) (old new : Devices (Unit {0})) (ending : Ending) : Type 0 where
  line : ℕ
  denied : verdict_of rules caller.peer ≡ Deny line
  so : TurnedSo caller line old new ending

-- the rules permit the peer
admits : (caller : Caller) (inputs : Inputs) (line : ℕ) (ending : Ending) (old mid : WorldView) (logs : SinkView) → verdict_of inputs.rules caller.peer ≡ Permit line
    → LinksTo caller.port line inputs.rules caller.peer ending (devices_for old) (record (devices_for mid) { logs = logs }) → NotedIf (ending_line (services.PlugGw caller.port) caller.peer ending) logs mid.logs
    → IsAdmitted caller inputs.rules (linked_devices old) (linked_devices mid) ending
admits caller inputs line ending old mid logs permitted h noted = record { line = line; permitted = permitted; dest = h.over.dest; target = h.over.target; logs = logs; session = h.over.session; noted = noted }

-- the log's last line is no ending's
unnoted : (caller : Caller) (line : ℕ) (ending : Ending) (logs new : SinkView) → ending ≡ endings.Denied line → NotedIf (ending_line (services.PlugGw caller.port) caller.peer ending) logs new → new ≡ logs
unnoted caller line ending logs new is h = let Noted : Ending → Type 0 = λ e. NotedIf (ending_line (services.PlugGw caller.port) caller.peer e) logs new in subst Noted is h

turned_by : (caller : Caller) (line : ℕ) (told ending : Ending) (old mid : WorldView) (logs : SinkView) → ending ≡ denied_by line told → NotedIf (ending_line (services.PlugGw caller.port) caller.peer ending) logs mid.logs
    → LogFails (decision_text (Deny line) (services.PlugGw caller.port) caller.peer) (devices_for old) (record (devices_for mid) { logs = logs }) told
    ⊎ IsLoggedAlone (decision_text (Deny line) (services.PlugGw caller.port) caller.peer) (devices_for old) (record (devices_for mid) { logs = logs }) told
    → TurnedSo caller line (linked_devices old) (linked_devices mid) ending
turned_by caller line told ending old mid logs ends noted (inl fails) =
    inl (ap (λ (d : Devices (Unit {0})). lent d.inlet d.outlet mid.logs d.dialer) fails.same, ends ∙ ap (denied_by line) fails.ends)
turned_by caller line told ending old mid logs ends noted (inr alone) =
    let denied : ending ≡ endings.Denied line = ends ∙ ap (denied_by line) alone.ends in
    inr (
      ap (λ (s : SinkView). lent mid.inputs.input mid.output s mid.inputs.dialer) (unnoted caller line ending logs mid.logs denied noted) ∙ ap (λ (d : Devices (Unit {0})). lent d.inlet d.outlet d.logs d.dialer) alone.same,
      denied,
    )

so_by : (caller : Caller) (inputs : Inputs) (verdict : Verdict) (ending : Ending) (old mid : WorldView) (logs : SinkView) → verdict_of inputs.rules caller.peer ≡ verdict
    → Treats verdict (services.PlugGw caller.port) inputs.rules caller.peer ending (devices_for old) (record (devices_for mid) { logs = logs }) → NotedIf (ending_line (services.PlugGw caller.port) caller.peer ending) logs mid.logs
    → IsAdmitted caller inputs.rules (linked_devices old) (linked_devices mid) ending ⊎ IsTurnedOff caller inputs.rules (linked_devices old) (linked_devices mid) ending
so_by caller inputs (Permit line) ending old mid logs is h noted = inl (admits caller inputs line ending old mid logs is h noted)
so_by caller inputs (Deny line) ending old mid logs is h noted =
    inr (record {
      line = line;
      denied = is;
      so =
          turned_by caller line h.told ending old mid logs h.ends noted
          (silent_denial (decision_text (Deny line) (services.PlugGw caller.port) caller.peer) (devices_for old) (record (devices_for mid) { logs = logs }) h.told h.session);
    })

linked_so : (caller : Caller) (inputs : Inputs) (out : Outcome) (old mid : WorldView) → (h : Linked caller inputs out old mid)
    → IsAdmitted caller inputs.rules (linked_devices old) (linked_devices mid) h.ending ⊎ IsTurnedOff caller inputs.rules (linked_devices old) (linked_devices mid) h.ending
linked_so caller inputs out old mid h = so_by caller inputs (verdict_of inputs.rules caller.peer) h.ending old mid h.serves.logs refl h.serves.treats h.serves.noted

-- ---- no line is told behind the session's

no_limit : (ending : Ending) → is_at_limit ending false ≡ false
no_limit endings.Done = refl
no_limit (endings.Denied line) = refl
no_limit endings.ClientFault = refl
no_limit endings.ServerFault = refl
no_limit endings.LogFault = refl
no_limit endings.AuthFault = refl
no_limit endings.Idle = refl
no_limit endings.NoRoute = refl
no_limit endings.Spent = refl
no_limit endings.NoMemory = refl

ended_status : (ending : Ending) → status_of (Ended ending false) ≡ ending_status ending
ended_status ending = ap (λ (b : Bool). if b then 6 else ending_status ending) (no_limit ending)

untold_more : (out : Outcome) (ending : Ending) (mid new : WorldView) → out ≡ Ended ending false → TellsIf (fault_line_of out) mid new → new ≡ mid
untold_more out ending mid new comes h =
    let told : TellsIf (fault_line_of (Ended ending false)) mid new = subst (λ (o : Outcome). TellsIf (fault_line_of o) mid new) comes h in
    let none : fault_line_of (Ended ending false) ≡ None = ap (λ (b : Bool). if b then Some (codes "fault limit\n") else None) (no_limit ending) in
    subst (λ (l : Option (List ℕ)). TellsIf l mid new) none told

-- ---- texts

some_first : (first more : List ℕ) → first ≢ [] → first ++ more ≢ []
some_first [] more some is = some refl
some_first (x ∷ first) more some is = absurd (cc)

permit_some : (caller : Caller) (line : ℕ) → decision_text (Permit line) (services.PlugGw caller.port) caller.peer ≢ []
permit_some caller line is = absurd (cc)

connect_some : (caller : Caller) (dest : Dest) (line : ℕ) → connect_text caller.port caller.peer dest line ≢ []
connect_some caller dest line is = absurd (cc)

pub waits_only : (old new : DialerView) (seconds : ℕ) → new ≡ dialer_waiting old seconds → new ≡ record old { waits = new.waits }
waits_only old new seconds is = is ∙ ap (λ (d : DialerView). record old { waits = d.waits }) (sym is)

waits_same : (old new : DialerView) → new ≡ old → new ≡ record old { waits = new.waits }
waits_same old new is = is ∙ ap (λ (d : DialerView). record old { waits = d.waits }) (sym is)

-- ---- the log failed

-- what the log has where the last line is no ending's
last_logs : (caller : Caller) (ending : Ending) (logs new : SinkView) → ending ≡ endings.LogFault → NotedIf (ending_line (services.PlugGw caller.port) caller.peer ending) logs new → new ≡ logs
last_logs caller ending logs new is h = let Noted : Ending → Type 0 = λ e. NotedIf (ending_line (services.PlugGw caller.port) caller.peer e) logs new in subst Noted is h

module _ (caller : Caller) (inputs : Inputs) (old mid : WorldView) (ending : Ending) (a : IsAdmitted caller inputs.rules (linked_devices old) (linked_devices mid) ending) where
  abbrev decided : List ℕ
  decided = decision_text (Permit a.line) (services.PlugGw caller.port) caller.peer

  abbrev connects : List ℕ
  connects = connect_text caller.port caller.peer a.dest a.line

  abbrev seconds : ℕ
  seconds = timeout_of inputs.rules

  abbrev begun : Devices (Unit {0})
  begun = patient seconds (linked_devices old)

  abbrev left : Devices (Unit {0})
  left = record (linked_devices mid) { logs = a.logs }

  -- within the line of the permission
  fails_first : LogFails decided begun left ending → IsUnasked caller inputs old mid
  fails_first h =
      let last : mid.logs ≡ a.logs = last_logs caller ending a.logs mid.logs h.ends a.noted in
      record {
        why = inr (record {
          line = a.line;
          permitted = a.permitted;
          dest = a.dest;
          target = a.target;
          within = record {
            part = h.front.part;
            rest = h.front.rest ++ connects;
            cut = ap (λ (t : List ℕ). t ++ connects) h.front.cut ∙ append_assoc h.front.part h.front.rest connects;
            short = some_first h.front.rest connects (h.front.short (permit_some caller a.line));
            logs = ap (λ (s : SinkView). s.given) last ∙ ap (λ (s : SinkView). s.given) h.cut.is;
            rose = subst (λ (s : SinkView). Rose old.logs.faults s.faults) (sym (last ∙ h.cut.is)) h.cut.rose;
          };
        });
        dialer = waits_only old.inputs.dialer mid.inputs.dialer seconds (ap (λ (d : Devices (Unit {0})). d.dialer) h.same);
        output = ap (λ (d : Devices (Unit {0})). d.outlet) h.same;
      }

  -- within the connect line
  fails_second : LogFails connects (with_line decided begun) left ending → IsUnasked caller inputs old mid
  fails_second h =
      let last : mid.logs ≡ a.logs = last_logs caller ending a.logs mid.logs h.ends a.noted in
      record {
        why = inr (record {
          line = a.line;
          permitted = a.permitted;
          dest = a.dest;
          target = a.target;
          within = record {
            part = decided ++ h.front.part;
            rest = h.front.rest;
            cut = ap (λ (t : List ℕ). decided ++ t) h.front.cut ∙ sym (append_assoc decided h.front.part h.front.rest);
            short = h.front.short (connect_some caller a.dest a.line);
            logs = ap (λ (s : SinkView). s.given) last ∙ ap (λ (s : SinkView). s.given) h.cut.is ∙ by_both old.logs.given decided h.front.part;
            rose = subst (λ (s : SinkView). Rose old.logs.faults s.faults) (sym (last ∙ h.cut.is)) h.cut.rose;
          };
        });
        dialer = waits_only old.inputs.dialer mid.inputs.dialer seconds (ap (λ (d : Devices (Unit {0})). d.dialer) h.same);
        output = ap (λ (d : Devices (Unit {0})). d.outlet) h.same;
      }

  -- ---- the destination was asked for

  -- what went over the link, from the devices of the run
  whole_here : (links : List LinkView) → IsWhole (with_line decided begun) left links → IsWhole (linked_devices old) (linked_devices mid) links
  whole_here [] h = h
  whole_here (link ∷ []) h = record { client = h.client; server = h.server; client_told = h.client_told; server_told = h.server_told }
  whole_here (link ∷ other ∷ links) h = h

  fronts_here : GivesFronts (with_line decided begun) left ending → GivesFronts (linked_devices old) (linked_devices mid) ending
  fronts_here h = record {
    of_client = h.of_client;
    to_server = h.to_server;
    of_server = h.of_server;
    to_client = h.to_client;
    took = h.took;
    grew = h.grew;
    told = h.told;
    links = h.links;
    ended = h.ended;
    over = h.over;
    up = h.up;
    down = h.down;
    done = λ is. whole_here h.links (h.done is);
  }

  abbrev written : SinkView
  written = record (old.logs) { given = grown (grown old.logs.given decided) connects }

  asked_by : GivesFronts (with_line decided begun) left ending → a.logs ≡ written → Adds (Main a.dest ∷ []) old.inputs.dialer.asked mid.inputs.dialer.asked → IsAsked caller inputs ending (ending_status ending) old mid
  asked_by fronts logs asks =
      let Noted : SinkView → Type 0 = λ s. NotedIf (ending_line (services.PlugGw caller.port) caller.peer ending) s mid.logs in
      let both : written ≡ with_given old.logs (decided ++ connects) = ap (λ (g : Option (List ℕ)). record (old.logs) { given = g }) (by_both old.logs.given decided connects) in
      record {
        line = a.line;
        permitted = a.permitted;
        dest = a.dest;
        target = a.target;
        noted = subst Noted (logs ∙ both) a.noted;
        asked = asks;
        relayed = fronts_here fronts;
        status_is = refl;
      }

  turned_down : GivesFronts (with_line decided begun) left ending → IsTurnedDown a.dest (with_line connects (with_line decided begun)) left ending → IsAsked caller inputs ending (ending_status ending) old mid
  turned_down fronts h =
      let adds : Adds (Main a.dest ∷ []) old.inputs.dialer.asked h.refused.asked = adds_one (Main a.dest) old.inputs.dialer.asked h.refused.asked h.refused.adds in
      asked_by fronts (ap (λ (d : Devices (Unit {0})). d.logs) h.same) (subst (λ (d : DialerView). Adds (Main a.dest ∷ []) old.inputs.dialer.asked d.asked) (sym h.refused.is) adds)

  plugged : GivesFronts (with_line decided begun) left ending → IsPlugged a.dest (with_line connects (with_line decided begun)) left ending → IsAsked caller inputs ending (ending_status ending) old mid
  plugged fronts h =
      let adds : Adds (Main a.dest ∷ []) old.inputs.dialer.asked h.comes.asked = adds_one (Main a.dest) old.inputs.dialer.asked h.comes.asked h.comes.adds in
      let up : Adds (Main a.dest ∷ []) old.inputs.dialer.asked h.asked.asked = subst (λ (d : DialerView). Adds (Main a.dest ∷ []) old.inputs.dialer.asked d.asked) (sym h.comes.is) adds in
      asked_by fronts (ap (λ (d : Devices (Unit {0})). d.logs) h.same) (subst (λ (d : DialerView). Adds (Main a.dest ∷ []) old.inputs.dialer.asked d.asked) (sym h.hangs.is) up)

  ends_so : GivesFronts (with_line decided begun) left ending → Ends connects a.dest (with_line decided begun) left ending → IsUnasked caller inputs old mid ⊎ IsAsked caller inputs ending (ending_status ending) old mid
  ends_so fronts (inl h) = inl (fails_second h)
  ends_so fronts (inr (inl h)) = inr (turned_down fronts h)
  ends_so fronts (inr (inr h)) = inr (plugged fronts h)

  logs_so : LogsFirst decided (relayed no_rows) (plug_row connects a.dest) begun left ending a.session → IsUnasked caller inputs old mid ⊎ IsAsked caller inputs ending (ending_status ending) old mid
  logs_so (inl h) = inl (fails_first h)
  logs_so (inr h) =
      ends_so (plug_fronts connects a.dest (with_line decided begun) left ending h.rest) (plug_ends connects a.dest (with_line decided begun) left ending h.rest)

  admitted_asks : IsUnasked caller inputs old mid ⊎ IsAsked caller inputs ending (ending_status ending) old mid
  admitted_asks = logs_so (logs_first decided (relayed no_rows) (plug_row connects a.dest) begun left ending a.session)

-- ---- the headline

-- what the headline says of a client
pub record LinkedHeadline (caller : Caller) (inputs : Inputs) (ending : Ending) (status : ℕ) (old new : WorldView) : Type 0 where
  pub asks : AsksAtMost caller inputs ending status old new
  pub denials : LogsDenial (PlugGw caller) (services.PlugGw caller.port) caller.peer inputs status old new
  pub untold : status ≡ 1 → new.output ≡ old.output

linked_undenied : (verdict : Verdict) (line : ℕ) (status : ℕ) (old new : SessionInputs) → verdict ≡ Permit line → ((status ≡ 4) ⊎ (status ≡ 5)) ⊎ IsLinked verdict status old new → status ≢ 1
linked_undenied verdict line status old new permitted (inl (inl four)) is = omega (arith, four, is)
linked_undenied verdict line status old new permitted (inl (inr five)) is = omega (arith, five, is)
linked_undenied (Permit other) line status old new permitted (inr (inl zero)) is = omega (arith, zero, is)
linked_undenied (Permit other) line status old new permitted (inr (inr six)) is = let now = six.0 in omega (arith, now, is)
linked_undenied (Deny other) line status old new permitted (inr one) is = absurd (cc)

admitted_headline : (caller : Caller) (inputs : Inputs) (ending : Ending) (old mid : WorldView) → IsAdmitted caller inputs.rules (linked_devices old) (linked_devices mid) ending
    → ((ending_status ending ≡ 4) ⊎ (ending_status ending ≡ 5)) ⊎ IsLinked (verdict_for (PlugGw caller) inputs) (ending_status ending) old.inputs mid.inputs → LinkedHeadline caller inputs ending (ending_status ending) old mid
admitted_headline caller inputs ending old mid a by =
    let undenied : ending_status ending ≢ 1 = linked_undenied (verdict_for (PlugGw caller) inputs) a.line (ending_status ending) old.inputs mid.inputs a.permitted by in
    record {
      asks = admitted_asks caller inputs old mid ending a;
      denials = inr (inl (record { permitted = λ outside. ap verdict_status a.permitted; undenied = undenied }));
      untold = λ one. absurd (undenied one);
    }

-- whom the rules deny
denied_asks : (caller : Caller) (inputs : Inputs) (line : ℕ) (old mid : WorldView) → verdict_for (PlugGw caller) inputs ≡ Deny line → mid.inputs.dialer ≡ old.inputs.dialer → mid.output ≡ old.output → IsUnasked caller inputs old mid
denied_asks caller inputs line old mid denied dialer output = record { why = inl (line, denied); dialer = waits_same old.inputs.dialer mid.inputs.dialer dialer; output = output }

turned_headline : (caller : Caller) (inputs : Inputs) (line : ℕ) (ending : Ending) (old mid : WorldView) → verdict_for (PlugGw caller) inputs ≡ Deny line → TurnedSo caller line (linked_devices old) (linked_devices mid) ending → LinkedHeadline caller inputs ending (ending_status ending) old mid
turned_headline caller inputs line ending old mid denied (inl cut) =
    let output : mid.output ≡ old.output = ap (λ (d : Devices (Unit {0})). d.outlet) cut.0 in
    let four : ending_status ending ≡ 4 = ap ending_status cut.1 in
    record {
      asks = inl (denied_asks caller inputs line old mid denied (ap (λ (d : Devices (Unit {0})). d.dialer) cut.0) output);
      denials = inl (record { output = output; undenied = λ one. omega (arith, four, one) });
      untold = λ one. output;
    }
turned_headline caller inputs line ending old mid denied (inr whole) =
    let output : mid.output ≡ old.output = ap (λ (d : Devices (Unit {0})). d.outlet) whole.0 in
    record {
      asks = inl (denied_asks caller inputs line old mid denied (ap (λ (d : Devices (Unit {0})). d.dialer) whole.0) output);
      denials = inr (inr (record { line = line; denied = denied; logged = ap (λ (d : Devices (Unit {0})). d.logs) whole.0; status_is = ap ending_status whole.1 }));
      untold = λ one. output;
    }

linked_by : (caller : Caller) (inputs : Inputs) (ending : Ending) (old mid : WorldView) → IsAdmitted caller inputs.rules (linked_devices old) (linked_devices mid) ending ⊎ IsTurnedOff caller inputs.rules (linked_devices old) (linked_devices mid) ending
    → ((ending_status ending ≡ 4) ⊎ (ending_status ending ≡ 5)) ⊎ IsLinked (verdict_for (PlugGw caller) inputs) (ending_status ending) old.inputs mid.inputs → LinkedHeadline caller inputs ending (ending_status ending) old mid
linked_by caller inputs ending old mid (inl a) by = admitted_headline caller inputs ending old mid a by
linked_by caller inputs ending old mid (inr t) by = turned_headline caller inputs t.line ending old mid t.denied t.so

pub linked_headline : (caller : Caller) (inputs : Inputs) (out : Outcome) (old mid new : WorldView) → (h : Linked caller inputs out old mid) → TellsIf (fault_line_of out) mid new → LinkedHeadline caller inputs h.ending (status_of out) old new
linked_headline caller inputs out old mid new h tells =
    let same : new ≡ mid = untold_more out h.ending mid new h.comes tells in
    let status : status_of out ≡ ending_status h.ending = ap status_of h.comes ∙ ended_status h.ending in
    let By : ℕ → Type 0 = λ s. ((s ≡ 4) ⊎ (s ≡ 5)) ⊎ IsLinked (verdict_for (PlugGw caller) inputs) s old.inputs mid.inputs in
    let so : LinkedHeadline caller inputs h.ending (ending_status h.ending) old mid = linked_by caller inputs h.ending old mid (linked_so caller inputs out old mid h) (subst By status (linked_status caller inputs out old mid h)) in
    subst (λ (w : WorldView). LinkedHeadline caller inputs h.ending (status_of out) old w) (sym same) (subst (λ (s : ℕ). LinkedHeadline caller inputs h.ending s old mid) (sym status) so)

-- ---- a run in which no count rose

put_ends : (ending : Ending) → (ending_status ending ≡ 4 → ⊥) → (ending_status ending ≡ 5 → ⊥) → (ending_status ending ≡ 1 → ⊥) → (ending ≡ endings.Done) ⊎ (ending ≡ endings.Spent)
put_ends endings.Done four five one = inl refl
put_ends endings.Spent four five one = inr refl
put_ends (endings.Denied line) four five one = absurd (one refl)
put_ends endings.ClientFault four five one = absurd (four refl)
put_ends endings.ServerFault four five one = absurd (four refl)
put_ends endings.LogFault four five one = absurd (four refl)
put_ends endings.AuthFault four five one = absurd (four refl)
put_ends endings.Idle four five one = absurd (four refl)
put_ends endings.NoRoute four five one = absurd (four refl)
put_ends endings.NoMemory four five one = absurd (five refl)

put_through : (caller : Caller) (inputs : Inputs) (course : Course) (status : ℕ) (old middle new : WorldView) → Quiet old new → middle.logs ≡ old.logs → (status ≡ 4 → ⊥) → (status ≡ 5 → ⊥) → status ≢ 1 → IsAsked caller inputs course.ending status middle new → IsPutThrough caller inputs course status old middle new
put_through caller inputs course status old middle new q logs four five one h =
    let line : Option (List ℕ) = ending_line (services.PlugGw caller.port) caller.peer course.ending in
    let text : List ℕ = linking_text caller h.line h.dest in
    let noted : NotedIf line (with_given old.logs text) new.logs = subst (λ (s : SinkView). NotedIf line (with_given s text) new.logs) logs h.noted in
    record {
      asked = h;
      ends = put_ends course.ending (λ is. four (h.status_is ∙ is)) (λ is. five (h.status_is ∙ is)) (λ is. one (h.status_is ∙ is));
      logs = noted_whole line (with_given old.logs text) new.logs (q.logs old.logs.faults new.logs.faults (omega (arith)) (omega (arith))) noted ∙ by_both old.logs.given text (unwrap_or line []);
    }

-- the log didn't fail
unfailed : {A : Type 0} (caller : Caller) (inputs : Inputs) (old middle new : WorldView) → Quiet old new → middle.logs ≡ old.logs → FailsAtLog caller inputs middle new → A
unfailed caller inputs old middle new q logs h = absurd (q.logs middle.logs.faults new.logs.faults (same_from old.logs middle.logs logs) (omega (arith)) h.within.rose)

denied_whole : (caller : Caller) (inputs : Inputs) (line : ℕ) (status : ℕ) (old middle new : WorldView) → middle.logs ≡ old.logs → middle.output ≡ old.output → verdict_for (PlugGw caller) inputs ≡ Deny line → status ≡ 1 → (ending : Ending) → (h : LinkedHeadline caller inputs ending status middle new)
    → LogsDenial (PlugGw caller) (services.PlugGw caller.port) caller.peer inputs status middle new
    → complete.IsWhole (decision_text (Deny line) (services.PlugGw caller.port) caller.peer) [] 1 status old new
denied_whole caller inputs line status old middle new logs output denied one ending h (inl silent) = absurd (silent.undenied one)
denied_whole caller inputs line status old middle new logs output denied one ending h (inr (inl permitted)) = absurd (permitted.undenied one)
denied_whole caller inputs line status old middle new logs output denied one ending h (inr (inr d)) =
    let Text : Verdict → List ℕ = λ v. decision_text v (services.PlugGw caller.port) caller.peer in
    let same : Deny d.line ≡ Deny line = sym d.denied ∙ denied in
    record {
      logs =
          ap (λ (s : SinkView). s.given) d.logged ∙ ap (λ (v : Verdict). grown middle.logs.given (Text v)) same ∙ ap (λ (s : SinkView). grown s.given (Text (Deny line))) logs;
      output = ap (λ (s : SinkView). s.given) (h.untold one ∙ output) ∙ by_nothing old.output.given;
      status_is = one;
    }

not_unasked : (caller : Caller) (inputs : Inputs) (line : ℕ) (old middle new : WorldView) → Quiet old new → middle.logs ≡ old.logs → verdict_for (PlugGw caller) inputs ≡ Permit line
    → ((other : ℕ) × (verdict_for (PlugGw caller) inputs ≡ Deny other)) ⊎ FailsAtLog caller inputs middle new → ⊥
not_unasked caller inputs line old middle new q logs permitted (inl denied) = let clash : Permit line ≡ Deny denied.0 = sym permitted ∙ denied.1 in absurd (cc)
not_unasked caller inputs line old middle new q logs permitted (inr fails) = unfailed caller inputs old middle new q logs fails

never_five : (status : ℕ) → (status ≡ 0) ⊎ (status ≡ 6) → status ≡ 5 → ⊥
never_five status (inl zero) is = omega (arith, zero, is)
never_five status (inr six) is = omega (arith, six, is)

never_one : (status : ℕ) → (status ≡ 0) ⊎ (status ≡ 6) → status ≢ 1
never_one status (inl zero) is = omega (arith, zero, is)
never_one status (inr six) is = omega (arith, six, is)

permit_whole : (caller : Caller) (inputs : Inputs) (course : Course) (line : ℕ) (status : ℕ) (old middle new : WorldView) → Quiet old new → (status ≡ 4 → ⊥) → middle.logs ≡ old.logs → verdict_for (PlugGw caller) inputs ≡ Permit line → AsksAtMost caller inputs course.ending status middle new
    → (status ≡ 0) ⊎ (status ≡ 6) → IsPutThrough caller inputs course status old middle new
permit_whole caller inputs course line status old middle new q never logs permitted (inl unasked) held = absurd (not_unasked caller inputs line old middle new q logs permitted unasked.why)
permit_whole caller inputs course line status old middle new q never logs permitted (inr asked) held = put_through caller inputs course status old middle new q logs never (never_five status held) (never_one status held) asked

held_so : (line : ℕ) (status : ℕ) (old new : SessionInputs) → IsLinked (Permit line) status old new → (status ≡ 0) ⊎ (status ≡ 6)
held_so line status old new (inl zero) = inl zero
held_so line status old new (inr six) = inr six.0

whole_by : (verdict : Verdict) (caller : Caller) (inputs : Inputs) (course : Course) (status : ℕ) (old middle mid new : WorldView) → verdict_for (PlugGw caller) inputs ≡ verdict → Quiet old new → (status ≡ 4 → ⊥) → middle.output ≡ old.output → middle.logs ≡ old.logs
    → LinkedHeadline caller inputs course.ending status middle new → ((status ≡ 4) ⊎ (status ≡ 5)) ⊎ IsLinked verdict status middle.inputs mid.inputs → (status ≡ 5) ⊎ IsLinkedWhole verdict caller inputs course status old middle new
whole_by verdict caller inputs course status old middle mid new is q never output logs h (inl (inl four)) = absurd (never four)
whole_by verdict caller inputs course status old middle mid new is q never output logs h (inl (inr five)) = inl five
whole_by (Permit line) caller inputs course status old middle mid new is q never output logs h (inr held) = inr (permit_whole caller inputs course line status old middle new q never logs is h.asks (held_so line status middle.inputs mid.inputs held))
whole_by (Deny line) caller inputs course status old middle mid new is q never output logs h (inr one) = inr (denied_whole caller inputs line status old middle new logs output is one course.ending h h.denials)

pub linked_whole : (name : List ℕ) (caller : Caller) (inputs : Inputs) (course : Course) (out : Outcome) (old middle mid new : WorldView) → Quiet old new → (status_of out ≡ 4 → ⊥) → ReadsOnly name false old middle → Linked caller inputs out middle mid
    → LinkedHeadline caller inputs course.ending (status_of out) middle new → (status_of out ≡ 5) ⊎ IsLinkedWhole (verdict_for (PlugGw caller) inputs) caller inputs course (status_of out) old middle new
linked_whole name caller inputs course out old middle mid new q never only h so =
    whole_by (verdict_for (PlugGw caller) inputs) caller inputs course (status_of out) old middle mid new refl q never only.output only.logs so (linked_status caller inputs out middle mid h)
