-- What a session over a book asked and was answered, and the lines behind it.
use Rattle.std.proofs.Common.{◌≡◌, ◌≤◌, ◌<◌, ℕ, suc, List, [], ◌∷◌, length, map, filter, refl, sym, ◌∙◌, ap, subst, inl, inr, arith, ◌⊎◌, ◌||◌, Bool, true, false, cond}
use Rattle.std.specs.List.{cons_option, list_any}
use Rattle.std.specs.Prelude.{Option, Some, None, unwrap_or}
use Rattle.std.proofs.lemmas.List.{length-map}
use Rattle.std.proofs.lemmas.List.Filters.{length-filter_both}
use Rattle.auth_events.specs.Port.{Port, places}
use Rattle.auth_events.specs.declared.reply.Reply.{Reply}
use Rattle.auth_events.specs.declared.request.Request.{Request}
use Rattle.auth_events.specs.declared.entry.Entry.{Entry}
use Rattle.auth_machine.proofs.HistoryLemmas.{calls_for}
use Rattle.client_service.specs.Conn.{NotedIf}
use Rattle.client_service.specs.Endings.{ending_line}
use Rattle.fw_acts.specs.Acts.{PlaceTable, Row}
use Rattle.fw_outside.specs.ClockView.{ClockView}
use Rattle.fw_outside.specs.Counts.{Rose}
use Rattle.fw_outside.specs.SinkView.{SinkView}
use Rattle.fw_outside.specs.ToldList.{grown}
use Rattle.fw_types.specs.declared.ending.Ending.{Ending}
use Rattle.fw_types.specs.declared.ending.Ending.TheVariants as endings
use Rattle.fw_types.specs.declared.peer.Peer.{Peer}
use Rattle.gate_rules.specs.declared.service.Service.{Service}
use Rattle.session_acts.specs.Deeds.{Deed, gives}
use Rattle.session_acts.specs.Laws.{Adds}
use Rattle.session_acts.specs.Met.{acts}
use Rattle.session_acts.specs.Session.{SessionAs, deeds_of}
use Rattle.session_acts.specs.Talk.{answered, asked, is_entered, is_refused_as_full, numbers_told, replied, said_of}
use Rattle.session_acts.specs.World.{Devices, World, at_first}
use Rattle.session_acts.proofs.AskCountLemmas.{count_gains}
use Rattle.session_acts.proofs.DeedLemmas.{all_gain, held_deeds}
use Rattle.session_acts.proofs.EntryLemmas.{whole_talk}
use Rattle.session_acts.proofs.TalkLemmas.{entered_gains}
use Rattle.session_acts.proofs.ToldLemmas.{by_both}
use Rattle.bastion.specs.Answering.{Answerer, OriginOf, PortView, port_at_first, port_of}
use Rattle.bastion.specs.Complete.{closing_text}
use Rattle.bastion.specs.Gating.{Over}
use Rattle.bastion.specs.Inputs.{Inputs}
use Rattle.bastion.specs.Outcome.{WasStrange, fault_line_of, status_of}
use Rattle.bastion.specs.Run.{TellsIf}
use Rattle.bastion.specs.Serving.{origin_of}
use Rattle.bastion.specs.Talk.{IsConcluded, IsTalk, was_refused}
use Rattle.bastion.specs.WorldView.{WorldView}
use Rattle.bastion.specs.declared.outcome.Outcome.{Outcome}
use Rattle.bastion.specs.declared.outcome.Outcome.TheVariants.{Ended}
use Rattle.bastion.specs.declared.words.Authorities.{Authorities}
use Rattle.bastion.specs.declared.words.Authorities.TheVariants.{Records, Remote}
use Rattle.bastion.proofs.AnsweringLemmas.{all_own, first_even, first_mine, first_seen, first_unasked, first_unrefused}
use Rattle.bastion.proofs.QuietLemmas.{noted_later, noted_whole}
use Rattle.bastion.proofs.StrangeLemmas.{was_strange}

-- ---- more requests than fit

-- the clock gave more moments than these
pub record TakesMore (n : ℕ) (old new : ClockView) : Type 0 where
  pub moments : List ℕ
  pub told : Adds moments old.told new.told
  pub many : n < length moments

kept_or : (b rest : Bool) (one : Request × Reply) (more : List (Request × Reply)) → (b || rest) ≡ true → (rest ≡ true → 0 < length more) → 0 < length (cond b (one ∷ more) more)
kept_or true rest one more any later = omega (arith)
kept_or false rest one more any later = later any

some_refused : (talk : List (Request × Reply)) → list_any is_refused_as_full talk ≡ true → 0 < length (filter is_refused_as_full talk)
some_refused [] any = absurd (cc)
some_refused (one ∷ talk) any =
    kept_or (is_refused_as_full one) (list_any is_refused_as_full talk) one (filter is_refused_as_full talk) any (some_refused talk)

some_or : (one : Option (Request × Reply)) (more : List (Request × Reply)) (n : ℕ) → length more ≤ n → length (cons_option one more) ≤ suc n
some_or None more n few = omega (arith, few)
some_or (Some one) more n few = omega (arith, few)

few_answered : (asks : List (Request × Option Reply)) → length (answered asks) ≤ length asks
few_answered [] = omega (arith)
few_answered (ask ∷ asks) = some_or (replied ask.0 ask.1) (answered asks) (length asks) (few_answered asks)

-- ---- a session over a port

-- what a port was asked is the whole of what it has seen, and it was refused where the session was
talk_over : (authorities : Authorities) (inputs : Inputs) (before : Answerer authorities) (view : PortView authorities) (deeds : List Deed) (ending : Ending) (out : Outcome) (begun ended : WorldView) → map said_of (port_of authorities view).seen ≡ filter is_entered (answered (gives asked deeds))
    → (port_of authorities view).asks ≤ length (gives asked deeds) → (port_of authorities view).refused ≡ was_refused deeds → Over authorities inputs before view ending out begun ended → IsTalk authorities inputs before deeds view
talk_over Records inputs before book deeds ending out begun ended said most was over = record {
  sound = over.sound;
  legal = over.legal;
  talk = said;
  has = over.has;
  faults = over.faults;
  called = calls_for before.calls (origin_of inputs) book.history book.asks (length (gives asked deeds)) book.keeper most over.called;
  full = λ refused. over.full (was ∙ refused);
}
talk_over Remote inputs ends remote deeds ending out begun ended said most was over = record { origin = over.origin; talk = said; texts = over.texts }

module _ {P : Type 0} {relays : Bool} (authorities : Authorities) (table : PlaceTable (acts (OriginOf authorities)) P) (first : Row (acts (OriginOf authorities)) P) (old new : Devices (OriginOf authorities)) (ending : Ending) (session : SessionAs relays table first old new ending)
    (inputs : Inputs) (before : Answerer authorities) (view : PortView authorities) (starts : old.port ≡ port_at_first authorities inputs before) (leaves : new.port ≡ port_of authorities view) where
  abbrev asks : List (Request × Option Reply)
  asks = gives asked (deeds_of session.held)

  abbrev last : World (OriginOf authorities)
  last = session.last

  port_left : last.office.port ≡ port_of authorities view
  port_left = ap (λ (d : Devices (OriginOf authorities)). d.port) session.leaves ∙ leaves

  none : old.port.mine ≡ []
  none = ap (λ (p : Port (OriginOf authorities)). p.mine) starts ∙ first_mine authorities inputs before

  unrefused : old.port.refused ≡ false
  unrefused = ap (λ (p : Port (OriginOf authorities)). p.refused) starts ∙ first_unrefused authorities inputs before

  unasked : old.port.asks ≡ 0
  unasked = ap (λ (p : Port (OriginOf authorities)). p.asks) starts ∙ first_unasked authorities inputs before

  even : old.port.odd ≡ 0
  even = ap (λ (p : Port (OriginOf authorities)). p.odd) starts ∙ first_even authorities inputs before

  own : last.office.port.mine ≡ places (length last.office.port.seen)
  own = subst (λ (p : Port (OriginOf authorities)). p.mine ≡ places (length p.seen)) (sym port_left) (all_own authorities view)

  pub was : (port_of authorities view).refused ≡ was_refused (deeds_of session.held)
  was =
      let entered = all_gain entered_gains (deeds_of session.held) (at_first old session.names) last (held_deeds session.held) in
      ap (λ (p : Port (OriginOf authorities)). p.refused) (sym port_left) ∙ entered.port.refused ∙ ap (λ (b : Bool). (b || list_any is_refused_as_full (answered asks))) unrefused

  said : map said_of (port_of authorities view).seen ≡ filter is_entered (answered asks)
  said =
      let entered = all_gain entered_gains (deeds_of session.held) (at_first old session.names) last (held_deeds session.held) in
      let whole = (whole_talk (numbers_told (at_first old session.names).office.opened asks) entered.moments asks old.port last.office.port none own entered.port).0 in
      ap (λ (p : Port (OriginOf authorities)). map said_of p.seen) (sym port_left) ∙ whole

  most_asked : (port_of authorities view).asks ≤ length asks
  most_asked =
      let counted = all_gain count_gains (deeds_of session.held) (at_first old session.names) last (held_deeds session.held) in
      let port : last.office.port.asks ≡ (port_of authorities view).asks = ap (λ (p : Port (OriginOf authorities)). p.asks) port_left in
      let started : old.port.asks ≡ 0 = unasked in
      let most = counted.most in
      omega (arith, port, most, started)

  -- so it is what that port has seen
  pub session_talk : (out : Outcome) (begun ended : WorldView) → Over authorities inputs before view ending out begun ended → IsTalk authorities inputs before (deeds_of session.held) view
  session_talk out begun ended over = talk_over authorities inputs before view (deeds_of session.held) ending out begun ended said most_asked was over

  -- where something strange was counted, the session was answered so
  pub strayed : Rose (port_at_first authorities inputs before).odd (port_of authorities view).odd → WasStrange (deeds_of session.held)
  strayed rose =
      let counted : Rose 0 (port_of authorities view).odd = subst (λ (n : ℕ). Rose n (port_of authorities view).odd) (first_even authorities inputs before) rose in
      was_strange (deeds_of session.held) (at_first old session.names) last (held_deeds session.held) even (subst (λ (p : Port (OriginOf authorities)). Rose 0 p.odd) (sym port_left) counted)

  -- where a request was refused, there were more than fit
  pub takes_more : (port_of authorities view).refused ≡ true → TakesMore (length (port_of authorities view).seen) old.clock new.clock
  takes_more refused =
      let entered = all_gain entered_gains (deeds_of session.held) (at_first old session.names) last (held_deeds session.held) in
      let any : list_any is_refused_as_full (answered asks) ≡ true = sym was ∙ refused in
      let some = some_refused (answered asks) any in
      let parts = length-filter_both is_refused_as_full is_entered (λ (ask : Request × Reply). refl) (answered asks) in
      let fewer = few_answered asks in
      let seen : length (port_of authorities view).seen ≡ length (filter is_entered (answered asks)) = sym (length-map (port_of authorities view).seen said_of) ∙ ap length said in
      let each = entered.one_each in
      record {
        moments = entered.moments;
        told = subst (λ (c : ClockView). Adds entered.moments old.clock.told c.told) (ap (λ (d : Devices (OriginOf authorities)). d.clock) session.leaves) entered.told;
        many = omega (arith, some, parts, fewer, seen, each);
      }

-- nothing was asked of it, and the port says so
pub no_talk : (authorities : Authorities) (inputs : Inputs) (before : Answerer authorities) (view : PortView authorities) (ending : Ending) (out : Outcome) (old new : WorldView) → Over authorities inputs before view ending out old new → port_of authorities view ≡ port_at_first authorities inputs before
    → IsTalk authorities inputs before [] view
no_talk authorities inputs before view ending out old new over same =
    let unasked : (port_of authorities view).asks ≡ 0 = ap (λ (p : Port (OriginOf authorities)). p.asks) same ∙ first_unasked authorities inputs before in
    talk_over authorities inputs before view [] ending out old new (ap (λ (p : Port (OriginOf authorities)). map said_of p.seen) same ∙ ap (λ (s : List Entry). map said_of s) (first_seen authorities inputs before)) (omega (arith, unasked))
    (ap (λ (p : Port (OriginOf authorities)). p.refused) same ∙ first_unrefused authorities inputs before) over

-- ---- the ending

-- a session whose status is 0 or 6 came to its end, or to the most bytes that it may take
pub ends_by : (ending : Ending) (refused : Bool) → (status_of (Ended ending refused) ≡ 0) ⊎ (status_of (Ended ending refused) ≡ 6) → (ending ≡ endings.Done) ⊎ (ending ≡ endings.Spent)
ends_by endings.Done refused h = inl refl
ends_by endings.Spent refused h = inr refl
ends_by (endings.Denied line) refused (inl is) = absurd (omega (arith, is))
ends_by (endings.Denied line) refused (inr is) = absurd (omega (arith, is))
ends_by endings.ClientFault refused (inl is) = absurd (omega (arith, is))
ends_by endings.ClientFault refused (inr is) = absurd (omega (arith, is))
ends_by endings.ServerFault refused (inl is) = absurd (omega (arith, is))
ends_by endings.ServerFault refused (inr is) = absurd (omega (arith, is))
ends_by endings.LogFault refused (inl is) = absurd (omega (arith, is))
ends_by endings.LogFault refused (inr is) = absurd (omega (arith, is))
ends_by endings.AuthFault refused (inl is) = absurd (omega (arith, is))
ends_by endings.AuthFault refused (inr is) = absurd (omega (arith, is))
ends_by endings.Idle refused (inl is) = absurd (omega (arith, is))
ends_by endings.Idle refused (inr is) = absurd (omega (arith, is))
ends_by endings.NoRoute refused (inl is) = absurd (omega (arith, is))
ends_by endings.NoRoute refused (inr is) = absurd (omega (arith, is))
ends_by endings.NoMemory refused (inl is) = absurd (omega (arith, is))
ends_by endings.NoMemory refused (inr is) = absurd (omega (arith, is))

-- ---- the lines behind it

-- the log's line of an outcome, as of an ending
pub tells_noted : (line : Option (List ℕ)) (mid new : WorldView) → TellsIf line mid new → NotedIf line mid.logs new.logs
tells_noted None mid new is = ap (λ (w : WorldView). w.logs) is
tells_noted (Some text) mid new h = record { told = h.told; gives = h.logged }

pub concluded : (service : Service) (peer : Peer) (ending : Ending) (was_full refused : Bool) (out : Outcome) (logs : SinkView) (mid new : WorldView) → out ≡ Ended ending was_full → was_full ≡ refused → NotedIf (ending_line service peer ending) logs mid.logs → TellsIf (fault_line_of out) mid new
    → IsConcluded service peer ending refused (status_of out) logs new.logs
concluded service peer ending was_full refused out logs mid new comes same noted tells =
    let ends : out ≡ Ended ending refused = comes ∙ ap (Ended ending) same in
    record {
      ended = mid.logs;
      noted = noted;
      limited = subst (λ (o : Outcome). NotedIf (fault_line_of o) mid.logs new.logs) ends (tells_noted (fault_line_of out) mid new tells);
      status_is = ap status_of ends;
    }

-- no count of the log fell
pub concluded_later : (service : Service) (peer : Peer) (ending : Ending) (refused : Bool) (status : ℕ) (old new : SinkView) → IsConcluded service peer ending refused status old new → old.faults ≤ new.faults
concluded_later service peer ending refused status old new h =
    let first = noted_later (ending_line service peer ending) old h.ended h.noted in
    let second = noted_later (fault_line_of (Ended ending refused)) h.ended new h.limited in
    omega (arith, first, second)

-- where none rose, the lines are whole
pub concluded_whole : (service : Service) (peer : Peer) (ending : Ending) (refused : Bool) (status : ℕ) (old new : SinkView) → ((a b : ℕ) → old.faults ≤ a → b ≤ new.faults → Rose a b → ⊥) → IsConcluded service peer ending refused status old new
    → new.given ≡ grown old.given (closing_text service peer ending refused)
concluded_whole service peer ending refused status old new quiet h =
    let line : Option (List ℕ) = ending_line service peer ending in
    let limit : Option (List ℕ) = fault_line_of (Ended ending refused) in
    let first = noted_later line old h.ended h.noted in
    let second = noted_later limit h.ended new h.limited in
    noted_whole limit h.ended new (quiet h.ended.faults new.faults first (omega (arith))) h.limited
    ∙ ap (λ (g : Option (List ℕ)). grown g (unwrap_or limit [])) (noted_whole line old h.ended (quiet old.faults h.ended.faults (omega (arith)) second) h.noted)
    ∙ by_both old.given (unwrap_or line []) (unwrap_or limit [])
