-- What asking comes to at a port.
use Rattle.std.proofs.Common.{arith, ◌≡◌, refl, sym, ap, subst, ◌∙◌, ℕ, zero, suc, ◌+◌, ◌<◌, ◌≤◌, ◌||◌, Bool, true, false, List, [], ◌∷◌, ◌++◌, filter, length, map, Option, Some, None, Err, append_assoc, append-nil}
use Rattle.std.specs.Prelude.{slice_get}
use Rattle.std.specs.List.{list_any}
use Rattle.std.proofs.lemmas.List.{length-append, map-append}
use Rattle.std.proofs.lemmas.List.Elements.{filter-append, filter_map-append}
use Rattle.std.proofs.lemmas.List.Folds.{list_any-append}
use Rattle.std.proofs.lemmas.Option.{none-some, slice_get_within}
use Rattle.auth_events.specs.Port.{Asks, Enters, IsFull, Port, Replies, places, session_at}
use Rattle.auth_events.specs.declared.denial.Denial.TheVariants as denials
use Rattle.auth_events.specs.declared.entry.Entry.{Entry}
use Rattle.auth_events.specs.declared.port.PortFault.{PortFault}
use Rattle.auth_events.specs.declared.port.PortFault.TheVariants as faults
use Rattle.auth_events.specs.declared.reply.Reply.{Reply}
use Rattle.auth_events.specs.declared.reply.Reply.TheVariants as replies
use Rattle.auth_events.specs.declared.request.Request.{Request}
use Rattle.session_acts.specs.Talk.{AreAt, AreOf, AtPort, if_entered, of_entered, answered, is_entered, is_refused_as_full, replied, said_of, says_full}

-- ---- lists

or_assoc : (a b c : Bool) → ((a || b) || c) ≡ (a || (b || c))
or_assoc true b c = refl
or_assoc false b c = refl

or_false : (a : Bool) → a ≡ (a || false)
or_false true = refl
or_false false = refl

or_true : (a : Bool) → true ≡ (a || true)
or_true true = refl
or_true false = refl

get_behind : (seen : List Entry) (entry : Entry) → slice_get (seen ++ entry ∷ []) (length seen) ≡ Some entry
get_behind [] entry = refl
get_behind (other ∷ seen) entry = get_behind seen entry

get_before : (seen more : List Entry) (place : ℕ) (entry : Entry) → slice_get seen place ≡ Some entry → slice_get (seen ++ more) place ≡ Some entry
get_before [] more place entry at = absurd (none-some entry at)
get_before (other ∷ seen) more zero entry at = at
get_before (other ∷ seen) more (suc place) entry at = get_before seen more place entry at

-- ---- places of a history

-- what stood somewhere stands there still when more is seen
stand_before : (from : ℕ) (their : List ℕ) (entries : List Entry) (seen more : List Entry) → AreAt from their entries seen → AreAt from their entries (seen ++ more)
stand_before from [] [] seen more stand = tt
stand_before from [] (entry ∷ entries) seen more stand = absurd stand
stand_before from (place ∷ their) [] seen more stand = absurd stand
stand_before from (place ∷ their) (entry ∷ entries) seen more stand =
    (stand.0, get_before seen more place entry stand.1, stand_before (suc place) their entries seen more stand.2)

-- and it stands behind any earlier place
stand_behind : (from later : ℕ) (their : List ℕ) (entries : List Entry) (seen : List Entry) → from ≤ later → AreAt later their entries seen → AreAt from their entries seen
stand_behind from later [] [] seen before stand = tt
stand_behind from later [] (entry ∷ entries) seen before stand = absurd stand
stand_behind from later (place ∷ their) [] seen before stand = absurd stand
stand_behind from later (place ∷ their) (entry ∷ entries) seen before stand =
    let here = stand.0 in (omega (arith, before, here), stand.1, stand.2)

-- what stands in what was seen, and what stands behind that
stand_both : (from : ℕ) (first more : List ℕ) (entries others : List Entry) (seen new : List Entry) → from ≤ length seen → AreAt from first entries seen
    → AreAt (length seen) more others (seen ++ new) → AreAt from (first ++ more) (entries ++ others) (seen ++ new)
stand_both from [] more [] others seen new before a b = stand_behind from (length seen) more others (seen ++ new) before b
stand_both from [] more (entry ∷ entries) others seen new before a b = absurd a
stand_both from (place ∷ first) more [] others seen new before a b = absurd a
stand_both from (place ∷ first) more (entry ∷ entries) others seen new before a b =
    let within : place < length seen = slice_get_within seen place entry a.1 in
    (a.0, get_before seen new place entry a.1, stand_both (suc place) first more entries others seen new (omega (arith, within)) a.2 b)

-- the entries at some places, and then those at others
are_of_both : (numbers others : List ℕ) (first more : List ℕ) (entries behind : List Entry) → AreOf numbers first entries → AreOf others more behind → AreOf (numbers ++ others) (first ++ more) (entries ++ behind)
are_of_both [] others [] more [] behind a b = b
are_of_both [] others [] more (entry ∷ entries) behind a b = absurd a
are_of_both [] others (place ∷ first) more entries behind a b = absurd a
are_of_both (number ∷ numbers) others [] more entries behind a b = absurd a
are_of_both (number ∷ numbers) others (place ∷ first) more [] behind a b = absurd a
are_of_both (number ∷ numbers) others (place ∷ first) more (entry ∷ entries) behind a b =
    (a.0, a.1, are_of_both numbers others first more entries behind a.2 b)

-- ---- what goes with each request

of_entered_both : (first more : List ℕ) (asks others : List (Request × Option Reply)) → length first ≡ length asks
    → of_entered (first ++ more) (asks ++ others) ≡ of_entered first asks ++ of_entered more others
of_entered_both [] more [] others same = refl
of_entered_both [] more (ask ∷ asks) others same = absurd (omega (arith, same))
of_entered_both (moment ∷ first) more [] others same = absurd (omega (arith, same))
of_entered_both (moment ∷ first) more (ask ∷ asks) others same =
    let here = if_entered ask.1 moment in
    let next : length first ≡ length asks = omega (arith, same) in
    ap (λ rest. here ++ rest) (of_entered_both first more asks others next) ∙ sym (append_assoc here (of_entered first asks) (of_entered more others))

-- ---- at the port

module _ {Origin : Type 0} where
  -- nothing was asked
  pub at_none : (port : Port Origin) → AtPort [] [] [] port port
  at_none port = record {
    more = [];
    places = [];
    entries = [];
    seen = sym (append-nil port.seen);
    mine = sym (append-nil port.mine);
    stand = tt;
    said = refl;
    timed = refl;
    numbered = tt;
    refused = or_false port.refused;
    origin = refl;
    home = refl;
  }

  -- what was asked, and then more
  pub at_both : (numbers others_told first more : List ℕ) (asks others : List (Request × Option Reply)) (old mid new : Port Origin) → length numbers ≡ length asks → length first ≡ length asks
      → AtPort numbers first asks old mid → AtPort others_told more others mid new → AtPort (numbers ++ others_told) (first ++ more) (asks ++ others) old new
  at_both numbers others_told first more asks others old mid new one_number one_each a b =
      let grown_long : length mid.seen ≡ length old.seen + length a.more = ap length a.seen ∙ length-append old.seen a.more in
      let both_stand = stand_both (length old.seen) a.places b.places a.entries b.entries mid.seen b.more (omega (arith, grown_long)) a.stand (subst (λ (s : List Entry). AreAt (length mid.seen) b.places b.entries s) b.seen b.stand) in
      let told = answered asks in
      let also = answered others in
      let joined : answered (asks ++ others) ≡ told ++ also = filter_map-append (λ ask. replied ask.0 ask.1) asks others in
      record {
        more = a.more ++ b.more;
        places = a.places ++ b.places;
        entries = a.entries ++ b.entries;
        seen = b.seen ∙ ap (λ (s : List Entry). s ++ b.more) a.seen ∙ append_assoc old.seen a.more b.more;
        mine = b.mine ∙ ap (λ (s : List ℕ). s ++ b.places) a.mine ∙ append_assoc old.mine a.places b.places;
        stand = subst (λ (s : List Entry). AreAt (length old.seen) (a.places ++ b.places) (a.entries ++ b.entries) s) (sym b.seen) both_stand;
        said = map-append said_of a.entries b.entries ∙ ap (λ z. z ++ map said_of b.entries) a.said ∙ ap (λ z. filter is_entered told ++ z) b.said ∙ sym (filter-append is_entered told also) ∙ ap (λ z. filter is_entered z) (sym joined);
        timed = map-append (λ (entry : Entry). entry.at) a.entries b.entries ∙ ap (λ z. z ++ map (λ (entry : Entry). entry.at) b.entries) a.timed ∙ ap (λ z. of_entered first asks ++ z) b.timed ∙ sym (of_entered_both first more asks others one_each);
        numbered = subst (λ z. AreOf z (a.places ++ b.places) (a.entries ++ b.entries)) (sym (of_entered_both numbers others_told asks others one_number)) (are_of_both (of_entered numbers asks) (of_entered others_told others) a.places b.places a.entries b.entries a.numbered b.numbered);
        refused = b.refused ∙ ap (λ z. z || list_any is_refused_as_full also) a.refused ∙ or_assoc old.refused (list_any is_refused_as_full told) (list_any is_refused_as_full also) ∙ ap (λ z. old.refused || z) (sym (list_any-append is_refused_as_full told also)) ∙ ap (λ z. old.refused || list_any is_refused_as_full z) (sym joined);
        origin = b.origin ∙ a.origin;
        home = b.home ∙ a.home;
      }

  -- a request was entered
  at_entered : (sid at : ℕ) (request : Request) (reply : Reply) (old new : Port Origin) → says_full reply ≡ false → Enters sid at request reply old new
      → AtPort (sid ∷ []) (at ∷ []) ((request, Some reply) ∷ []) old new
  at_entered sid at request reply old new not_full h =
      let entry : Entry = record { sid = session_at request h.place sid; at = at; request = request; kept = h.kept; reply = reply } in
      let seen : new.seen ≡ (old.seen ++ h.others) ++ entry ∷ [] = ap (λ (p : Port Origin). p.seen) h.is in
      let long = length-append old.seen h.others in
      let is_place = h.is_place in
      let behind : length old.seen ≤ h.place = omega (arith, is_place, long) in
      let here : slice_get new.seen h.place ≡ Some entry = rw seen (subst (λ n. slice_get ((old.seen ++ h.others) ++ entry ∷ []) n ≡ Some entry) (sym is_place) (get_behind (old.seen ++ h.others) entry)) in
      record {
        more = h.others ++ entry ∷ [];
        places = h.place ∷ [];
        entries = entry ∷ [];
        seen = seen ∙ append_assoc old.seen h.others (entry ∷ []);
        mine = ap (λ (p : Port Origin). p.mine) h.is;
        stand = (behind, here, tt);
        said = rw not_full refl;
        timed = rw not_full refl;
        numbered = rw not_full (refl, h.fits, tt);
        refused = rw not_full (ap (λ (p : Port Origin). p.refused) h.is ∙ or_false old.refused);
        origin = ap (λ (p : Port Origin). p.origin) h.is;
        home = ap (λ (p : Port Origin). p.home) h.is;
      }

  -- a request was refused
  at_refused : (sid at limit : ℕ) (request : Request) (old new : Port Origin) → IsFull limit old new
      → AtPort (sid ∷ []) (at ∷ []) ((request, Some (replies.Denied (denials.Full limit))) ∷ []) old new
  at_refused sid at limit request old new h = record {
    more = h.others;
    places = [];
    entries = [];
    seen = ap (λ (p : Port Origin). p.seen) h.is;
    mine = ap (λ (p : Port Origin). p.mine) h.is ∙ sym (append-nil old.mine);
    stand = tt;
    said = refl;
    timed = refl;
    numbered = tt;
    refused = ap (λ (p : Port Origin). p.refused) h.is ∙ or_true old.refused;
    origin = ap (λ (p : Port Origin). p.origin) h.is;
    home = ap (λ (p : Port Origin). p.home) h.is;
  }

  pub at_reply : (sid at : ℕ) (request : Request) (reply : Reply) (old new : Port Origin) → Replies sid at request reply old new
      → AtPort (sid ∷ []) (at ∷ []) ((request, Some reply) ∷ []) old new
  at_reply sid at request (replies.Denied (denials.Full limit)) old new h = at_refused sid at limit request old new h
  at_reply sid at request reply old new h = at_entered sid at request reply old new refl h

  -- a request got no reply
  at_fault : (sid at : ℕ) (request : Request) (others : List Entry) (old new : Port Origin) → new.seen ≡ old.seen ++ others → new.mine ≡ old.mine → new.refused ≡ old.refused → new.origin ≡ old.origin → new.home ≡ old.home
      → AtPort (sid ∷ []) (at ∷ []) ((request, None) ∷ []) old new
  at_fault sid at request others old new seen mine refused origin home = record {
    more = others;
    places = [];
    entries = [];
    seen = seen;
    mine = mine ∙ sym (append-nil old.mine);
    stand = tt;
    said = refl;
    timed = refl;
    numbered = tt;
    refused = refused ∙ or_false old.refused;
    origin = origin;
    home = home;
  }

  pub at_no_reply : (fault : PortFault) (sid at : ℕ) (request : Request) (old new : Port Origin) → Asks (Err fault) sid at request old new
      → AtPort (sid ∷ []) (at ∷ []) ((request, None) ∷ []) old new
  at_no_reply faults.NoMemory sid at request old new h =
      at_fault sid at request h.others old new (ap (λ (p : Port Origin). p.seen) h.is) (ap (λ (p : Port Origin). p.mine) h.is) (ap (λ (p : Port Origin). p.refused) h.is) (ap (λ (p : Port Origin). p.origin) h.is) (ap (λ (p : Port Origin). p.home) h.is)
  at_no_reply faults.Link sid at request old new h =
      at_fault sid at request h.others old new (ap (λ (p : Port Origin). p.seen) h.is) (ap (λ (p : Port Origin). p.mine) h.is) (ap (λ (p : Port Origin). p.refused) h.is) (ap (λ (p : Port Origin). p.origin) h.is) (ap (λ (p : Port Origin). p.home) h.is)
  at_no_reply faults.Strange sid at request old new h =
      at_fault sid at request h.others old new (ap (λ (p : Port Origin). p.seen) h.is) (ap (λ (p : Port Origin). p.mine) h.is) (ap (λ (p : Port Origin). p.refused) h.is) (ap (λ (p : Port Origin). p.origin) h.is) (ap (λ (p : Port Origin). p.home) h.is)

-- ---- for callers

map_get : (f : ℕ → Option Entry) (n : ℕ) → map f (places (suc n)) ≡ f 0 ∷ map (λ i. f (suc i)) (places n)
map_get f zero = refl
map_get f (suc n) =
    map-append f (places (suc n)) (suc n ∷ []) ∙ ap (λ z. z ++ f (suc n) ∷ []) (map_get f n) ∙ ap (λ z. f 0 ∷ z) (sym (map-append (λ i. f (suc i)) (places n) (n ∷ [])))

-- at all places of a history stands all of it
got_all : (seen : List Entry) → map (λ place. slice_get seen place) (places (length seen)) ≡ map (λ (entry : Entry). Some entry) seen
got_all [] = refl
got_all (entry ∷ seen) = map_get (λ place. slice_get (entry ∷ seen) place) (length seen) ∙ ap (λ z. Some entry ∷ z) (got_all seen)

got_these : (from : ℕ) (their : List ℕ) (entries seen : List Entry) → AreAt from their entries seen → map (λ place. slice_get seen place) their ≡ map (λ (entry : Entry). Some entry) entries
got_these from [] [] seen stand = refl
got_these from [] (entry ∷ entries) seen stand = absurd stand
got_these from (place ∷ their) [] seen stand = absurd stand
got_these from (place ∷ their) (entry ∷ entries) seen stand =
    let rest = got_these (suc place) their entries seen stand.2 in
    ap (λ z. z ∷ map (λ place. slice_get seen place) their) stand.1 ∙ ap (λ z. Some entry ∷ z) rest

abbrev entry_in : Option Entry → List Entry
entry_in None = []
entry_in (Some entry) = entry ∷ []

abbrev entries_in : List (Option Entry) → List Entry
entries_in [] = []
entries_in (one ∷ more) = entry_in one ++ entries_in more

entries_of_some : (entries : List Entry) → entries_in (map (λ (entry : Entry). Some entry) entries) ≡ entries
entries_of_some [] = refl
entries_of_some (entry ∷ entries) = ap (λ z. entry ∷ z) (entries_of_some entries)

-- what stands at all places of a history is the history
stand_all : (from : ℕ) (entries seen : List Entry) → AreAt from (places (length seen)) entries seen → entries ≡ seen
stand_all from entries seen stand =
    sym (entries_of_some entries) ∙ ap entries_in (sym (got_these from (places (length seen)) entries seen stand) ∙ got_all seen) ∙ entries_of_some seen

-- where a port's own entries are the whole history, they are those that were made
pub whole_entries : {Origin : Type 0} (numbers moments : List ℕ) (asks : List (Request × Option Reply)) (old new : Port Origin) → old.mine ≡ [] → new.mine ≡ places (length new.seen)
    → (port : AtPort numbers moments asks old new) → (port.places ≡ places (length new.seen)) × (port.entries ≡ new.seen)
whole_entries numbers moments asks old new none all port =
    let own : port.places ≡ places (length new.seen) = sym (ap (λ z. z ++ port.places) none) ∙ sym port.mine ∙ all in
    (own, stand_all (length old.seen) port.entries new.seen (subst (λ z. AreAt (length old.seen) z port.entries new.seen) own port.stand))

-- so that is what was asked of it and answered, but for what was refused, at the moments at which it was asked
pub whole_talk : {Origin : Type 0} (numbers moments : List ℕ) (asks : List (Request × Option Reply)) (old new : Port Origin) → old.mine ≡ [] → new.mine ≡ places (length new.seen)
    → AtPort numbers moments asks old new → (map said_of new.seen ≡ filter is_entered (answered asks)) × (map (λ (entry : Entry). entry.at) new.seen ≡ of_entered moments asks)
whole_talk numbers moments asks old new none all port =
    let whole = (whole_entries numbers moments asks old new none all port).1 in
    (ap (λ z. map said_of z) (sym whole) ∙ port.said, ap (λ z. map (λ (entry : Entry). entry.at) z) (sym whole) ∙ port.timed)
