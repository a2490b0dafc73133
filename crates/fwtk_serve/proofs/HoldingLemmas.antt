-- What a session does to the store of a seat, and to its port.
use Rattle.std.proofs.Common.{arith, ◌≡◌, refl, sym, ap, ap₂, subst, ◌∙◌, ℕ, ◌+◌, ◌-◌, ◌^◌, ◌≤◌, inl, inr, min, List, [], Some, option_map, append-nil}
use Rattle.acceptors.specs.AcceptorView.{Visit}
use Rattle.acceptors.specs.declared.caller.Guest.{Guest}
use Rattle.auth_events.specs.Port.{Port}
use Rattle.auth_machine.specs.History.{IsLegal}
use Rattle.auth_machine.specs.Port.{BookOrigin, full_at}
use Rattle.auth_port.specs.Shared.{SeesLegal, SharedOrigin, pass_of}
use Rattle.client_service.specs.Conn.{Mails}
use Rattle.client_service.specs.MailService.{MailsOrFails}
use Rattle.fw_types.specs.declared.ending.Ending.{Ending}
use Rattle.fw_types.specs.declared.peer.Peer.{Peer}
use Rattle.gate_rules.specs.Reading.{RuleBook}
use Rattle.gate_rules.specs.Verdict.{verdict_of}
use Rattle.gate_rules.specs.declared.service.Service.{Service}
use Rattle.gate_rules.specs.declared.service.Service.TheVariants.{Netacl, TnGw, FtpGw, PlugGw, Smap, Authsrv}
use Rattle.gate_rules.specs.declared.verdict.Verdict.{Verdict}
use Rattle.gate_rules.specs.declared.verdict.Verdict.TheVariants.{Permit, Deny}
use Rattle.session_acts.specs.World.{Devices}
use Rattle.smap_gate.specs.Gate.{Gate}
use Rattle.spool_pool.specs.Known as pools
use Rattle.spool_pool.specs.Known.{PassView, PoolView, SeatView, store_of}
use Rattle.spool_rack.specs.Store.{Handed, Loan, StoreView, with_put}
use Rattle.spool_slots.specs.States.{FullView}
use Rattle.turn_lock.specs.Known.{IsPassOf, Lock}
use Rattle.fwtk_serve.specs.Mailed.{Mailed, mailed_by, mailed_or_none, nothing_mailed}
use Rattle.fwtk_serve.specs.Passes.{Pass}
use Rattle.fwtk_serve.specs.Sessions.{Both, GoesAs, ServedView, devices_of, port_at, store_at}
use Rattle.fwtk_serve.specs.Stepping.{Holds}
use mathlib.Core.List.{IsPrefix}

-- ---- the store

-- a store that tells lists: what was put into it, and counted, and that all slots are back
pub record Comes (mailed : Mailed) (old new : StoreView) : Type 0 where
  pub lists : (before after : Handed) → old.handed ≡ Some before → new.handed ≡ Some after → after ≡ with_put mailed.put before
  pub no_free : min (old.no_free + mailed.unslotted) (2 ^ 64 - 1) ≤ new.no_free
  pub no_full : new.no_full ≡ old.no_full
  pub broken : min (old.broken + mailed.faulted) (2 ^ 64 - 1) ≤ new.broken
  pub out : new.out ≡ old.out

some_same : {X : Type 0} {x y : X} → Some x ≡ Some y → x ≡ y
some_same e = cc

put_nothing : (lists : Handed) → lists ≡ with_put [] lists
put_nothing lists = ap (λ (put : List FullView). record lists { put = put }) (sym (append-nil lists.put))

comes_none : (old new : StoreView) → new ≡ old → Comes nothing_mailed old new
comes_none old new same = record {
  lists = λ before after was is. some_same (sym is ∙ ap (λ (s : StoreView). s.handed) same ∙ was) ∙ put_nothing before;
  no_free = let e : new.no_free ≡ old.no_free = ap (λ (s : StoreView). s.no_free) same in omega (arith, e);
  no_full = ap (λ (s : StoreView). s.no_full) same;
  broken = let e : new.broken ≡ old.broken = ap (λ (s : StoreView). s.broken) same in omega (arith, e);
  out = ap (λ (s : StoreView). s.out) same;
}

comes_so : (line : List ℕ) (gate : Gate) (ending : Ending) (old new : Devices (Unit {0})) → (h : MailsOrFails line gate ending old new) → Comes (mailed_or_none h) old.store new.store
comes_so line gate ending old new (inl fails) = comes_none old.store new.store (ap (λ (d : Devices (Unit {0})). d.store) fails.same)
comes_so line gate ending old new (inr h) = record {
  lists = λ before after was is. some_same (sym is ∙ h.stores.grew.listed ∙ ap (option_map (with_put h.stores.slots)) was);
  no_free = h.unslotted;
  no_full = h.stores.grew.no_full;
  broken = h.faulted;
  out = h.stores.back;
}

module _ {Origin : Type 0} (rules : RuleBook) (peer : Peer) (ending : Ending) (old new : Devices Origin) where
  comes_by : (service : Service) (verdict : Verdict) → (m : Mails service verdict rules peer ending old new) → Comes (mailed_by service verdict rules peer ending old new m) old.store new.store
  comes_by Smap (Permit line) m = comes_so _ _ _ _ _ m.so
  comes_by Smap (Deny line) m = comes_none old.store new.store m
  comes_by (Netacl label) verdict m = comes_none old.store new.store m
  comes_by TnGw verdict m = comes_none old.store new.store m
  comes_by FtpGw verdict m = comes_none old.store new.store m
  comes_by (PlugGw port) verdict m = comes_none old.store new.store m
  comes_by Authsrv verdict m = comes_none old.store new.store m

-- a seat without slots out is the store of its pass
seat_store : (seat : SeatView) → seat.out ≡ [] → store_of seat ≡ store_at seat.pass
seat_store seat none = ap (λ (out : List Loan). record (store_of seat) { out = out }) none

-- ---- what a session leaves

-- what was put into the store, and counted
goes_so : {service : Service} {rules : RuleBook} {peer : Peer} {ending : Ending} {old new : Devices SharedOrigin} → (g : GoesAs service rules peer ending old new)
    → Comes (mailed_by service (verdict_of rules peer) rules peer ending old new g.kept) old.store new.store
goes_so {service} {rules} {peer} {ending} {old} {new} g = comes_by rules peer ending old new service (verdict_of rules peer) g.kept

-- no slot is out afterwards where none was before
pub all_back : {service : Service} {rules : RuleBook} {peer : Peer} {ending : Ending} {old new : Devices SharedOrigin} → GoesAs service rules peer ending old new → old.store.out ≡ [] → new.store.out ≡ []
all_back g none = (goes_so g).out ∙ none

-- the pass of the pool is still of its pool
pub mail_own : {service : Service} {rules : RuleBook} {peer : Peer} {ending : Ending} {old new : Devices SharedOrigin} (pool : PoolView) (seat new_seat : SeatView) (first last : PassView)
    → GoesAs service rules peer ending old new → old.store ≡ store_of seat → new.store ≡ store_of new_seat → seat.pass ≡ first → last ≡ new_seat.pass → pools.IsPassOf pool first → pools.IsPassOf pool last
mail_own pool seat new_seat first last g was is had has own =
    let before = ap (λ (s : StoreView). s.handed) was in
    let after = ap (λ (s : StoreView). s.handed) is in
    ap (λ (p : PassView). p.handed.home) has
    ∙ ap (λ (l : Handed). l.home) ((goes_so g).lists seat.pass.handed new_seat.pass.handed before after)
    ∙ ap (λ (p : PassView). p.handed.home) had
    ∙ own

-- and that of the book of its book
pub book_own : (lock : Lock BookOrigin) (first last : Pass) (port new_port : Port SharedOrigin)
    → port ≡ port_at lock first → new_port.origin ≡ port.origin → IsPassOf new_port.origin.lock last → IsPassOf lock last
book_own lock first last port new_port is stays own =
    subst (λ (l : Lock BookOrigin). IsPassOf l last) (ap (λ (o : SharedOrigin). o.lock) stays ∙ ap (λ (p : Port SharedOrigin). p.origin.lock) is) own

-- ---- a session

abbrev guest_of : Service → Peer → Guest
guest_of service peer = record { service = service; peer = peer }

module _ (rules : RuleBook) (lock : Lock BookOrigin) (first last : Both) (fresh back : Visit) (served : ServedView) (port new_port : Port SharedOrigin) (seat new_seat : SeatView) where
  -- what `SharedBook` and `PoolSeat` say of their passes, beside what `conn` says
  pub record Sat : Type 0 where
    pub port_is : port ≡ port_at lock first.book
    pub pass_is : seat.pass ≡ first.mail
    pub out : seat.out ≡ []
    pub goes : GoesAs fresh.guest.service rules fresh.guest.peer served.ending (devices_of fresh port (store_of seat)) (devices_of back new_port (store_of new_seat))
    pub guest_service : back.guest.service ≡ fresh.guest.service
    pub guest_peer : back.guest.peer ≡ fresh.guest.peer
    pub service : served.service ≡ back.guest.service
    pub peer : served.peer ≡ back.guest.peer
    pub places : served.places ≡ new_port.mine
    pub stays : new_port.origin ≡ port.origin
    pub pass : last.book ≡ pass_of new_port
    pub begins : IsPrefix new_port.origin.first.seen new_port.seen
    pub legal : IsLegal new_port.origin.lock.origin.origin new_port.origin.first.seen → SeesLegal new_port
    pub full : new_port.full ≡ full_at new_port.origin.lock.limit new_port.seen
    pub calm : (new_port.faults ≡ 0) × (new_port.odd ≡ 0)
    pub mail : last.mail ≡ new_seat.pass

  -- what `conn` says is said of the stores of the passes
  moved : port ≡ port_at lock first.book → store_of seat ≡ store_at first.mail → store_of new_seat ≡ store_at last.mail
      → GoesAs fresh.guest.service rules fresh.guest.peer served.ending (devices_of fresh port (store_of seat)) (devices_of back new_port (store_of new_seat))
      → GoesAs fresh.guest.service rules fresh.guest.peer served.ending (devices_of fresh (port_at lock first.book) (store_at first.mail)) (devices_of back new_port (store_at last.mail))
  moved is old new goes =
      subst (λ (s : StoreView). GoesAs fresh.guest.service rules fresh.guest.peer served.ending (devices_of fresh (port_at lock first.book) (store_at first.mail)) (devices_of back new_port s)) new
      (subst (λ (s : StoreView). GoesAs fresh.guest.service rules fresh.guest.peer served.ending (devices_of fresh (port_at lock first.book) s) (devices_of back new_port (store_of new_seat))) old
      (subst (λ (p : Port SharedOrigin). GoesAs fresh.guest.service rules fresh.guest.peer served.ending (devices_of fresh p (store_of seat)) (devices_of back new_port (store_of new_seat))) is goes))

  origin_is : Sat → new_port.origin ≡ record { lock = lock; first = first.book }
  origin_is h = h.stays ∙ ap (λ (p : Port SharedOrigin). p.origin) h.port_is

  begins_so : Sat → IsPrefix first.book.seen last.book.seen
  begins_so h =
      subst (λ (o : SharedOrigin). IsPrefix o.first.seen last.book.seen) (origin_is h) (subst (IsPrefix new_port.origin.first.seen) (ap (λ (p : Pass). p.seen) (sym h.pass)) h.begins)

  legal_so : Sat → IsLegal lock.origin.origin first.book.seen → IsLegal lock.origin.origin last.book.seen
  legal_so h =
      subst (λ (p : Pass). IsLegal lock.origin.origin first.book.seen → IsLegal lock.origin.origin p.seen) (sym h.pass)
      (subst (λ (o : SharedOrigin). IsLegal o.lock.origin.origin o.first.seen → IsLegal o.lock.origin.origin new_port.seen) (origin_is h) h.legal)

  pub holds_so : Sat → Holds rules lock first last fresh back served
  holds_so h =
      let old : store_of seat ≡ store_at first.mail = seat_store seat h.out ∙ ap store_at h.pass_is in
      let new : store_of new_seat ≡ store_at last.mail = seat_store new_seat (all_back h.goes h.out) ∙ ap store_at (sym h.mail) in
      let goes = moved h.port_is old new h.goes in
      let comes = goes_so goes in
      let guest : back.guest ≡ fresh.guest = ap₂ guest_of h.guest_service h.guest_peer in
      record {
        mailed = mailed_by fresh.guest.service (verdict_of rules fresh.guest.peer) rules fresh.guest.peer served.ending
            (devices_of fresh (port_at lock first.book) (store_at first.mail)) (devices_of back new_port (store_at last.mail)) goes.kept;
        held = record {
          port = new_port;
          goes = goes;
          guest = guest;
          service = h.service ∙ h.guest_service;
          peer = h.peer ∙ h.guest_peer;
          places = h.places;
          full = h.full ∙ ap (λ (o : SharedOrigin). full_at o.lock.limit new_port.seen) (origin_is h);
          calm = h.calm;
          origin = origin_is h;
          pass = h.pass;
          begins = begins_so h;
          legal = legal_so h;
          mailed = refl;
          put = comes.lists first.mail.handed last.mail.handed refl refl;
          no_free = comes.no_free;
          no_full = comes.no_full;
          broken = comes.broken;
        };
      }
