-- What a turn does to a shared book as a port.
use Rattle.std.proofs.Common.{arith, ◌≡◌, refl, sym, ap, ap₂, subst, ◌∙◌, ℕ, ◌+◌, ◌≤◌, ◌==◌, inl, inr, Bool, true, false, cond, List, [], ◌∷◌, ◌++◌, length, Option, Some, None, append_assoc, rules}
use Rattle.std.proofs.lemmas.List.{length_push}
use mathlib.Core.List.{IsPrefix}
use Rattle.fw_outside.specs.Counts.{Grew}
use Rattle.auth_events.specs.Fits.{Fits}
use Rattle.auth_events.specs.Port.{Port, Stays, entry_at}
use Rattle.auth_events.specs.Port as ports
use Rattle.auth_events.specs.declared.entry.Entry.{Entry}
use Rattle.auth_events.specs.declared.reply.Reply.{Reply}
use Rattle.auth_events.specs.declared.request.Request.{Request}
use Rattle.auth_machine.proofs.HistoryLemmas.{last_step}
use Rattle.auth_machine.proofs.PortLemmas.{entered, fits_last, is_full, not_yet, some_clash}
use Rattle.auth_machine.specs.Answers.{full_of}
use Rattle.auth_machine.specs.Book.{AddsEntry, EntersReply, IsFullAt}
use Rattle.auth_machine.specs.History.{IsLegal}
use Rattle.auth_machine.specs.Port.{BookOrigin, full_at}
use Rattle.turn_lock.proofs.Fronts.{front_length, front_self, front_trans}
use Rattle.turn_lock.specs.Known.{IsPassOf, Known, Lock, Made, TookTurn, knowing}
use Rattle.auth_port.specs.Asking.{AsksInTurn}
use Rattle.auth_port.specs.Shared.{FoundFull, LackedMemory, MadeEntry, GoesOn, SharedOrigin, knows, shared_port}
use Rattle.auth_port.specs.declared.asking.Answered.{Answered}
use Rattle.auth_port.specs.declared.asking.Answered.TheVariants as answers

-- ---- limits

stays_at : (limit : ℕ) (h more : List Entry) → length h ≤ length more → length more ≤ limit → Stays (full_at limit h) (full_at limit more)
stays_at limit h more longer within = choose (length h == limit) refl
  where
    choose : (b : Bool) → length h == limit ≡ b → Stays (cond b (Some limit) None) (full_at limit more)
    choose true same = let is : length h ≡ limit = search rules in is_full limit more (omega (arith, is, longer, within))
    choose false other = tt

-- a port, field by field
abbrev made_port : SharedOrigin → List Entry → List ℕ → Option ℕ → Bool → ℕ → Port SharedOrigin
made_port o seen mine full refused asks = record { seen = seen; mine = mine; full = full; refused = refused; asks = asks; faults = 0; odd = 0; origin = o; home = o.lock.home }

-- a front of a list is one of that list with an entry more
pub front_more : (seen before later : List Entry) (entry : Entry) → IsPrefix seen before → later ≡ before ++ entry ∷ [] → IsPrefix seen later
front_more seen before later entry begins is = front_trans seen before later begins (entry ∷ [], sym is)

-- ---- turns

-- a turn in which this was answered
abbrev pub TakesTurn : ℕ → ℕ → Request → Answered → SharedOrigin → List Entry → List ℕ → Known Entry BookOrigin → Type 0
TakesTurn sid at request answer o seen mine now = TookTurn (λ found limit origin left. AsksInTurn sid at request found limit origin answer left) o.lock (knows o seen mine) now

made_one : {E : Type 0} (limit : ℕ) (found seen : List E) (entry : E) (before mine : List ℕ) → seen ≡ found ++ entry ∷ [] → Made limit found seen before mine → mine ≡ before ++ length found ∷ []
made_one limit found seen entry before mine is (inl same) = absurd (omega (arith, sym (ap length same.0) ∙ ap length is, length_push found entry))
made_one limit found seen entry before mine is (inr more) = more.1

made_none : {E : Type 0} (limit : ℕ) (found seen : List E) (before mine : List ℕ) → seen ≡ found → Made limit found seen before mine → mine ≡ before
made_none limit found seen before mine is (inl same) = same.1
made_none limit found seen before mine is (inr more) = absurd (omega (arith, sym (ap length is) ∙ ap length more.0.is, length_push found more.0.entry))

-- what a pass knows, by what it has seen and its places
knows_so : (o : SharedOrigin) (seen : List Entry) (places more : List ℕ) (now : Known Entry BookOrigin) → now ≡ knowing o.lock o.first.parts seen places o.first.met → places ≡ o.first.mine ++ more → now ≡ knows o now.seen more
knows_so o seen places more now is m = is ∙ ap₂ (λ (h : List Entry) (p : List ℕ). knowing o.lock o.first.parts h p o.first.met) (sym (ap (λ (k : Known Entry BookOrigin). k.seen) is)) m

-- ---- an entry was made

adds : (full : Option ℕ) (sid at : ℕ) (request : Request) (reply : Reply) (limit : ℕ) (before now : List Entry) → full ≡ None → EntersReply full sid at request reply limit before now → AddsEntry sid at request reply limit before now
adds None sid at request reply limit before now none h = h
adds (Some told) sid at request reply limit before now none h = some_clash none

pub pass_made : (sid at : ℕ) (request : Request) (place : ℕ) (reply : Reply) (o : SharedOrigin) (seen : List Entry) (mine : List ℕ) (now : Known Entry BookOrigin)
    → TakesTurn sid at request (answers.Entered place reply) o seen mine now → now ≡ knows o now.seen (mine ++ place ∷ [])
pass_made sid at request place reply o seen mine now t =
    let a = adds (full_of reply) sid at request reply o.lock.limit t.found t.seen t.did.placed.1 t.did.asked.answers in
    knows_so o t.seen t.mine (mine ++ place ∷ []) now t.is
    (made_one o.lock.limit t.found t.seen _ (o.first.mine ++ mine) t.mine a.is t.made
    ∙ append_assoc o.first.mine mine (length t.found ∷ [])
    ∙ ap (λ (n : ℕ). o.first.mine ++ (mine ++ n ∷ [])) (sym t.did.placed.0))

pub history_made : (sid at : ℕ) (request : Request) (place : ℕ) (reply : Reply) (o : SharedOrigin) (seen : List Entry) (mine : List ℕ) (now : Known Entry BookOrigin) (refused : Bool) (asks more : ℕ)
    → TakesTurn sid at request (answers.Entered place reply) o seen mine now
    → MadeEntry sid at request reply (shared_port o seen mine refused asks) (shared_port o now.seen (mine ++ place ∷ []) refused more)
history_made sid at request place reply o seen mine now refused asks more t =
    let a = adds (full_of reply) sid at request reply o.lock.limit t.found t.seen t.did.placed.1 t.did.asked.answers in
    let is : now.seen ≡ t.seen = ap (λ (k : Known Entry BookOrigin). k.seen) t.is in
    let entry : Entry = entry_at sid at request a.kept reply (length t.found) in
    record {
      before = t.found;
      kept = a.kept;
      begins = t.begins;
      room = a.fits;
      seen = is ∙ a.is;
      step = last_step o.lock.origin.origin t.found entry (subst (IsLegal o.lock.origin.origin) a.is t.did.asked.legal);
      legal = subst (IsLegal o.lock.origin.origin) (sym is) t.did.asked.legal;
      mine = ap (λ (n : ℕ). mine ++ n ∷ []) t.did.placed.0;
    }

-- the same as a port
pub port_made : (sid at : ℕ) (request : Request) (place : ℕ) (reply : Reply) (o : SharedOrigin) (seen : List Entry) (mine : List ℕ) (now : Known Entry BookOrigin) (refused : Bool) (asks more : ℕ) → Grew 1 asks more
    → TakesTurn sid at request (answers.Entered place reply) o seen mine now
    → ports.Replies sid at request reply (shared_port o seen mine refused asks) (shared_port o now.seen (mine ++ place ∷ []) refused more)
port_made sid at request place reply o seen mine now refused asks more grew t =
    let a = adds (full_of reply) sid at request reply o.lock.limit t.found t.seen t.did.placed.1 t.did.asked.answers in
    let is : now.seen ≡ t.seen = ap (λ (k : Known Entry BookOrigin). k.seen) t.is in
    let entry : Entry = entry_at sid at request a.kept reply (length t.found) in
    let legal = subst (IsLegal o.lock.origin.origin) a.is t.did.asked.legal in
    let long = front_length seen t.found t.begins in
    let h : ports.Enters sid at request reply (shared_port o seen mine refused asks) (shared_port o now.seen (mine ++ place ∷ []) refused more) = record {
      others = t.begins.0;
      place = place;
      kept = a.kept;
      full = full_at o.lock.limit now.seen;
      asks = more;
      counts = grew;
      open_before = not_yet o.lock.limit seen (omega (arith, long, a.fits));
      is_place = t.did.placed.0 ∙ ap length (sym t.begins.1);
      fits = subst (λ (n : ℕ). Fits request n reply) (sym t.did.placed.0) (fits_last o.lock.origin.origin t.found entry legal);
      is = ap (λ (h : List Entry). made_port o h (mine ++ place ∷ []) (full_at o.lock.limit now.seen) refused more)
          (is ∙ a.is ∙ ap₂ (λ (h : List Entry) (n : ℕ). h ++ entry_at sid at request a.kept reply n ∷ []) (sym t.begins.1) (sym t.did.placed.0));
    } in
    entered reply t.did.placed.1 h

-- ---- no entry was made

full_in : (sid at : ℕ) (request : Request) (told : ℕ) (o : SharedOrigin) (seen : List Entry) (mine : List ℕ) (now : Known Entry BookOrigin)
    → (t : TakesTurn sid at request (answers.Full told) o seen mine now) → IsFullAt told o.lock.limit t.found t.seen
full_in sid at request told o seen mine now t = t.did.asked.answers

lacking_in : (sid at : ℕ) (request : Request) (o : SharedOrigin) (seen : List Entry) (mine : List ℕ) (now : Known Entry BookOrigin)
    → (t : TakesTurn sid at request answers.NoMemory o seen mine now) → t.seen ≡ t.found
lacking_in sid at request o seen mine now t = t.did.asked.answers

-- what was seen begins with what had been seen
stayed : (seen found left later : List Entry) → IsPrefix seen found → left ≡ found → later ≡ left → IsPrefix seen later
stayed seen found left later p same is = (p.0, p.1 ∙ sym same ∙ sym is)

pub pass_kept : (sid at : ℕ) (request : Request) (answer : Answered) (o : SharedOrigin) (seen : List Entry) (mine : List ℕ) (now : Known Entry BookOrigin)
    → (t : TakesTurn sid at request answer o seen mine now) → t.seen ≡ t.found → now ≡ knows o now.seen mine
pass_kept sid at request answer o seen mine now t same =
    knows_so o t.seen t.mine mine now t.is (made_none o.lock.limit t.found t.seen (o.first.mine ++ mine) t.mine same t.made)

pub pass_full : (sid at : ℕ) (request : Request) (told : ℕ) (o : SharedOrigin) (seen : List Entry) (mine : List ℕ) (now : Known Entry BookOrigin)
    → TakesTurn sid at request (answers.Full told) o seen mine now → now ≡ knows o now.seen mine
pass_full sid at request told o seen mine now t = pass_kept sid at request (answers.Full told) o seen mine now t (full_in sid at request told o seen mine now t).is

pub pass_lacks : (sid at : ℕ) (request : Request) (o : SharedOrigin) (seen : List Entry) (mine : List ℕ) (now : Known Entry BookOrigin)
    → TakesTurn sid at request answers.NoMemory o seen mine now → now ≡ knows o now.seen mine
pass_lacks sid at request o seen mine now t = pass_kept sid at request answers.NoMemory o seen mine now t (lacking_in sid at request o seen mine now t)

pub history_full : (sid at : ℕ) (request : Request) (told : ℕ) (o : SharedOrigin) (seen : List Entry) (mine : List ℕ) (now : Known Entry BookOrigin) (refused : Bool) (asks more : ℕ)
    → TakesTurn sid at request (answers.Full told) o seen mine now → FoundFull told (shared_port o seen mine refused asks) (shared_port o now.seen mine true more)
history_full sid at request told o seen mine now refused asks more t =
    let is : now.seen ≡ t.seen = ap (λ (k : Known Entry BookOrigin). k.seen) t.is in
    let full = full_in sid at request told o seen mine now t in
    record {
      limit_is = full.limit_is;
      full = ap length (is ∙ full.is) ∙ full.full ∙ sym full.limit_is;
      begins = stayed seen t.found t.seen now.seen t.begins full.is is;
      legal = subst (IsLegal o.lock.origin.origin) (sym is) t.did.asked.legal;
      mine = refl;
    }

pub port_full : (sid at : ℕ) (request : Request) (told : ℕ) (o : SharedOrigin) (seen : List Entry) (mine : List ℕ) (now : Known Entry BookOrigin) (refused : Bool) (asks more : ℕ) → Grew 1 asks more
    → TakesTurn sid at request (answers.Full told) o seen mine now → ports.IsFull told (shared_port o seen mine refused asks) (shared_port o now.seen mine true more)
port_full sid at request told o seen mine now refused asks more grew t =
    let h = history_full sid at request told o seen mine now refused asks more t in
    let at_limit : full_at o.lock.limit now.seen ≡ Some told = is_full o.lock.limit now.seen (h.full ∙ h.limit_is) ∙ ap (λ (n : ℕ). Some n) (sym h.limit_is) in
    let long = front_length seen now.seen h.begins in
    record {
      others = h.begins.0;
      asks = more;
      counts = grew;
      stays = subst (λ (f : Option ℕ). Stays (full_at o.lock.limit seen) f) at_limit (stays_at o.lock.limit seen now.seen long (omega (arith, h.full ∙ h.limit_is)));
      is = ap₂ (λ (k : List Entry) (f : Option ℕ). made_port o k mine f true more) (sym h.begins.1) at_limit;
    }

pub history_lacks : (sid at : ℕ) (request : Request) (o : SharedOrigin) (seen : List Entry) (mine : List ℕ) (now : Known Entry BookOrigin) (refused : Bool) (asks more : ℕ)
    → TakesTurn sid at request answers.NoMemory o seen mine now → LackedMemory (shared_port o seen mine refused asks) (shared_port o now.seen mine refused more)
history_lacks sid at request o seen mine now refused asks more t =
    let is : now.seen ≡ t.seen = ap (λ (k : Known Entry BookOrigin). k.seen) t.is in
    record {
      begins = stayed seen t.found t.seen now.seen t.begins (lacking_in sid at request o seen mine now t) is;
      legal = λ _. subst (IsLegal o.lock.origin.origin) (sym is) t.did.asked.legal;
      mine = refl;
    }

-- a port that has seen more, and made no entry
lacked : (o : SharedOrigin) (seen later : List Entry) (mine : List ℕ) (refused : Bool) (asks more : ℕ) → Grew 1 asks more → IsPrefix seen later → Stays (full_at o.lock.limit seen) (full_at o.lock.limit later)
    → ports.RanOutOfMemory (shared_port o seen mine refused asks) (shared_port o later mine refused more)
lacked o seen later mine refused asks more grew begins stays = record {
  others = begins.0;
  full = full_at o.lock.limit later;
  asks = more;
  counts = grew;
  stays = stays;
  is = ap (λ (k : List Entry). made_port o k mine (full_at o.lock.limit later) refused more) (sym begins.1);
}

pub port_lacks : (sid at : ℕ) (request : Request) (o : SharedOrigin) (seen : List Entry) (mine : List ℕ) (now : Known Entry BookOrigin) (refused : Bool) (asks more : ℕ) → Grew 1 asks more
    → TakesTurn sid at request answers.NoMemory o seen mine now → ports.RanOutOfMemory (shared_port o seen mine refused asks) (shared_port o now.seen mine refused more)
port_lacks sid at request o seen mine now refused asks more grew t =
    let is : now.seen ≡ t.seen = ap (λ (k : Known Entry BookOrigin). k.seen) t.is in
    let begins = stayed seen t.found t.seen now.seen t.begins (lacking_in sid at request o seen mine now t) is in
    lacked o seen now.seen mine refused asks more grew begins
    (stays_at o.lock.limit seen now.seen (front_length seen now.seen begins) (let within = t.did.asked.within in omega (arith, within, ap length is)))

-- ---- no turn was taken

pub port_stays : (o : SharedOrigin) (seen : List Entry) (mine : List ℕ) (refused : Bool) (asks more : ℕ) → Grew 1 asks more
    → ports.RanOutOfMemory (shared_port o seen mine refused asks) (shared_port o seen mine refused more)
port_stays o seen mine refused asks more grew = lacked o seen seen mine refused asks more grew (front_self seen) (same (full_at o.lock.limit seen))
  where
    same : (full : Option ℕ) → Stays full full
    same None = tt
    same (Some limit) = refl

pub history_stays : (o : SharedOrigin) (seen : List Entry) (mine : List ℕ) (refused : Bool) (asks more : ℕ) → LackedMemory (shared_port o seen mine refused asks) (shared_port o seen mine refused more)
history_stays o seen mine refused asks more = record { begins = front_self seen; legal = λ legal. legal; mine = refl }

-- a pass that is handed in
pub at_first : (lock : Lock BookOrigin) (pass : Known Entry BookOrigin) → IsPassOf lock pass → GoesOn (record { lock = lock; first = pass }) [] pass
at_first lock pass of =
    let none : pass.mine ++ [] ≡ pass.mine = search rules in
    record {
      is = λ i. record { seen = pass.seen; mine = sym none i; met = pass.met; parts = pass.parts; home = of.home i; limit = of.limit i; origin = of.origin i };
      begins = front_self pass.seen;
      legal = λ legal. legal;
    }
