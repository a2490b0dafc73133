-- What an ask under the turn does to the port of a pass that goes on.
use Rattle.std.proofs.Common.{◌≡◌, refl, sym, ap, subst, ◌∙◌, ℕ, Bool, true, List, [], ◌∷◌, ◌++◌, Option}
use mathlib.Core.List.{IsPrefix}
use Rattle.fw_outside.specs.Counts.{Grew}
use Rattle.auth_events.specs.Port.{Port}
use Rattle.auth_events.specs.Port as ports
use Rattle.auth_events.specs.declared.entry.Entry.{Entry}
use Rattle.auth_events.specs.declared.reply.Reply.{Reply}
use Rattle.auth_events.specs.declared.request.Request.{Request}
use Rattle.auth_machine.specs.Answers.{full_of}
use Rattle.auth_machine.specs.History.{IsLegal}
use Rattle.auth_machine.specs.Port.{BookOrigin, full_at}
use Rattle.turn_lock.proofs.Fronts.{front_self, front_trans}
use Rattle.turn_lock.specs.Known.{IsPassOf, Known, TookTurn}
use Rattle.auth_port.proofs.SharedLemmas.{TakesTurn, front_more, history_full, history_lacks, history_made, history_stays, pass_full, pass_lacks, pass_made, port_full, port_lacks, port_made, port_stays}
use Rattle.auth_port.specs.Asking.{AsksInTurn}
use Rattle.auth_port.specs.Shared.{FoundFull, GoesOn, LackedMemory, MadeEntry, RepliesInOne, SeesLegal, SharedOrigin, pass_of, shared_port}
use Rattle.auth_port.specs.declared.asking.Answered.{Answered}
use Rattle.auth_port.specs.declared.asking.Answered.TheVariants as answers

-- the same of another old port, and of other places
carry : (P : Port SharedOrigin → List ℕ → Type 0) (p q : Port SharedOrigin) (m n : List ℕ) → p ≡ q → n ≡ m → P p m → P q n
carry P p q m n a b h = subst (λ (k : Port SharedOrigin × List ℕ). P k.0 k.1) (λ i. (a i, sym b i)) h

module _ (sid at : ℕ) (request : Request) (o : SharedOrigin) (mine items : List ℕ) (pass now : Known Entry BookOrigin) (on : GoesOn o mine pass) where
  -- a turn of this pass in which this was answered
  abbrev pub Turned : Answered → Type 0
  Turned answer = TookTurn (λ found limit origin left. AsksInTurn sid at request found limit origin answer left) o.lock pass now

  taken : (answer : Answered) → Turned answer → TakesTurn sid at request answer o pass.seen mine now
  taken answer t = subst (λ (k : Known Entry BookOrigin). TookTurn (λ found limit origin left. AsksInTurn sid at request found limit origin answer left) o.lock k now) on.is t

  later : IsPrefix pass.seen now.seen → IsPrefix o.first.seen now.seen
  later begins = front_trans o.first.seen pass.seen now.seen on.begins begins

  places : (m : List ℕ) → items ≡ m → GoesOn o m now → GoesOn o items now
  places m is goes = subst (λ (n : List ℕ). GoesOn o n now) (sym is) goes

  made_front : (place : ℕ) (reply : Reply) → Turned (answers.Entered place reply) → IsPrefix pass.seen now.seen
  made_front place reply t =
      let h = history_made sid at request place reply o pass.seen mine now true 0 0 (taken (answers.Entered place reply) t) in
      front_more pass.seen h.before now.seen _ h.begins h.seen

  pub goes_made : (place : ℕ) (reply : Reply) → Turned (answers.Entered place reply) → items ≡ mine ++ place ∷ [] → GoesOn o items now
  goes_made place reply t is =
      let k = taken (answers.Entered place reply) t in
      places (mine ++ place ∷ []) is record {
        is = pass_made sid at request place reply o pass.seen mine now k;
        begins = later (made_front place reply t);
        legal = λ _. (history_made sid at request place reply o pass.seen mine now true 0 0 k).legal;
      }

  pub goes_full : (told : ℕ) → Turned (answers.Full told) → items ≡ mine → GoesOn o items now
  goes_full told t is =
      let k = taken (answers.Full told) t in
      let h = history_full sid at request told o pass.seen mine now true 0 0 k in
      places mine is record { is = pass_full sid at request told o pass.seen mine now k; begins = later h.begins; legal = λ _. h.legal }

  pub goes_lacking : Turned answers.NoMemory → items ≡ mine → GoesOn o items now
  goes_lacking t is =
      let k = taken answers.NoMemory t in
      let h = history_lacks sid at request o pass.seen mine now true 0 0 k in
      places mine is record { is = pass_lacks sid at request o pass.seen mine now k; begins = later h.begins; legal = λ legal. h.legal (on.legal legal) }

  module _ (refused : Bool) (asks more : ℕ) (old : Port SharedOrigin) (view_is : shared_port o pass.seen mine refused asks ≡ old) where
    abbrev was : Port SharedOrigin
    was = shared_port o pass.seen mine refused asks

    pub asks_made : Grew 1 asks more → (place : ℕ) (reply : Reply) → Turned (answers.Entered place reply) → items ≡ mine ++ place ∷ []
        → ports.Replies sid at request reply old (shared_port o now.seen items refused more)
    asks_made grew place reply t is =
        carry (λ p m. ports.Replies sid at request reply p (shared_port o now.seen m refused more)) was old (mine ++ place ∷ []) items view_is is
        (port_made sid at request place reply o pass.seen mine now refused asks more grew (taken (answers.Entered place reply) t))

    pub one_made : (place : ℕ) (reply : Reply) → Turned (answers.Entered place reply) → items ≡ mine ++ place ∷ []
        → RepliesInOne (full_of reply) sid at request reply old (shared_port o now.seen items refused more)
    one_made place reply t is =
        let k = taken (answers.Entered place reply) t in
        subst (λ (f : Option ℕ). RepliesInOne f sid at request reply old (shared_port o now.seen items refused more)) (sym k.did.placed.1)
        (carry (λ p m. MadeEntry sid at request reply p (shared_port o now.seen m refused more)) was old (mine ++ place ∷ []) items view_is is
        (history_made sid at request place reply o pass.seen mine now refused asks more k))

    begins_of : IsPrefix pass.seen now.seen → IsPrefix old.seen now.seen
    begins_of begins = subst (λ (p : Port SharedOrigin). IsPrefix p.seen now.seen) view_is begins

    pub begins_made : (place : ℕ) (reply : Reply) → Turned (answers.Entered place reply) → IsPrefix old.seen now.seen
    begins_made place reply t = begins_of (made_front place reply t)

    pub asks_full : Grew 1 asks more → (told : ℕ) → Turned (answers.Full told) → items ≡ mine → ports.IsFull told old (shared_port o now.seen items true more)
    asks_full grew told t is =
        carry (λ p m. ports.IsFull told p (shared_port o now.seen m true more)) was old mine items view_is is
        (port_full sid at request told o pass.seen mine now refused asks more grew (taken (answers.Full told) t))

    pub one_full : (told : ℕ) → Turned (answers.Full told) → items ≡ mine → FoundFull told old (shared_port o now.seen items true more)
    one_full told t is =
        carry (λ p m. FoundFull told p (shared_port o now.seen m true more)) was old mine items view_is is
        (history_full sid at request told o pass.seen mine now refused asks more (taken (answers.Full told) t))

    pub begins_full : (told : ℕ) → Turned (answers.Full told) → IsPrefix old.seen now.seen
    begins_full told t = begins_of (history_full sid at request told o pass.seen mine now refused asks more (taken (answers.Full told) t)).begins

    pub asks_lacking : Grew 1 asks more → Turned answers.NoMemory → items ≡ mine → ports.RanOutOfMemory old (shared_port o now.seen items refused more)
    asks_lacking grew t is =
        carry (λ p m. ports.RanOutOfMemory p (shared_port o now.seen m refused more)) was old mine items view_is is
        (port_lacks sid at request o pass.seen mine now refused asks more grew (taken answers.NoMemory t))

    pub one_lacking : Turned answers.NoMemory → items ≡ mine → LackedMemory old (shared_port o now.seen items refused more)
    one_lacking t is =
        carry (λ p m. LackedMemory p (shared_port o now.seen m refused more)) was old mine items view_is is
        (history_lacks sid at request o pass.seen mine now refused asks more (taken answers.NoMemory t))

    pub begins_lacking : Turned answers.NoMemory → IsPrefix old.seen now.seen
    begins_lacking t = begins_of (history_lacks sid at request o pass.seen mine now refused asks more (taken answers.NoMemory t)).begins

-- no turn was taken
module _ (o : SharedOrigin) (seen : List Entry) (mine items : List ℕ) (refused : Bool) (asks more : ℕ) (old : Port SharedOrigin) (view_is : shared_port o seen mine refused asks ≡ old) (same : items ≡ mine) where
  pub asks_early : Grew 1 asks more → ports.RanOutOfMemory old (shared_port o seen items refused more)
  asks_early grew = carry (λ p m. ports.RanOutOfMemory p (shared_port o seen m refused more)) (shared_port o seen mine refused asks) old mine items view_is same (port_stays o seen mine refused asks more grew)

  pub one_early : LackedMemory old (shared_port o seen items refused more)
  one_early = carry (λ p m. LackedMemory p (shared_port o seen m refused more)) (shared_port o seen mine refused asks) old mine items view_is same (history_stays o seen mine refused asks more)

  pub begins_early : IsPrefix old.seen seen
  begins_early = subst (λ (p : Port SharedOrigin). IsPrefix p.seen seen) view_is (front_self seen)

pub goes_early : (o : SharedOrigin) (mine items : List ℕ) (pass : Known Entry BookOrigin) → items ≡ mine → GoesOn o mine pass → GoesOn o items pass
goes_early o mine items pass is goes = subst (λ (n : List ℕ). GoesOn o n pass) (sym is) goes

-- ---- the pass of a port that ends

pub hands_back : (o : SharedOrigin) (mine : List ℕ) (pass : Known Entry BookOrigin) (refused : Bool) (asks : ℕ) (self : Port SharedOrigin) → shared_port o pass.seen mine refused asks ≡ self → GoesOn o mine pass
    → (pass ≡ pass_of self) × IsPassOf self.origin.lock pass × IsPrefix self.origin.first.seen self.seen
hands_back o mine pass refused asks self view_is on = (
  on.is ∙ ap pass_of view_is,
  subst (λ (p : Port SharedOrigin). IsPassOf p.origin.lock pass) view_is (subst (IsPassOf o.lock) (sym on.is) record { home = refl; limit = refl; origin = refl }),
  subst (λ (p : Port SharedOrigin). IsPrefix p.origin.first.seen p.seen) view_is on.begins,
)

pub legal_at_end : (o : SharedOrigin) (mine : List ℕ) (pass : Known Entry BookOrigin) (refused : Bool) (asks : ℕ) (self : Port SharedOrigin) → shared_port o pass.seen mine refused asks ≡ self → GoesOn o mine pass
    → IsLegal self.origin.lock.origin.origin self.origin.first.seen → SeesLegal self
legal_at_end o mine pass refused asks self view_is on =
    subst (λ (p : Port SharedOrigin). IsLegal p.origin.lock.origin.origin p.origin.first.seen → SeesLegal p) view_is on.legal

pub full_at_end : (o : SharedOrigin) (seen : List Entry) (mine : List ℕ) (refused : Bool) (asks : ℕ) (self : Port SharedOrigin) → shared_port o seen mine refused asks ≡ self → self.full ≡ full_at self.origin.lock.limit self.seen
full_at_end o seen mine refused asks self view_is =
    subst (λ (p : Port SharedOrigin). p.full ≡ full_at p.origin.lock.limit p.seen) view_is refl
