-- Passes that meet.
use Rattle.std.proofs.Common.{◌≡◌, refl, sym, ap, ap₂, subst, ◌∙◌, arith, ℕ, ◌+◌, List, [], ◌∷◌, ◌++◌, append_assoc, append-nil}
use Rattle.std.specs.List.{AllByRecursion}
use Rattle.std.specs.List.Sorted.{IsStrictlyIncreasing}
use mathlib.Core.List.{IsPrefix}
use Rattle.auth_events.specs.declared.entry.Entry.{Entry}
use Rattle.auth_machine.specs.Port.{BookOrigin}
use Rattle.turn_lock.specs.Known.{Lock, Met, knowing}
use Rattle.turn_lock.specs.Places.{NoneTwice, Places}
use Rattle.turn_lock.proofs.Fronts.{front_self, front_trans}
use Rattle.fwtk_serve.specs.Passes.{IsApart, IsMet, MetAll, Pass, held_by, parts_of}

-- ---- a pass that meets another

pub met_one : (lock : Lock BookOrigin) (old other new : Pass) → Places other.seen other.mine → Met lock old other new → MetAll lock (other ∷ []) old new
met_one lock old other new places h =
    let is : new ≡ knowing lock (old.parts + parts_of (other ∷ [])) h.seen old.mine (old.met ++ held_by (other ∷ [])) =
    h.is ∙ ap₂ (λ (n : ℕ) (m : List ℕ). knowing lock (old.parts + n) h.seen old.mine (old.met ++ m)) (omega arith) (sym (append-nil (other.mine ++ other.met))) in
    let all : (new.mine ++ new.met) ≡ (old.mine ++ old.met) ++ (other.mine ++ other.met) =
    ap₂ (λ (a b : List ℕ). a ++ b) (ap (λ (p : Pass). p.mine) h.is) (ap (λ (p : Pass). p.met) h.is) ∙ sym (append_assoc old.mine old.met (other.mine ++ other.met)) in
    record {
      seen = h.seen;
      begins = h.own_begins;
      met = (record { begins = h.other_begins; rise = places.rising }, tt);
      is = is;
      apart = subst NoneTwice (sym all) h.apart;
    }

-- ---- a pass that meets many

pub met_none : (lock : Lock BookOrigin) (pass : Pass) → pass ≡ knowing lock pass.parts pass.seen pass.mine pass.met → IsApart pass → MetAll lock [] pass pass
met_none lock pass own apart = record {
  seen = pass.seen;
  begins = front_self pass.seen;
  met = tt;
  is = own ∙ ap₂ (λ (n : ℕ) (m : List ℕ). knowing lock n pass.seen pass.mine m) (omega arith) (sym (append-nil pass.met));
  apart = apart;
}

-- all that were met see no more later than is seen then
pub met_later : (seen later : List Entry) (others : List Pass) → IsPrefix seen later → AllByRecursion (IsMet seen) others → AllByRecursion (IsMet later) others
met_later seen later [] front met = tt
met_later seen later (other ∷ others) front met =
    (record { begins = front_trans other.seen seen later met.0.begins front; rise = met.0.rise }, met_later seen later others front met.1)

both_met : (seen : List Entry) (others more : List Pass) → AllByRecursion (IsMet seen) others → AllByRecursion (IsMet seen) more → AllByRecursion (IsMet seen) (others ++ more)
both_met seen [] more met last = last
both_met seen (other ∷ others) more met last = (met.0, both_met seen others more met.1 last)

held_both : (others more : List Pass) → held_by (others ++ more) ≡ held_by others ++ held_by more
held_both [] more = refl
held_both (other ∷ others) more = ap (λ (m : List ℕ). (other.mine ++ other.met) ++ m) (held_both others more) ∙ sym (append_assoc (other.mine ++ other.met) (held_by others) (held_by more))

parts_both : (others more : List Pass) → parts_of (others ++ more) ≡ parts_of others + parts_of more
parts_both [] more = omega arith
parts_both (other ∷ others) more = omega (arith, parts_both others more)

-- one more is met
pub met_more : (lock : Lock BookOrigin) (others more : List Pass) (old mid new : Pass) → MetAll lock others old mid → MetAll lock more mid new → MetAll lock (others ++ more) old new
met_more lock others more old mid new h k =
    let mid_seen : mid.seen ≡ h.seen = ap (λ (p : Pass). p.seen) h.is in
    let front : IsPrefix h.seen k.seen = subst (λ (s : List Entry). IsPrefix s k.seen) mid_seen k.begins in
    let met : (mid.met ++ held_by more) ≡ old.met ++ held_by (others ++ more) =
    ap (λ (p : Pass). p.met ++ held_by more) h.is ∙ append_assoc old.met (held_by others) (held_by more) ∙ ap (λ (m : List ℕ). old.met ++ m) (sym (held_both others more)) in
    let parts : mid.parts + parts_of more ≡ old.parts + parts_of (others ++ more) = omega (arith, ap (λ (p : Pass). p.parts) h.is, parts_both others more) in
    record {
      seen = k.seen;
      begins = front_trans old.seen h.seen k.seen h.begins front;
      met = both_met k.seen others more (met_later h.seen k.seen others front h.met) k.met;
      is = k.is ∙ (λ i. knowing lock (parts i) k.seen (ap (λ (p : Pass). p.mine) h.is i) (met i));
      apart = k.apart;
    }
