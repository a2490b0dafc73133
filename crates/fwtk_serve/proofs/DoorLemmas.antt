-- What a worker has done so far, and one client more.
use Rattle.std.proofs.Common.{arith, ◌≡◌, refl, sym, ap, subst, ◌∙◌, ℕ, ◌+◌, ◌-◌, ◌<◌, ◌⊎◌, inl, inr, Bool, true, false, List, [], ◌∷◌, ◌++◌, length, Option, Some, None, IfSome, append_assoc, append-nil, map}
use Rattle.std.proofs.lemmas.List.{length_push, map-append}
use Rattle.std.specs.Option.{option_map}
use Rattle.acceptors.specs.AcceptorView.{AcceptorView, Comes, Ends, Fails, HasOut, TakesBack, Visit}
use Rattle.auth_machine.specs.Port.{BookOrigin}
use Rattle.fw_outside.specs.Counts.{Grew, Rose}
use Rattle.fw_outside.specs.ToldList.{grown}
use Rattle.fw_outside.proofs.CountLemmas.{grew_by, grew_none}
use Rattle.gate_rules.specs.Reading.{RuleBook}
use Rattle.gate_rules.specs.declared.service.Service.{Service}
use Rattle.spool_pool.specs.Known.{PoolView}
use Rattle.turn_lock.specs.Known.{Lock}
use Rattle.fwtk_serve.specs.Passes.{AreOf}
use Rattle.fwtk_serve.specs.Meeting.{HasPasses, HasWorked, IsReady, WorkerView}
use Rattle.fwtk_serve.specs.RulesFor.{rules_for}
use Rattle.fwtk_serve.specs.Sessions.{Both, Held, ServedView, Sitting, WasServed}
use Rattle.fwtk_serve.specs.Stepping.{IsToldEnd, ServesNext, worker_with}
use Rattle.fwtk_serve.specs.Working.{EndsBy, Serves}
use Rattle.fwtk_serve.proofs.SessionLemmas.{were_more}

module _ {A : Type 0} where
  grown_none : (told : Option (List A)) → told ≡ grown told []
  grown_none None = refl
  grown_none (Some xs) = ap (λ (l : List A). Some l) (sym (append-nil xs))

  grown_twice : (told : Option (List A)) (xs ys : List A) → grown (grown told xs) ys ≡ grown told (xs ++ ys)
  grown_twice None xs ys = refl
  grown_twice (Some zs) xs ys = ap (λ (l : List A). Some l) (append_assoc zs xs ys)

-- ---- those that are out

-- one is out after one came
one_out : (out : Option ℕ) → IfSome (option_map (λ n. n + 1) out) (λ n. 0 < n)
one_out None = tt
one_out (Some n) = omega arith

pub came_out : (visit : Visit) (old new : AcceptorView) → Comes visit old new → HasOut new
came_out visit old new h = subst HasOut (sym h.is) (one_out old.out)

one_back : (out : Option ℕ) → option_map (λ n. n - 1) (option_map (λ n. n + 1) out) ≡ out
one_back None = refl
one_back (Some n) = let same : (n + 1) - 1 ≡ n = omega arith in ap (λ (m : ℕ). Some m) same

-- ---- clients that came and were taken back

module _ (rules : List (Service × RuleBook)) (lock : Lock BookOrigin) where
  -- nobody came yet
  serves_none : (both : Both) (door : AcceptorView) → Serves rules lock both both door door []
  serves_none both door = record {
    handed = grown_none door.handed;
    took = grown_none door.took;
    come = grew_none door.came;
    returned = grew_none door.returned;
    out = refl;
    were = refl;
  }

  -- a client more came, was served, and was taken back
  serves_more : (first mid last : Both) (old so_far came new : AcceptorView) (sittings : List Sitting) (one : Sitting)
      → Serves rules lock first mid old so_far sittings → Comes one.fresh so_far came → WasServed rules lock mid last one → TakesBack one.back came new
      → Serves rules lock first last old new (sittings ++ one ∷ [])
  serves_more first mid last old so_far came new sittings one h comes was back = record {
    handed = ap (λ (d : AcceptorView). d.handed) back.is
        ∙ ap (λ (d : AcceptorView). d.handed) comes.is
        ∙ ap (λ (d : Option (List Visit)). grown d (one.fresh ∷ [])) h.handed
        ∙ grown_twice old.handed (map (λ (s : Sitting). s.fresh) sittings) (one.fresh ∷ [])
        ∙ ap (grown old.handed) (sym (map-append (λ (s : Sitting). s.fresh) sittings (one ∷ [])));
    took = ap (λ (d : AcceptorView). d.took) back.is
        ∙ ap (λ (d : AcceptorView). grown d.took (one.back ∷ [])) comes.is
        ∙ ap (λ (d : Option (List Visit)). grown d (one.back ∷ [])) h.took
        ∙ grown_twice old.took (map (λ (s : Sitting). s.back) sittings) (one.back ∷ [])
        ∙ ap (grown old.took) (sym (map-append (λ (s : Sitting). s.back) sittings (one ∷ [])));
    come = grew_by (length sittings) 1 (length (sittings ++ one ∷ [])) old.came so_far.came new.came (length_push sittings one) h.come
        (subst (λ (n : ℕ). Grew 1 so_far.came n) (sym (ap (λ (d : AcceptorView). d.came) back.is ∙ ap (λ (d : AcceptorView). d.came) comes.is)) comes.grew);
    returned =
        let same : came.returned ≡ so_far.returned = ap (λ (d : AcceptorView). d.returned) comes.is in
        let more : Grew 1 so_far.returned back.count = subst (λ (n : ℕ). Grew 1 n back.count) same back.grew in
        grew_by (length sittings) 1 (length (sittings ++ one ∷ [])) old.returned so_far.returned new.returned (length_push sittings one) h.returned
        (subst (λ (n : ℕ). Grew 1 so_far.returned n) (sym (ap (λ (d : AcceptorView). d.returned) back.is)) more);
    out = ap (λ (d : AcceptorView). d.out) back.is
        ∙ ap (λ (d : AcceptorView). option_map (λ n. n - 1) d.out) comes.is
        ∙ one_back so_far.out
        ∙ h.out;
    were = were_more rules lock first mid last sittings one h.were was;
  }

-- ---- a worker

-- what a worker that began so has done so far
pub record SoFar (rules : List (Service × RuleBook)) (lock : Lock BookOrigin) (pool : PoolView) (old new : WorkerView) : Type 0 where
  pub first : Both
  pub last : Both
  pub had : old.passes ≡ Some first
  pub has : new.passes ≡ Some last
  pub own : AreOf lock pool last
  pub sittings : List Sitting
  pub sessions : new.sessions ≡ map (λ sitting. sitting.served) sittings
  pub serves : Serves rules lock first last old.door new.door sittings
  pub long : new.short ≡ false
  pub ends : new.door.ends ≡ old.door.ends
  pub over : new.door.over ≡ old.door.over
  pub faults : new.door.faults ≡ old.door.faults

-- it has its passes
pub so_far_has : (rules : List (Service × RuleBook)) (lock : Lock BookOrigin) (pool : PoolView) (old new : WorkerView) → SoFar rules lock pool old new → HasPasses (AreOf lock pool) new.passes
so_far_has rules lock pool old new h = subst (HasPasses (AreOf lock pool)) (sym h.has) h.own

abbrev both_or : Both → Option Both → Both
both_or other None = other
both_or other (Some both) = both

module _ (rules : List (Service × RuleBook)) (lock : Lock BookOrigin) (pool : PoolView) where
  pub so_far_ready : (worker : WorkerView) → IsReady lock pool worker → SoFar rules lock pool worker worker
  so_far_ready worker h = record {
    first = h.both;
    last = h.both;
    had = ap (λ (w : WorkerView). w.passes) h.is;
    has = ap (λ (w : WorkerView). w.passes) h.is;
    own = h.own;
    sittings = [];
    sessions = ap (λ (w : WorkerView). w.sessions) h.is;
    serves = serves_none rules lock h.both worker.door;
    long = ap (λ (w : WorkerView). w.short) h.is;
    ends = refl;
    over = refl;
    faults = refl;
  }

  pub so_far_next : (old mid new : WorkerView) → SoFar rules lock pool old mid → ServesNext rules lock pool mid new → SoFar rules lock pool old new
  so_far_next old mid new h n =
      let one = n.serves in
      let same : one.first ≡ h.last = ap (both_or h.last) (sym one.had ∙ h.has) in
      let sitting : Sitting = record { fresh = n.fresh; back = one.back; served = one.served; mailed = one.holds.mailed } in
      let was : WasServed rules lock h.last one.last sitting = record {
        is_fresh = n.comes.new_one;
        held = subst (λ (p : Both). Held (rules_for n.fresh.guest.service rules) lock p one.last sitting) same one.holds.held;
      } in
      record {
        first = h.first;
        last = one.last;
        had = h.had;
        has = one.has;
        own = one.own;
        sittings = h.sittings ++ sitting ∷ [];
        sessions = one.sessions
            ∙ ap (λ (ss : List ServedView). ss ++ one.served ∷ []) h.sessions
            ∙ sym (map-append (λ (s : Sitting). s.served) h.sittings (sitting ∷ []));
        serves = serves_more rules lock h.first h.last one.last old.door mid.door n.came new.door h.sittings sitting h.serves n.comes was one.takes_back;
        long = one.short ∙ h.long;
        ends = ap (λ (d : AcceptorView). d.ends) one.takes_back.is ∙ ap (λ (d : AcceptorView). d.ends) n.comes.is ∙ h.ends;
        over = ap (λ (d : AcceptorView). d.over) one.takes_back.is ∙ ap (λ (d : AcceptorView). d.over) n.comes.is ∙ h.over;
        faults = ap (λ (d : AcceptorView). d.faults) one.takes_back.is ∙ ap (λ (d : AcceptorView). d.faults) n.comes.is ∙ h.faults;
      }

  -- ---- the end

  ends_told : (old mid new : AcceptorView) → mid.ends ≡ old.ends → mid.faults ≡ old.faults → Ends mid new ⊎ Fails mid new → EndsBy false old new
  ends_told old mid new ends faults (inl told) = (
    subst (λ (n : ℕ). Grew 1 n new.ends) ends (subst (λ (n : ℕ). Grew 1 mid.ends n) (sym (ap (λ (d : AcceptorView). d.ends) told.is)) told.grew),
    ap (λ (d : AcceptorView). d.over) told.is,
    inl (ap (λ (d : AcceptorView). d.faults) told.is ∙ faults),
  )
  ends_told old mid new ends faults (inr told) = (
    subst (λ (n : ℕ). Grew 1 n new.ends) ends (subst (λ (n : ℕ). Grew 1 mid.ends n) (sym (ap (λ (d : AcceptorView). d.ends) told.is)) told.grew),
    ap (λ (d : AcceptorView). d.over) told.is,
    inr (subst (λ (n : ℕ). Rose n new.faults) faults (subst (λ (n : ℕ). Rose mid.faults n) (sym (ap (λ (d : AcceptorView). d.faults) told.is)) told.rose)),
  )

  -- the lists of the door, and their counts, are as they were
  record KeepsLists (old new : AcceptorView) : Type 0 where
    handed : new.handed ≡ old.handed
    took : new.took ≡ old.took
    came : new.came ≡ old.came
    returned : new.returned ≡ old.returned
    out : new.out ≡ old.out

  lists_told : (old new : AcceptorView) → Ends old new ⊎ Fails old new → KeepsLists old new
  lists_told old new (inl told) = record {
    handed = ap (λ (d : AcceptorView). d.handed) told.is;
    took = ap (λ (d : AcceptorView). d.took) told.is;
    came = ap (λ (d : AcceptorView). d.came) told.is;
    returned = ap (λ (d : AcceptorView). d.returned) told.is;
    out = ap (λ (d : AcceptorView). d.out) told.is;
  }
  lists_told old new (inr told) = record {
    handed = ap (λ (d : AcceptorView). d.handed) told.is;
    took = ap (λ (d : AcceptorView). d.took) told.is;
    came = ap (λ (d : AcceptorView). d.came) told.is;
    returned = ap (λ (d : AcceptorView). d.returned) told.is;
    out = ap (λ (d : AcceptorView). d.out) told.is;
  }

  serves_still : (first last : Both) (old mid new : AcceptorView) (sittings : List Sitting) → KeepsLists mid new → Serves rules lock first last old mid sittings → Serves rules lock first last old new sittings
  serves_still first last old mid new sittings k h = record {
    handed = k.handed ∙ h.handed;
    took = k.took ∙ h.took;
    come = subst (λ (n : ℕ). Grew (length sittings) old.came n) (sym k.came) h.come;
    returned = subst (λ (n : ℕ). Grew (length sittings) old.returned n) (sym k.returned) h.returned;
    out = k.out ∙ h.out;
    were = h.were;
  }

  -- no more come
  pub so_far_over : (old mid new : WorkerView) → SoFar rules lock pool old mid → IsToldEnd mid new → HasWorked rules lock pool old new
  so_far_over old mid new h told =
      let door : new.door ≡ told.door = ap (λ (w : WorkerView). w.door) told.is in
      let sessions : new.sessions ≡ mid.sessions = ap (λ (w : WorkerView). w.sessions) told.is in
      let short : new.short ≡ false = ap (λ (w : WorkerView). w.short) told.is ∙ h.long in
      let so : Ends mid.door new.door ⊎ Fails mid.door new.door = subst (λ (d : AcceptorView). Ends mid.door d ⊎ Fails mid.door d) (sym door) told.told in
      record {
        first = h.first;
        last = h.last;
        had = h.had;
        has = ap (λ (w : WorkerView). w.passes) told.is ∙ h.has;
        own = h.own;
        sittings = h.sittings;
        sessions = sessions ∙ h.sessions;
        worked = record {
          serves = serves_still h.first h.last old.door mid.door new.door h.sittings (lists_told mid.door new.door so) h.serves;
          ends = subst (λ (b : Bool). EndsBy b old.door new.door) (sym short) (ends_told old.door mid.door new.door h.ends h.faults so);
        };
      }

  -- memory is short
  pub so_far_short : (old mid now : WorkerView) → SoFar rules lock pool old mid → now ≡ mid → HasWorked rules lock pool old (worker_with now.door now.sessions true now.passes)
  so_far_short old mid now h is = record {
    first = h.first;
    last = h.last;
    had = h.had;
    has = ap (λ (w : WorkerView). w.passes) is ∙ h.has;
    own = h.own;
    sittings = h.sittings;
    sessions = ap (λ (w : WorkerView). w.sessions) is ∙ h.sessions;
    worked = record {
      serves = subst (λ (w : WorkerView). Serves rules lock h.first h.last old.door w.door h.sittings) (sym is) h.serves;
      ends = (
        ap (λ (w : WorkerView). w.door.ends) is ∙ h.ends,
        ap (λ (w : WorkerView). w.door.over) is ∙ h.over,
        ap (λ (w : WorkerView). w.door.faults) is ∙ h.faults,
      );
    };
  }
