-- What the passes of the pool come to once they have met.
use Rattle.std.proofs.Common.{arith, ◌≡◌, refl, sym, ap, subst, ◌∙◌, ℕ, ◌+◌, ◌-◌, ◌^◌, ◌≤◌, min, List, [], ◌∷◌, ◌++◌, length, map, flat_map, sum_by, Option, Some, append_assoc, append-nil}
use Rattle.std.proofs.lemmas.List.Concat.{flat_map-append}
use Rattle.std.proofs.lemmas.List.Sums.{sum_by-append}
use Rattle.acceptors.specs.AcceptorView.{AcceptorView}
use Rattle.auth_events.specs.declared.entry.Entry.{Entry}
use Rattle.auth_machine.specs.Port.{BookOrigin}
use Rattle.gate_rules.specs.Reading.{RuleBook}
use Rattle.gate_rules.specs.declared.service.Service.{Service}
use Rattle.spool_pool.specs.Known.{PassView, PoolView, bare, met}
use Rattle.spool_rack.specs.Store.{Handed, Queues, with_put}
use Rattle.spool_slots.specs.States.{FullView}
use Rattle.turn_lock.specs.Known.{Lock}
use Rattle.fwtk_serve.specs.Meeting.{HasWorked, HaveWorked, WorkerView, passes_of, starting, with_passes}
use Rattle.fwtk_serve.specs.Passes.{met_each}
use Rattle.fwtk_serve.specs.Sessions.{Both, Sitting}
use Rattle.fwtk_serve.specs.Working.{at_first}
use Rattle.fwtk_serve.proofs.SessionLemmas.{broken_served, no_free_served, put_served}

-- ---- one worker

-- what a worker's pass of the pool tells in the end: what its sessions put, and what was counted
pub record Tells (sittings : List Sitting) (home : List (List ℕ)) (began : Queues) (mail : PassView) : Type 0 where
  pub lists : mail.handed ≡ with_put (flat_map (λ s. s.mailed.put) sittings) (bare home 1 began).handed
  pub no_free : min (sum_by (λ s. s.mailed.unslotted) sittings) (2 ^ 64 - 1) ≤ mail.no_free
  pub broken : min (sum_by (λ s. s.mailed.faulted) sittings) (2 ^ 64 - 1) ≤ mail.broken

-- ---- a pass that has met those of workers

-- what it had told of what it had released, set aside and seen break is as it was; and to what it had told that was put has come
-- what these sessions put
pub record Takes (sittings : List Sitting) (many : ℕ) (old new : PassView) : Type 0 where
  pub home : new.handed.home ≡ old.handed.home
  pub parts : new.handed.parts ≡ old.handed.parts + many
  pub began : new.handed.began ≡ old.handed.began
  pub put : new.handed.put ≡ old.handed.put ++ flat_map (λ s. s.mailed.put) sittings
  pub released : new.handed.released ≡ old.handed.released
  pub aside : new.handed.aside ≡ old.handed.aside
  pub broke : new.handed.broken ≡ old.handed.broken
  pub no_free : min (old.no_free + sum_by (λ s. s.mailed.unslotted) sittings) (2 ^ 64 - 1) ≤ new.no_free
  pub no_full : min old.no_full (2 ^ 64 - 1) ≤ new.no_full
  pub broken : min (old.broken + sum_by (λ s. s.mailed.faulted) sittings) (2 ^ 64 - 1) ≤ new.broken

takes_none : (pass : PassView) → Takes [] 0 pass pass
takes_none pass = record {
  home = refl;
  parts = omega arith;
  began = refl;
  put = sym (append-nil pass.handed.put);
  released = refl;
  aside = refl;
  broke = refl;
  no_free = omega arith;
  no_full = omega arith;
  broken = omega arith;
}

takes_one : (sittings : List Sitting) (home : List (List ℕ)) (began : Queues) (pass mail : PassView) → Tells sittings home began mail → Takes sittings 1 pass (met pass mail)
takes_one sittings home began pass mail t =
    let counted = t.no_free in
    let faulted = t.broken in
    record {
      home = refl;
      parts = ap (λ (l : Handed). pass.handed.parts + l.parts) t.lists;
      began = refl;
      put = ap (λ (l : Handed). pass.handed.put ++ l.put) t.lists;
      released = ap (λ (l : Handed). pass.handed.released ++ l.released) t.lists ∙ append-nil pass.handed.released;
      aside = ap (λ (l : Handed). pass.handed.aside ++ l.aside) t.lists ∙ append-nil pass.handed.aside;
      broke = ap (λ (l : Handed). pass.handed.broken ++ l.broken) t.lists ∙ append-nil pass.handed.broken;
      no_free = omega (arith, counted);
      no_full = omega arith;
      broken = omega (arith, faulted);
    }

takes_more : (first more : List Sitting) (n m : ℕ) (old mid new : PassView) → Takes first n old mid → Takes more m mid new → Takes (first ++ more) (n + m) old new
takes_more first more n m old mid new a b =
    let parts_a = a.parts in
    let parts_b = b.parts in
    let free_a = a.no_free in
    let free_b = b.no_free in
    let full_a = a.no_full in
    let full_b = b.no_full in
    let broken_a = a.broken in
    let broken_b = b.broken in
    record {
      home = b.home ∙ a.home;
      parts = omega (arith, parts_a, parts_b);
      began = b.began ∙ a.began;
      put = b.put
          ∙ ap (λ (p : List FullView). p ++ flat_map (λ (s : Sitting). s.mailed.put) more) a.put
          ∙ append_assoc old.handed.put (flat_map (λ (s : Sitting). s.mailed.put) first) (flat_map (λ (s : Sitting). s.mailed.put) more)
          ∙ ap (λ (p : List FullView). old.handed.put ++ p) (sym (flat_map-append (λ (s : Sitting). s.mailed.put) first more));
      released = b.released ∙ a.released;
      aside = b.aside ∙ a.aside;
      broke = b.broke ∙ a.broke;
      no_free = omega (arith, free_a, free_b, sum_by-append (λ (s : Sitting). s.mailed.unslotted) first more);
      no_full = omega (arith, full_a, full_b);
      broken = omega (arith, broken_a, broken_b, sum_by-append (λ (s : Sitting). s.mailed.faulted) first more);
    }

module _ (rules : List (Service × RuleBook)) (lock : Lock BookOrigin) (pool : PoolView) (before : List Entry) (home : List (List ℕ)) (began : Queues) where
  abbrev first : Both
  first = at_first lock before home began

  abbrev both_or : Both → Option Both → Both
  both_or other (Some both) = both
  both_or other _ = other

  -- a worker that began with passes that were split off
  pub began_so : (old : AcceptorView) (new : WorkerView) → (h : HasWorked rules lock pool (starting old first) new) → h.first ≡ first
  began_so old new h = ap (both_or h.first) (sym h.had)

  tells : (old : AcceptorView) (new : WorkerView) → (h : HasWorked rules lock pool (starting old first) new) → Tells h.sittings home began h.last.mail
  tells old new h =
      let same : h.first.mail ≡ bare home 1 began = ap (λ (b : Both). b.mail) (began_so old new h) in
      let free = no_free_served rules lock h.first h.last h.sittings h.worked.serves.were in
      let broke = broken_served rules lock h.first h.last h.sittings h.worked.serves.were in
      let no_free = ap (λ (p : PassView). p.no_free) same in
      let no_broken = ap (λ (p : PassView). p.broken) same in
      record {
        lists = put_served rules lock h.first h.last h.sittings h.worked.serves.were ∙ ap (λ (p : PassView). with_put (flat_map (λ (s : Sitting). s.mailed.put) h.sittings) p.handed) same;
        no_free = omega (arith, free, no_free);
        broken = omega (arith, broke, no_broken);
      }

  abbrev begun : List AcceptorView → List WorkerView
  begun olds = map (λ (old : AcceptorView). starting old first) olds

  -- all sessions of workers that have worked, in order
  abbrev pub sittings_of : (olds : List AcceptorView) (news : List WorkerView) → HaveWorked rules lock pool (begun olds) news → List Sitting
  sittings_of [] [] worked = []
  sittings_of (old ∷ olds) (new ∷ news) worked = worked.0.sittings ++ sittings_of olds news worked.1
  sittings_of [] (new ∷ news) worked = []
  sittings_of (old ∷ olds) [] worked = []

  pub takes_all : (olds : List AcceptorView) (news : List WorkerView) (pass : PassView) → (worked : HaveWorked rules lock pool (begun olds) news)
      → Takes (sittings_of olds news worked) (length olds) pass (met_each (map (λ (b : Both). b.mail) (passes_of news)) pass)
  takes_all [] [] pass worked = takes_none pass
  takes_all (old ∷ olds) (new ∷ news) pass worked =
      let h = worked.0 in
      let rest = takes_all olds news (met pass h.last.mail) worked.1 in
      let all : Takes (sittings_of (old ∷ olds) (new ∷ news) worked) (1 + length olds) pass (met_each (map (λ (b : Both). b.mail) (passes_of news)) (met pass h.last.mail)) =
      takes_more h.sittings (sittings_of olds news worked.1) 1 (length olds) pass (met pass h.last.mail) _ (takes_one h.sittings home began pass h.last.mail (tells old new h)) rest in
      let count : 1 + length olds ≡ length (old ∷ olds) = omega arith in
      subst (λ (p : Option Both). Takes (sittings_of (old ∷ olds) (new ∷ news) worked) (length (old ∷ olds)) pass (met_each (map (λ (b : Both). b.mail) (with_passes p (passes_of news))) pass)) (sym h.has)
      (subst (λ (n : ℕ). Takes (sittings_of (old ∷ olds) (new ∷ news) worked) n pass (met_each (map (λ (b : Both). b.mail) (passes_of news)) (met pass h.last.mail))) count all)
  takes_all [] (new ∷ news) pass worked = absurd worked
  takes_all (old ∷ olds) [] pass worked = absurd worked
