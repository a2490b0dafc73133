-- From the first passes to the report.
use Rattle.std.proofs.Common.{arith, ◌≡◌, refl, sym, ap, ap₂, subst, ◌∙◌, ℕ, ◌+◌, ◌-◌, ◌^◌, ◌<◌, ◌≤◌, min, List, [], ◌∷◌, ◌++◌, length, Option, Some, None, IfSome, Result, Ok, Err}
use Rattle.std.proofs.lemmas.List.{length-map}
use Rattle.std.specs.Prelude.{map, slice_index_or, IfOk}
use Rattle.acceptors.specs.AcceptorView.{AcceptorView}
use Rattle.auth_events.specs.declared.entry.Entry.{Entry}
use Rattle.auth_machine.specs.Port.{BookOrigin}
use Rattle.fw_mail.specs.MailerView.{MailerView}
use Rattle.fw_outside.specs.SinkView.{SinkView}
use Rattle.gate_rules.specs.Reading.{RuleBook}
use Rattle.gate_rules.specs.declared.service.Service.{Service}
use Rattle.smapd_queue.specs.declared.round.Round.{Round}
use Rattle.spool_pool.specs.Ends.{IsSettled}
use Rattle.spool_pool.specs.Known.{PassView, PoolView, SeatView, bare, closed, store_of}
use Rattle.spool_rack.specs.Stock.{count_of, rack_of}
use Rattle.spool_rack.specs.Store.{Handed, Loan, Queues, StoreView}
use Rattle.turn_lock.specs.Known.{IsPassOf, Lock}
use Rattle.turn_lock.specs.Places.{AreWithin, Fill, NoneTwice}
use Rattle.fwtk_serve.specs.Clerks.{ClerkView, HandsToEnd, clerk_with, no_sums}
use Rattle.fwtk_serve.specs.Meeting.{HavePasses, HaveWorked, IsReady, WorkerView, passes_of, starting}
use Rattle.fwtk_serve.specs.Passes.{AreOf, IsApart, MeetAll, Pass, first_of, less}
use Rattle.fwtk_serve.specs.Rounds.{HandsOnAll, HandsOnSlots, Settles, SettlesSlots, all_turns, of_rack}
use Rattle.fwtk_serve.specs.Sessions.{Both, ServedView, store_at}
use Rattle.fwtk_serve.specs.Stepping.{workers_short}
use Rattle.fwtk_serve.specs.Working.{ServedAll, at_first}
use Rattle.fwtk_serve.specs.declared.sums.Sums.{Sums}
use Rattle.fwtk_serve.proofs.EachLemmas.{all_ready}
use Rattle.fwtk_serve.proofs.MailLemmas.{Takes, sittings_of, takes_all}
use Rattle.fwtk_serve.proofs.ReportLemmas.{as_many_worked, have_passes, served_all}
use Rattle.fwtk_serve.proofs.RoundLemmas.{Grows, grows_all, hands_all, has_first, rounds_more}
use Rattle.turn_lock.proofs.Fronts.{front_trans}
use mathlib.Core.List.{IsPrefix}

-- ---- the first passes

-- those that a worker begins with are of the lock and the pool
own_first : (lock : Lock BookOrigin) (pool : PoolView) (seen : List Entry) (home : List (List ℕ)) (began : Queues) → home ≡ pool.home → AreOf lock pool (at_first lock seen home began)
own_first lock pool seen home began same = record { book = record { home = refl; limit = refl; origin = refl }; mail = same }

-- the first pass of a pool is of it
pub own_bare : (lock : Lock BookOrigin) (pool : PoolView) (both : Both) → IsPassOf lock both.book → both.mail ≡ bare pool.home (2 ^ 64) both.mail.handed.began → AreOf lock pool both
own_bare lock pool both book is = record { book = book; mail = ap (λ (p : PassView). p.handed.home) is }

-- and knows which
pub bare_is : (home : List (List ℕ)) (mail : PassView) → mail ≡ bare home (2 ^ 64) mail.handed.began → mail ≡ bare mail.handed.home (2 ^ 64) mail.handed.began
bare_is home mail is = is ∙ ap (λ (h : List (List ℕ)). bare h (2 ^ 64) mail.handed.began) (sym (ap (λ (p : PassView). p.handed.home) is))

-- it has a part for each worker, and one more
pub more_parts : (mail : PassView) (count : ℕ) → mail ≡ bare mail.handed.home (2 ^ 64) mail.handed.began → count < 2 ^ 64 → count < mail.handed.parts
more_parts mail count is few = let all = ap (λ (p : PassView). p.handed.parts) is in omega (arith, all, few)

-- what they have left when the workers begin
module _ (lock : Lock BookOrigin) (first mid : Both) (count : ℕ) (book : first.book ≡ first_of lock first.book.seen) (kept : mid ≡ less lock count first) where
  mine_left : mid.book.mine ≡ []
  mine_left = ap (λ (b : Both). b.book.mine) kept ∙ ap (λ (p : Pass). p.mine) book

  met_left : mid.book.met ≡ []
  met_left = ap (λ (b : Both). b.book.met) kept ∙ ap (λ (p : Pass). p.met) book

  -- no place stands twice in none
  pub apart_left : IsApart mid.book
  apart_left = subst NoneTwice (sym (ap₂ (λ (a b : List ℕ). a ++ b) mine_left met_left)) (λ place. omega arith)

  parts_left : count < 2 ^ 64 → mid.book.parts + count ≡ 2 ^ 64
  parts_left few = omega (arith, ap (λ (b : Both). b.book.parts) kept, ap (λ (p : Pass). p.parts) book, few)

-- the pass of the pool, with what is left of its parts
mail_left : (lock : Lock BookOrigin) (first mid : Both) (count : ℕ) → first.mail ≡ bare first.mail.handed.home (2 ^ 64) first.mail.handed.began → mid ≡ less lock count first
    → mid.mail ≡ bare first.mail.handed.home (2 ^ 64 - count) first.mail.handed.began
mail_left lock first mid count mail kept =
    ap (λ (b : Both). b.mail) kept ∙ ap (λ (p : PassView). record p { handed = record (p.handed) { parts = p.handed.parts - count } }) mail

-- ---- the clerk

-- his store after all rounds
clerk_grows : (most : ℕ) (home : List (List ℕ)) (parts : ℕ) (began : Queues) (old new : ClerkView) → old.met.store ≡ store_at (bare home parts began) → (h : HandsToEnd most old new)
    → Grows (all_turns (h.more.rounds ++ h.last.round ∷ [])) (bare home parts began).handed old.met.store new.met.store
clerk_grows most home parts began old new begins h =
    grows_all most (h.more.rounds ++ h.last.round ∷ []) (bare home parts began).handed old.met new.met (ap (λ (s : StoreView). s.handed) begins)
    (rounds_more most h.more.rounds (h.last.round ∷ []) old.met h.middle.met new.met h.more.went h.last.went)

-- what his pass knows of the pool stays, and nothing was put
pub record IsKept (home : List (List ℕ)) (parts : ℕ) (began : Queues) (pass : PassView) : Type 0 where
  pub home_is : pass.handed.home ≡ home
  pub parts_are : pass.handed.parts ≡ parts
  pub began_is : pass.handed.began ≡ began
  pub unput : pass.handed.put ≡ []

some_same : {X : Type 0} {x y : X} → Some x ≡ Some y → x ≡ y
some_same e = cc

clerk_keeps : (most : ℕ) (home : List (List ℕ)) (parts : ℕ) (began : Queues) (old new : ClerkView) (pass : PassView) → old.met.store ≡ store_at (bare home parts began) → HandsToEnd most old new → new.met.store.handed ≡ Some pass.handed
    → IsKept home parts began pass
clerk_keeps most home parts began old new pass begins h told =
    let g = clerk_grows most home parts began old new begins h in
    let same : pass.handed ≡ g.after = some_same (sym told ∙ g.is) in
    record {
      home_is = ap (λ (l : Handed). l.home) same ∙ g.lists.home;
      parts_are = ap (λ (l : Handed). l.parts) same ∙ g.lists.parts;
      began_is = ap (λ (l : Handed). l.began) same ∙ g.lists.began;
      unput = ap (λ (l : Handed). l.put) same ∙ g.lists.put;
    }

pub some_views : {M : Type 0} (view : M → MailerView) (all : List M) → 0 < length all → 0 < length (map view all)
some_views view all some = let many = length-map all view in omega (arith, some, many)

-- ---- the account

-- it is between the slots, the lists and the slots that are left alone
settled_by : (handed lists : Handed) (left : Queues) → handed.began ≡ lists.began → handed.put ≡ lists.put → handed.released ≡ lists.released → handed.aside ≡ lists.aside → handed.broken ≡ lists.broken → IsSettled handed left → IsSettled lists left
settled_by handed lists left began put released aside broken h =
    let same : record handed { home = lists.home; parts = lists.parts } ≡ lists =
    λ i. record { home = lists.home; parts = lists.parts; began = began i; put = put i; released = released i; aside = aside i; broken = broken i } in
    subst (λ (l : Handed). IsSettled l left) same (record { full = h.full; slots = h.slots; aside = h.aside; broken = h.broken })

-- the pool was closed by the pass that has all parts
settles_all : (before : Queues) (pass mail : PassView) (rack : StoreView) (left : Queues) → pass.handed.began ≡ before → pass.handed.parts ≡ 2 ^ 64 → mail ≡ closed pass → rack ≡ rack_of left
    → (pass.handed.parts ≡ 2 ^ 64 → IsSettled pass.handed left) → Settles before mail rack
settles_all before pass mail rack left began parts is rack_is settled = record {
  left = left;
  rack_is = rack_is;
  settled = settled_by pass.handed (of_rack before mail.handed) left began
      (sym (ap (λ (p : PassView). p.handed.put) is)) (sym (ap (λ (p : PassView). p.handed.released) is)) (sym (ap (λ (p : PassView). p.handed.aside) is)) (sym (ap (λ (p : PassView). p.handed.broken) is)) (settled parts);
}

-- ---- by the slots of the rack

-- what follows for each value follows for the one that there is
pub ok_so : {T E : Type 0} {P Q : T → Type 0} (r : Result T E) → IfOk r P → ((x : T) → P x → Q x) → IfOk r Q
ok_so (Ok x) is so = so x is
ok_so (Err e) is so = tt

-- at least as many turns as there are slots
pub hands_for : (queues : Option Queues) (q : Queues) (slots each : ℕ) (round : Round) (starved : ℕ) (mail : PassView) (mailers after : List MailerView) (logs log_after : SinkView)
    → queues ≡ Some q → IfSome queues (λ q. count_of q ≤ slots) → each ≡ min slots (2 ^ 32 - 1)
    → HandsOnAll each round starved mail mailers after logs log_after → HandsOnSlots queues round starved mail mailers after logs log_after
hands_for queues q slots each round starved mail mailers after logs log_after told count is h =
    let fits : count_of q ≤ slots = subst (λ (o : Option Queues). IfSome o (λ q. count_of q ≤ slots)) told count in
    record { slots = q; told = told; most = each; enough = omega (arith, fits, is); hands = h }

-- the pool began with them
pub settles_for : (queues : Option Queues) (began : Queues) (mail : PassView) (rack : StoreView) → queues ≡ Some began → Settles began mail rack → SettlesSlots queues mail rack
settles_for queues began mail rack told h = record { slots = began; told = told; settles = h }

-- ---- the workers

-- of what a pass takes in when it meets those of workers, all but what was put
pub record TookIn (many : ℕ) (old new : PassView) : Type 0 where
  pub parts : new.handed.parts ≡ old.handed.parts + many
  pub began : new.handed.began ≡ old.handed.began
  pub released : new.handed.released ≡ old.handed.released
  pub aside : new.handed.aside ≡ old.handed.aside
  pub broke : new.handed.broken ≡ old.handed.broken
  pub no_full : min old.no_full (2 ^ 64 - 1) ≤ new.no_full

-- workers that begin at these doors
begun_map : {A : Type 0} (door_view : A → AcceptorView) (first : Both) (doors : List A)
    → map (λ (door : A). starting (door_view door) first) doors ≡ map (λ (door : AcceptorView). starting door first) (map door_view doors)
begun_map door_view first [] = refl
begun_map door_view first (door ∷ doors) = ap (λ (l : List WorkerView). starting (door_view door) first ∷ l) (begun_map door_view first doors)

module _ {A W : Type 0} (door_view : A → AcceptorView) (view : W → WorkerView) (lock : Lock BookOrigin) (pool : PoolView) where
  -- each is ready
  pub all_begin : (doors : List A) (workers : List W) (seen : List Entry) (home : List (List ℕ)) (began : Queues) → home ≡ pool.home
      → map view workers ≡ map (λ (door : A). starting (door_view door) (at_first lock seen home began)) doors
      → (k : ℕ) (d : W) → k < length workers → IsReady lock pool (view (slice_index_or workers k d))
  all_begin doors workers seen home began same are =
      all_ready view lock pool (at_first lock seen home began) workers (map door_view doors) (own_first lock pool seen home began same)
      (are ∙ begun_map door_view (at_first lock seen home began) doors)

  -- who has worked has passes
  pub all_have : (rules : List (Service × RuleBook)) (workers news : List W) → HaveWorked rules lock pool (map view workers) (map view news) → HavePasses lock pool (map view news)
  all_have rules workers news worked = have_passes rules lock pool (map view workers) (map view news) worked

  -- as many as began
  pub all_there : (rules : List (Service × RuleBook)) (workers news : List W) → HaveWorked rules lock pool (map view workers) (map view news) → length news ≡ length workers
  all_there rules workers news worked = sym (length-map news view) ∙ as_many_worked rules lock pool (map view workers) (map view news) worked ∙ length-map workers view

  -- what all did is reported
  pub all_served : (rules : List (Service × RuleBook)) (doors : List A) (workers news : List W) (first mid old new : Both) (history : List Entry) (after : List AcceptorView) (sessions : List (List ServedView)) (short : ℕ) (mail : PassView)
      → first.book ≡ first_of lock first.book.seen → lock.begun ≡ length first.book.seen → length doors < 2 ^ 64
      → map view workers ≡ map (λ (door : A). starting (door_view door) (at_first lock first.book.seen first.mail.handed.home first.mail.handed.began)) doors
      → HaveWorked rules lock pool (map view workers) (map view news) → mid ≡ less lock (length doors) first → old.book ≡ mid.book → old.mail.handed.put ≡ []
      → MeetAll lock (passes_of (map view news)) old new → IsPrefix new.book.seen history
      → AreWithin lock.begun (length history) (new.book.mine ++ new.book.met) → (new.book.parts ≡ 2 ^ 64 → Fill lock.begun (length history) (new.book.mine ++ new.book.met))
      → after ≡ map (λ (w : WorkerView). w.door) (map view news) → sessions ≡ map (λ (w : WorkerView). w.sessions) (map view news) → short ≡ workers_short (map view news)
      → mail ≡ closed new.mail → ServedAll rules first.book.seen history lock.limit lock.origin (map door_view doors) after sessions short mail
  all_served rules doors workers news first mid old new history after sessions short mail book start few are worked kept same unput met front inside filled after_is sessions_is short_is mail_is =
      let seen = first.book.seen in
      let home = first.mail.handed.home in
      let began = first.mail.handed.began in
      let begun : map view workers ≡ map (λ (door : AcceptorView). starting door (at_first lock seen home began)) (map door_view doors) = are ∙ begun_map door_view (at_first lock seen home began) doors in
      let all = subst (λ (os : List WorkerView). HaveWorked rules lock pool os (map view news)) begun worked in
      let takes = subst (λ (p : PassView). Takes (sittings_of rules lock pool seen home began (map door_view doors) (map view news) all) (length (map door_view doors)) old.mail p) (sym met.mail)
      (takes_all rules lock pool seen home began (map door_view doors) (map view news) old.mail all) in
      served_all rules lock pool seen home began (map door_view doors) (map view news) old new history after sessions short mail all
      (ap (λ (p : Pass). p.mine) same ∙ mine_left lock first mid (length doors) book kept) (ap (λ (p : Pass). p.met) same ∙ met_left lock first mid (length doors) book kept)
      (ap₂ (λ (a b : ℕ). a + b) (ap (λ (p : Pass). p.parts) same) (length-map doors door_view) ∙ parts_left lock first mid (length doors) book kept few) start met front inside filled after_is sessions_is short_is
      unput takes (ap (λ (p : PassView). p.handed.put) mail_is) (ap (λ (p : PassView). p.no_free) mail_is) (ap (λ (p : PassView). p.broken) mail_is)

  -- what the pass of the pool took in
  pub all_taken : (rules : List (Service × RuleBook)) (doors : List A) (workers news : List W) (seen : List Entry) (home : List (List ℕ)) (began : Queues) (old new : Both)
      → map view workers ≡ map (λ (door : A). starting (door_view door) (at_first lock seen home began)) doors → HaveWorked rules lock pool (map view workers) (map view news) → MeetAll lock (passes_of (map view news)) old new
      → TookIn (length doors) old.mail new.mail
  all_taken rules doors workers news seen home began old new are worked met =
      let begun : map view workers ≡ map (λ (door : AcceptorView). starting door (at_first lock seen home began)) (map door_view doors) = are ∙ begun_map door_view (at_first lock seen home began) doors in
      let all = subst (λ (os : List WorkerView). HaveWorked rules lock pool os (map view news)) begun worked in
      let t = subst (λ (p : PassView). Takes (sittings_of rules lock pool seen home began (map door_view doors) (map view news) all) (length (map door_view doors)) old.mail p) (sym met.mail)
      (takes_all rules lock pool seen home began (map door_view doors) (map view news) old.mail all) in
      record {
        parts = t.parts ∙ ap (λ (n : ℕ). old.mail.handed.parts + n) (length-map doors door_view);
        began = t.began;
        released = t.released;
        aside = t.aside;
        broke = t.broke;
        no_full = t.no_full;
      }

-- ---- the clerk at his seat

-- He began at a seat of a pass with what was left of the parts of the first, which had put nothing; and no slot was out.
pub record HeldRounds (lock : Lock BookOrigin) (first mid : Both) (count most : ℕ) (seat after : SeatView) (mailers mailers_after : List MailerView) (logs logs_after : SinkView) (sums sums_after : Sums) : Type 0 where
  pub mail : first.mail ≡ bare first.mail.handed.home (2 ^ 64) first.mail.handed.began
  pub kept : mid ≡ less lock count first
  pub pass : seat.pass ≡ mid.mail
  pub out : seat.out ≡ []
  pub hands : HandsToEnd most (clerk_with (store_of seat) mailers logs sums) (clerk_with (store_of after) mailers_after logs_after sums_after)

module _ (lock : Lock BookOrigin) (first mid : Both) (count most : ℕ) (seat after : SeatView) (mailers mailers_after : List MailerView) (logs logs_after : SinkView) (sums sums_after : Sums) (h : HeldRounds lock first mid count most seat after mailers mailers_after logs logs_after sums sums_after) where
  begins : store_of seat ≡ store_at (bare first.mail.handed.home (2 ^ 64 - count) first.mail.handed.began)
  begins = ap (λ (out : List Loan). record (store_of seat) { out = out }) h.out ∙ ap store_at (h.pass ∙ mail_left lock first mid count h.mail h.kept)

  -- no slot is out then
  pub none_out : after.out ≡ []
  none_out =
      (clerk_grows most first.mail.handed.home (2 ^ 64 - count) first.mail.handed.began (clerk_with (store_of seat) mailers logs sums) (clerk_with (store_of after) mailers_after logs_after sums_after) begins h.hands).out
      ∙ h.out

  still : IsKept first.mail.handed.home (2 ^ 64 - count) first.mail.handed.began after.pass
  still =
      clerk_keeps most first.mail.handed.home (2 ^ 64 - count) first.mail.handed.began (clerk_with (store_of seat) mailers logs sums) (clerk_with (store_of after) mailers_after logs_after sums_after) after.pass begins h.hands refl

  -- the pass that comes back is of the pool, and had put nothing
  pub own_after : (pool : PoolView) (left : PassView) → IsPassOf lock mid.book → first.mail.handed.home ≡ pool.home → left ≡ after.pass → AreOf lock pool (record { book = mid.book; mail = left })
  own_after pool left book home is = record { book = book; mail = ap (λ (p : PassView). p.handed.home) is ∙ still.home_is ∙ home }

  pub unput_after : (left : PassView) → left ≡ after.pass → left.handed.put ≡ []
  unput_after left is = ap (λ (p : PassView). p.handed.put) is ∙ still.unput

  -- what the rounds came to
  pub hands_done : (left last mail : PassView) → most ≤ 2 ^ 32 - 1 → sums ≡ no_sums → 0 < length mailers → left ≡ after.pass → TookIn count left last → mail ≡ closed last
      → HandsOnAll most sums_after.round sums_after.starved mail mailers mailers_after logs logs_after
  hands_done left last mail fits none some is took closed_is =
      let more = took.no_full in
      let told = ap (λ (p : PassView). p.no_full) closed_is in
      hands_all most first.mail.handed.home (2 ^ 64 - count) first.mail.handed.began (clerk_with (store_of seat) mailers logs sums) (clerk_with (store_of after) mailers_after logs_after sums_after) left mail fits h.hands begins none (has_first mailers some)
      (ap (λ (p : PassView). Some p.handed) (sym is)) (ap (λ (p : PassView). p.no_full) (sym is))
      (ap (λ (p : PassView). p.handed.released) closed_is ∙ took.released) (ap (λ (p : PassView). p.handed.aside) closed_is ∙ took.aside) (ap (λ (p : PassView). p.handed.broken) closed_is ∙ took.broke)
      (omega (arith, more, told))

  -- and the account
  pub settles_done : (left last mail : PassView) (rack : StoreView) → count < 2 ^ 64 → left ≡ after.pass → TookIn count left last → mail ≡ closed last
      → (q : Queues) × (rack ≡ rack_of q) × (last.handed.parts ≡ 2 ^ 64 → IsSettled last.handed q) → Settles first.mail.handed.began mail rack
  settles_done left last mail rack few is took closed_is closes =
      let all = took.parts in
      let rest = ap (λ (p : PassView). p.handed.parts) is ∙ still.parts_are in
      settles_all first.mail.handed.began last mail rack closes.0 (took.began ∙ ap (λ (p : PassView). p.handed.began) is ∙ still.began_is) (omega (arith, all, rest, few)) closed_is closes.1 closes.2

-- ---- the history that is left

-- what the book's first pass had seen is a front of it
pub begins_with : (lock : Lock BookOrigin) (n : ℕ) (both mid new : Both) (others : List Both) (history : List Entry) → mid.book ≡ (less lock n both).book → MeetAll lock others mid new → IsPrefix new.book.seen history → IsPrefix both.book.seen history
begins_with lock n both mid new others history e m front =
    let seen : mid.book.seen ≡ both.book.seen = ap (λ (p : Pass). p.seen) e in
    let now : new.book.seen ≡ m.books.seen = ap (λ (p : Pass). p.seen) m.books.is in
    let first : IsPrefix both.book.seen m.books.seen = subst (λ (s : List Entry). IsPrefix s m.books.seen) seen m.books.begins in
    let last : IsPrefix m.books.seen history = subst (λ (s : List Entry). IsPrefix s history) now front in
    front_trans both.book.seen m.books.seen history first last
