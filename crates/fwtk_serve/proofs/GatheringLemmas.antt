-- Workers that begin at their doors, and workers whose passes are met, one after the other.
use Rattle.std.proofs.Common.{arith, ◌≡◌, refl, sym, ap, subst, ◌∙◌, ℕ, ◌+◌, ◌-◌, ◌^◌, ◌<◌, ◌≤◌, min, cond, List, [], ◌∷◌, ◌++◌, length, map, Option, Some, None, append_assoc, append-nil}
use Rattle.std.proofs.lemmas.List.{length-map, map-append}
use Rattle.std.proofs.lemmas.List.Sums.{sum_by_push}
use Rattle.acceptors.specs.AcceptorView.{AcceptorView}
use Rattle.auth_machine.specs.Port.{BookOrigin}
use Rattle.spool_pool.specs.Known.{PassView, PoolView, met}
use Rattle.turn_lock.specs.Known.{IsPassOf, Lock, knowing}
use Rattle.fwtk_serve.specs.Meeting.{HasPasses, HavePasses, WorkerView, passes_of, starting, with_passes}
use Rattle.fwtk_serve.specs.Passes.{AreOf, IsApart, MeetAll, MetAll, Pass, less, met_each}
use Rattle.fwtk_serve.specs.Sessions.{Both, ServedView}
use Rattle.fwtk_serve.specs.Stepping.{GatheredView, with_worker, workers_short}
use Rattle.fwtk_serve.specs.Working.{at_first}
use Rattle.fwtk_serve.proofs.PassLemmas.{met_more, met_none}

-- a pass of a lock is what it knows
known_is : (lock : Lock BookOrigin) (pass : Pass) → IsPassOf lock pass → pass ≡ knowing lock pass.parts pass.seen pass.mine pass.met
known_is lock pass own = λ i. record { seen = pass.seen; mine = pass.mine; met = pass.met; parts = pass.parts; home = own.home i; limit = own.limit i; origin = own.origin i }

-- ---- workers that begin

-- two passes, by what each knows
pub both_are : (both : Both) (book : Pass) (mail : PassView) → both.book ≡ book → both.mail ≡ mail → both ≡ record { book = book; mail = mail }
both_are both book mail book_is mail_is = λ i. record { book = book_is i; mail = mail_is i }

less_none : (lock : Lock BookOrigin) (pool : PoolView) (both : Both) → AreOf lock pool both → both ≡ less lock 0 both
less_none lock pool both own =
    let parts : both.book.parts ≡ both.book.parts - 0 = omega arith in
    let shares : both.mail.handed.parts ≡ both.mail.handed.parts - 0 = omega arith in
    both_are both (less lock 0 both).book (less lock 0 both).mail
    (known_is lock both.book own.book ∙ ap (λ (n : ℕ). knowing lock n both.book.seen both.book.mine both.book.met) parts)
    (λ i. record (both.mail) { handed = record (both.mail.handed) { parts = shares i } })

less_more : (lock : Lock BookOrigin) (n : ℕ) (both : Both) → less lock 1 (less lock n both) ≡ less lock (n + 1) both
less_more lock n both =
    let parts : (both.book.parts - n) - 1 ≡ both.book.parts - (n + 1) = omega arith in
    let shares : (both.mail.handed.parts - n) - 1 ≡ both.mail.handed.parts - (n + 1) = omega arith in
    both_are (less lock 1 (less lock n both)) (less lock (n + 1) both).book (less lock (n + 1) both).mail
    (λ i. knowing lock (parts i) both.book.seen both.book.mine both.book.met)
    (λ i. record (both.mail) { handed = record (both.mail.handed) { parts = shares i } })

-- a worker that begins at a door, with passes that are split off from these
abbrev pub begun_at : {A : Type 0} → Lock BookOrigin → (A → AcceptorView) → Both → A → WorkerView
begun_at lock look both door = starting (look door) (at_first lock both.book.seen both.mail.handed.home both.mail.handed.began)

-- as many workers as doors
pub as_many : {A W V : Type 0} (view : W → V) (begun : A → V) (workers : List W) (all : List A) → map view workers ≡ map begun all → length workers ≡ length all
as_many {A} {W} {V} view begun workers all are = sym (length-map workers view) ∙ ap (λ (l : List V). length l) are ∙ length-map all begun

-- at each door but those that are left there is a worker; there is room for the others; and the passes are as they were, but that
-- they have a part less for each worker, and one for each door that is left and more
pub record IsBeginning {A W : Type 0} (lock : Lock BookOrigin) (pool : PoolView) (view : W → WorkerView) (look : A → AcceptorView) (all left : List A) (workers : List W) (first both : Both) (count left_count room : ℕ) : Type 0 where
  pub are : map view workers ++ map (begun_at lock look first) left ≡ map (begun_at lock look first) all
  pub same : both ≡ less lock count first
  pub own : AreOf lock pool both
  pub parts : left_count < both.book.parts
  pub shares : left_count < both.mail.handed.parts
  pub fits : count + left_count ≤ room
  pub sized : left_count ≡ length left

module _ {A W : Type 0} (lock : Lock BookOrigin) (pool : PoolView) (view : W → WorkerView) (look : A → AcceptorView) (all : List A) (first : Both) where
  pub begin_none : (left : List A) (workers : List W) (count left_count room : ℕ) → AreOf lock pool first → left ≡ all → workers ≡ [] → count ≡ 0 → left_count ≡ length left → left_count ≤ room
      → left_count < first.book.parts → left_count < first.mail.handed.parts → IsBeginning lock pool view look all left workers first first count left_count room
  begin_none left workers count left_count room own same none empty sized fits parts shares = record {
    are = ap (λ (ws : List W). map view ws ++ map (begun_at lock look first) left) none ∙ ap (λ (ds : List A). map (begun_at lock look first) ds) same;
    same = less_none lock pool first own ∙ ap (λ (n : ℕ). less lock n first) (sym empty);
    own = own;
    parts = parts;
    shares = shares;
    fits = omega (arith, empty, fits);
    sized = sized;
  }

  -- a worker that begins by the passes as they are now is as one by those at first
  begun_same : (mid : Both) (count : ℕ) (door : A) → mid ≡ less lock count first → begun_at lock look mid door ≡ begun_at lock look first door
  begun_same mid count door is = ap (λ (both : Both). begun_at lock look both door) is

  pub begin_more : (left rest : List A) (workers more : List W) (mid both : Both) (count left_count room count_more rest_count room_then : ℕ) (door : A) → IsBeginning lock pool view look all left workers first mid count left_count room
      → left ≡ door ∷ rest → map view more ≡ map view workers ++ begun_at lock look mid door ∷ [] → both ≡ less lock 1 mid → AreOf lock pool both → count_more ≡ count + 1 → rest_count + 1 ≡ left_count → room_then ≡ room
      → IsBeginning lock pool view look all rest more first both count_more rest_count room_then
  begin_more left rest workers more mid both count left_count room count_more rest_count room_then door h is grew kept own longer shorter roomy =
      let long : length left ≡ length (door ∷ rest) = ap (λ (l : List A). length l) is in
      let part : both.book.parts ≡ mid.book.parts - 1 = ap (λ (b : Both). b.book.parts) kept in
      let share : both.mail.handed.parts ≡ mid.mail.handed.parts - 1 = ap (λ (b : Both). b.mail.handed.parts) kept in
      let fits = h.fits in
      let sized = h.sized in
      let parts = h.parts in
      let shares = h.shares in
      record {
        are = ap (λ (l : List WorkerView). l ++ map (begun_at lock look first) rest) grew
            ∙ ap (λ (w : WorkerView). (map view workers ++ w ∷ []) ++ map (begun_at lock look first) rest) (begun_same mid count door h.same)
            ∙ append_assoc (map view workers) (begun_at lock look first door ∷ []) (map (begun_at lock look first) rest)
            ∙ ap (λ (l : List A). map view workers ++ map (begun_at lock look first) l) (sym is)
            ∙ h.are;
        same = kept ∙ ap (less lock 1) h.same ∙ less_more lock count first ∙ ap (λ (n : ℕ). less lock n first) (sym longer);
        own = own;
        parts = omega (arith, parts, part, shorter);
        shares = omega (arith, shares, share, shorter);
        fits = omega (arith, fits, longer, shorter, roomy);
        sized = omega (arith, sized, long, shorter);
      }

  no_more : (left : List A) → length left ≡ 0 → left ≡ []
  no_more [] is = refl
  no_more (d ∷ ds) is = absurd (omega (arith, is))

  pub begin_all : (left : List A) (workers : List W) (both : Both) (count left_count room : ℕ) → IsBeginning lock pool view look all left workers first both count left_count room → left_count ≡ 0
      → map view workers ≡ map (begun_at lock look first) all
  begin_all left workers both count left_count room h over =
      let none : left ≡ [] = no_more left (sym h.sized ∙ over) in
      sym (append-nil (map view workers)) ∙ ap (λ (l : List A). map view workers ++ map (begun_at lock look first) l) (sym none) ∙ h.are

  -- the passes have a part less for each
  pub left_all : (left : List A) (workers : List W) (both : Both) (count left_count room : ℕ) → IsBeginning lock pool view look all left workers first both count left_count room → left_count ≡ 0 → count ≡ length workers
      → both ≡ less lock (length all) first
  left_all left workers both count left_count room h over counted =
      h.same ∙ ap (λ (n : ℕ). less lock n first) (counted ∙ as_many view (begun_at lock look first) workers all (begin_all left workers both count left_count room h over))

-- ---- workers whose passes are met

with_more : (both : Option Both) (xs ys : List Both) → with_passes both (xs ++ ys) ≡ with_passes both xs ++ ys
with_more None xs ys = refl
with_more (Some both) xs ys = refl

passes_more : (done : List WorkerView) (one : WorkerView) → passes_of (done ++ one ∷ []) ≡ passes_of done ++ with_passes one.passes []
passes_more [] one = refl
passes_more (w ∷ ws) one = ap (λ (ps : List Both). with_passes w.passes ps) (passes_more ws one) ∙ with_more w.passes (passes_of ws) (with_passes one.passes [])

-- the passes of the pool, one after the other
met_each_both : (others more : List PassView) (pass : PassView) → met_each (others ++ more) pass ≡ met_each more (met_each others pass)
met_each_both [] more pass = refl
met_each_both (other ∷ others) more pass = met_each_both others more (met pass other)

-- of both kinds
meet_none : (lock : Lock BookOrigin) (pool : PoolView) (both : Both) → AreOf lock pool both → IsApart both.book → MeetAll lock [] both both
meet_none lock pool both own apart = record { books = met_none lock both.book (known_is lock both.book own.book) apart; mail = refl }

meet_more : (lock : Lock BookOrigin) (others more : List Both) (old mid new : Both) → MeetAll lock others old mid → MeetAll lock more mid new → MeetAll lock (others ++ more) old new
meet_more lock others more old mid new h k =
    let books = sym (map-append (λ (b : Both). b.book) others more) in
    let mails = sym (map-append (λ (b : Both). b.mail) others more) in
    record {
      books = subst (λ (ps : List Pass). MetAll lock ps old.book new.book) books
          (met_more lock (map (λ (b : Both). b.book) others) (map (λ (b : Both). b.book) more) old.book mid.book new.book h.books k.books);
      mail = k.mail
          ∙ ap (met_each (map (λ (b : Both). b.mail) more)) h.mail
          ∙ sym (met_each_both (map (λ (b : Both). b.mail) others) (map (λ (b : Both). b.mail) more) old.mail)
          ∙ ap (λ (ps : List PassView). met_each ps old.mail) mails;
    }

one_more : (total more n one : ℕ) → n ≡ min total (2 ^ 32 - 1) → more ≡ total + one → min (n + one) (2 ^ 32 - 1) ≡ min more (2 ^ 32 - 1)
one_more total more n one is sum = omega (arith, is, sum)

short_more : (workers : List WorkerView) (worker : WorkerView) (n : ℕ) → n ≡ workers_short workers → min (n + cond worker.short 1 0) (2 ^ 32 - 1) ≡ workers_short (workers ++ worker ∷ [])
short_more workers worker n is = one_more _ _ n (cond worker.short 1 0) is (sum_by_push (λ (w : WorkerView). cond w.short 1 0) workers worker)

-- the passes of all workers but those that are left are met, and what they did is gathered; the others have their passes, and there
-- is room for them
pub record IsGathering {W : Type 0} (lock : Lock BookOrigin) (pool : PoolView) (view : W → WorkerView) (all left : List W) (first both : Both) (gathered : GatheredView) (doors sessions left_count door_room session_room : ℕ) : Type 0 where
  pub done : List WorkerView
  pub are : done ++ map view left ≡ map view all
  pub met : MeetAll lock (passes_of done) first both
  pub own : AreOf lock pool both
  pub have : HavePasses lock pool (map view left)
  pub doors_are : gathered.doors ≡ map (λ w. w.door) done
  pub sessions_are : gathered.sessions ≡ map (λ w. w.sessions) done
  pub short_is : gathered.short ≡ workers_short done
  pub doors_fit : doors + left_count ≤ door_room
  pub sessions_fit : sessions + left_count ≤ session_room
  pub sized : left_count ≡ length left

module _ {W : Type 0} (lock : Lock BookOrigin) (pool : PoolView) (view : W → WorkerView) (all : List W) (first : Both) where
  pub gather_none : (left : List W) (gathered : GatheredView) (doors sessions left_count door_room session_room : ℕ) → AreOf lock pool first → IsApart first.book → HavePasses lock pool (map view all) → left ≡ all
      → gathered ≡ record { doors = []; sessions = []; short = 0 } → doors ≡ 0 → sessions ≡ 0 → left_count ≡ length left → left_count ≤ door_room → left_count ≤ session_room
      → IsGathering lock pool view all left first first gathered doors sessions left_count door_room session_room
  gather_none left gathered doors sessions left_count door_room session_room own apart have same none no_doors no_sessions sized door_fits session_fits = record {
    done = [];
    are = ap (λ (ws : List W). map view ws) same;
    met = meet_none lock pool first own apart;
    own = own;
    have = subst (λ (ws : List W). HavePasses lock pool (map view ws)) (sym same) have;
    doors_are = ap (λ (g : GatheredView). g.doors) none;
    sessions_are = ap (λ (g : GatheredView). g.sessions) none;
    short_is = ap (λ (g : GatheredView). g.short) none;
    doors_fit = omega (arith, no_doors, door_fits);
    sessions_fit = omega (arith, no_sessions, session_fits);
    sized = sized;
  }

  -- the next one has its passes
  pub next_has : (left rest : List W) (both : Both) (gathered : GatheredView) (doors sessions left_count door_room session_room : ℕ) (one : W) → IsGathering lock pool view all left first both gathered doors sessions left_count door_room session_room
      → left ≡ one ∷ rest → HasPasses (AreOf lock pool) (view one).passes
  next_has left rest both gathered doors sessions left_count door_room session_room one h is = (subst (λ (ws : List W). HavePasses lock pool (map view ws)) is h.have).0

  pub gather_more : (left rest : List W) (mid both : Both) (old new : GatheredView) (doors sessions left_count door_room session_room doors_more sessions_more rest_count door_room_then session_room_then : ℕ) (one : W)
      → IsGathering lock pool view all left first mid old doors sessions left_count door_room session_room → left ≡ one ∷ rest → MeetAll lock (with_passes (view one).passes []) mid both → AreOf lock pool both → new ≡ with_worker old (view one)
      → doors_more ≡ doors + 1 → sessions_more ≡ sessions + 1 → rest_count + 1 ≡ left_count → door_room_then ≡ door_room → session_room_then ≡ session_room
      → IsGathering lock pool view all rest first both new doors_more sessions_more rest_count door_room_then session_room_then
  gather_more left rest mid both old new doors sessions left_count door_room session_room doors_more sessions_more rest_count door_room_then session_room_then one h is met own noted more_doors more_sessions shorter door_roomy session_roomy =
      let long : length left ≡ length (one ∷ rest) = ap (λ (l : List W). length l) is in
      let door_fits = h.doors_fit in
      let session_fits = h.sessions_fit in
      let sized = h.sized in
      let view_one : WorkerView = view one in
      record {
        done = h.done ++ view one ∷ [];
        are = append_assoc h.done (view one ∷ []) (map view rest) ∙ ap (λ (l : List W). h.done ++ map view l) (sym is) ∙ h.are;
        met = subst (λ (ps : List Both). MeetAll lock ps first both) (sym (passes_more h.done (view one))) (meet_more lock (passes_of h.done) (with_passes view_one.passes []) first mid both h.met met);
        own = own;
        have = (subst (λ (ws : List W). HavePasses lock pool (map view ws)) is h.have).1;
        doors_are = ap (λ (g : GatheredView). g.doors) noted
            ∙ ap (λ (l : List AcceptorView). l ++ view_one.door ∷ []) h.doors_are
            ∙ sym (map-append (λ (w : WorkerView). w.door) h.done (view one ∷ []));
        sessions_are = ap (λ (g : GatheredView). g.sessions) noted
            ∙ ap (λ (l : List (List ServedView)). l ++ view_one.sessions ∷ []) h.sessions_are
            ∙ sym (map-append (λ (w : WorkerView). w.sessions) h.done (view one ∷ []));
        short_is = ap (λ (g : GatheredView). g.short) noted ∙ short_more h.done view_one old.short h.short_is;
        doors_fit = omega (arith, door_fits, more_doors, shorter, door_roomy);
        sessions_fit = omega (arith, session_fits, more_sessions, shorter, session_roomy);
        sized = omega (arith, sized, long, shorter);
      }

  none_left : (left : List W) → length left ≡ 0 → left ≡ []
  none_left [] is = refl
  none_left (w ∷ ws) is = absurd (omega (arith, is))

  -- all are gathered
  pub gather_all : (left : List W) (both : Both) (gathered : GatheredView) (doors sessions left_count door_room session_room : ℕ) → (h : IsGathering lock pool view all left first both gathered doors sessions left_count door_room session_room) → left_count ≡ 0
      → h.done ≡ map view all
  gather_all left both gathered doors sessions left_count door_room session_room h over =
      let none : left ≡ [] = none_left left (sym h.sized ∙ over) in
      sym (append-nil h.done) ∙ ap (λ (l : List W). h.done ++ map view l) (sym none) ∙ h.are
