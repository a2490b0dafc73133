-- A message whose head was read, and its body.
use Rattle.std.proofs.Common.{◌≡◌, ℕ, ◌+◌, ◌-◌, ◌<◌, ◌≤◌, ◌^◌, min, Bool, true, false, cond, nat_eq, nat_lt, List, [], ◌∷◌, ◌++◌, length, take, drop, Option, Some, None, Result, Ok, Err, refl, sym, ap, subst, ◌∙◌, length-drop, arith}
use Rattle.std.specs.Prelude.{IfSome}
use Rattle.std.proofs.lemmas.Bool.Decides.{nat_tests}
use Rattle.byte_reader.specs.Reading.{Read, ◌>>=◌, bytes_at}
use Rattle.fw_disk.specs.DiskView.{Tape, DiskView, IsFront, HasRead}
use Rattle.slot_bytes.specs.declared.head.Head as code
use Rattle.slot_bytes.specs.HeadView.{head_view}
use Rattle.slot_bytes.specs.Layout.{Mail}
use Rattle.slot_bytes.specs.Reading.{Head, Reading, reads, head_at, whole_at, kept_or_bad, mail_of}
use Rattle.slot_bytes.specs.Reading.Reading.{Free, Whole, Aside, Bad}
use Rattle.spool_slots.specs.declared.opening.Found.{Found}
use Rattle.spool_slots.specs.declared.opening.Found.TheVariants as found
use Rattle.spool_slots.specs.declared.slot_why.SlotWhy.{SlotWhy}
use Rattle.spool_slots.specs.Found.{CountsIn, IsFoundIn, found_of}
use Rattle.spool_slots.specs.Looks.{IsHeadOf, EndsAt}

abbrev Kept : Type 0
Kept = Head × List ℕ

body_behind : (head : Head) → List ℕ → Read Kept
body_behind head rest = bytes_at head.len rest >>= λ body. Ok ((head, body.0), body.1)

whole_behind : (bytes : List ℕ) (head : Head) (rest : List ℕ) → head_at bytes ≡ Ok (head, rest) → whole_at bytes ≡ (bytes_at head.len rest >>= λ body. Ok ((head, body.0), body.1))
unfolding whole_at
whole_behind bytes head rest e = ap (λ (r : Read Head). r >>= λ h. (bytes_at h.0.len h.1 >>= λ body. Ok ((h.0, body.0), body.1))) e

taken_if : (b : Bool) (n : ℕ) (l : List ℕ) → b ≡ false → (let r : Read (List ℕ) = cond b (Err 0) (Ok (take n l, drop n l)) in r ≡ Ok (take n l, drop n l))
taken_if true n l e = absurd cc
taken_if false n l e = refl

refused_if : (b : Bool) (n : ℕ) (l : List ℕ) → b ≡ true → (let r : Read (List ℕ) = cond b (Err 0) (Ok (take n l, drop n l)) in r ≡ Err 0)
refused_if true n l e = refl
refused_if false n l e = absurd cc

enough : (n : ℕ) (l : List ℕ) → n ≤ length l → bytes_at n l ≡ Ok (take n l, drop n l)
enough n l le = taken_if (nat_lt (length l) n) n l (grind (arith, nat_tests))

short : (n : ℕ) (l : List ℕ) → length l < n → bytes_at n l ≡ Err 0
short n l lt = refused_if (nat_lt (length l) n) n l (grind (arith, nat_tests))

-- the message of a head, with the body that stands at a place
abbrev pub message_at : code.Head → ℕ → List ℕ → Mail
message_at head place bytes = record { from = head.from; rcpts = head.rcpts; body = take head.len (drop place bytes) }

pub reads_kept : (head : code.Head) (place : ℕ) (bytes : List ℕ) → IsHeadOf head place bytes → place + head.len ≤ length bytes
    → reads bytes ≡ cond (nat_eq head.aside 0) (Whole (message_at head place bytes)) (Aside (message_at head place bytes))
reads_kept head place bytes h le =
    let l : List ℕ = drop place bytes in
    let e : bytes_at head.len l ≡ Ok (take head.len l, drop head.len l) = enough head.len l (omega (arith, le, length-drop place bytes)) in
    h.is_open
    ∙ ap (kept_or_bad (length bytes)) (whole_behind bytes (head_view head) l h.read)
    ∙ ap (λ (r : Read (List ℕ)). kept_or_bad (length bytes) (r >>= λ body. Ok ((head_view head, body.0), body.1))) e

pub reads_cut : (head : code.Head) (place : ℕ) (bytes : List ℕ) → IsHeadOf head place bytes → length bytes < place + head.len → reads bytes ≡ Bad (length bytes)
reads_cut head place bytes h lt =
    let l : List ℕ = drop place bytes in
    let e : bytes_at head.len l ≡ Err 0 = short head.len l (omega (arith, lt, h.within, length-drop place bytes)) in
    let none : length bytes - 0 ≡ length bytes = omega arith in
    h.is_open
    ∙ ap (kept_or_bad (length bytes)) (whole_behind bytes (head_view head) l h.read)
    ∙ ap (λ (r : Read (List ℕ)). kept_or_bad (length bytes) (r >>= λ body. Ok ((head_view head, body.0), body.1))) e
    ∙ ap Bad none

cond_true : (b : Bool) (x y : Reading) → b ≡ true → cond b x y ≡ x
cond_true true x y e = refl
cond_true false x y e = absurd cc

cond_false : (b : Bool) (x y : Reading) → b ≡ false → cond b x y ≡ y
cond_false true x y e = absurd cc
cond_false false x y e = refl

-- ---- where it is told

pub kept_within : (head : code.Head) (place : ℕ) (told : Option Tape) → IfSome told (λ tape. IsHeadOf head place tape.now.seen) → IfSome told (λ tape. place ≤ length tape.now.seen)
kept_within head place None h = tt
kept_within head place (Some tape) h = h.within

full_if : (b : Bool) (m : Mail) → IsFoundIn (cond b (Ok found.Full) (Ok found.Aside)) (cond b (Whole m) (Aside m))
full_if true m = (m, refl)
full_if false m = (m, refl)

found_at : (head : code.Head) (place : ℕ) (end : Option ℕ) (bytes : List ℕ) → IsHeadOf head place bytes → EndsAt end (place + head.len) (length bytes) → IsFoundIn (found_of head.aside end) (reads bytes)
found_at head place None bytes h k =
    subst (λ (r : Reading). IsFoundIn (found_of head.aside None) r) (sym (reads_kept head place bytes h k)) (full_if (nat_eq head.aside 0) (message_at head place bytes))
found_at head place (Some end) bytes h k = reads_cut head place bytes h k.1 ∙ ap Bad (sym k.0)

told_found : (head : code.Head) (place : ℕ) (end : Option ℕ) (told : Option Tape) → IfSome told (λ tape. IsHeadOf head place tape.now.seen) → IfSome told (λ tape. EndsAt end (place + head.len) (length tape.now.seen))
    → IfSome told (λ tape. IsFoundIn (found_of head.aside end) (reads tape.now.seen))
told_found head place end None h k = tt
told_found head place end (Some tape) h k = found_at head place end tape.now.seen h k

pub found_kept : (head : code.Head) (place : ℕ) (end : Option ℕ) (r : Result Found SlotWhy) (told : Option Tape) → r ≡ found_of head.aside end → IfSome told (λ tape. IsHeadOf head place tape.now.seen) → IfSome told (λ tape. EndsAt end (place + head.len) (length tape.now.seen))
    → IfSome told (λ tape. IsFoundIn r (reads tape.now.seen))
found_kept head place end r told e h k = subst (λ (x : Result Found SlotWhy). IfSome told (λ tape. IsFoundIn x (reads tape.now.seen))) (sym e) (told_found head place end told h k)

counts_if : (b : Bool) (old new : DiskView) → new.faults ≡ old.faults → CountsIn (cond b (Ok found.Full) (Ok found.Aside)) old new
counts_if true old new e = e
counts_if false old new e = e

counts_of : (aside : ℕ) (end : Option ℕ) (old new : DiskView) → new.faults ≡ old.faults → CountsIn (found_of aside end) old new
counts_of aside None old new e = counts_if (nat_eq aside 0) old new e
counts_of aside (Some end) old new e = e

pub counts_found : (aside : ℕ) (end : Option ℕ) (r : Result Found SlotWhy) (old new : DiskView) → r ≡ found_of aside end → new.faults ≡ old.faults → CountsIn r old new
counts_found aside end r old new e f = subst (λ (x : Result Found SlotWhy). CountsIn x old new) (sym e) (counts_of aside end old new f)

-- ---- where a file ends

told_there : (n at : ℕ) (byte : List ℕ) (told : Option Tape) → IfSome told (λ tape. IsFront n at 1 byte tape.now.seen) → IfSome told (λ tape. nat_eq n 1 ≡ nat_lt at (length tape.now.seen))
told_there n at byte None r = tt
told_there n at byte (Some tape) r = let count = r.count in grind (arith, nat_tests)

pub stands_there : (n at room : ℕ) (byte : List ℕ) (old new : DiskView) → HasRead n at room byte old new → room ≡ 1 → IfSome old.told (λ tape. nat_eq n 1 ≡ nat_lt at (length tape.now.seen))
stands_there n at room byte old new r e = told_there n at byte old.told (subst (λ (x : ℕ). IfSome old.told (λ tape. IsFront n at x byte tape.now.seen)) e r.told)

told_further : (n at : ℕ) (block : List ℕ) (told : Option Tape) → IfSome told (λ tape. IsFront n at 4096 block tape.now.seen) → IfSome told (λ tape. at ≤ length tape.now.seen) → IfSome told (λ tape. at + n ≤ length tape.now.seen)
told_further n at block None r h = tt
told_further n at block (Some tape) r h = omega (arith, r.count, h)

told_end : (n at : ℕ) (block : List ℕ) (told : Option Tape) → n < 4096 → IfSome told (λ tape. IsFront n at 4096 block tape.now.seen) → IfSome told (λ tape. at ≤ length tape.now.seen) → IfSome told (λ tape. at + n ≡ length tape.now.seen)
told_end n at block None lt r h = tt
told_end n at block (Some tape) lt r h = omega (arith, r.count, h, lt)

pub goes_further : (n at room : ℕ) (block : List ℕ) (told : Option Tape) (old new : DiskView) → HasRead n at room block old new → old.told ≡ told → room ≡ 4096
    → IfSome told (λ tape. at ≤ length tape.now.seen) → IfSome told (λ tape. at + n ≤ length tape.now.seen)
goes_further n at room block told old new r e f h =
    let read : IfSome old.told (λ tape. IsFront n at 4096 block tape.now.seen) = subst (λ (x : ℕ). IfSome old.told (λ tape. IsFront n at x block tape.now.seen)) f r.told in
    told_further n at block told (subst (λ (t : Option Tape). IfSome t (λ tape. IsFront n at 4096 block tape.now.seen)) e read) h

pub ends_there : (n at room : ℕ) (block : List ℕ) (told : Option Tape) (old new : DiskView) → HasRead n at room block old new → old.told ≡ told → room ≡ 4096 → n < 4096
    → IfSome told (λ tape. at ≤ length tape.now.seen) → IfSome told (λ tape. at + n ≡ length tape.now.seen)
ends_there n at room block told old new r e f lt h =
    let read : IfSome old.told (λ tape. IsFront n at 4096 block tape.now.seen) = subst (λ (x : ℕ). IfSome old.told (λ tape. IsFront n at x block tape.now.seen)) f r.told in
    told_end n at block told lt (subst (λ (t : Option Tape). IfSome t (λ tape. IsFront n at 4096 block tape.now.seen)) e read) h

-- a file that is too short, and goes on, isn't told
pub goes_past : (at wanted : ℕ) (told : Option Tape) → IfSome told (λ tape. at ≤ length tape.now.seen) → IfSome told (λ tape. length tape.now.seen < wanted) → wanted ≤ at → told ≡ None
goes_past at wanted None h k le = refl
goes_past at wanted (Some tape) h k le = absurd (omega (arith, h, k, le))

pub ends_not : (from wanted : ℕ) (told : Option Tape) → IfSome told (λ tape. from ≤ length tape.now.seen) → wanted ≤ from → IfSome told (λ tape. EndsAt None wanted (length tape.now.seen))
ends_not from wanted None h le = tt
ends_not from wanted (Some tape) h le = omega (arith, h, le)

pub last_there : (from wanted : ℕ) (has : Bool) (told : Option Tape) → IfSome told (λ tape. has ≡ nat_lt (wanted - 1) (length tape.now.seen)) → has ≡ true → from < wanted → IfSome told (λ tape. EndsAt None wanted (length tape.now.seen))
last_there from wanted has None h e lt = tt
last_there from wanted has (Some tape) h e lt = let test : nat_lt (wanted - 1) (length tape.now.seen) ≡ true = sym h ∙ e in grind (arith, nat_tests)

pub last_missing : (from wanted : ℕ) (has : Bool) (told : Option Tape) → IfSome told (λ tape. has ≡ nat_lt (wanted - 1) (length tape.now.seen)) → has ≡ false → from < wanted → IfSome told (λ tape. length tape.now.seen < wanted)
last_missing from wanted has None h e lt = tt
last_missing from wanted has (Some tape) h e lt = let test : nat_lt (wanted - 1) (length tape.now.seen) ≡ false = sym h ∙ e in grind (arith, nat_tests)

pub ends_before : (end wanted : ℕ) (told : Option Tape) → IfSome told (λ tape. end ≡ length tape.now.seen) → IfSome told (λ tape. length tape.now.seen < wanted) → IfSome told (λ tape. EndsAt (Some end) wanted (length tape.now.seen))
ends_before end wanted None h k = tt
ends_before end wanted (Some tape) h k = (h, k)
