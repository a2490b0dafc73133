-- Slots whose gate is closed on the disk.
use Rattle.std.proofs.Common.{◌≡◌, ℕ, ◌+◌, ◌≤◌, lit≤, Bool, true, false, ◌||◌, nat_le, nat_lt, ◌&&◌, List, [], ◌∷◌, ◌++◌, length, get_or, Option, Some, None, Result, Ok, Err, refl, sym, ap, subst, ◌∙◌, arith, inl, inr}
use Rattle.std.specs.Prelude.{IfSome, option_map}
use Rattle.std.specs.List.{list_any}
use Rattle.std.specs.Int.{w64, to_be_bytes}
use Rattle.std.proofs.lemmas.Bool.Decides.{nat_tests}
use Rattle.std.proofs.lemmas.List.Folds.{list_any-append}
use Rattle.fw_outside.specs.declared.failed.Failed.{Failed}
use Rattle.fw_disk.specs.Medium.{Medium, IsImage, is_within, is_written, settled, written_at, synced_now}
use Rattle.fw_disk.specs.DiskView.{Tape, DiskView, IsTorn, IsToldTorn, Changes, Syncs, changed}
use Rattle.fw_disk.specs.Moments.{Since, IsToldSince, Through, Now, EachImage}
use Rattle.fw_disk.proofs.MomentLemmas.{since_here, since_onward, told_here, told_changed, through_then, through_weaker, through_now}
use Rattle.slot_bytes.specs.Files.{IsFreeFile}
use Rattle.slot_bytes.proofs.SlotLemmas.{reads_free}
use Rattle.spool_slots.specs.Images.{IsFreeImage}
use Rattle.spool_slots.specs.Media.{IsShut, IsVacant}
use Rattle.spool_slots.specs.Filled.{HasLaid}

first_byte : (bytes : List ℕ) → get_or bytes 0 1 ≡ 0 → get_or bytes 0 0 ≡ 0
first_byte [] e = refl
first_byte (b ∷ bytes) e = e

first_of_long : (bytes : List ℕ) → 2 ≤ length bytes → get_or bytes 0 0 ≡ 0 → get_or bytes 0 1 ≡ 0
first_of_long [] long e = absurd (omega arith)
first_of_long (b ∷ bytes) long e = e

-- an image of it has a closed gate
pub shut_gate : (m : Medium) (image : List ℕ) → IsShut m → IsImage m image → IsFreeFile image
shut_gate m image shut is =
    let long : 2 ≤ length image = omega (arith, shut.long, is.no_shorter) in
    let kept : get_or image 0 0 ≡ get_or m.synced 0 0 = is.kept 0 (omega (arith, shut.long)) shut.unwritten in
    record { long = long; gate = first_of_long image long (kept ∙ first_byte m.synced shut.gate) }

-- whatever a crash leaves of it is free
pub shut_free : (m : Medium) → IsShut m → EachImage IsFreeImage m
shut_free m shut image is = reads_free image (shut_gate m image shut is)

told_weaker_now : (P Q : Medium → Type 0) → ((m : Medium) → P m → Q m) → (told : Option Tape) → IfSome told (λ tape. P tape.now) → IfSome told (λ tape. Q tape.now)
told_weaker_now P Q to None h = tt
told_weaker_now P Q to (Some tape) h = to tape.now h

pub now_weaker : (P Q : Medium → Type 0) → ((m : Medium) → P m → Q m) → (view : DiskView) → Now P view → Now Q view
now_weaker P Q to view h = told_weaker_now P Q to view.told h

pub shut_free_now : (view : DiskView) → Now IsShut view → Now (EachImage IsFreeImage) view
shut_free_now view h = now_weaker IsShut (EachImage IsFreeImage) shut_free view h

pub vacant_shut : (view : DiskView) → Now IsVacant view → Now IsShut view
vacant_shut view h = now_weaker IsVacant IsShut (λ m v. v.shut) view h

pub vacant_free : (view : DiskView) → Now IsVacant view → Now (EachImage IsFreeImage) view
vacant_free view h = shut_free_now view (vacant_shut view h)

pub through_free : (old new : DiskView) → Through IsShut old new → Through (EachImage IsFreeImage) old new
through_free old new s = through_weaker IsShut (EachImage IsFreeImage) shut_free old new s

settled_vacant : (m : Medium) → m ≡ settled (0 ∷ 0 ∷ []) → IsVacant m
settled_vacant m is = subst IsVacant (sym is) (record { shut = record { long = lit≤ tt; unwritten = refl; gate = refl }; long = lit≤ tt })

pub told_vacant : (told : Option Tape) → IfSome told (λ tape. tape.now ≡ settled (0 ∷ 0 ∷ [])) → IfSome told (λ tape. IsVacant tape.now)
told_vacant None is = tt
told_vacant (Some tape) is = settled_vacant tape.now is

-- ---- writes behind the gate

any_of_two : (a b : Bool) → a ≡ false → b ≡ false → (a || b) ≡ false
any_of_two true b e f = absurd cc
any_of_two false b e f = f

not_first : (at n : ℕ) → 1 ≤ at → is_within 0 (at, n) ≡ false
not_first at n le = grind (arith, nat_tests)

pub shut_written : (m : Medium) (at : ℕ) (bytes seen : List ℕ) → 1 ≤ at → IsShut m → IsShut (record (written_at at bytes m) { seen = seen })
shut_written m at bytes seen le shut =
    let last : list_any (is_within 0) ((at, length bytes) ∷ []) ≡ false = any_of_two (is_within 0 (at, length bytes)) false (not_first at (length bytes) le) refl in
    record {
      long = shut.long;
      unwritten = list_any-append (is_within 0) m.written ((at, length bytes) ∷ []) ∙ any_of_two (list_any (is_within 0) m.written) (list_any (is_within 0) ((at, length bytes) ∷ [])) shut.unwritten last;
      gate = shut.gate;
    }

-- a change, done or torn, that keeps a property whatever is read
torn_keeps : (P : Medium → Type 0) (change : Medium → Medium) → ((m : Medium) (seen : List ℕ) → P m → P (record (change m) { seen = seen })) → (old new : Tape) → P old.now → IsTorn change old new → Since P old new
torn_keeps P change keeps old new h (inl e) = subst (λ (t : Tape). Since P old t) (sym e) (since_here P old h)
torn_keeps P change keeps old new h (inr p) = subst (λ (t : Tape). Since P old t) (sym p.1.is) (since_onward P (record (change old.now) { seen = p.0 }) old h (keeps old.now p.0 h))

told_keeps : (P : Medium → Type 0) (change : Medium → Medium) → ((m : Medium) (seen : List ℕ) → P m → P (record (change m) { seen = seen })) → (old new : Option Tape) → IfSome old (λ tape. P tape.now) → IsToldTorn change old new → IsToldSince P old new
told_keeps P change keeps None None h t = tt
told_keeps P change keeps None (Some new) h t = absurd t
told_keeps P change keeps (Some old) None h t = absurd t
told_keeps P change keeps (Some old) (Some new) h t = torn_keeps P change keeps old new h t

told_after : (P : Medium → Type 0) (change : Medium → Medium) → ((m : Medium) (seen : List ℕ) → P m → P (record (change m) { seen = seen })) → (told : Option Tape) → IfSome told (λ tape. P tape.now) → IfSome told (λ tape. P (change tape.now))
told_after P change keeps None h = tt
told_after P change keeps (Some tape) h = keeps tape.now (change tape.now).seen h

pub through_keeps : (P : Medium → Type 0) (change : Medium → Medium) → ((m : Medium) (seen : List ℕ) → P m → P (record (change m) { seen = seen }))
    → (result : Result (Unit {0}) Failed) (old new : DiskView) → Changes result change old new → Now P old → Through P old new
through_keeps P change keeps (Ok u) old new e h = subst (λ (v : DiskView). Through P old v) (sym e) (told_changed P change old.told h (told_after P change keeps old.told h))
through_keeps P change keeps (Err u) old new t h = subst (λ (v : DiskView). Through P old v) (sym t.is) (told_keeps P change keeps old.told t.told h t.torn)

pub through_fill : (result : Result (Unit {0}) Failed) (at : ℕ) (bytes : List ℕ) (old new : DiskView) → Changes result (written_at at bytes) old new → 1 ≤ at → Now IsShut old → Through IsShut old new
through_fill result at bytes old new c le h = through_keeps IsShut (written_at at bytes) (λ m seen s. shut_written m at bytes seen le s) result old new c h

-- ---- syncs

pub shut_synced : (m : Medium) → IsShut m → IsImage m m.seen → IsShut (synced_now m)
shut_synced m shut sound =
    let free : IsFreeFile m.seen = shut_gate m m.seen shut sound in
    record { long = free.long; unwritten = refl; gate = free.gate }

told_shut_synced : (told : Option Tape) → IfSome told (λ tape. IsImage tape.now tape.now.seen) → IfSome told (λ tape. IsShut tape.now) → IfSome told (λ tape. IsShut (synced_now tape.now))
told_shut_synced None sound h = tt
told_shut_synced (Some tape) sound h = shut_synced tape.now h sound

pub through_sync : (result : Result (Unit {0}) Failed) (old new : DiskView) → Syncs result old new → Now IsShut old → Through IsShut old new
through_sync (Ok u) old new s h = subst (λ (v : DiskView). Through IsShut old v) (sym s.is) (told_changed IsShut synced_now old.told h (told_shut_synced old.told s.sound h))
through_sync (Err u) old new f h = subst (λ (v : DiskView). Through IsShut old v) (sym f.is) (told_here IsShut old.told h)

pub through_fill_and_sync : (result : Result (Unit {0}) Failed) (a b c : DiskView) → Through IsShut a b → Syncs result b c → Through IsShut a c
through_fill_and_sync result a b c s t = through_then IsShut a b c s (through_sync result b c t (through_now IsShut a b s))

pub has_laid : (len : ℕ) (a b c : DiskView) → b ≡ record a { told = option_map (changed (written_at 6 (to_be_bytes w64 len))) a.told } → Syncs (Ok tt) b c → HasLaid len a c
has_laid len a b c w s = record { middle = b; wrote = w; syncs = s }
