-- A disk that is cut to nothing and given two zeros.
use Rattle.std.proofs.Common.{◌≡◌, ℕ, ◌≤◌, [], ◌∷◌, Option, Some, None, Result, Ok, Err, refl, sym, ap, subst, ◌∙◌, arith}
use Rattle.std.specs.Prelude.{IfSome, option_map}
use Rattle.fw_outside.specs.declared.failed.Failed.{Failed}
use Rattle.fw_disk.specs.Medium.{Medium, cut_at, written_at, synced_now, settled}
use Rattle.fw_disk.specs.DiskView.{Tape, DiskView, Changes, Syncs, Tears, changed, length_told, HasSynced}
use Rattle.fw_disk.proofs.MomentLemmas.{told_here, through_then}
use Rattle.spool_slots.specs.States.{HasCleared, StillTells}
use Rattle.spool_slots.proofs.ShutLemmas.{through_keeps}

told_start : (told : Option Tape) (faults : ℕ) → IfSome (length_told (record { told = told; faults = faults })) (λ len. 0 ≤ len)
told_start None faults = tt
told_start (Some tape) faults = omega arith

-- the first byte's place is within every file
pub from_the_start : (view : DiskView) → IfSome (length_told view) (λ len. 0 ≤ len)
from_the_start view = told_start view.told view.faults

two_zeros : (told : Option Tape) → IfSome (option_map (changed synced_now) (option_map (changed (written_at 0 (0 ∷ 0 ∷ []))) (option_map (changed (cut_at 0)) told))) (λ tape. tape.now ≡ settled (0 ∷ 0 ∷ []))
two_zeros None = tt
two_zeros (Some tape) = refl

pub has_cleared : (a b c d : DiskView) → b ≡ record a { told = option_map (changed (cut_at 0)) a.told } → c ≡ record b { told = option_map (changed (written_at 0 (0 ∷ 0 ∷ []))) b.told } → HasSynced c d → HasCleared a d
has_cleared a b c d p q s =
    let is : d ≡ record a { told = option_map (changed synced_now) (option_map (changed (written_at 0 (0 ∷ 0 ∷ []))) (option_map (changed (cut_at 0)) a.told)) } =
    s.is
    ∙ ap (λ (v : DiskView). let w : DiskView = record v { told = option_map (changed synced_now) v.told } in w) q
    ∙ ap (λ (v : DiskView). let w : DiskView = record v { told = option_map (changed synced_now) (option_map (changed (written_at 0 (0 ∷ 0 ∷ []))) v.told) } in w) p in
    subst (HasCleared a) (sym is) (record { faults = refl; bytes = two_zeros a.told })

-- ---- the disk still tells

told_any : (told : Option Tape) → IfSome told (λ tape. Unit {0})
told_any None = tt
told_any (Some tape) = tt

changed_tells : (result : Result (Unit {0}) Failed) (change : Medium → Medium) (a b : DiskView) → Changes result change a b → StillTells a b
changed_tells result change a b c = through_keeps (λ m. Unit {0}) change (λ m seen h. tt) result a b c (told_any a.told)

synced_tells : (result : Result (Unit {0}) Failed) (a b : DiskView) → Syncs result a b → StillTells a b
synced_tells (Ok u) a b s = changed_tells (Ok tt) synced_now a b s.is
synced_tells (Err u) a b f = subst (λ (v : DiskView). StillTells a v) (sym f.is) (told_here (λ m. Unit {0}) a.told (told_any a.told))

tells_then : (a b c : DiskView) → StillTells a b → StillTells b c → StillTells a c
tells_then a b c s t = through_then (λ m. Unit {0}) a b c s t

pub cut_tells : (a b : DiskView) → Tears (cut_at 0) a b → StillTells a b
cut_tells a b t = changed_tells (Err (record {})) (cut_at 0) a b t

pub write_tells : (a b c : DiskView) → b ≡ record a { told = option_map (changed (cut_at 0)) a.told } → Tears (written_at 0 (0 ∷ 0 ∷ [])) b c → StillTells a c
write_tells a b c p t = tells_then a b c (changed_tells (Ok tt) (cut_at 0) a b p) (changed_tells (Err (record {})) (written_at 0 (0 ∷ 0 ∷ [])) b c t)

pub clear_tells : (result : Result (Unit {0}) Failed) (a b c d : DiskView) → b ≡ record a { told = option_map (changed (cut_at 0)) a.told } → c ≡ record b { told = option_map (changed (written_at 0 (0 ∷ 0 ∷ []))) b.told }
    → Syncs result c d → StillTells a d
clear_tells result a b c d p q s =
    tells_then a b d (changed_tells (Ok tt) (cut_at 0) a b p) (tells_then b c d (changed_tells (Ok tt) (written_at 0 (0 ∷ 0 ∷ [])) b c q) (synced_tells result c d s))
