-- What keeping and dropping does to a table of names with their bytes.
use Rattle.std.proofs.Common.{◌≡◌, ℕ, subst, sym, Bool, true, false, cond, List, [], ◌∷◌, ◌++◌, Option, Some, None, is_some, option_map, refl, ap, ◌∙◌}
use Rattle.std.specs.List.{slice_set}
use Rattle.std.specs.Str.{bytes_eq}
use Rattle.fw_outside.specs.Counts.{Grew, Rose, counted}
use Rattle.fw_outside.specs.FilesView.{bytes_under}
use Rattle.fw_memory.specs.MemKeeperView.{MemKeeperView, called, keeper_view_of, put}
use Rattle.fw_types.specs.Keyed.{IsPlaceOf, replaced, under, without}
use Rattle.fw_types.proofs.KeyedLemmas.{set_is_replaced, under_added, under_replaced, under_without}
use Rattle.fw_outside.specs.KeeperView.{NamedBytes, IsCalled, IsSetTo, KeeperFailed, Refuses, entry_name}
use Rattle.fw_outside.specs.declared.keep_fault.KeepFault.{KeepFault}
use Rattle.fw_outside.specs.declared.keep_fault.KeepFault.TheVariants.{Failed}

-- one more call was made, and there was no memory
pub lacked : (old counts new : MemKeeperView) → counts ≡ called old → Grew 1 old.calls counts.calls → new ≡ counts → IsCalled (keeper_view_of old) (keeper_view_of new)
lacked old counts new is grew same = record { calls = counts.calls; called = grew; is = rw same (rw is refl) }

-- one more call was made, and failed
pub failed : (fault : KeepFault) (old counts new : MemKeeperView) → fault ≡ Failed → counts ≡ called old → Grew 1 old.calls counts.calls → Rose counts.faults new.faults
    → new ≡ record counts { faults = counted counts.faults } → Refuses fault (keeper_view_of old) (keeper_view_of new)
failed fault old counts new answer is grew rose same =
    let fails : KeeperFailed (keeper_view_of old) (keeper_view_of new) = record {
      count = new.faults;
      rose = subst (λ (w : MemKeeperView). Rose w.faults new.faults) is rose;
      calls = counts.calls;
      called = grew;
      is = rw same (rw is refl);
    } in
    subst (λ (f : KeepFault). Refuses f (keeper_view_of old) (keeper_view_of new)) (sym answer) fails

pub put_found : (name bytes : List ℕ) (table : NamedBytes) (at : ℕ) → IsPlaceOf entry_name name table (Some at) → slice_set table at (name, bytes) ≡ put name bytes table
put_found name bytes table at place = rw (place.1, place.0) (set_is_replaced entry_name (name, bytes) table)

pub put_missing : (name bytes : List ℕ) (table : NamedBytes) → IsPlaceOf entry_name name table None → table ++ (name, bytes) ∷ [] ≡ put name bytes table
put_missing name bytes table none = rw none refl

bytes_of : (u : Bool) (value found : Option (List ℕ × List ℕ)) → option_map (λ e. e.1) (cond u value found) ≡ cond u (option_map (λ e. e.1) value) (option_map (λ e. e.1) found)
bytes_of true value found = refl
bytes_of false value found = refl

put_at : (b : Bool) (name bytes : List ℕ) (table : NamedBytes) (k : List ℕ) → is_some (under entry_name name table) ≡ b
    → bytes_under (cond b (replaced entry_name (name, bytes) table) (table ++ (name, bytes) ∷ [])) k ≡ cond (bytes_eq k name) (Some bytes) (bytes_under table k)
put_at true name bytes table k there =
    ap (option_map (λ e. e.1)) (under_replaced entry_name (name, bytes) table k there) ∙ bytes_of (bytes_eq k name) (Some (name, bytes)) (under entry_name k table)
put_at false name bytes table k none =
    ap (option_map (λ e. e.1)) (under_added entry_name (name, bytes) table k none) ∙ bytes_of (bytes_eq k name) (Some (name, bytes)) (under entry_name k table)

pub put_sets : (name bytes : List ℕ) (table : NamedBytes) → IsSetTo name (Some bytes) table (put name bytes table)
put_sets name bytes table = λ k. put_at (is_some (under entry_name name table)) name bytes table k refl

pub drop_sets : (name : List ℕ) (table : NamedBytes) → IsSetTo name None table (without entry_name name table)
drop_sets name table = λ k. ap (option_map (λ e. e.1)) (under_without entry_name name table k) ∙ bytes_of (bytes_eq k name) None (under entry_name k table)
