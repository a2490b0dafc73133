-- What the keeper has after it was called.
use Rattle.std.proofs.Common.{arith, ◌≡◌, refl, sym, ap, subst, ◌∙◌, ℕ, ◌+◌, ◌-◌, ◌^◌, ◌≤◌, min, Bool, true, false, not, ◌&&◌, cond, List, [], ◌∷◌, Option, Some, None, option_map, is_some, IfSome, inl, inr}
use mathlib.Core.Bool.{true≢false}
use Rattle.std.specs.Str.{bytes_eq}
use Rattle.std.proofs.lemmas.Slice.Eq.{bytes_eq-Decides}
use Rattle.fw_outside.specs.FilesView.{bytes_under}
use Rattle.fw_outside.specs.Counts.{Grew, Rose}
use Rattle.fw_outside.specs.declared.keep_fault.KeepFault.{KeepFault}
use Rattle.fw_outside.specs.declared.keep_fault.KeepFault.TheVariants as faults
use Rattle.std.specs.Prelude.{Result, Ok, Err, OnErr}
use Rattle.fw_types.specs.Keyed.{without}
use Rattle.fw_types.proofs.KeyedLemmas.{under_placed, under_without}
use Rattle.fw_outside.specs.KeeperView.{Sets, Stores, IsSetTo, IsToldSet, KeeperFailed, NamedBytes, KeeperView}
use Rattle.auth_records.specs.Reading.{decoded}
use Rattle.auth_records.specs.Spelling.{Fields, spelling}
use Rattle.auth_machine.specs.History.{DecodesTo}
use Rattle.auth_machine.specs.Keeping.{Calls, IsCalledIf, KeepsChange, MayBeCalled, kept_by}
use Rattle.auth_machine.specs.State.{records_after, record_name, record_at}
use Rattle.auth_machine.specs.Step.{is_record_change, is_record}
use Rattle.auth_machine.specs.Stepping.{IsReadAgain, PutsReadable}
use Rattle.auth_machine.specs.declared.record_change.RecordChange.{RecordChange}
use Rattle.auth_machine.specs.declared.record_change.RecordChange.TheVariants.{Leave, Put, Delete}

-- a record that was read
abbrev read : Fields → Result Fields ℕ
read f = Ok f

pub clash : {A : Type 0} → false ≡ true → A
clash h = absurd (true≢false (sym h))

-- ---- what stands under a name after an edit

equal_name : (name : List ℕ) → bytes_eq name name ≡ true
equal_name name = (bytes_eq-Decides name name).1 refl

pub none_without : (name : List ℕ) (records : List Fields) → is_some (record_at name (without record_name name records)) ≡ false
none_without name records = ap is_some (under_without record_name name records name ∙ ap (λ (b : Bool). cond b None (record_at name records)) (equal_name name))

twice : (b : Bool) (x : Option Fields) (found : Option Fields) → cond b x (cond b None found) ≡ cond b x found
twice true x found = refl
twice false x found = refl

pub record_after_put : (f : Fields) (records : List Fields) (name : List ℕ) → record_at name (records_after (Put f) records) ≡ cond (bytes_eq name f.name) (Some f) (record_at name records)
record_after_put f records name =
    under_placed record_name f (without record_name f.name records) name (none_without f.name records)
    ∙ ap (λ (found : Option Fields). cond (bytes_eq name f.name) (Some f) found) (under_without record_name f.name records name)
    ∙ twice (bytes_eq name f.name) (Some f) (record_at name records)

-- where a record stands already, putting it changes nothing
put_again : (f : Fields) (records : List Fields) (name : List ℕ) (b : Bool) → bytes_eq name f.name ≡ b → record_at f.name records ≡ Some f
    → record_at name records ≡ cond b (Some f) (record_at name records)
put_again f records name false other stands = refl
put_again f records name true is stands = ap (λ (n : List ℕ). record_at n records) ((bytes_eq-Decides name f.name).0 is) ∙ stands

-- ---- the keeper's table

bytes_of : (b : Bool) (x found : Option (List ℕ)) → option_map decoded (cond b x found) ≡ cond b (option_map decoded x) (option_map decoded found)
bytes_of true x found = refl
bytes_of false x found = refl

fields_of : (b : Bool) (x found : Option Fields) → cond b (option_map read x) (option_map read found) ≡ option_map read (cond b x found)
fields_of true x found = refl
fields_of false x found = refl

-- a table in which bytes were set has the records that were edited so
set_table : (name : List ℕ) (value : Option (List ℕ)) (f : Option Fields) (old new : NamedBytes) (records edits : List Fields) → IsSetTo name value old new
    → option_map decoded value ≡ option_map read f → ((k : List ℕ) → record_at k edits ≡ cond (bytes_eq k name) f (record_at k records))
    → DecodesTo records old → DecodesTo edits new
set_table name value f old new records edits is_set decodes after_edit has k =
    ap (option_map decoded) (is_set k)
    ∙ bytes_of (bytes_eq k name) value (bytes_under old k)
    ∙ ap (λ (z : Option (Result Fields ℕ)). cond (bytes_eq k name) z (option_map decoded (bytes_under old k))) decodes
    ∙ ap (λ (z : Option (Result Fields ℕ)). cond (bytes_eq k name) (option_map read f) z) (has k)
    ∙ fields_of (bytes_eq k name) f (record_at k records)
    ∙ sym (ap (option_map read) (after_edit k))

told_set : (name : List ℕ) (value : Option (List ℕ)) (f : Option Fields) (old new : Option NamedBytes) (records edits : List Fields) → IsToldSet name value old new
    → option_map decoded value ≡ option_map read f → ((k : List ℕ) → record_at k edits ≡ cond (bytes_eq k name) f (record_at k records))
    → IfSome old (DecodesTo records) → IfSome new (DecodesTo edits)
told_set name value f None None records edits is_set decodes after_edit has = tt
told_set name value f None (Some new) records edits is_set decodes after_edit has = absurd is_set
told_set name value f (Some old) None records edits is_set decodes after_edit has = absurd is_set
told_set name value f (Some old) (Some new) records edits is_set decodes after_edit has = set_table name value f old new records edits is_set decodes after_edit has

kept_set : (name : List ℕ) (value : Option (List ℕ)) (f : Option Fields) (old new : KeeperView) (records edits : List Fields) → Stores name value old new
    → option_map decoded value ≡ option_map read f → ((k : List ℕ) → record_at k edits ≡ cond (bytes_eq k name) f (record_at k records))
    → IfSome old.table (DecodesTo records) → IfSome new.table (DecodesTo edits)
kept_set name value f old new records edits kept decodes after_edit has =
    subst (λ (keeper : KeeperView). IfSome keeper.table (DecodesTo edits)) (sym kept.is)
    (told_set name value f old.table kept.table records edits kept.told decodes after_edit has)

missed_same : (old new : KeeperView) (records : List Fields) → KeeperFailed old new → IfSome old.table (DecodesTo records) → IfSome new.table (DecodesTo records)
missed_same old new records missed has = subst (λ (keeper : KeeperView). IfSome keeper.table (DecodesTo records)) (sym missed.is) has

called : (edit : RecordChange) (kept : Bool) (old new : KeeperView) (records : List Fields) → PutsReadable edit records → Calls edit kept old new → IfSome old.table (DecodesTo records)
    → IfSome new.table (DecodesTo (cond (not kept) records (records_after edit records)))
called Leave kept old new records readable calls has = absurd calls
called (Put f) true old new records readable calls has =
    kept_set f.name (Some (spelling f)) (Some f) old new records (records_after (Put f) records) calls (ap (λ (r : Result Fields ℕ). Some r) readable.decodes) (record_after_put f records) has
called (Put f) false old new records readable calls has = missed_same old new records calls has
called (Delete name) true old new records readable calls has =
    kept_set name None None old new records (records_after (Delete name) records) calls refl (λ k. under_without record_name name records k) has
called (Delete name) false old new records readable calls has = missed_same old new records calls has

same_records : (old : Option NamedBytes) (records edits : List Fields) → ((k : List ℕ) → record_at k records ≡ record_at k edits) → IfSome old (DecodesTo records) → IfSome old (DecodesTo edits)
same_records None records edits alike has = tt
same_records (Some table) records edits alike has = λ k. has k ∙ ap (option_map read) (alike k)

flipped : (b : Bool) → not b ≡ false → b ≡ true
flipped true h = refl
flipped false h = clash (sym h)

-- nothing to be kept
idle : (edit : RecordChange) (old : Option NamedBytes) (records : List Fields) → is_record_change edit records ≡ false → PutsReadable edit records → IfSome old (DecodesTo records)
    → IfSome old (DecodesTo (records_after edit records))
idle Leave old records idle_is readable has = has
idle (Put f) old records idle_is readable has =
    same_records old records (records_after (Put f) records)
    (λ k. put_again f records k (bytes_eq k f.name) refl (readable.stands (flipped (is_record f (record_at f.name records)) idle_is)) ∙ sym (record_after_put f records k)) has
idle (Delete name) old records idle_is readable has = clash (sym idle_is)

keeps_table : (b : Bool) (edit : RecordChange) (kept : Bool) (old new : KeeperView) (records : List Fields) → is_record_change edit records ≡ b → PutsReadable edit records
    → KeepsChange b edit kept old new → IfSome old.table (DecodesTo records)
    → IfSome new.table (DecodesTo (cond (b && not kept) records (records_after edit records)))
keeps_table true edit kept old new records is readable keeps has = called edit kept old new records readable keeps has
keeps_table false edit kept old new records is readable keeps has =
    subst (λ (keeper : KeeperView). IfSome keeper.table (DecodesTo (records_after edit records))) (sym keeps.1) (idle edit old.table records is readable has)

-- the keeper has the records after a step, as it had those before it
pub table_after : (edit : RecordChange) (kept : Bool) (old new : KeeperView) (records : List Fields) → PutsReadable edit records
    → KeepsChange (is_record_change edit records) edit kept old new → IfSome old.table (DecodesTo records)
    → IfSome new.table (DecodesTo (cond (is_record_change edit records && not kept) records (records_after edit records)))
table_after edit kept old new records readable keeps has = keeps_table (is_record_change edit records) edit kept old new records refl readable keeps has

-- ---- the keeper's counts

stored_called : (name : List ℕ) (value : Option (List ℕ)) (old new : KeeperView) → Stores name value old new → Grew 1 old.calls new.calls
stored_called name value old new kept = subst (λ (keeper : KeeperView). Grew 1 old.calls keeper.calls) (sym kept.is) kept.called

missed_called : (old new : KeeperView) → KeeperFailed old new → Grew 1 old.calls new.calls
missed_called old new missed = subst (λ (keeper : KeeperView). Grew 1 old.calls keeper.calls) (sym missed.is) missed.called

calls_called : (edit : RecordChange) (kept : Bool) (old new : KeeperView) → Calls edit kept old new → Grew 1 old.calls new.calls
calls_called Leave kept old new calls = absurd calls
calls_called (Put f) true old new calls = stored_called f.name (Some (spelling f)) old new calls
calls_called (Put f) false old new calls = missed_called old new calls
calls_called (Delete name) true old new calls = stored_called name None old new calls
calls_called (Delete name) false old new calls = missed_called old new calls

-- the keeper was called exactly where the records are edited
pub called_if : (b : Bool) (edit : RecordChange) (kept : Bool) (old new : KeeperView) → KeepsChange b edit kept old new → IsCalledIf b old new
called_if true edit kept old new keeps = calls_called edit kept old new keeps
called_if false edit kept old new keeps = ap (λ (keeper : KeeperView). keeper.calls) keeps.1

same_calls : (old new : KeeperView) → new ≡ old → (old.calls ≤ new.calls) × (new.calls ≤ old.calls + 1)
same_calls old new same = let is : new.calls ≡ old.calls = ap (λ (keeper : KeeperView). keeper.calls) same in (omega (arith, is), omega (arith, is))

-- and so often
pub calls_grew : (b : Bool) (edit : RecordChange) (kept : Bool) (old new : KeeperView) → KeepsChange b edit kept old new → Grew (cond b 1 0) old.calls new.calls
calls_grew true edit kept old new keeps = calls_called edit kept old new keeps
calls_grew false edit kept old new keeps = let same : new.calls ≡ old.calls = ap (λ (keeper : KeeperView). keeper.calls) keeps.1 in record { least = omega (arith, same); most = omega (arith, same); later = omega (arith, same) }

-- a keeper that may have been called was called once at most
pub lacking_calls : (b : Bool) (old new : KeeperView) → MayBeCalled b old new → (old.calls ≤ new.calls) × (new.calls ≤ old.calls + 1)
lacking_calls true old new (inl same) = same_calls old new same
lacking_calls true old new (inr called) =
    let is : new.calls ≡ called.calls = ap (λ (keeper : KeeperView). keeper.calls) called.is in
    let later = called.called.later in
    let most = called.called.most in
    (omega (arith, is, later), omega (arith, is, most))
lacking_calls false old new same = same_calls old new same

-- a keeper that may have been called has the table and the failures that it had
pub lacking_table : (b : Bool) (old new : KeeperView) → MayBeCalled b old new → new.table ≡ old.table
lacking_table true old new (inl same) = ap (λ (keeper : KeeperView). keeper.table) same
lacking_table true old new (inr called) = ap (λ (keeper : KeeperView). keeper.table) called.is
lacking_table false old new same = ap (λ (keeper : KeeperView). keeper.table) same

pub lacking_faults : (b : Bool) (old new : KeeperView) → MayBeCalled b old new → new.faults ≡ old.faults
lacking_faults true old new (inl same) = ap (λ (keeper : KeeperView). keeper.faults) same
lacking_faults true old new (inr called) = ap (λ (keeper : KeeperView). keeper.faults) called.is
lacking_faults false old new same = ap (λ (keeper : KeeperView). keeper.faults) same

pub not_called : (b : Bool) (keeper : KeeperView) → MayBeCalled b keeper keeper
not_called true keeper = inl refl
not_called false keeper = refl

-- a call that was refused for want of memory
pub lacked : (b : Bool) (answer : Result (Unit {0}) KeepFault) (name : List ℕ) (value : Option (List ℕ)) (old new : KeeperView) → b ≡ true → Sets answer name value old new
    → OnErr (kept_by answer) (MayBeCalled b old new)
lacked b (Ok _) name value old new is sets = tt
lacked b (Err faults.Failed) name value old new is sets = tt
lacked b (Err faults.NoMemory) name value old new is sets = subst (λ (z : Bool). MayBeCalled z old new) (sym is) (inr sets)

missed_rose : (old new : KeeperView) → KeeperFailed old new → Rose old.faults new.faults
missed_rose old new missed = subst (λ (keeper : KeeperView). Rose old.faults keeper.faults) (sym missed.is) missed.rose

calls_rose : (edit : RecordChange) (old new : KeeperView) → Calls edit false old new → Rose old.faults new.faults
calls_rose Leave old new calls = absurd calls
calls_rose (Put f) old new calls = missed_rose old new calls
calls_rose (Delete name) old new calls = missed_rose old new calls

-- what wasn't kept is counted
pub unkept_rose : (b : Bool) (edit : RecordChange) (kept : Bool) (old new : KeeperView) → KeepsChange b edit kept old new → kept ≡ false → Rose old.faults new.faults
unkept_rose true edit true old new keeps not_kept = clash (sym not_kept)
unkept_rose true edit false old new keeps not_kept = calls_rose edit old new keeps
unkept_rose false edit kept old new keeps not_kept = clash (sym not_kept ∙ keeps.0)

kept_count : (name : List ℕ) (value : Option (List ℕ)) (old new : KeeperView) → Stores name value old new → new.faults ≡ old.faults
kept_count name value old new kept = ap (λ (keeper : KeeperView). keeper.faults) kept.is

calls_count : (edit : RecordChange) (old new : KeeperView) → Calls edit true old new → new.faults ≡ old.faults
calls_count Leave old new calls = absurd calls
calls_count (Put f) old new calls = kept_count f.name (Some (spelling f)) old new calls
calls_count (Delete name) old new calls = kept_count name None old new calls

same_count : (b : Bool) (edit : RecordChange) (old new : KeeperView) → KeepsChange b edit true old new → new.faults ≡ old.faults
same_count true edit old new keeps = calls_count edit old new keeps
same_count false edit old new keeps = ap (λ (keeper : KeeperView). keeper.faults) keeps.1

count_by : (b : Bool) (edit : RecordChange) (kept : Bool) (old new : KeeperView) (n : ℕ) → KeepsChange b edit kept old new → min n (2 ^ 64 - 1) ≤ old.faults → min (n + cond kept 0 1) (2 ^ 64 - 1) ≤ new.faults
count_by b edit true old new n keeps most = let same : new.faults ≡ old.faults = same_count b edit old new keeps in omega (arith, most, same)
count_by b edit false old new n keeps most =
    let rose : Rose old.faults new.faults = unkept_rose b edit false old new keeps refl in
    omega (arith, most, rose.0, rose.1)

-- entries that weren't kept are no more than failures
pub count_after : (b : Bool) (edit : RecordChange) (kept : Bool) (old new : KeeperView) (n m : ℕ) → m ≡ n + cond kept 0 1 → KeepsChange b edit kept old new → min n (2 ^ 64 - 1) ≤ old.faults → min m (2 ^ 64 - 1) ≤ new.faults
count_after b edit kept old new n m is keeps most = subst (λ (k : ℕ). min k (2 ^ 64 - 1) ≤ new.faults) (sym is) (count_by b edit kept old new n keeps most)

-- where nothing is to be kept, all counts as kept
pub kept_unless : (b : Bool) (edit : RecordChange) (kept : Bool) (old new : KeeperView) → KeepsChange b edit kept old new → b ≡ false → kept ≡ true
kept_unless true edit kept old new keeps is = clash (sym is)
kept_unless false edit kept old new keeps is = keeps.0
