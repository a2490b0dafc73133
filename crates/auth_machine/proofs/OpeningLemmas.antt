-- Reading the entries of a keeper, one after the other.
use Rattle.std.proofs.Common.{◌≡◌, ℕ, Bool, true, false, cond, List, [], ◌∷◌, ◌++◌, Option, Some, None, option_map, IsTrue, IfSome, refl, sym, ap, subst, ◌∙◌, append_assoc}
use Rattle.std.specs.Prelude.{Result, Ok, Err, IfOk}
use Rattle.std.specs.List.{AllByRecursion}
use Rattle.std.specs.Str.{bytes_eq}
use Rattle.std.proofs.lemmas.Slice.Eq.{bytes_eq-Decides}
use Rattle.fw_types.specs.Keyed.{Ascends}
use Rattle.fw_types.specs.Name.{is_before}
use Rattle.fw_outside.specs.FilesView.{bytes_under}
use Rattle.fw_outside.specs.KeeperView.{AreSame, NamedBytes}
use Rattle.fw_outside.specs.KeeperView as keeper
use Rattle.auth_records.specs.Reading.{decoded}
use Rattle.auth_records.specs.Spelling.{Fields}
use Rattle.auth_machine.specs.History.{DecodesTo}
use Rattle.auth_machine.specs.Opening.{in_front, name_place, record_in, records_in, with_name}
use Rattle.auth_machine.specs.State.{record_at, record_name}

-- a record that was read
abbrev read : Fields → Result Fields ℕ
read f = Ok f

-- records in front of those that are read
abbrev pub behind : List Fields → Result (List Fields) (List ℕ × ℕ) → Result (List Fields) (List ℕ × ℕ)
behind front (Err bad) = Err bad
behind front (Ok records) = Ok (front ++ records)

-- these records are read, and these entries are left
abbrev pub HasRead : List Fields → NamedBytes → NamedBytes → Type 0
HasRead records left entries = behind records (records_in left) ≡ records_in entries

further : (front : List Fields) (f : Fields) (name : List ℕ) (others : Result (List Fields) (List ℕ × ℕ)) → behind (front ++ f ∷ []) others ≡ behind front (in_front name (Ok f) others)
further front f name (Err bad) = refl
further front f name (Ok records) = let e = append_assoc front (f ∷ []) records in rw e refl

pub one_more : (front : List Fields) (f : Fields) (entry : List ℕ × List ℕ) (left entries : NamedBytes) → HasRead front (entry ∷ left) entries
    → record_in entry ≡ Ok f → HasRead (front ++ f ∷ []) left entries
one_more front f entry left entries has is =
    further front f entry.0 (records_in left) ∙ ap (λ (r : Result Fields ℕ). behind front (in_front entry.0 r (records_in left))) (sym is) ∙ has

-- ---- what is read

-- a record is what the bytes decode to, and has the name under which it stands
pub record IsEntryOf (entry : List ℕ × List ℕ) (f : Fields) : Type 0 where
  pub name : f.name ≡ entry.0
  pub decodes : decoded entry.1 ≡ Ok f

named : (name : List ℕ) (place : ℕ) (r : Result Fields ℕ) (f : Fields) → with_name name place r ≡ Ok f → (f.name ≡ name) × (r ≡ Ok f)
named name place (Err at) f is = absurd (cc)
named name place (Ok g) f is = choose (bytes_eq g.name name) refl is
  where
    choose : (b : Bool) → bytes_eq g.name name ≡ b → cond b (Ok g) (Err place) ≡ Ok f → (f.name ≡ name) × (read g ≡ read f)
    choose true e h =
        let one : g ≡ f = cc in
        (subst (λ (z : Fields). z.name ≡ name) one ((bytes_eq-Decides g.name name).0 e), h)
    choose false e h = absurd (cc)

is_entry : (entry : List ℕ × List ℕ) (f : Fields) → record_in entry ≡ Ok f → IsEntryOf entry f
is_entry entry f is = let both = named entry.0 (name_place entry.1) (decoded entry.1) f is in record { name = both.0; decodes = both.1 }

-- the records are what the entries decode to, one by one
pub data AreEntriesOf : NamedBytes → List Fields → Type 0 where
  none : AreEntriesOf [] []
  more : (entry : List ℕ × List ℕ) (entries : NamedBytes) (f : Fields) (records : List Fields) → IsEntryOf entry f → AreEntriesOf entries records
      → AreEntriesOf (entry ∷ entries) (f ∷ records)

pub are_entries : (entries : NamedBytes) (records : List Fields) → records_in entries ≡ Ok records → AreEntriesOf entries records
are_entries [] records is = let e : [] ≡ records = cc in subst (AreEntriesOf []) e none
are_entries (entry ∷ entries) records is = choose (record_in entry) refl (records_in entries) (are_entries entries) is
  where
    choose : (first : Result Fields ℕ) → record_in entry ≡ first → (rest : Result (List Fields) (List ℕ × ℕ)) → ((others : List Fields) → rest ≡ Ok others → AreEntriesOf entries others)
        → in_front entry.0 first rest ≡ Ok records → AreEntriesOf (entry ∷ entries) records
    choose (Err at) e rest later h = absurd (cc)
    choose (Ok f) e (Err bad) later h = absurd (cc)
    choose (Ok f) e (Ok others) later h =
        let all : f ∷ others ≡ records = cc in
        subst (AreEntriesOf (entry ∷ entries)) all (more entry entries f others (is_entry entry f e) (later others refl))

-- ---- the table

found_step : (b c : Bool) (entry : List ℕ × List ℕ) (f : Fields) (found : Option (List ℕ × List ℕ)) (rest : Option Fields) → b ≡ c → decoded entry.1 ≡ Ok f
    → option_map decoded (option_map (λ e. e.1) found) ≡ option_map read rest
    → option_map decoded (option_map (λ e. e.1) (cond b (Some entry) found)) ≡ option_map read (cond c (Some f) rest)
found_step true true entry f found rest same is later = ap (λ (r : Result Fields ℕ). Some r) is
found_step false false entry f found rest same is later = later
found_step true false entry f found rest same is later = absurd (cc)
found_step false true entry f found rest same is later = absurd (cc)

decodes_so : (entries : NamedBytes) (records : List Fields) → AreEntriesOf entries records → DecodesTo records entries
decodes_so [] [] none name = refl
decodes_so [] (f ∷ records) are name = elim are [ ]
decodes_so (entry ∷ entries) [] are name = elim are [ ]
decodes_so (entry ∷ entries) (f ∷ records) (more _ _ _ _ one rest) name =
    found_step (bytes_eq entry.0 name) (bytes_eq f.name name) entry f _ (record_at name records) (ap (λ (n : List ℕ). bytes_eq n name) (sym one.name)) one.decodes (decodes_so entries records rest name)

-- a table that is told has the records that are read of the same entries
pub told_so : (table : Option NamedBytes) (entries : NamedBytes) (records : List Fields) → IfSome table (AreSame entries) → records_in entries ≡ Ok records → IfSome table (DecodesTo records)
told_so None entries records same is = tt
told_so (Some table) entries records same is = λ name. ap (option_map decoded) (sym (same name)) ∙ decodes_so entries records (are_entries entries records is) name

-- ---- the order

all_names : (P : List ℕ → Type 0) (entries : NamedBytes) (records : List Fields) → AreEntriesOf entries records
    → AllByRecursion (λ entry. P (keeper.entry_name entry)) entries → AllByRecursion (λ f. P (record_name f)) records
all_names P [] [] none all = tt
all_names P [] (f ∷ records) are all = elim are [ ]
all_names P (entry ∷ entries) [] are all = elim are [ ]
all_names P (entry ∷ entries) (f ∷ records) (more _ _ _ _ one rest) all = (subst P (sym one.name) all.0, all_names P entries records rest all.1)

ordered_so : (entries : NamedBytes) (records : List Fields) → AreEntriesOf entries records → Ascends keeper.entry_name entries → Ascends record_name records
ordered_so [] [] none ordered = tt
ordered_so [] (f ∷ records) are ordered = elim are [ ]
ordered_so (entry ∷ entries) [] are ordered = elim are [ ]
ordered_so (entry ∷ entries) (f ∷ records) (more _ _ _ _ one rest) ordered = (
  subst (λ (n : List ℕ). AllByRecursion (λ g. IsTrue (is_before n (record_name g))) records) (sym one.name)
      (all_names (λ name. IsTrue (is_before entry.0 name)) entries records rest ordered.0),
  ordered_so entries records rest ordered.1,
)

pub in_order : (entries : NamedBytes) (records : List Fields) → records_in entries ≡ Ok records → Ascends keeper.entry_name entries → Ascends record_name records
in_order entries records is ordered = ordered_so entries records (are_entries entries records is) ordered

-- what follows for each value follows for the one there is
pub ok_so : {T E : Type 0} {P Q : T → Type 0} (r : Result T E) → IfOk r P → ((x : T) → P x → Q x) → IfOk r Q
ok_so (Ok x) is so = so x is
ok_so (Err e) is so = tt
