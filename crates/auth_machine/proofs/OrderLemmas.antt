-- The records stand in the order of their names, and the first that is seen is the least.
use Rattle.std.proofs.Common.{◌≡◌, ℕ, Bool, true, false, cond, List, [], ◌∷◌, None, IsTrue, is_some, refl, ap, ◌∙◌}
use Rattle.std.specs.List.{AllByRecursion}
use Rattle.std.specs.Str.{bytes_eq}
use Rattle.std.proofs.lemmas.Slice.Eq.{bytes_eq-Decides}
use Rattle.fw_types.specs.Keyed.{Ascends, under, without}
use Rattle.fw_types.proofs.KeyedLemmas.{placed_ascends, under_without}
use Rattle.fw_types.specs.Name.{is_before}
use Rattle.auth_records.specs.Spelling.{Fields}
use Rattle.auth_events.specs.declared.entry.Entry.{Entry}
use Rattle.auth_machine.specs.History.{IsLegal, IsStep, Origin, after, after_entry}
use Rattle.auth_machine.specs.Policy.{PolicyView}
use Rattle.auth_machine.specs.State.{Change, State, at_moment, changed, records_after, record_name, first_state}
use Rattle.auth_machine.specs.Step.{is_refused, proposed}
use Rattle.auth_events.specs.Port.{session_at}
use Rattle.auth_machine.specs.declared.record_change.RecordChange.{RecordChange}
use Rattle.auth_machine.specs.declared.record_change.RecordChange.TheVariants.{Leave, Put, Delete}
use Rattle.auth_machine.proofs.EntriesLemmas.{holds_after}

pub itself : (name : List ℕ) → bytes_eq name name ≡ true
itself name = (bytes_eq-Decides name name).1 refl

all_chosen : (P : Fields → Type 0) (b : Bool) (x : Fields) (xs ys : List Fields) → P x → AllByRecursion P ys → AllByRecursion P (cond b (x ∷ ys) ys)
all_chosen P true x xs ys one rest = (one, rest)
all_chosen P false x xs ys one rest = rest

all_without : (P : Fields → Type 0) (name : List ℕ) (xs : List Fields) → AllByRecursion P xs → AllByRecursion P (without record_name name xs)
all_without P name [] all = tt
all_without P name (x ∷ xs) all = all_chosen P _ x xs (without record_name name xs) all.0 (all_without P name xs all.1)

ascends_chosen : (b : Bool) (x : Fields) (ys : List Fields) → AllByRecursion (λ later. IsTrue (is_before x.name later.name)) ys → Ascends record_name ys → Ascends record_name (cond b (x ∷ ys) ys)
ascends_chosen true x ys first rest = (first, rest)
ascends_chosen false x ys first rest = rest

without_ascends : (name : List ℕ) (xs : List Fields) → Ascends record_name xs → Ascends record_name (without record_name name xs)
without_ascends name [] ordered = tt
without_ascends name (x ∷ xs) ordered =
    ascends_chosen _ x (without record_name name xs) (all_without (λ later. IsTrue (is_before x.name later.name)) name xs ordered.0) (without_ascends name xs ordered.1)

edited_ascends : (edit : RecordChange) (xs : List Fields) → Ascends record_name xs → Ascends record_name (records_after edit xs)
edited_ascends Leave xs ordered = ordered
edited_ascends (Put f) xs ordered =
    let none : under record_name f.name (without record_name f.name xs) ≡ None =
    under_without record_name f.name xs f.name ∙ ap (λ (b : Bool). cond b None (under record_name f.name xs)) (itself f.name) in
    placed_ascends record_name f (without record_name f.name xs) (ap is_some none) (without_ascends f.name xs ordered)
edited_ascends (Delete name) xs ordered = without_ascends name xs ordered

next_ascends : (refused : Bool) (sid : ℕ) (change : Change) (s : State) → Ascends record_name s.records → Ascends record_name (cond refused s (changed sid change s)).records
next_ascends true sid change s ordered = ordered
next_ascends false sid change s ordered = edited_ascends change.records s.records ordered

step_ascends : (policy : PolicyView) (place : ℕ) (s : State) (entry : Entry) → Ascends record_name s.records → IsStep policy s place entry → Ascends record_name (after_entry policy s place entry).records
step_ascends policy place s entry ordered step =
    next_ascends (is_refused policy s place entry.sid entry.at entry.request entry.kept) (session_at entry.request place entry.sid)
    (proposed policy s place entry.sid entry.at entry.request) (at_moment entry.at s) ordered

pub after_ascends : (origin : Origin) (history : List Entry) → Ascends record_name origin.records → IsLegal origin history → Ascends record_name (after origin history).records
after_ascends origin history ordered legal =
    holds_after origin.policy (λ s. Ascends record_name s.records) (step_ascends origin.policy) history 0 (first_state origin.records) ordered legal
