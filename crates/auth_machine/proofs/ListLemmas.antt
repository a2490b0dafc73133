-- What is listed is the least record that is seen.
use Rattle.std.proofs.Common.{◌≡◌, ℕ, Bool, true, false, cond, List, [], ◌∷◌, ◌++◌, find, Option, Some, None, IsTrue, Ordering, Less, Equal, Greater, is_eq, is_lt, nat_cmp, refl, sym, ap, subst, ◌∙◌}
use Rattle.std.specs.Cmp.Lexicographic.{slice_cmp, nat_list_cmp_total}
use Rattle.std.specs.List.{AllByRecursion}
use Rattle.std.specs.Ordering.{ordering_reverse}
use Rattle.std.specs.Str.{bytes_eq}
use Rattle.std.proofs.lemmas.Map.Text.{is_eq-slice_cmp}
use Rattle.fw_types.specs.Keyed.{Ascends}
use Rattle.fw_types.specs.Name.{is_before}
use Rattle.auth_records.specs.Spelling.{Fields}
use Rattle.auth_events.specs.declared.denial.Denial.TheVariants as denials
use Rattle.auth_events.specs.declared.entry.Entry.{Entry}
use Rattle.auth_events.specs.declared.request.Request.{Request}
use Rattle.auth_events.specs.declared.request.Request.TheVariants as requests
use Rattle.auth_events.specs.declared.reply.Reply.TheVariants as replies
use Rattle.auth_events.specs.declared.reply.Summary.{Summary}
use Rattle.auth_machine.specs.Answer.{Profile, answer_of, profile_of, summary_profile}
use Rattle.auth_machine.specs.Answer.Answer.{Denied, Shown}
use Rattle.auth_machine.specs.History.{IsLegal, Origin, after}
use Rattle.auth_machine.specs.Laws.{IsLeastSeen, SeesNone, ShowsLeast, ShowsNone}
use Rattle.auth_machine.specs.Policy.{PolicyView}
use Rattle.auth_machine.specs.Powers.{is_next_seen, list, lists, power_of, shows_some}
use Rattle.auth_machine.specs.State.{State, at_moment, record_name, record_at, session_of}
use Rattle.auth_machine.specs.Step.{in_session, proposed}
use Rattle.auth_machine.specs.declared.power.Power.{Power}
use Rattle.auth_machine.specs.declared.power.Power.TheVariants.{Nobody, Members, Everybody}
use Rattle.auth_machine.specs.declared.session.Session.{Session}
use Rattle.auth_machine.proofs.EntriesLemmas.{parts_before}
use Rattle.auth_machine.proofs.OrderLemmas.{after_ascends, itself}
use Rattle.auth_machine.proofs.StepLemmas.{last_step, step_answered}

-- ---- names

orders : (o p : Ordering) → p ≡ ordering_reverse o → is_lt o ≡ true → (is_lt p ≡ false) × (is_eq o ≡ false)
orders Less p e lt = (ap is_lt e, refl)
orders Equal p e lt = absurd (cc)
orders Greater p e lt = absurd (cc)

before_once : (m n : List ℕ) → is_before m n ≡ true → (is_before n m ≡ false) × (bytes_eq m n ≡ false)
before_once m n first =
    let o = orders (slice_cmp nat_cmp m n) (slice_cmp nat_cmp n m) (nat_list_cmp_total.antisymm n m) first in
    (o.0, sym (is_eq-slice_cmp m n) ∙ o.1)

never_first : (n : List ℕ) (b : Bool) → is_before n n ≡ b → b ≡ false
never_first n true e = let o = before_once n n e in absurd (cc)
never_first n false e = refl

-- ---- records

all_under : (P : Fields → Type 0) (xs : List Fields) (name : List ℕ) (g : Fields) → AllByRecursion P xs → record_at name xs ≡ Some g → P g
all_under P [] name g all is = absurd (cc)
all_under P (x ∷ xs) name g all is = choose (bytes_eq x.name name) is (all_under P xs name g all.1)
  where
    choose : (b : Bool) → cond b (Some x) (record_at name xs) ≡ Some g → (record_at name xs ≡ Some g → P g) → P g
    choose true e rest = let same : x ≡ g = cc in subst P same all.0
    choose false e rest = rest e

module _ (power : Power) (told : Option (List ℕ)) where
  -- one more record in front, that is seen or isn't
  front : (b : Bool) (x g : Fields) (xs : List Fields) → bytes_eq x.name g.name ≡ b → Ascends record_name (x ∷ xs) → record_at g.name (x ∷ xs) ≡ Some g
      → (Q : Fields → Type 0) → Q x → (is_before x.name g.name ≡ true → record_at g.name xs ≡ Some g → Q g) → Q g
  front true x g xs e ordered is Q here there =
      let same : x ≡ g = choose (bytes_eq x.name g.name) e is in subst Q same here
    where
      choose : (b : Bool) → b ≡ true → cond b (Some x) (record_at g.name xs) ≡ Some g → x ≡ g
      choose true e is = cc
      choose false e is = absurd (cc)
  front false x g xs e ordered is Q here there =
      let behind : record_at g.name xs ≡ Some g = choose (bytes_eq x.name g.name) e is in
      there (all_under (λ later. IsTrue (is_before x.name later.name)) xs g.name g ordered.0 behind) behind
    where
      choose : (b : Bool) → b ≡ false → cond b (Some x) (record_at g.name xs) ≡ Some g → record_at g.name xs ≡ Some g
      choose true e is = absurd (cc)
      choose false e is = is

  pub found_least : (xs : List Fields) (f : Fields) → Ascends record_name xs → find (is_next_seen power told) xs ≡ Some f → IsLeastSeen power told xs f
  found_least [] f ordered is = absurd (cc)
  found_least (x ∷ xs) f ordered is = choose (is_next_seen power told x) refl is (found_least xs f ordered.1)
    where
      choose : (b : Bool) → is_next_seen power told x ≡ b → cond b (Some x) (find (is_next_seen power told) xs) ≡ Some f
          → (find (is_next_seen power told) xs ≡ Some f → IsLeastSeen power told xs f) → IsLeastSeen power told (x ∷ xs) f
      choose true seen e more =
          let same : x ≡ f = cc in
          subst (IsLeastSeen power told (x ∷ xs)) same (record {
            there = ap (λ (b : Bool). cond b (Some x) (record_at x.name xs)) (itself x.name);
            seen = seen;
            least = λ g is shown. front (bytes_eq x.name g.name) x g xs refl ordered is (λ h. is_before h.name x.name ≡ false) (never_first x.name _ refl)
                (λ first behind. (before_once x.name g.name first).0);
          })
      choose false unseen e more =
          let rest = more e in
          let first : is_before x.name f.name ≡ true = all_under (λ later. IsTrue (is_before x.name later.name)) xs f.name f ordered.0 rest.there in
          record {
            there = ap (λ (b : Bool). cond b (Some x) (record_at f.name xs)) (before_once x.name f.name first).1 ∙ rest.there;
            seen = rest.seen;
            least = λ g is shown. front (bytes_eq x.name g.name) x g xs refl ordered is (λ h. is_next_seen power told h ≡ true → is_before h.name f.name ≡ false)
                (λ s. absurd (cc)) (λ early behind s. rest.least g behind s) shown;
          }

  pub found_none : (xs : List Fields) → Ascends record_name xs → find (is_next_seen power told) xs ≡ None → SeesNone power told xs
  found_none [] ordered is = λ g there. absurd (cc)
  found_none (x ∷ xs) ordered is = λ g there. choose (is_next_seen power told x) refl is (found_none xs ordered.1) g there
    where
      choose : (b : Bool) → is_next_seen power told x ≡ b → cond b (Some x) (find (is_next_seen power told) xs) ≡ None
          → (find (is_next_seen power told) xs ≡ None → SeesNone power told xs) → SeesNone power told (x ∷ xs)
      choose true seen e more = absurd (cc)
      choose false unseen e more = λ g there. front (bytes_eq x.name g.name) x g xs refl ordered there (λ h. is_next_seen power told h ≡ false) unseen
          (λ first behind. more e g behind)

-- ---- lists

shown_some : (found : Option Fields) (profile : Profile) → (shows_some found).answer ≡ Shown profile → (f : Fields) × (found ≡ Some f) × (profile ≡ profile_of f)
shown_some None profile is = absurd (cc)
shown_some (Some f) profile is = (f, refl, cc)

shown_none : (found : Option Fields) → (shows_some found).answer ≡ Denied denials.NoSuch → found ≡ None
shown_none None is = refl
shown_none (Some f) is = absurd (cc)

listed : (s : State) (sid : ℕ) (session : Session) (told : Option (List ℕ)) (profile : Profile) (power : Option Power) → Ascends record_name s.records
    → session_of sid s.sessions ≡ Some session → power_of s session ≡ power → (lists power told s.records).answer ≡ Shown profile → ShowsLeast s sid told profile
listed s sid session told profile None ordered there is shown = absurd (cc)
listed s sid session told profile (Some Nobody) ordered there is shown = absurd (cc)
listed s sid session told profile (Some (Members group)) ordered there is shown =
    let found = shown_some (find (is_next_seen (Members group) told) s.records) profile shown in
    record { power = Members group; has_power = record { session = session; there = there; is = is }; f = found.0; shown = found.2; least = found_least (Members group) told s.records found.0 ordered found.1 }
listed s sid session told profile (Some Everybody) ordered there is shown =
    let found = shown_some (find (is_next_seen Everybody told) s.records) profile shown in
    record { power = Everybody; has_power = record { session = session; there = there; is = is }; f = found.0; shown = found.2; least = found_least Everybody told s.records found.0 ordered found.1 }

none_listed : (s : State) (sid : ℕ) (session : Session) (told : Option (List ℕ)) (power : Option Power) → Ascends record_name s.records
    → session_of sid s.sessions ≡ Some session → power_of s session ≡ power → (lists power told s.records).answer ≡ Denied denials.NoSuch → ShowsNone s sid told
none_listed s sid session told None ordered there is none = absurd (cc)
none_listed s sid session told (Some Nobody) ordered there is none = absurd (cc)
none_listed s sid session told (Some (Members group)) ordered there is none =
    record { power = Members group; has_power = record { session = session; there = there; is = is }; none = found_none (Members group) told s.records ordered (shown_none _ none) }
none_listed s sid session told (Some Everybody) ordered there is none =
    record { power = Everybody; has_power = record { session = session; there = there; is = is }; none = found_none Everybody told s.records ordered (shown_none _ none) }

in_list : (s : State) (at sid : ℕ) (found : Option Session) (told : Option (List ℕ)) (profile : Profile) → Ascends record_name s.records → session_of sid s.sessions ≡ found
    → (in_session found (λ session. list (at_moment at s) session told)).answer ≡ Shown profile → ShowsLeast s sid told profile
unfolding list
in_list s at sid None told profile ordered there shown = absurd (cc)
in_list s at sid (Some session) told profile ordered there shown = listed s sid session told profile (power_of s session) ordered there refl shown

none_in_list : (s : State) (at sid : ℕ) (found : Option Session) (told : Option (List ℕ)) → Ascends record_name s.records → session_of sid s.sessions ≡ found
    → (in_session found (λ session. list (at_moment at s) session told)).answer ≡ Denied denials.NoSuch → ShowsNone s sid told
unfolding list
none_in_list s at sid None told ordered there none = absurd (cc)
none_in_list s at sid (Some session) told ordered there none = none_listed s sid session told (power_of s session) ordered there refl none

step_lists : (policy : PolicyView) (s : State) (place sid at : ℕ) (request : Request) (told : Option (List ℕ)) (profile : Profile) → Ascends record_name s.records → request ≡ requests.List told
    → (proposed policy s place sid at request).answer ≡ Shown profile → ShowsLeast s sid told profile
unfolding proposed
step_lists policy s place sid at request told profile ordered is shown =
    let e = ap (λ r. (proposed policy s place sid at r).answer) is in
    in_list s at sid (session_of sid s.sessions) told profile ordered refl (sym e ∙ shown)

step_lists_none : (policy : PolicyView) (s : State) (place sid at : ℕ) (request : Request) (told : Option (List ℕ)) → Ascends record_name s.records → request ≡ requests.List told
    → (proposed policy s place sid at request).answer ≡ Denied denials.NoSuch → ShowsNone s sid told
unfolding proposed
step_lists_none policy s place sid at request told ordered is none =
    let e = ap (λ r. (proposed policy s place sid at r).answer) is in
    none_in_list s at sid (session_of sid s.sessions) told ordered refl (sym e ∙ none)

pub shows_least : (origin : Origin) (before : List Entry) (entry : Entry) (told : Option (List ℕ)) (summary : Summary) → Ascends record_name origin.records → IsLegal origin (before ++ entry ∷ [])
    → entry.request ≡ requests.List told → entry.reply ≡ replies.Shown summary → ShowsLeast (after origin before) entry.sid told (summary_profile summary)
shows_least origin before entry told summary ordered legal request reply =
    let step = last_step origin before entry legal in
    let answer = step_answered origin.policy (after origin before) _ entry (Shown (summary_profile summary)) step (ap answer_of reply) (λ e. absurd (cc)) in
    step_lists origin.policy (after origin before) _ entry.sid entry.at entry.request told (summary_profile summary)
    (after_ascends origin before ordered (parts_before origin.policy _ 0 before (entry ∷ []) legal)) request answer.1

pub shows_none : (origin : Origin) (before : List Entry) (entry : Entry) (told : Option (List ℕ)) → Ascends record_name origin.records → IsLegal origin (before ++ entry ∷ [])
    → entry.request ≡ requests.List told → entry.reply ≡ replies.Denied denials.NoSuch → ShowsNone (after origin before) entry.sid told
shows_none origin before entry told ordered legal request reply =
    let step = last_step origin before entry legal in
    let answer = step_answered origin.policy (after origin before) _ entry (Denied denials.NoSuch) step (ap answer_of reply) (λ e. absurd (cc)) in
    step_lists_none origin.policy (after origin before) _ entry.sid entry.at entry.request told
    (after_ascends origin before ordered (parts_before origin.policy _ 0 before (entry ∷ []) legal)) request answer.1
