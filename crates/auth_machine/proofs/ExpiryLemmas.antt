-- What has expired stays so.
use Rattle.std.proofs.Common.{◌≡◌, ℕ, suc, ◌+◌, max, Bool, true, false, cond, ◌&&◌, List, [], ◌∷◌, ◌++◌, length, Option, Some, None, refl, sym, ap, subst, ◌∙◌}
use Rattle.std.proofs.lemmas.List.{append_assoc}
use Rattle.std.proofs.lemmas.Slice.Eq.{bytes_eq-Decides}
use Rattle.auth_records.specs.Spelling.{Fields}
use Rattle.auth_events.specs.declared.denial.Denial.{Denial}
use Rattle.auth_events.specs.declared.denial.Denial.TheVariants.{Disabled, Expired}
use Rattle.auth_events.specs.declared.entry.Entry.{Entry}
use Rattle.auth_events.specs.declared.request.Request.{Request}
use Rattle.auth_events.specs.declared.request.Request.TheVariants as requests
use Rattle.auth_machine.specs.History.{AreSteps, IsLegal, Origin, after, after_entries, after_entry}
use Rattle.auth_machine.specs.Logins.{ExtendsNone, HasExpiryOf, IsDenied, IsExpiryDenial, is_extending, is_ok, phase_of, tries}
use Rattle.auth_machine.specs.Login.{asleep, has_expired, is_disabled, refusal}
use Rattle.auth_machine.specs.Policy.{PolicyView}
use Rattle.auth_machine.specs.State.{State, at_moment, record_at, first_state}
use Rattle.auth_machine.proofs.ActLemmas.{altered, target}
use Rattle.auth_machine.proofs.EntriesLemmas.{after_joined, parts_before, parts_behind}
use Rattle.auth_machine.proofs.LockLemmas.{refused_denies}
use Rattle.auth_machine.proofs.RecordLemmas.{RecordMoves, record_moves}
use Rattle.auth_machine.proofs.RecordLemmas.RecordMoves.{becomes, enters, fails, made, removed, same, uses}
use Rattle.auth_machine.proofs.StepLemmas.{last_step}

-- ---- the refusal

record Refused (f : Fields) (refusal : Option Denial) : Type 0 where
  denial : Denial
  is : refusal ≡ Some denial
  fits : IsExpiryDenial f.expires denial

refused_expired : (policy : PolicyView) (moment : ℕ) (f : Fields) → has_expired moment f ≡ true → Refused f (refusal policy moment f)
refused_expired policy moment f out = choose (is_disabled policy.bad_sleep f) (has_expired moment f) out
  where
    choose : (a b : Bool) → b ≡ true → Refused f (cond a (Some Disabled) (cond b (Some (Expired f.expires)) (asleep policy.bad_sleep moment f)))
    choose true b e = record { denial = Disabled; is = refl; fits = tt }
    choose false true e = record { denial = Expired f.expires; is = refl; fits = refl }
    choose false false e = absurd (cc)

-- ---- while nobody sets the expiry

target_keeps : (request : Request) (k : List ℕ) (f : Fields) → target request ≡ Some k → is_extending k request ≡ false → (altered request f).expires ≡ f.expires
target_keeps (requests.Expire name until) k f to none =
    let one : name ≡ k = cc in
    let e = (bytes_eq-Decides name k).1 one in
    absurd (cc)
target_keeps (requests.Enable name) k f to none = refl
target_keeps (requests.Disable name) k f to none = refl
target_keeps (requests.Group name group) k f to none = refl
target_keeps (requests.Proto name proto) k f to none = refl
target_keeps (requests.Password name salt hash) k f to none = refl
target_keeps (requests.Otp name number word_seed kept) k f to none = refl
target_keeps (requests.Wiz name) k f to none = refl
target_keeps (requests.Unwiz name) k f to none = refl
target_keeps (requests.Superwiz name) k f to none = refl
target_keeps _ k f to none = refl

-- the record is there and expires with this one
record Kept (f : Fields) (found : Option Fields) : Type 0 where
  g : Fields
  there : found ≡ Some g
  expires : g.expires ≡ f.expires

module _ (policy : PolicyView) (f : Fields) (name : List ℕ) where
  -- a record made of the one that is there
  kept_as : (g h : Fields) → Kept f (Some g) → h.expires ≡ g.expires → Kept f (Some h)
  kept_as g h kept is =
      let e = kept.there in
      let one : kept.g ≡ g = cc in
      record { g = h; there = refl; expires = is ∙ ap (λ (x : Fields). x.expires) (sym one) ∙ kept.expires }

  kept_by : (s : State) (entry : Entry) (old new : Option Fields) → RecordMoves policy s name entry old new → is_ok entry.reply && is_extending name entry.request ≡ false → Kept f old → Kept f new
  kept_by s entry old new (same _ out) none kept = kept
  kept_by s entry old new (made long group session is there to) none kept = let e = kept.there in absurd (cc)
  kept_by s entry old new (removed g session is reply there power) none kept =
      let extending : is_extending name entry.request ≡ true = ap (is_extending name) is ∙ (bytes_eq-Decides name name).1 refl in
      let none2 : is_extending name entry.request ≡ false = ap (λ r. is_ok r && is_extending name entry.request) (sym reply) ∙ none in
      absurd (cc)
  kept_by s entry old new (becomes g session to reply there power) none kept =
      let none2 : is_extending name entry.request ≡ false = ap (λ r. is_ok r && is_extending name entry.request) (sym reply) ∙ none in
      kept_as g (altered entry.request g) kept (target_keeps entry.request name g to none2)
  kept_by s entry old new (fails g awaited out) none kept = kept_as g _ kept refl
  kept_by s entry old new (enters g awaited reply proto) none kept = kept_as g _ kept refl
  kept_by s entry old new (uses g otp w awaited reply word chain) none kept = kept_as g _ kept refl

  kept_after : (entries : List Entry) (place : ℕ) (s : State) → AreSteps policy s place entries → ExtendsNone name entries
      → Kept f (record_at name s.records) → Kept f (record_at name (after_entries policy s place entries).records)
  kept_after [] place s steps none kept = kept
  kept_after (entry ∷ entries) place s steps none kept =
      kept_after entries (suc place) (after_entry policy s place entry) steps.1 none.1
      (kept_by (at_moment entry.at s) entry (record_at name s.records) (record_at name (after_entry policy s place entry).records) (record_moves policy s place entry steps.0 name) none.0 kept)

at_first : (f : Fields) (found : Option Fields) → found ≡ Some f → Kept f found
at_first f found is = record { g = f; there = is; expires = refl }

kept_through : (origin : Origin) (before during : List Entry) (name : List ℕ) (f : Fields) → IsLegal origin (before ++ during) → record_at name (after origin before).records ≡ Some f
    → ExtendsNone name during → Kept f (record_at name (after origin (before ++ during)).records)
kept_through origin before during name f legal there none =
    subst (λ (s : State). Kept f (record_at name s.records)) (sym (after_joined origin.policy (first_state origin.records) 0 before during))
    (kept_after origin.policy f name during (0 + length before) (after origin before) (parts_behind origin.policy (first_state origin.records) 0 before during legal) none
    (at_first f (record_at name (after origin before).records) there))

pub expiry_stays : (origin : Origin) (before during : List Entry) (name : List ℕ) (f : Fields) → IsLegal origin (before ++ during) → record_at name (after origin before).records ≡ Some f
    → ExtendsNone name during → HasExpiryOf f name (after origin (before ++ during)).records
expiry_stays origin before during name f legal there none =
    let kept = kept_through origin before during name f legal there none in
    record { g = kept.g; there = kept.there; expires = kept.expires }

pub expiry_denies : (origin : Origin) (before during : List Entry) (entry : Entry) (name : List ℕ) (f : Fields) → IsLegal origin (before ++ (during ++ entry ∷ []))
    → record_at name (after origin before).records ≡ Some f → has_expired (max (after origin (before ++ during)).moment entry.at) f ≡ true → ExtendsNone name during
    → tries name (phase_of entry.sid (after origin (before ++ during))) entry.request ≡ true → IsDenied (IsExpiryDenial f.expires) entry.reply
expiry_denies origin before during entry name f legal there expired none tried =
    let all : IsLegal origin ((before ++ during) ++ entry ∷ []) = subst (IsLegal origin) (sym (append_assoc before during (entry ∷ []))) legal in
    let first : IsLegal origin (before ++ during) = parts_before origin.policy (first_state origin.records) 0 (before ++ during) (entry ∷ []) all in
    let m = max (after origin (before ++ during)).moment entry.at in
    let kept = kept_through origin before during name f first there none in
    let as_well : has_expired m kept.g ≡ true = ap (λ (n : ℕ). has_expired m (record f { expires = n })) kept.expires ∙ expired in
    let out = refused_expired origin.policy m kept.g as_well in
    let said = refused_denies origin.policy (after origin (before ++ during)) (0 + length (before ++ during)) entry name kept.g out.denial (last_step origin (before ++ during) entry all) kept.there out.is tried in
    subst (IsDenied (IsExpiryDenial f.expires)) (sym said) (subst (λ (n : ℕ). IsExpiryDenial n out.denial) kept.expires out.fits)
