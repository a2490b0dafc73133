-- Where the last `@` stands in a text.
use Rattle.std.proofs.Common.{arith, ◌≡◌, refl, ap, ◌∙◌, subst, ℕ, zero, suc, ◌+◌, ◌<◌, Bool, true, false, List, [], ◌∷◌, ◌++◌, length, take, drop, Option, Some, None, ◌≢◌}
use Rattle.std.specs.Prelude.{slice_index, if◌then◌else◌, ◌↔◌}
use Rattle.std.specs.List.{list_any}
use Rattle.std.proofs.lemmas.Bool.{false_from_ne_true, or_parts, eqb-true}
use Rattle.fw_types.specs.Host.{host_of}
use Rattle.fw_types.specs.declared.host.Host.{Host}
use Rattle.rlogin_hello.specs.ServerUser.{NamesUser, UserAt, before_cut, cut_at_last, is_at, user_at, user_of_cut, with_host}

abbrev Cut : Type 0
Cut = List ℕ × List ℕ

pub none_cut : (text : List ℕ) → ((k : ℕ) → k < length text → ¬ (is_at (slice_index text k) ≡ true)) → cut_at_last text ≡ None
none_cut [] none = refl
none_cut (b ∷ text) none =
    let later = none_cut text (λ k less. none (suc k) (omega (arith, less))) in
    let here : is_at b ≡ false = false_from_ne_true (is_at b) (none 0 (omega (arith))) in
    ap (λ (cut : Option Cut). before_cut b text cut) later ∙ ap (λ (t : Bool). if t then Some ([], text) else None) here

some_cut : (text : List ℕ) (at : ℕ) → at < length text → ((k : ℕ) → at < k → k < length text → ¬ (is_at (slice_index text k) ≡ true)) → is_at (slice_index text at) ≡ true → cut_at_last text ≡ Some (take at text, drop (suc at) text)
some_cut [] at within after is = absurd (omega (arith, within))
some_cut (b ∷ text) zero within after is =
    let later = none_cut text (λ k less. after (suc k) (omega (arith)) (omega (arith, less))) in
    ap (λ (cut : Option Cut). before_cut b text cut) later ∙ ap (λ (t : Bool). if t then Some ([], text) else None) is
some_cut (b ∷ text) (suc at) within after is =
    ap (λ (cut : Option Cut). before_cut b text cut) (some_cut text at (omega (arith, within)) (λ k more less. after (suc k) (omega (arith, more)) (omega (arith, less))) is)

-- the same, as the code says it
pub last_cut : (text : List ℕ) (at : ℕ) → at < length text → ((k : ℕ) → at < k → k < length text → ¬ (is_at (slice_index text k) ≡ true)) → is_at (slice_index text at) ≡ true → cut_at_last text ≡ Some (take at text, drop (at + 1) text)
last_cut text at within after is =
    let next : suc at ≡ at + 1 = omega (arith) in
    some_cut text at within after is ∙ ap (λ (k : ℕ). Some (take at text, drop k text)) next

-- a text without `@`
plain_cut : (text : List ℕ) → list_any is_at text ≡ false → cut_at_last text ≡ None
plain_cut [] none = refl
plain_cut (b ∷ text) none =
    let parts = or_parts (is_at b) (list_any is_at text) none in
    ap (λ (cut : Option Cut). before_cut b text cut) (plain_cut text parts.1) ∙ ap (λ (t : Bool). if t then Some ([], text) else None) parts.0

spelled_cut : (user host_text : List ℕ) → list_any is_at host_text ≡ false → cut_at_last (user ++ 64 ∷ host_text) ≡ Some (user, host_text)
spelled_cut [] host_text last = ap (λ (cut : Option Cut). before_cut 64 host_text cut) (plain_cut host_text last)
spelled_cut (b ∷ user) host_text last = ap (λ (cut : Option Cut). before_cut b (user ++ 64 ∷ host_text) cut) (spelled_cut user host_text last)

record IsCutAt (text : List ℕ) (cut : Cut) : Type 0 where
  whole : text ≡ cut.0 ++ 64 ∷ cut.1
  last : list_any is_at cut.1 ≡ false

-- the cut at a byte after which there is no `@`
abbrev cut_if : Bool → List ℕ → Option Cut
cut_if test text = let start : Cut = ([], text) in if test then Some start else None

-- no `@` where a text isn't cut
uncut_plain : (b : ℕ) (text : List ℕ) (later : Option Cut) (test : Bool) → is_at b ≡ test → (later ≡ None → list_any is_at text ≡ false) → cut_if test text ≡ None → later ≡ None → list_any is_at (b ∷ text) ≡ false
uncut_plain b text later true is none e gone = absurd (cc)
uncut_plain b text later false is none e gone = rw is (none gone)

no_cut : (b : ℕ) (text : List ℕ) (later : Option Cut) → (later ≡ None → list_any is_at text ≡ false) → before_cut b text later ≡ None → list_any is_at (b ∷ text) ≡ false
no_cut b text None none e = uncut_plain b text None (is_at b) refl none e refl
no_cut b text (Some cut) none e = absurd (cc)

cut_none : (text : List ℕ) → cut_at_last text ≡ None → list_any is_at text ≡ false
cut_none [] e = refl
cut_none (b ∷ text) e = no_cut b text (cut_at_last text) (cut_none text) e

cut_here : (b : ℕ) (text : List ℕ) (cut : Cut) (test : Bool) → is_at b ≡ test → list_any is_at text ≡ false → cut_if test text ≡ Some cut → IsCutAt (b ∷ text) cut
cut_here b text cut true is none e =
    let start : Cut = ([], text) in
    let same : start ≡ cut = cc in
    let first : b ≡ 64 = eqb-true b 64 is in
    let P : Cut → Type 0 = λ (k : Cut). IsCutAt (b ∷ text) k in
    subst P same (record { whole = ap (λ (x : ℕ). x ∷ text) first; last = none })
cut_here b text cut false is none e = absurd (cc)

cut_by : (b : ℕ) (text : List ℕ) (later : Option Cut) (cut : Cut) → (later ≡ None → list_any is_at text ≡ false) → ((k : Cut) → later ≡ Some k → IsCutAt text k) → before_cut b text later ≡ Some cut → IsCutAt (b ∷ text) cut
cut_by b text None cut none some e = cut_here b text cut (is_at b) refl (none refl) e
cut_by b text (Some k) cut none some e =
    let start : Cut = (b ∷ k.0, k.1) in
    let same : start ≡ cut = cc in
    let P : Cut → Type 0 = λ (k : Cut). IsCutAt (b ∷ text) k in
    let was = some k refl in
    subst P same (record { whole = ap (λ (t : List ℕ). b ∷ t) was.whole; last = was.last })

cut_is : (text : List ℕ) (cut : Cut) → cut_at_last text ≡ Some cut → IsCutAt text cut
cut_is [] cut e = absurd (cc)
cut_is (b ∷ text) cut e = cut_by b text (cut_at_last text) cut (cut_none text) (cut_is text) e

named_with : (text user host_text : List ℕ) (host : Option Host) (at : UserAt) → text ≡ user ++ 64 ∷ host_text → list_any is_at host_text ≡ false → host_of host_text ≡ host → with_host user host ≡ Some at → NamesUser text at
named_with text [] host_text host at whole last is e = absurd (cc)
named_with text (b ∷ user) host_text None at whole last is e = absurd (cc)
named_with text (b ∷ user) host_text (Some host) at whole last is e =
    let made : UserAt = record { user = b ∷ user; host = host } in
    let same : made ≡ at = cc in
    let P : UserAt → Type 0 = λ (a : UserAt). NamesUser text a in
    subst P same (record { host_text = host_text; whole = whole; last = last; some = λ e. cc; host = is })

named_by : (text : List ℕ) (cut : Option Cut) (at : UserAt) → cut_at_last text ≡ cut → user_of_cut cut ≡ Some at → NamesUser text at
named_by text None at is e = absurd (cc)
named_by text (Some cut) at is e = let k = cut_is text cut is in named_with text cut.0 cut.1 (host_of cut.1) at k.whole k.last refl e

pub names_user : (text : List ℕ) (at : UserAt) → user_at text ≡ Some at → NamesUser text at
unfolding user_at
names_user text at e = named_by text (cut_at_last text) at refl e

with_some : (user : List ℕ) (host : Host) → user ≢ [] → with_host user (Some host) ≡ Some (record { user = user; host = host })
with_some [] host some = absurd (some refl)
with_some (b ∷ user) host some = refl

pub user_named : (text : List ℕ) (at : UserAt) → NamesUser text at → user_at text ≡ Some at
unfolding user_at
user_named text at names =
    ap (λ (t : List ℕ). user_of_cut (cut_at_last t)) names.whole ∙ ap user_of_cut (spelled_cut at.user names.host_text names.last)
    ∙ ap (with_host at.user) names.host ∙ with_some at.user at.host names.some

pub names_exactly : (text : List ℕ) (at : UserAt) → (user_at text ≡ Some at) ↔ NamesUser text at
names_exactly text at = (names_user text at, user_named text at)
