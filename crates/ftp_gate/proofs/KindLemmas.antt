-- The verb of a user.
use Rattle.std.proofs.Common.{◌≡◌, refl, ap, ◌∙◌, ℕ, Bool, true, false, not, ◌&&◌, ◌||◌, List, codes}
use Rattle.std.specs.Prelude.{if◌then◌else◌}
use Rattle.std.specs.Str.{bytes_eq}
use Rattle.std.proofs.lemmas.Slice.Eq.{bytes_eq-Decides}
use Rattle.gate_rules.specs.declared.options.Options.{Options}
use Rattle.ftp_gate.specs.Gate.{asks_login, is_listed}
use Rattle.ftp_gate.specs.Kind.{is_quit, kind_of, served_of}
use Rattle.ftp_gate.specs.declared.kind.Kind.{Kind}
use Rattle.ftp_gate.specs.declared.kind.Kind.TheVariants as kinds
use Rattle.ftp_gate.specs.declared.kind.Outward.{Outward}
use Rattle.ftp_gate.specs.declared.kind.Outward.TheVariants.{User, Served}
use Rattle.ftp_gate.specs.declared.kind.Served as served

abbrev kind_by : Bool → Bool → Bool → served.Served → Kind
kind_by authorizes responds names asked = if authorizes then kinds.Authorize else if responds then kinds.Response else kinds.Outward (if names then User else Served asked)

names_by : (authorizes responds names : Bool) (asked : served.Served) → kind_by authorizes responds names asked ≡ kinds.Outward User → names ≡ true
names_by true responds names asked is = absurd (cc)
names_by false true names asked is = absurd (cc)
names_by false false true asked is = refl
names_by false false false asked is = absurd (cc)

is_user : (verb : List ℕ) → kind_of verb ≡ kinds.Outward User → bytes_eq verb (codes "USER") ≡ true
unfolding kind_of
is_user verb kind = names_by (bytes_eq verb (codes "AUTHORIZE")) (bytes_eq verb (codes "RESPONSE")) (bytes_eq verb (codes "USER")) (served_of verb) kind

pub user_stays : (verb : List ℕ) → kind_of verb ≡ kinds.Outward User → is_quit verb ≡ false
user_stays verb kind = ap (λ (v : List ℕ). bytes_eq v (codes "QUIT")) ((bytes_eq-Decides verb (codes "USER")).0 (is_user verb kind))

listed_or : (auth authall extnd : Bool) → extnd ≡ true → (auth || authall || extnd) ≡ true
listed_or true authall extnd is = refl
listed_or false true extnd is = refl
listed_or false false extnd is = is

-- with `-extnd` a login is asked for before it
pub user_asks : (options : Options) (verb : List ℕ) → kind_of verb ≡ kinds.Outward User → options.extnd ≡ true → asks_login options verb ≡ true
user_asks options verb kind extnd =
    ap (λ (b : Bool). not b && (is_listed options.auth verb || options.authall || options.extnd)) (user_stays verb kind) ∙ listed_or (is_listed options.auth verb) options.authall options.extnd extnd
