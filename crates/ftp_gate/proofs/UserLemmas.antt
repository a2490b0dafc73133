-- Where the last `@` stands in a text.
use Rattle.std.proofs.Common.{arith, ◌≡◌, refl, ap, ◌∙◌, ℕ, zero, suc, ◌+◌, ◌<◌, ◌≤◌, Bool, true, false, List, [], ◌∷◌, length, take, drop, Option, Some, None}
use Rattle.std.specs.Prelude.{slice_index, if◌then◌else◌}
use Rattle.std.proofs.lemmas.Bool.{false_from_ne_true}
use Rattle.ftp_gate.specs.User.{behind_byte, cut_at_last, is_at}

pub none_cut : (text : List ℕ) → ((k : ℕ) → k < length text → ¬ (is_at (slice_index text k) ≡ true)) → cut_at_last text ≡ None
none_cut [] none = refl
none_cut (b ∷ rest) none =
    let later = none_cut rest (λ k less. none (suc k) (omega (arith, less))) in
    let here : is_at b ≡ false = false_from_ne_true (is_at b) (none 0 (omega (arith))) in
    ap (λ (cut : Option (List ℕ × List ℕ)). behind_byte b rest cut) later ∙ ap (λ (t : Bool). if t then Some ([], rest) else None) here

pub some_cut : (text : List ℕ) (at : ℕ) → at < length text → ((k : ℕ) → at < k → k < length text → ¬ (is_at (slice_index text k) ≡ true)) → is_at (slice_index text at) ≡ true → cut_at_last text ≡ Some (take at text, drop (suc at) text)
some_cut [] at within after is = absurd (omega (arith, within))
some_cut (b ∷ rest) zero within after is =
    let later = none_cut rest (λ k less. after (suc k) (omega (arith)) (omega (arith, less))) in
    ap (λ (cut : Option (List ℕ × List ℕ)). behind_byte b rest cut) later ∙ ap (λ (t : Bool). if t then Some ([], rest) else None) is
some_cut (b ∷ rest) (suc at) within after is =
    ap (λ (cut : Option (List ℕ × List ℕ)). behind_byte b rest cut) (some_cut rest at (omega (arith, within)) (λ k more less. after (suc k) (omega (arith, more)) (omega (arith, less))) is)

-- the same, as the code says it
pub last_cut : (text : List ℕ) (at : ℕ) → at < length text → ((k : ℕ) → at < k → k < length text → ¬ (is_at (slice_index text k) ≡ true)) → is_at (slice_index text at) ≡ true → cut_at_last text ≡ Some (take at text, drop (at + 1) text)
last_cut text at within after is =
    let next : suc at ≡ at + 1 = omega (arith) in
    some_cut text at within after is ∙ ap (λ (k : ℕ). Some (take at text, drop k text)) next
