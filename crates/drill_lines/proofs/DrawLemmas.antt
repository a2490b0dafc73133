-- The loops over the draws: what is made so far, and what the others make, is the whole.
use Rattle.std.proofs.Common.{◌≡◌, ℕ, zero, suc, ◌-◌, ◌/◌, ◌<◌, ◌≤◌, List, [], ◌∷◌, ◌++◌, length, map, refl, sym, ap, subst, ◌∙◌, arith, append_assoc}
use Rattle.std.proofs.lemmas.List.{append-nil}
use Rattle.fw_types.specs.declared.peer.Peer.{Peer}
use Rattle.gate_rules.specs.declared.verdict.Verdict.{Verdict}
use Rattle.drill_lines.specs.Draws.{draws, line_text, lines_text, next_number, peer_at, peers_of}

pub one_draw : (all : List ℕ) (n x : ℕ) (whole : List ℕ) → 0 < n → all ++ draws n x ≡ whole → (all ++ (next_number x / 65536) ∷ []) ++ draws (n - 1) (next_number x) ≡ whole
one_draw all zero x whole some e = absurd (omega (arith, some))
one_draw all (suc n) x whole some e =
    let less : n ≡ suc n - 1 = omega arith in
    subst (λ (m : ℕ). (all ++ (next_number x / 65536) ∷ []) ++ draws m (next_number x) ≡ whole) less (append_assoc all ((next_number x / 65536) ∷ []) (draws n (next_number x)) ∙ e)

pub last_draw : (all : List ℕ) (n x : ℕ) (whole : List ℕ) → n ≤ 0 → all ++ draws n x ≡ whole → all ≡ whole
last_draw all zero x whole none e = sym (append-nil all) ∙ e
last_draw all (suc n) x whole none e = absurd (omega (arith, none))

pub length_draws : (n x : ℕ) → length (draws n x) ≡ n
length_draws zero x = refl
length_draws (suc n) x = ap suc (length_draws n (next_number x))

pub all_drawn : (all : List ℕ) (n x count start : ℕ) → n ≤ 0 → all ++ draws n x ≡ draws count start → length all ≡ count
all_drawn all n x count start none e = ap (λ (l : List ℕ). length l) (last_draw all n x (draws count start) none e) ∙ length_draws count start

pub one_line : (out : List ℕ) (p q s : ℕ) (more whole : List ℕ) → out ++ lines_text (p ∷ q ∷ s ∷ more) ≡ whole → (out ++ line_text p q s) ++ lines_text more ≡ whole
one_line out p q s more whole e = append_assoc out (line_text p q s) (lines_text more) ∙ e

pub last_line : (out draws whole : List ℕ) → length draws < 3 → out ++ lines_text draws ≡ whole → out ≡ whole
last_line out [] whole short e = sym (append-nil out) ∙ e
last_line out (p ∷ []) whole short e = sym (append-nil out) ∙ e
last_line out (p ∷ q ∷ []) whole short e = sym (append-nil out) ∙ e
last_line out (p ∷ q ∷ s ∷ more) whole short e = absurd (omega (arith, short))

pub one_verdict : (decide : Peer → Verdict) (out : List Verdict) (q s : ℕ) (more : List ℕ) (whole : List Verdict) → out ++ map decide (peers_of (q ∷ s ∷ more)) ≡ whole → (out ++ decide (peer_at q s) ∷ []) ++ map decide (peers_of more) ≡ whole
one_verdict decide out q s more whole e = append_assoc out (decide (peer_at q s) ∷ []) (map decide (peers_of more)) ∙ e

pub last_verdict : (decide : Peer → Verdict) (out : List Verdict) (draws : List ℕ) (whole : List Verdict) → length draws < 2 → out ++ map decide (peers_of draws) ≡ whole → out ≡ whole
last_verdict decide out [] whole short e = sym (append-nil out) ∙ e
last_verdict decide out (q ∷ []) whole short e = sym (append-nil out) ∙ e
last_verdict decide out (q ∷ s ∷ more) whole short e = absurd (omega (arith, short))
