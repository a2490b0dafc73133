-- Each verdict is of one kind, and there is one for each peer.
use Rattle.std.proofs.Common.{◌≡◌, ℕ, zero, suc, ◌+◌, ◌*◌, ◌-◌, Bool, true, false, not, List, [], ◌∷◌, length, map, drop, refl, sym, ap, ◌∙◌, arith, Result, Ok, Err}
use Rattle.std.specs.Prelude.{◌==◌, cond}
use Rattle.std.specs.List.{count_by}
use Rattle.std.proofs.lemmas.List.{length-drop, length-map}
use Rattle.std.proofs.lemmas.List.Sums.{sum_by-cons}
use Rattle.fw_types.specs.declared.peer.Peer.{Peer}
use Rattle.gate_rules.specs.Reading.{RuleBook}
use Rattle.gate_rules.specs.Verdict.{verdict_of}
use Rattle.gate_rules.specs.declared.verdict.Verdict.{Verdict}
use Rattle.gate_rules.specs.declared.verdict.Verdict.TheVariants.{Permit, Deny}
use Rattle.drill_lines.specs.Draws.{peers_of}
use Rattle.drill_lines.specs.Drill.{all_draws, drilled, is_denial, is_permit, is_unmatched, peers_asked, rules_in, table_text, tallied, tally_of}
use Rattle.drill_lines.specs.declared.plan.Drill.{Drill}
use Rattle.drill_lines.specs.declared.drill_fault.DrillFault.{DrillFault}
use Rattle.drill_lines.specs.declared.tally.Tally.{Tally}
use Rattle.drill_lines.proofs.DrawLemmas.{length_draws}

either : (v : Bool) → 0 + cond (not v) 1 0 + cond v 1 0 ≡ 1
either true = refl
either false = refl

one_kind : (verdict : Verdict) → cond (is_permit verdict) 1 0 + cond (is_denial verdict) 1 0 + cond (is_unmatched verdict) 1 0 ≡ 1
one_kind (Permit line) = refl
one_kind (Deny line) = either (line == 0)

each_kind : (verdicts : List Verdict) → count_by is_permit verdicts + count_by is_denial verdicts + count_by is_unmatched verdicts ≡ length verdicts
each_kind [] = refl
each_kind (verdict ∷ more) =
    let one : cond (is_permit verdict) 1 0 + cond (is_denial verdict) 1 0 + cond (is_unmatched verdict) 1 0 ≡ 1 = one_kind verdict in
    let rest : count_by is_permit more + count_by is_denial more + count_by is_unmatched more ≡ length more = each_kind more in
    let permits : count_by is_permit (verdict ∷ more) ≡ cond (is_permit verdict) 1 0 + count_by is_permit more = sum_by-cons (λ v. cond (is_permit v) 1 0) verdict more in
    let denials : count_by is_denial (verdict ∷ more) ≡ cond (is_denial verdict) 1 0 + count_by is_denial more = sum_by-cons (λ v. cond (is_denial v) 1 0) verdict more in
    let others : count_by is_unmatched (verdict ∷ more) ≡ cond (is_unmatched verdict) 1 0 + count_by is_unmatched more = sum_by-cons (λ v. cond (is_unmatched v) 1 0) verdict more in
    omega (arith, one, rest, permits, denials, others)

peers_length : (n : ℕ) (draws : List ℕ) → length draws ≡ 2 * n → length (peers_of draws) ≡ n
peers_length zero [] e = refl
peers_length (suc n) [] e = absurd (omega (arith, e))
peers_length n (q ∷ []) e = absurd (omega (arith, e))
peers_length zero (q ∷ s ∷ more) e = absurd (omega (arith, e))
peers_length (suc n) (q ∷ s ∷ more) e = ap suc (peers_length n more (omega (arith, e)))

-- as many peers are asked as the drill says
pub asked : (drill : Drill) → length (peers_asked drill) ≡ drill.count
asked drill =
    let all : length (all_draws drill) ≡ 5 * drill.count = length_draws (5 * drill.count) drill.start in
    let left : length (drop (3 * drill.count) (all_draws drill)) ≡ length (all_draws drill) - 3 * drill.count = length-drop (3 * drill.count) (all_draws drill) in
    peers_length drill.count (drop (3 * drill.count) (all_draws drill)) (omega (arith, all, left))

all_counted : (peers : List Peer) (rules : Result RuleBook DrillFault) (tally : Tally) → tallied peers rules ≡ Ok tally → tally.permits + tally.denials + tally.unmatched ≡ length peers
all_counted peers (Err fault) tally e = absurd (cc)
all_counted peers (Ok book) tally e =
    let same : tally_of (map (verdict_of book) peers) ≡ tally = cc in
    ap (λ (t : Tally). t.permits + t.denials + t.unmatched) (sym same) ∙ each_kind (map (verdict_of book) peers) ∙ length-map peers (verdict_of book)

pub add_up : (drill : Drill) (tally : Tally) → drilled drill ≡ Ok tally → tally.permits + tally.denials + tally.unmatched ≡ drill.count
unfolding drilled
add_up drill tally e = all_counted (peers_asked drill) (rules_in (table_text drill)) tally e ∙ asked drill
