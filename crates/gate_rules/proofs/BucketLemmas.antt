-- A rule outside a peer's bucket doesn't match the peer.
use Rattle.std.proofs.Common.{◌≡◌, ℕ, ◌<◌, Bool, true, false, List, [], ◌∷◌, length, get_or, refl, sym, ◌∙◌, ap, arith}
use Rattle.std.specs.Prelude.{filter, find, slice_index, Some, None}
use Rattle.fw_types.specs.declared.peer.Peer.{Peer}
use Rattle.host_pattern.proofs.BucketLaws.{lists}
use Rattle.gate_rules.specs.declared.rule.Rule.{Rule}
use Rattle.gate_rules.specs.Bucket.{bucket, in_bucket, stands_in}
use Rattle.gate_rules.specs.Verdict.{decided_by, rule_matches}

-- what never matches needn't be looked at
find_kept : (m b : Rule → Bool) → ((rule : Rule) → m rule ≡ true → b rule ≡ true) → (rules : List Rule) → find m (filter b rules) ≡ find m rules
find_kept m b passes [] = refl
find_kept m b passes (rule ∷ rules) = by (m rule) (b rule) refl refl (find_kept m b passes rules)
  where
    by : (u v : Bool) → m rule ≡ u → b rule ≡ v → find m (filter b rules) ≡ find m rules → find m (filter b (rule ∷ rules)) ≡ find m (rule ∷ rules)
    by true v is kept more = rw (is, passes rule is, is) refl
    by false true is kept more = rw (kept, is) more
    by false false is kept more = rw (kept, is) more

four : (addr : List ℕ) → length addr ≡ 4 → addr ≡ get_or addr 0 0 ∷ get_or addr 1 0 ∷ get_or addr 2 0 ∷ get_or addr 3 0 ∷ []
four (a ∷ b ∷ c ∷ d ∷ []) h = refl
four [] h = absurd (omega arith)
four (a ∷ []) h = absurd (omega arith)
four (a ∷ b ∷ []) h = absurd (omega arith)
four (a ∷ b ∷ c ∷ []) h = absurd (omega arith)
four (a ∷ b ∷ c ∷ d ∷ e ∷ more) h = absurd (omega arith)

pub same_bucket : (peer : Peer) (rules : List Rule) (addr : List ℕ) (octet : ℕ) → peer.addr ≡ Some addr → octet ≡ slice_index addr 0 → filter (stands_in octet) rules ≡ bucket peer rules
same_bucket peer rules addr octet at is = rw (at, is) refl

pub same_answer : (peer : Peer) (rules : List Rule) (addr : List ℕ) (octet : ℕ) → peer.addr ≡ Some addr → length addr ≡ 4 → octet ≡ slice_index addr 0 → octet < 256
    → decided_by (find (rule_matches peer) (filter (stands_in octet) rules)) ≡ decided_by (find (rule_matches peer) rules)
same_answer peer rules addr octet at long is small =
    let parts : peer.addr ≡ Some (octet ∷ get_or addr 1 0 ∷ get_or addr 2 0 ∷ get_or addr 3 0 ∷ []) =
    at ∙ ap Some (four addr long ∙ ap (λ a. a ∷ get_or addr 1 0 ∷ get_or addr 2 0 ∷ get_or addr 3 0 ∷ []) (sym is)) in
    ap decided_by (find_kept (rule_matches peer) (stands_in octet) (λ rule h. lists rule.hosts peer octet (get_or addr 1 0) (get_or addr 2 0) (get_or addr 3 0) parts small h) rules)

all_kept : (rules : List Rule) → filter (λ rule. true) rules ≡ rules
all_kept [] = refl
all_kept (rule ∷ rules) = ap (λ rs. rule ∷ rs) (all_kept rules)

-- a peer without an address has every rule in its bucket
pub whole_bucket : (peer : Peer) (rules : List Rule) → peer.addr ≡ None → bucket peer rules ≡ rules
whole_bucket peer rules none = ap (λ addr. filter (in_bucket addr) rules) none ∙ all_kept rules
