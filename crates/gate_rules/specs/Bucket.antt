-- Which rules stand in the bucket of a peer.
use Rattle.std.specs.Prelude.{ℕ, Bool, true, List, filter, slice_index, Option, Some, None}
use Rattle.fw_types.specs.declared.peer.Peer.{Peer}
use Rattle.host_pattern.specs.Bucket.{list_reaches}
use Rattle.gate_rules.specs.declared.rule.Rule.{Rule}

-- a rule stands in the bucket of an octet where some pattern of its list belongs to this octet or to every one
abbrev pub stands_in : ℕ → Rule → Bool
stands_in octet rule = list_reaches octet rule.hosts

-- a peer without an address has a bucket with every rule
abbrev pub in_bucket : Option (List ℕ) → Rule → Bool
in_bucket None rule = true
in_bucket (Some addr) rule = stands_in (slice_index addr 0) rule

-- the rules of a peer's bucket, in order
abbrev pub bucket : Peer → List Rule → List Rule
bucket peer rules = filter (in_bucket peer.addr) rules
