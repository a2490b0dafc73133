use Rattle.std.proofs.Common.{◌≡◌, ◌≤◌, map, take}
use Rattle.arrayvec.specs.ArrayVec.{array_vec_len}
use Rattle.host_pattern.specs.declared.bucket.Bucket.TheVariants.{Octet}
use Rattle.host_pattern.specs.Bucket.{buckets}
use Rattle.host_pattern.specs.Pattern.{read_as}
use Rattle.host_pattern.proofs.list.octets_of.Given as goal

abbrev pub invariant-loop-text : goal.invariant-loop-text
invariant-loop-text l = record {
  octets : map Octet l.octets.items ≡ take l.text-index (buckets (map read_as l.texts));
  room : array_vec_len l.octets ≤ l.text-index;
}
