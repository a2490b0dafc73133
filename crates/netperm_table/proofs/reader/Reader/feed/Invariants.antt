use Rattle.std.proofs.Common.{◌<◌, ◌≤◌, length}
use Rattle.netperm_table.specs.Progress.{Leads, MayGoOn, farthest, reached}
use Rattle.netperm_table.proofs.reader.Reader.feed.Given as goal

abbrev pub invariant-loop-rest : goal.invariant-loop-rest
invariant-loop-rest l = record {
  leads : Leads l.fn.self l.fn.bytes l.self l.rest;
  goes_on : length l.rest < length l.fn.bytes → MayGoOn l.self;
  shorter : length l.rest ≤ length l.fn.bytes;
  far : reached l.fn.self ≤ reached l.self;
  farther : length l.rest < length l.fn.bytes → reached l.fn.self < reached l.self;
  within : length l.rest < length l.fn.bytes → reached l.self ≤ farthest;
}

abbrev pub decreases-loop-rest : goal.decreases-loop-rest
decreases-loop-rest l = length l.rest
