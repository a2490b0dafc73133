use Rattle.std.specs.Io.KnownBytes.{Keeps}
use Rattle.real_links.proofs.link_source.read_again.Given as goal

abbrev pub invariant-loop : goal.invariant-loop
invariant-loop g l = Keeps (g.S.Read.remaining l.initial.from) (g.S.Read.remaining l.from)
