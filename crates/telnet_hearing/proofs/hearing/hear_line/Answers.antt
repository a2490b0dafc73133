use Rattle.telnet_hearing.proofs.HearingLemmas.{byte_nearer, listens_line, listens_stopped, telling_from, telling_more}
use Rattle.telnet_hearing.proofs.hearing.hear_line.Goals as goal

pub loop-byte-init : goal.loop-byte-init
loop-byte-init g c = telling_from _ c.args.reader.now (g.S.Source.source_view c.args.from.now) c.new-telnet.ensures

pub returns-in-Err-clause-listens : goal.returns-in-Err-clause-listens
returns-in-Err-clause-listens g c = listens_stopped c.in-Err.stop _ _ _ _ _ _ _ c.loop-byte.invariant c.in-Err.ensures.reads

pub returns-in-Some-clause-listens : goal.returns-in-Some-clause-listens
returns-in-Some-clause-listens g c = listens_line c.in-Some.heard _ _ c.in-Ok.byte _ _ _ _ _ _ c.loop-byte.invariant c.in-Ok.ensures.reads c.in-Some.ensures.some

pub loop-byte-smaller : goal.loop-byte-smaller
loop-byte-smaller g c = byte_nearer c.in-Ok.byte _ _ _ _ c.in-Ok.ensures.reads

pub loop-byte-preserved : goal.loop-byte-preserved
loop-byte-preserved g c = telling_more _ _ c.in-Ok.byte _ _ _ _ _ _ c.loop-byte.invariant c.in-Ok.ensures.reads c.in_default.ensures.none
