use Rattle.session_acts.proofs.DataLemmas.{gathered_end, gathered_stop, gathering_from, gathering_more}
use Rattle.telnet_hearing.proofs.HearingLemmas.{byte_nearer}
use Rattle.session_acts.proofs.depositing.hear_data.Goals as goal

pub loop-byte-init : goal.loop-byte-init
loop-byte-init g c = gathering_from _ c.args.reader.now (g.S.Source.source_view c.args.from.now) c.args.left.now c.args.tray c.new-body.ensures c.requires.fits

pub loop-byte-smaller : goal.loop-byte-smaller
loop-byte-smaller g c = byte_nearer c.in-Ok.byte _ _ _ _ c.in-Ok.ensures.reads

pub loop-byte-preserved : goal.loop-byte-preserved
loop-byte-preserved g c = gathering_more _ _ c.in-Ok.byte c.deref.result.now c.in-Bytes.bytes.items _ _ _ _ _ _ _ _ _ _ _ _ c.loop-byte.invariant c.in-Ok.ensures.reads c.deref.ensures.0 c.in-Bytes.ensures.gives c.in-Bytes.ensures.prompt c.lay-tray.ensures.tray c.lay-tray.ensures.fits c.lay-tray.ensures.number

pub returns-in-End-clause-heard : goal.returns-in-End-clause-heard
returns-in-End-clause-heard g c = gathered_end _ c.feed.new.self c.in-Ok.byte _ _ _ _ _ _ _ _ _ _ c.loop-byte.invariant c.in-Ok.ensures.reads c.in-Ok.ensures.near c.in-End.ensures.gives

pub returns-in-Err-clause-heard : goal.returns-in-Err-clause-heard
returns-in-Err-clause-heard g c = gathered_stop c.in-Err.stop _ _ _ _ _ _ _ _ _ _ _ c.loop-byte.invariant c.in-Err.ensures.reads c.in-Err.ensures.near
