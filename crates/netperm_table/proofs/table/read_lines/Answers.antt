use Rattle.std.proofs.Common.{rules, sym, subst, Err}
use Rattle.netperm_table.specs.Progress.{Progress}
use Rattle.netperm_table.specs.Taking.{SourceAfterRead, TookToFault}
use Rattle.netperm_table.proofs.ProgressLemmas.{passed_up}
use Rattle.netperm_table.proofs.StopLemmas.{err_all, goes_at_start, stops_ended, stops_failed, stops_there}
use Rattle.netperm_table.proofs.TakingLemmas.{ReadsOn, leaves_fault, reads_more, reads_nothing, took_more}
use Rattle.netperm_table.proofs.table.read_lines.Goals as goal

pub loop-reader-init : goal.loop-reader-init
loop-reader-init g c =
    let P : Progress → Type 0 = λ p. ReadsOn (g.S.Source.source_view c.args.from.now) (g.S.Source.source_view c.args.from.now) p in
    record {
      reads = subst P (sym c.new-reader.ensures) (reads_nothing (g.S.Source.source_view c.args.from.now));
      goes_on = rw c.new-reader.ensures goes_at_start;
      within = search rules;
    }

pub loop-reader-preserved : goal.loop-reader-preserved
loop-reader-preserved g c = record {
  reads = reads_more _ _ _ _ _ c.in-Some.count c.next_piece.new.buffer c.loop-reader.invariant.reads (rw c.in-Some.is at c.in_ok-count.ensures.ok) c.in_ok-feed.ensures.ok;
  goes_on = search rules;
  within = search rules;
}

pub returns-in_err-feed-clause-source : goal.returns-in_err-feed-clause-source
returns-in_err-feed-clause-source g c =
    passed_up (λ e. SourceAfterRead (Err e) (g.S.Source.source_view c.args.from.now) (g.S.Source.source_view c.next_piece.new.from)) c.from_residual-in_err-feed.result c.in_err-feed.field-0.0 c.from_residual-in_err-feed.ensures.1
    (leaves_fault _ _ c.in_err-feed.field-0.0 c.in_err-feed.ensures.own (took_more _ _ _ _ c.in-Some.count c.next_piece.new.buffer c.loop-reader.invariant.reads (rw c.in-Some.is at c.in_ok-count.ensures.ok)))

pub returns-in_err-feed-clause-stops : goal.returns-in_err-feed-clause-stops
returns-in_err-feed-clause-stops g c =
    passed_up (λ e. TookToFault e (g.S.Source.source_view c.args.from.now) (g.S.Source.source_view c.next_piece.new.from)) c.from_residual-in_err-feed.result c.in_err-feed.field-0.0 c.from_residual-in_err-feed.ensures.1
    (stops_there _ _ _ _ c.in-Some.count c.next_piece.new.buffer c.in_err-feed.field-0.0 c.loop-reader.invariant.reads (rw c.in-Some.is at c.in_ok-count.ensures.ok) c.loop-reader.invariant.goes_on (search rules) c.in_err-feed.ensures.own)

pub returns-in_err-count-clause-stops : goal.returns-in_err-count-clause-stops
returns-in_err-count-clause-stops g c =
    passed_up (λ e. TookToFault e (g.S.Source.source_view c.args.from.now) (g.S.Source.source_view c.next_piece.new.from)) c.from_residual.result c.in_err-count.field-0.0 c.from_residual.ensures.1
    (stops_failed _ _ _ _ c.in_err-count.field-0.0 c.loop-reader.invariant.reads c.loop-reader.invariant.goes_on c.in_err-count.ensures.stopped)

pub returns-clause-stops : goal.returns-clause-stops
returns-clause-stops g c =
    err_all (λ e. TookToFault e (g.S.Source.source_view c.args.from.now) (g.S.Source.source_view c.next_piece.new.from)) c.finish.result
    (λ e. stops_ended _ _ _ _ e c.loop-reader.invariant.reads c.loop-reader.invariant.goes_on (rw c.in_default.is at c.in_ok-count.ensures.ok))
