use Rattle.authsrv_lines.proofs.RequestLineLemmas.{line_reads}
use Rattle.authsrv_lines.proofs.request_writing.wire_text.Goals as goal

pub returns-clause-reads : goal.returns-clause-reads
returns-clause-reads c =
    line_reads c.args.request.now c.write_line.new.out.items c.write_line.result c.write_line.ensures.form c.write_line.ensures.told c.write_line.ensures.line
