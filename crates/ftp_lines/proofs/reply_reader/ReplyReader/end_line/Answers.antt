use Rattle.std.proofs.Common.{ap, length, ◌+◌, ◌∙◌, refl}
use Rattle.ftp_lines.specs.ReplyLineView.{ReplyLineView, going}
use Rattle.ftp_lines.specs.ReplyReaderView.{ReplyReaderView}
use Rattle.ftp_lines.specs.Reply.{first_reply}
use Rattle.ftp_lines.proofs.ReplyLemmas.{answered, first_reply-empty}
use Rattle.ftp_lines.proofs.ReaderStateLemmas.{Ends, ends_answer, ends_heard, ends_stands, stands_first}
use Rattle.ftp_lines.proofs.reply_reader.ReplyReader.end_line.Goals as goal

pub invariant_of-self : goal.invariant_of-self
invariant_of-self c =
    stands_first c.nothing.result.value c.end.new.self c.nothing.ensures (ap (λ (g : ReplyLineView). going g.kept g.ended) c.end.ensures)

pub invariant_of-self-in-None : goal.invariant_of-self-in-None
invariant_of-self-in-None c =
    let ends : Ends c.self.inside.fed.value c.args.self.now.fed c.self.inside.opening c.self.inside.line c.end.new.self c.text.result.now c.closing_code.result =
    record {
      stands = c.self.invariant;
      was = ap (λ (r : ReplyReaderView). r.fed) c.self.view_is;
      is = c.end.ensures;
      text_is = c.text.ensures;
      code_is = c.closing_code.ensures;
    } in
    ends_stands _ _ c.and.result.value _ c.behind-self-inside.result _ _ _ c.text-in-None.result.now _ ends c.in-None.is (rw c.replace.ensures.value at c.and.ensures)
    c.text-in-None.ensures c.behind-self-inside.ensures

pub returns-in-Some-clause-step : goal.returns-in-Some-clause-step
returns-in-Some-clause-step c =
    let ends : Ends c.self.inside.fed.value c.args.self.now.fed c.self.inside.opening c.self.inside.line c.end.new.self c.text.result.now c.closing_code.result =
    record {
      stands = c.self.invariant;
      was = ap (λ (r : ReplyReaderView). r.fed) c.self.view_is;
      is = c.end.ensures;
      text_is = c.text.ensures;
      code_is = c.closing_code.ensures;
    } in
    let reply = ends_answer _ _ _ _ _ _ _ ends in
    rw (reply, c.in-Some.is) refl

pub returns-in-Some-clause-reply : goal.returns-in-Some-clause-reply
returns-in-Some-clause-reply c =
    let ends : Ends c.self.inside.fed.value c.args.self.now.fed c.self.inside.opening c.self.inside.line c.end.new.self c.text.result.now c.closing_code.result =
    record {
      stands = c.self.invariant;
      was = ap (λ (r : ReplyReaderView). r.fed) c.self.view_is;
      is = c.end.ensures;
      text_is = c.text.ensures;
      code_is = c.closing_code.ensures;
    } in
    ends_answer _ _ _ _ _ _ _ ends ∙ ap (answered (length c.args.self.now.fed + 1)) c.in-Some.is

pub returns-in-Some-clause-line : goal.returns-in-Some-clause-line
returns-in-Some-clause-line c =
    let ends : Ends c.self.inside.fed.value c.args.self.now.fed c.self.inside.opening c.self.inside.line c.end.new.self c.text.result.now c.closing_code.result =
    record {
      stands = c.self.invariant;
      was = ap (λ (r : ReplyReaderView). r.fed) c.self.view_is;
      is = c.end.ensures;
      text_is = c.text.ensures;
      code_is = c.closing_code.ensures;
    } in
    ends_heard _ _ _ _ _ _ _ ends

pub returns-in-Some-clause-unended : goal.returns-in-Some-clause-unended
returns-in-Some-clause-unended c = ap first_reply c.nothing.ensures ∙ first_reply-empty

pub returns-in-None-clause-step : goal.returns-in-None-clause-step
returns-in-None-clause-step c =
    let ends : Ends c.self.inside.fed.value c.args.self.now.fed c.self.inside.opening c.self.inside.line c.end.new.self c.text.result.now c.closing_code.result =
    record {
      stands = c.self.invariant;
      was = ap (λ (r : ReplyReaderView). r.fed) c.self.view_is;
      is = c.end.ensures;
      text_is = c.text.ensures;
      code_is = c.closing_code.ensures;
    } in
    let reply = ends_answer _ _ _ _ _ _ _ ends in
    rw (reply, c.in-None.is) refl

pub returns-in-None-clause-reply : goal.returns-in-None-clause-reply
returns-in-None-clause-reply c =
    let ends : Ends c.self.inside.fed.value c.args.self.now.fed c.self.inside.opening c.self.inside.line c.end.new.self c.text.result.now c.closing_code.result =
    record {
      stands = c.self.invariant;
      was = ap (λ (r : ReplyReaderView). r.fed) c.self.view_is;
      is = c.end.ensures;
      text_is = c.text.ensures;
      code_is = c.closing_code.ensures;
    } in
    ends_answer _ _ _ _ _ _ _ ends ∙ ap (answered (length c.args.self.now.fed + 1)) c.in-None.is

pub returns-in-None-clause-line : goal.returns-in-None-clause-line
returns-in-None-clause-line c =
    let ends : Ends c.self.inside.fed.value c.args.self.now.fed c.self.inside.opening c.self.inside.line c.end.new.self c.text.result.now c.closing_code.result =
    record {
      stands = c.self.invariant;
      was = ap (λ (r : ReplyReaderView). r.fed) c.self.view_is;
      is = c.end.ensures;
      text_is = c.text.ensures;
      code_is = c.closing_code.ensures;
    } in
    ends_heard _ _ _ _ _ _ _ ends

pub returns-in-None-clause-unended : goal.returns-in-None-clause-unended
returns-in-None-clause-unended c = let stands = invariant_of-self-in-None c in stands.going_on
