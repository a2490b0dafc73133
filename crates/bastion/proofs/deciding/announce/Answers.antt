use Rattle.std.proofs.Common.{refl, subst, ◌∙◌}
use Rattle.std.specs.Prelude.{Ok, Err}
use Rattle.fw_outside.specs.SinkView.{Gives, SinkView}
use Rattle.bastion.proofs.deciding.announce.Goals as goal

pub returns-in-Ok : goal.returns-in-Ok
returns-in-Ok g c = record {
  logging = Ok tt;
  logged = c.print.ensures.logs ∙ rw (← c.decision_line-line.ensures, ← c.as_slice.ensures.value) c.in-Ok.ensures.logs;
  printed = record {
    printing = c.print.result;
    gives = subst (λ (o : SinkView). Gives c.print.result c.args.text.now o c.print.new.self.output) c.in-Ok.ensures.output c.print.ensures.output;
    is = c.announced.ensures;
  };
  files = c.print.ensures.files ∙ c.in-Ok.ensures.files;
  inputs = c.print.ensures.inputs ∙ c.in-Ok.ensures.inputs;
}

pub returns-in-Err : goal.returns-in-Err
returns-in-Err g c = record {
  logging = Err c.in-Err.field-0;
  logged = rw (← c.decision_line-line.ensures, ← c.as_slice.ensures.value) c.in-Err.ensures.logs;
  printed = record { is = refl; output = c.in-Err.ensures.output };
  files = c.in-Err.ensures.files;
  inputs = c.in-Err.ensures.inputs;
}
