use Rattle.std.proofs.Common.{refl, subst, ◌∙◌, List, ℕ}
use Rattle.fw_outside.specs.SinkView.{Gives, SinkView}
use Rattle.fw_outside.specs.declared.started.Started.TheVariants as program
use Rattle.bastion.proofs.starting.launch.Goals as goal

pub returns-in-Ended : goal.returns-in-Ended
returns-in-Ended g c = record {
  answer = program.Ended c.in-Ended.status;
  after = c.start.new.self.inputs.launcher;
  starts = c.in-Ended.ensures.starts;
  inputs = c.print.ensures.inputs ∙ c.in-Ended.ensures.inputs;
  printed = record {
    printing = c.print.result;
    gives =
        subst (λ (t : List ℕ). Gives c.print.result t c.args.world.now.output c.print.new.self.output) (c.as_slice.ensures.value ∙ c.ended_line.ensures)
        (subst (λ (o : SinkView). Gives c.print.result c.as_slice.result.now o c.print.new.self.output) c.in-Ended.ensures.output c.print.ensures.output);
    is = c.shown.ensures;
  };
  logs = c.print.ensures.logs ∙ c.in-Ended.ensures.logs;
  files = c.print.ensures.files ∙ c.in-Ended.ensures.files;
}

pub returns-in-Failed : goal.returns-in-Failed
returns-in-Failed g c = record {
  answer = program.Failed;
  after = c.start.new.self.inputs.launcher;
  starts = c.in-Failed.ensures.starts;
  inputs = c.in-Failed.ensures.inputs;
  printed = (refl, c.in-Failed.ensures.output);
  logs = c.in-Failed.ensures.logs;
  files = c.in-Failed.ensures.files;
}
