use Rattle.std.proofs.Common.{◌≡◌, take}
use Rattle.std.specs.Process.{command_args, command_program}
use Rattle.real_links.specs.Commands.{IsPlain}
use Rattle.real_links.proofs.command.command.Given as goal

abbrev pub invariant-loop-arg : goal.invariant-loop-arg
invariant-loop-arg l = record {
  program : command_program l.command ≡ l.program;
  args : command_args l.command ≡ take l.arg-index l.args;
  plain : IsPlain l.command;
}
