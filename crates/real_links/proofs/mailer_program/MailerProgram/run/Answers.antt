use Rattle.std.proofs.Common.{Option, IfSome, subst}
use Rattle.real_links.specs.MailerPrograms.{mail_args}
use Rattle.real_links.specs.Programs.{Runs}
use Rattle.real_links.specs.declared.ran.Ran.{Ran}
use Rattle.real_links.proofs.ProgramLemmas.{ran_as}
use Rattle.real_links.proofs.mailer_program.MailerProgram.run.Goals as goal

pub returns-in-Ok-Some-clause-ran : goal.returns-in-Ok-Some-clause-ran
returns-in-Ok-Some-clause-ran c =
    let runs = subst (λ (found : Option Ran). IfSome found (Runs c.args.self.now.program (mail_args c.args.message.now))) c.in-Ok-Some.field-0-is c.in-Ok-Some.ensures in
    ran_as c.note.result _ _ c.in-Ok-Some.ran _ runs c.note.ensures.noted c.note.ensures.ended
