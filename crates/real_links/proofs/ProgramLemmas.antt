-- What was run last, and how it ended.
use Rattle.std.proofs.Common.{◌≡◌, ℕ, List, Option, Some, None, IfOk, IfSome, Result, Ok, Err, pos, subst, sym}
use Rattle.std.specs.Process.{exit_code}
use Rattle.fw_types.specs.declared.message.Message.{Message}
use Rattle.fw_mail.specs.declared.handed.Handed.{Handed}
use Rattle.fw_mail.specs.declared.handed.Handed.TheVariants.{Accepted, Refused, Failed, NoMemory}
use Rattle.real_links.specs.Programs.{RanAs, Runs}
use Rattle.real_links.specs.MailerPrograms.{MailedAs, Means, RefusedAs, SaidSo}
use Rattle.real_links.specs.declared.ran.Ran.{Ran}

pub ran_as : (result : Option ℕ) (program : List ℕ) (args : List (List ℕ)) (ran : Ran) (last : Option Ran) → Runs program args ran → last ≡ Some ran
    → IfSome result (λ ending. exit_code ran.status ≡ Some (pos ending)) → IfSome result (λ ending. RanAs program args ending last)
ran_as None program args ran last runs is ended = tt
ran_as (Some ending) program args ran last runs is ended = record { ran = ran; is = is; runs = runs; ended = ended }

-- the status says so, and what was run last is as it was
pub said_so : (answer : Handed) (program : List ℕ) (message : Message) (ending : ℕ) (first before now : Option Ran) → Means answer ending → now ≡ before
    → MailedAs program message ending before → SaidSo answer program message first now
said_so Accepted program message ending first before now means same mailed =
    subst (λ last. MailedAs program message 0 last) (sym same) (subst (λ e. MailedAs program message e before) means mailed)
said_so Refused program message ending first before now means same mailed = record {
  ending = ending;
  mailed = subst (λ last. MailedAs program message ending last) (sym same) mailed;
  not_accepted = means.0;
  not_failed = means.1;
}
said_so Failed program message ending first before now means same mailed = tt
said_so NoMemory program message ending first before now means same mailed = absurd means
