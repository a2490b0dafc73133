-- What the machine answers, as plain data.
use Rattle.std.specs.Prelude.{ℕ, Bool, List, Option, Some, None}
use Rattle.auth_records.specs.Spelling.{Fields, OtpFields}
use Rattle.auth_records.specs.declared.record.Proto.{Proto}
use Rattle.auth_records.specs.declared.record.Wiz.{Wiz}
use Rattle.auth_events.specs.declared.denial.Denial.{Denial}
use Rattle.auth_events.specs.declared.reply.Reply.{Reply}
use Rattle.auth_events.specs.declared.reply.Reply.TheVariants as replies
use Rattle.auth_events.specs.declared.reply.Summary.{Summary}

-- what is shown of a record
pub record Profile : Type 0 where
  pub name : List ℕ
  pub group : Option (List ℕ)
  pub proto : Proto
  pub enabled : Bool
  pub wiz : Wiz
  pub fails : ℕ
  pub number : ℕ
  pub last : ℕ
  pub expires : ℕ
  pub long : List ℕ

pub data Answer : Type 0 where
  Opened : (sid : ℕ) → Answer
  Password : Answer
  Challenged : (number : ℕ) (word_seed : List ℕ) → Answer
  Ok : Answer
  Shown : (profile : Profile) → Answer
  Denied : (denial : Denial) → Answer

-- how many one-time passwords are left: none where there are no such passwords
abbrev pub number_left : Option OtpFields → ℕ
number_left None = 0
number_left (Some otp) = otp.number

-- what is shown of a record
abbrev pub profile_of : Fields → Profile
profile_of f = record { name = f.name; group = f.group; proto = f.proto; enabled = f.enabled; wiz = f.wiz; fails = f.fails; number = number_left f.otp; last = f.last; expires = f.expires; long = f.long }

-- a reply without what its type says of it
abbrev pub summary_profile : Summary → Profile
summary_profile s = record { name = s.name; group = s.group; proto = s.proto; enabled = s.enabled; wiz = s.wiz; fails = s.fails; number = s.number; last = s.last; expires = s.expires; long = s.long }

abbrev pub answer_of : Reply → Answer
answer_of (replies.Opened sid) = Opened sid
answer_of replies.Password = Password
answer_of (replies.Challenge number word_seed) = Challenged number word_seed
answer_of replies.Ok = Ok
answer_of (replies.Shown summary) = Shown (summary_profile summary)
answer_of (replies.Denied denial) = Denied denial
