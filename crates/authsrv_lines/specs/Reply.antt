-- The text of each reply, without the line's end.
use Rattle.std.specs.Prelude.{◌≡◌, ℕ, ◌<◌, ◌≤◌, ◌^◌, Bool, true, false, IsTrue, List, ◌++◌, Option, Some, None, IfSome, codes}
use Rattle.std.specs.Fmt.{decimal}
use Rattle.fw_types.specs.Name.{is_name}
use Rattle.auth_records.specs.Texts.{is_long_name, is_seed}
use Rattle.auth_records.specs.declared.record.Proto.{Proto}
use Rattle.auth_records.specs.declared.record.Proto.TheVariants as protos
use Rattle.auth_records.specs.declared.record.Wiz.{Wiz}
use Rattle.auth_records.specs.declared.record.Wiz.TheVariants as wizards
use Rattle.otp_md5.specs.Challenge.{challenge}
use Rattle.auth_events.specs.declared.denial.Denial.{Denial}
use Rattle.auth_events.specs.declared.denial.Denial.TheVariants.{Unknown, Wrong, Disabled, Expired, Sleeping, Busy, Exhausted, NoChallenge, NotIn, NotWizard, Exists, NoSuch, NoRule, Full, Closed, NotKept}
use Rattle.auth_events.specs.declared.reply.Summary.{Summary}
use Rattle.auth_events.specs.declared.reply.Reply.{Reply}
use Rattle.auth_events.specs.declared.reply.Reply.TheVariants as replies

-- ---- denials

-- why, behind `denied `
abbrev pub cause : Denial → List ℕ
cause Unknown = codes "unknown user"
cause Wrong = codes "wrong response"
cause Disabled = codes "disabled"
cause (Expired at) = codes "expired " ++ decimal at
cause (Sleeping until) = codes "sleeping until " ++ decimal until
cause (Busy sid until) = codes "busy " ++ decimal sid ++ codes " until " ++ decimal until
cause Exhausted = codes "no passwords left"
cause NoChallenge = codes "no challenge"
cause NotIn = codes "not logged in"
cause NotWizard = codes "not a wizard"
cause Exists = codes "exists"
cause NoSuch = codes "no such user"
cause (NoRule line) = codes "no rule line " ++ decimal line
cause (Full limit) = codes "full " ++ decimal limit
cause Closed = codes "closed"
cause NotKept = codes "not kept"

abbrev pub denial_line : Denial → List ℕ
denial_line denial = codes "denied " ++ cause denial

-- ---- what is shown of a user

-- the group's name, or `-` for none
abbrev pub group_text : Option (List ℕ) → List ℕ
group_text None = codes "-"
group_text (Some group) = group

abbrev pub proto_text : Proto → List ℕ
proto_text protos.None = codes "none"
proto_text protos.Plain = codes "plain"
proto_text protos.Otp = codes "otp"

abbrev pub state_text : Bool → List ℕ
state_text true = codes "enabled"
state_text false = codes "disabled"

abbrev pub wiz_text : Wiz → List ℕ
wiz_text wizards.None = codes "none"
wiz_text wizards.Group = codes "group"
wiz_text wizards.Super = codes "super"

-- who it is
abbrev pub identity : Summary → List ℕ
identity s = codes "user " ++ s.name ++ codes " group " ++ group_text s.group

-- what the user may do
abbrev pub rights : Summary → List ℕ
rights s = codes " proto " ++ proto_text s.proto ++ codes " state " ++ state_text s.enabled ++ codes " wiz " ++ wiz_text s.wiz

-- the counts
abbrev pub counts : Summary → List ℕ
counts s = codes " fails " ++ decimal s.fails ++ codes " number " ++ decimal s.number

-- the last right response, and the end
abbrev pub dates : Summary → List ℕ
dates s = codes " last " ++ decimal s.last ++ codes " expires " ++ decimal s.expires

-- the name in full
abbrev pub in_full : Summary → List ℕ
in_full s = codes " long " ++ s.long

unfoldable pub summary_line : Summary → List ℕ
summary_line s = identity s ++ rights s ++ counts s ++ dates s ++ in_full s

-- ---- replies

abbrev pub reply_line : Reply → List ℕ
reply_line (replies.Opened _) = codes "authsrv ready"
reply_line replies.Password = codes "password"
reply_line (replies.Challenge number word_seed) = codes "challenge " ++ challenge number word_seed
reply_line replies.Ok = codes "ok"
reply_line (replies.Shown summary) = summary_line summary
reply_line (replies.Denied denial) = denial_line denial

-- ---- what the types say of replies

abbrev pub IsDenial : Denial → Type 0
IsDenial (Expired at) = at < 2 ^ 64
IsDenial (Sleeping until) = until < 2 ^ 64
IsDenial (Busy sid until) = (sid < 2 ^ 64) × (until < 2 ^ 64)
IsDenial (NoRule line) = line < 2 ^ 32
IsDenial (Full limit) = limit < 2 ^ 64
IsDenial _ = Unit {0}

pub record IsSummary (s : Summary) : Type 0 where
  pub name : IsTrue (is_name s.name)
  pub group : IfSome s.group (λ group. IsTrue (is_name group))
  pub fails : s.fails ≤ 5
  pub number : s.number ≤ 9999
  pub last : s.last < 2 ^ 64
  pub expires : s.expires < 2 ^ 64
  pub long : IsTrue (is_long_name s.long)

-- what every value of the type `Reply` is
abbrev pub IsReply : Reply → Type 0
IsReply (replies.Opened sid) = sid < 2 ^ 64
IsReply replies.Password = Unit {0}
IsReply (replies.Challenge number word_seed) = (number < 2 ^ 32) × IsTrue (is_seed word_seed)
IsReply replies.Ok = Unit {0}
IsReply (replies.Shown summary) = IsSummary summary
IsReply (replies.Denied denial) = IsDenial denial

-- whether the text holds all of the reply: that of an Opened doesn't hold the session's number
abbrev pub is_whole : Reply → Bool
is_whole (replies.Opened _) = false
is_whole _ = true

-- the reply's text is this line, which holds all of it
pub record Says (line : List ℕ) (reply : Reply) : Type 0 where
  pub whole : IsTrue (is_whole reply)
  pub is_reply : IsReply reply
  pub text : reply_line reply ≡ line

-- what reading a line answers: the reply that it says, or nothing where it says none
abbrev pub ReadsReply : List ℕ → Option Reply → Type 0
ReadsReply line (Some reply) = Says line reply
ReadsReply line None = (reply : Reply) → ¬ (Says line reply)
