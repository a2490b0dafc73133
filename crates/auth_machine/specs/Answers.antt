-- Replies that the rules don't give by themselves: that the history is full, and that a change wasn't kept.
use Rattle.std.specs.Prelude.{◌≡◌, ℕ, Bool, true, false, Option, Some, None}
use Rattle.auth_events.specs.declared.denial.Denial.{Denial}
use Rattle.auth_events.specs.declared.denial.Denial.TheVariants.{Full, NotKept}
use Rattle.auth_events.specs.declared.reply.Reply.{Reply}
use Rattle.auth_events.specs.declared.reply.Reply.TheVariants as replies
use Rattle.auth_machine.specs.Answer.{Answer}
use Rattle.auth_machine.specs.Answer.Answer.{Opened, Password, Challenged, Ok, Shown, Denied}

-- how many entries fit, where a denial says that they are there
abbrev pub full_denial : Denial → Option ℕ
full_denial (Full limit) = Some limit
full_denial _ = None

abbrev pub is_unkept_denial : Denial → Bool
is_unkept_denial NotKept = true
is_unkept_denial _ = false

-- the same of a reply
abbrev pub full_of : Reply → Option ℕ
full_of (replies.Opened sid) = None
full_of replies.Password = None
full_of (replies.Challenge number word_seed) = None
full_of replies.Ok = None
full_of (replies.Shown summary) = None
full_of (replies.Denied denial) = full_denial denial

abbrev pub is_unkept : Reply → Bool
is_unkept (replies.Opened sid) = false
is_unkept replies.Password = false
is_unkept (replies.Challenge number word_seed) = false
is_unkept replies.Ok = false
is_unkept (replies.Shown summary) = false
is_unkept (replies.Denied denial) = is_unkept_denial denial

-- the same of an answer
abbrev pub full_answer : Answer → Option ℕ
full_answer (Opened sid) = None
full_answer Password = None
full_answer (Challenged number word_seed) = None
full_answer Ok = None
full_answer (Shown profile) = None
full_answer (Denied denial) = full_denial denial

abbrev pub is_unkept_answer : Answer → Bool
is_unkept_answer (Opened sid) = false
is_unkept_answer Password = false
is_unkept_answer (Challenged number word_seed) = false
is_unkept_answer Ok = false
is_unkept_answer (Shown profile) = false
is_unkept_answer (Denied denial) = is_unkept_denial denial

-- the rules may give this denial by themselves
abbrev pub IsOwnDenial : Denial → Type 0
IsOwnDenial denial = (full_denial denial ≡ None) × (is_unkept_denial denial ≡ false)
