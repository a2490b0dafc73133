-- Which reply a line seems to say. Words are cut at single spaces, and only those that tell values are read: whether the
-- line is the text of that reply is seen by writing it.
-- No public clause cites these: they say what private functions answer.
use Rattle.std.specs.Prelude.{ℕ, ◌==◌, Bool, true, false, not, List, take, drop, Option, Some, None, option_map, codes, nat_eq, if◌then◌else◌}
use Rattle.std.specs.List.{prefix_len, starts_with}
use Rattle.std.specs.Str.{bytes_eq}
use Rattle.fw_types.specs.Name.{name_of}
use Rattle.auth_records.specs.Texts.{long_name_of, seed_of}
use Rattle.auth_records.specs.declared.record.Proto.{Proto}
use Rattle.auth_records.specs.declared.record.Wiz.{Wiz}
use Rattle.auth_records.specs.declared.record.Wiz.TheVariants as wizards
use Rattle.auth_events.specs.declared.denial.Denial.{Denial}
use Rattle.auth_events.specs.declared.denial.Denial.TheVariants.{Unknown, Wrong, Disabled, Expired, Sleeping, Busy, Exhausted, NoChallenge, NotIn, NotWizard, Exists, NoSuch, NoRule, Full, Closed, NotKept}
use Rattle.auth_events.specs.declared.reply.Summary.{Summary}
use Rattle.auth_events.specs.declared.reply.Reply.{Reply}
use Rattle.auth_events.specs.declared.reply.Reply.TheVariants as replies
use Rattle.authsrv_lines.specs.Number.{number_up_to}
use Rattle.authsrv_lines.specs.Request.{proto_named}

abbrev pub to_space : List ℕ → ℕ
to_space text = prefix_len (λ b. not (b == 32)) text

-- the bytes before the first space
abbrev pub field : List ℕ → List ℕ
field text = take (to_space text) text

-- the bytes behind the first space
abbrev pub behind : List ℕ → List ℕ
behind text = drop 1 (drop (to_space text) text)

-- the bytes behind the second space
unfoldable pub after_two_spaces : List ℕ → List ℕ
after_two_spaces text = behind (behind text)

-- ---- denials, behind `denied `

abbrev pub plain_denial : List ℕ → Option Denial
plain_denial text =
    if bytes_eq text (codes "unknown user") then Some Unknown
    else if bytes_eq text (codes "wrong response") then Some Wrong
    else if bytes_eq text (codes "disabled") then Some Disabled
    else if bytes_eq text (codes "no passwords left") then Some Exhausted
    else if bytes_eq text (codes "no challenge") then Some NoChallenge
    else if bytes_eq text (codes "not logged in") then Some NotIn
    else if bytes_eq text (codes "not a wizard") then Some NotWizard
    else if bytes_eq text (codes "exists") then Some Exists
    else if bytes_eq text (codes "no such user") then Some NoSuch
    else if bytes_eq text (codes "closed") then Some Closed
    else if bytes_eq text (codes "not kept") then Some NotKept
    else None

abbrev pub busy : Option ℕ → Option ℕ → Option Denial
busy (Some sid) (Some until) = Some (Busy sid until)
busy _ _ = None

abbrev pub longest : ℕ
longest = 18446744073709551615

abbrev pub limited_denial : List ℕ → Option Denial
limited_denial text =
    if starts_with nat_eq text (codes "no rule line ") then option_map (λ n. NoRule n) (number_up_to 4294967295 (drop 13 text))
    else if starts_with nat_eq text (codes "full ") then option_map (λ n. Full n) (number_up_to longest (drop 5 text))
    else None

abbrev pub counted_denial : List ℕ → Option Denial
counted_denial text =
    if starts_with nat_eq text (codes "sleeping until ") then option_map (λ n. Sleeping n) (number_up_to longest (drop 15 text))
    else if starts_with nat_eq text (codes "expired ") then option_map (λ n. Expired n) (number_up_to longest (drop 8 text))
    else if starts_with nat_eq text (codes "busy ") then busy (number_up_to longest (field (drop 5 text))) (number_up_to longest (after_two_spaces (drop 5 text)))
    else limited_denial text

abbrev pub or_counted : Option Denial → Option Denial → Option Denial
or_counted (Some denial) other = Some denial
or_counted None other = other

unfoldable pub denial_of : List ℕ → Option Denial
denial_of text = or_counted (plain_denial text) (counted_denial text)

-- ---- a challenge, behind `challenge `

abbrev pub challenge_with : Option ℕ → Option (List ℕ) → Option Reply
challenge_with (Some number) (Some word_seed) = Some (replies.Challenge number word_seed)
challenge_with _ _ = None

unfoldable pub challenge_of : List ℕ → Option Reply
challenge_of text = challenge_with (number_up_to 4294967295 (field (behind text))) (seed_of (after_two_spaces text))

-- ---- what is shown of a user, behind `user `

pub record SummaryFields : Type 0 where
  pub name : List ℕ
  pub group : Option (List ℕ)
  pub proto : Proto
  pub enabled : Bool
  pub wiz : Wiz
  pub fails : ℕ
  pub number : ℕ
  pub last : ℕ
  pub expires : ℕ
  pub long : List ℕ

abbrev pub summary_fields : Summary → SummaryFields
summary_fields s = record { name = s.name; group = s.group; proto = s.proto; enabled = s.enabled; wiz = s.wiz; fails = s.fails; number = s.number; last = s.last; expires = s.expires; long = s.long }

abbrev pub group_in : List ℕ → Option (Option (List ℕ))
group_in text = if bytes_eq text (codes "-") then Some None else option_map (λ name. Some name) (name_of text)

abbrev pub state_in : List ℕ → Option Bool
state_in text = if bytes_eq text (codes "enabled") then Some true else if bytes_eq text (codes "disabled") then Some false else None

abbrev pub wiz_in : List ℕ → Option Wiz
wiz_in text =
    if bytes_eq text (codes "none") then Some wizards.None
    else if bytes_eq text (codes "group") then Some wizards.Group
    else if bytes_eq text (codes "super") then Some wizards.Super
    else None

abbrev pub fields_with : Option (List ℕ) → Option (Option (List ℕ)) → Option Proto → Option Bool → Option Wiz → Option ℕ → Option ℕ → Option ℕ → Option ℕ → Option (List ℕ) → Option SummaryFields
fields_with (Some name) (Some group) (Some proto) (Some enabled) (Some wiz) (Some fails) (Some number) (Some last) (Some expires) (Some long) = Some (record { name = name; group = group; proto = proto; enabled = enabled; wiz = wiz; fails = fails; number = number; last = last; expires = expires; long = long })
fields_with _ _ _ _ _ _ _ _ _ _ = None

unfoldable pub summary_of : List ℕ → Option SummaryFields
summary_of t0 =
    let t1 = after_two_spaces t0 in
    let t2 = after_two_spaces t1 in
    let t3 = after_two_spaces t2 in
    let t4 = after_two_spaces t3 in
    let t5 = after_two_spaces t4 in
    let t6 = after_two_spaces t5 in
    let t7 = after_two_spaces t6 in
    let t8 = after_two_spaces t7 in
    let t9 = after_two_spaces t8 in
    fields_with (name_of (field t0)) (group_in (field t1)) (proto_named (field t2)) (state_in (field t3)) (wiz_in (field t4)) (number_up_to 5 (field t5)) (number_up_to 9999 (field t6)) (number_up_to longest (field t7)) (number_up_to longest (field t8)) (long_name_of t9)

-- ---- any reply

-- a reply without what its type says of it: what is shown of a user, or any other reply
pub record Spoken : Type 0 where
  pub shown : Option SummaryFields
  pub other : Option Reply

abbrev pub of_fields : SummaryFields → Spoken
of_fields f = record { shown = Some f; other = None }

abbrev pub of_other : Reply → Spoken
of_other reply = record { shown = None; other = Some reply }

abbrev pub spoken : Reply → Spoken
spoken (replies.Shown summary) = of_fields (summary_fields summary)
spoken reply = of_other reply

unfoldable pub guessed : List ℕ → Option Spoken
guessed line =
    if bytes_eq line (codes "password") then Some (of_other replies.Password)
    else if bytes_eq line (codes "ok") then Some (of_other replies.Ok)
    else if starts_with nat_eq line (codes "challenge ") then option_map of_other (challenge_of (drop 10 line))
    else if starts_with nat_eq line (codes "user ") then option_map of_fields (summary_of (drop 5 line))
    else if starts_with nat_eq line (codes "denied ") then option_map (λ d. of_other (replies.Denied d)) (denial_of (drop 7 line))
    else None
