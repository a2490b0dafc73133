-- Each reply is read from its text.
use Rattle.std.proofs.Common.{◌≡◌, ℕ, ◌<◌, ◌≤◌, ◌^◌, Bool, true, false, ◌&&◌, List, [], ◌∷◌, ◌++◌, length, refl, sym, ap, subst, ◌∙◌, append_assoc, arith}
use Rattle.std.specs.Prelude.{cond, IsTrue, IfSome, not, nat_le, nat_lt, Option, Some, None, option_map, codes}
use Rattle.std.specs.List.{list_all}
use Rattle.std.specs.Char.{is_ascii_alphanumeric, to_ascii_lowercase}
use Rattle.std.specs.Fmt.{decimal}
use Rattle.std.specs.Str.{bytes_eq, str_to_ascii_lowercase}
use denote.Struct.Props.{props}
use Rattle.std.proofs.lemmas.Bool.Decides.{nat_tests}
use Rattle.std.proofs.lemmas.Slice.Eq.{bytes_eq-Decides}
use Rattle.fw_types.specs.Name.{is_name, name_of}
use Rattle.auth_records.specs.Texts.{is_long_name, is_seed, is_seed_byte, long_name_of, seed_of}
use Rattle.auth_records.specs.declared.record.Proto.{Proto}
use Rattle.auth_records.specs.declared.record.Proto.TheVariants as protos
use Rattle.auth_records.specs.declared.record.Wiz.{Wiz}
use Rattle.auth_records.specs.declared.record.Wiz.TheVariants as wizards
use Rattle.otp_md5.specs.Challenge.{challenge}
use Rattle.auth_events.specs.declared.denial.Denial.{Denial}
use Rattle.auth_events.specs.declared.denial.Denial.TheVariants.{Unknown, Wrong, Disabled, Expired, Sleeping, Busy, Exhausted, NoChallenge, NotIn, NotWizard, Exists, NoSuch, NoRule, Full, Closed, NotKept}
use Rattle.auth_events.specs.declared.reply.Summary.{Summary}
use Rattle.auth_events.specs.declared.reply.Reply.{Reply}
use Rattle.auth_events.specs.declared.reply.Reply.TheVariants as replies
use Rattle.authsrv_lines.specs.Number.{number_up_to}
use Rattle.authsrv_lines.specs.Request.{proto_named}
use Rattle.authsrv_lines.specs.Reply.{ReadsReply, IsDenial, IsReply, IsSummary, Says, cause, counts, dates, group_text, identity, in_full, is_whole, proto_text, reply_line, rights, state_text, summary_line, wiz_text}
use Rattle.authsrv_lines.specs.ReplyReading.{SummaryFields, Spoken, behind, busy, challenge_of, challenge_with, denial_of, field, summary_fields, group_in, guessed, longest, after_two_spaces, of_fields, of_other, spoken, state_in, summary_of, wiz_in}
use Rattle.authsrv_lines.proofs.NumberLemmas.{decimal_read}
use Rattle.authsrv_lines.proofs.SpaceLemmas.{IsWord, both, decimal_word, field_is, behind_is, name_word, next_is, piece}

-- ---- texts one behind the other

four : (a b c d : List ℕ) → a ++ b ++ c ++ d ≡ a ++ (b ++ (c ++ d))
four a b c d = append_assoc (a ++ b) c d ∙ append_assoc a b (c ++ d)

five : (a b c d e : List ℕ) → a ++ b ++ c ++ d ++ e ≡ a ++ (b ++ (c ++ (d ++ e)))
five a b c d e = append_assoc (a ++ b ++ c) d e ∙ four a b c (d ++ e)

six : (a b c d e f : List ℕ) → a ++ b ++ c ++ d ++ e ++ f ≡ a ++ (b ++ (c ++ (d ++ (e ++ f))))
six a b c d e f = append_assoc (a ++ b ++ c ++ d) e f ∙ five a b c d (e ++ f)

seven : (a b c d e f g : List ℕ) → a ++ b ++ c ++ d ++ e ++ f ++ g ≡ a ++ (b ++ (c ++ (d ++ (e ++ (f ++ g)))))
seven a b c d e f g = append_assoc (a ++ b ++ c ++ d ++ e) f g ∙ six a b c d e (f ++ g)

-- ---- denials

busy_both : (sid until : ℕ) (x y : Option ℕ) → x ≡ Some sid → y ≡ Some until → busy x y ≡ Some (Busy sid until)
busy_both sid until x y e f = rw (e, f) refl

busy_from : (t : List ℕ) → denial_of (codes "busy " ++ t) ≡ busy (number_up_to longest (field t)) (number_up_to longest (after_two_spaces t))
unfolding denial_of
busy_from t = refl

busy_read : (sid until : ℕ) → sid < 2 ^ 64 → until < 2 ^ 64 → denial_of (codes "busy " ++ piece (decimal sid) (codes "until") (decimal until)) ≡ Some (Busy sid until)
busy_read sid until h k =
    let first = ap (number_up_to longest) (field_is (decimal sid) (codes "until" ++ 32 ∷ decimal until) (decimal_word sid h)) ∙ decimal_read longest sid (omega arith) (omega arith) in
    let second = ap (number_up_to longest) (next_is (decimal sid) (codes "until") (decimal until) (decimal_word sid h) refl) ∙ decimal_read longest until (omega arith) (omega arith) in
    busy_from (piece (decimal sid) (codes "until") (decimal until)) ∙ busy_both sid until _ _ first second

pub denial_read : (d : Denial) → IsDenial d → denial_of (cause d) ≡ Some d
unfolding denial_of
denial_read Unknown h = refl
denial_read Wrong h = refl
denial_read Disabled h = refl
denial_read (Expired at) h = ap (option_map (λ n. Expired n)) (decimal_read longest at (omega arith) (omega arith))
denial_read (Sleeping until) h = ap (option_map (λ n. Sleeping n)) (decimal_read longest until (omega arith) (omega arith))
denial_read (Busy sid until) h = ap denial_of (four (codes "busy ") (decimal sid) (codes " until ") (decimal until)) ∙ busy_read sid until h.0 h.1
denial_read Exhausted h = refl
denial_read NoChallenge h = refl
denial_read NotIn h = refl
denial_read NotWizard h = refl
denial_read Exists h = refl
denial_read NoSuch h = refl
denial_read (NoRule line) h = ap (option_map (λ n. NoRule n)) (decimal_read 4294967295 line (omega arith) (omega arith))
denial_read (Full limit) h = ap (option_map (λ n. Full n)) (decimal_read longest limit (omega arith) (omega arith))
denial_read Closed h = refl
denial_read NotKept h = refl

-- ---- challenges

seed_byte_is : (b : ℕ) → is_seed_byte b ≡ true → (is_ascii_alphanumeric b ≡ true) × (to_ascii_lowercase b ≡ b)
seed_byte_is b h = (grind (arith, nat_tests), grind (arith, nat_tests))

seed_bytes_are : (bytes : List ℕ) → list_all is_seed_byte bytes ≡ true → (list_all is_ascii_alphanumeric bytes ≡ true) × (str_to_ascii_lowercase bytes ≡ bytes)
seed_bytes_are [] h = (refl, refl)
seed_bytes_are (b ∷ bytes) h =
    let p = both (is_seed_byte b) (list_all is_seed_byte bytes) h in
    let first = seed_byte_is b p.0 in
    let more = seed_bytes_are bytes p.1 in
    (rw (first.0, more.0) refl, rw (first.1, more.1) refl)

seed_read : (word_seed : List ℕ) → IsTrue (is_seed word_seed) → seed_of word_seed ≡ Some word_seed
seed_read word_seed h =
    let p = both (nat_lt 0 (length word_seed) && nat_le (length word_seed) 16) (list_all is_seed_byte word_seed) h in
    let are = seed_bytes_are word_seed p.1 in
    rw (p.0, are.0, are.1) refl

challenge_both : (number : ℕ) (word_seed : List ℕ) (x : Option ℕ) (y : Option (List ℕ)) → x ≡ Some number → y ≡ Some word_seed → challenge_with x y ≡ Some (replies.Challenge number word_seed)
challenge_both number word_seed x y e f = rw (e, f) refl

challenge_from : (t : List ℕ) → challenge_of (codes "otp-md5 " ++ t) ≡ challenge_with (number_up_to 4294967295 (field t)) (seed_of (behind t))
unfolding challenge_of after_two_spaces
challenge_from t = refl

challenge_read : (number : ℕ) (word_seed : List ℕ) → number < 2 ^ 32 → IsTrue (is_seed word_seed) → challenge_of (challenge number word_seed) ≡ Some (replies.Challenge number word_seed)
unfolding challenge
challenge_read number word_seed small h =
    let word = decimal_word number (omega arith) in
    let first = ap (number_up_to 4294967295) (field_is (decimal number) word_seed word) ∙ decimal_read 4294967295 number (omega arith) (omega arith) in
    let second = ap seed_of (behind_is (decimal number) word_seed word) ∙ seed_read word_seed h in
    ap challenge_of (four (codes "otp-md5 ") (decimal number) (codes " ") word_seed) ∙ (challenge_from (decimal number ++ 32 ∷ word_seed) ∙ challenge_both number word_seed _ _ first second)

-- ---- what is shown of a user

name_read : (name : List ℕ) → IsTrue (is_name name) → name_of name ≡ Some name
name_read name h = rw h refl

no_dash : (name : List ℕ) → IsTrue (is_name name) → bytes_eq name (codes "-") ≡ false
no_dash name h = not_true (bytes_eq name (codes "-")) (both _ _ h).1
  where
    not_true : (v : Bool) → not v ≡ true → v ≡ false
    not_true true k = absurd (cc)
    not_true false k = refl

named_group : (v : Bool) (o : Option (List ℕ)) (name : List ℕ) → v ≡ false → o ≡ Some name → cond v (Some None) (option_map (λ n. Some n) o) ≡ Some (Some name)
named_group v o name e f = rw (e, f) refl

group_read : (group : Option (List ℕ)) → IfSome group (λ name. IsTrue (is_name name)) → group_in (group_text group) ≡ Some group
group_read None h = refl
group_read (Some name) h = named_group (bytes_eq name (codes "-")) (name_of name) name (no_dash name h) (name_read name h)

group_word : (group : Option (List ℕ)) → IfSome group (λ name. IsTrue (is_name name)) → IsWord (group_text group)
group_word None h = refl
group_word (Some name) h = name_word name h

proto_read : (p : Proto) → (proto_named (proto_text p) ≡ Some p) × IsWord (proto_text p)
proto_read protos.None = (refl, refl)
proto_read protos.Plain = (refl, refl)
proto_read protos.Otp = (refl, refl)

state_read : (v : Bool) → (state_in (state_text v) ≡ Some v) × IsWord (state_text v)
state_read true = (refl, refl)
state_read false = (refl, refl)

wiz_read : (w : Wiz) → (wiz_in (wiz_text w) ≡ Some w) × IsWord (wiz_text w)
wiz_read wizards.None = (refl, refl)
wiz_read wizards.Group = (refl, refl)
wiz_read wizards.Super = (refl, refl)

long_read : (long : List ℕ) → IsTrue (is_long_name long) → long_name_of long ≡ Some long
long_read long h = rw h refl

-- what stands behind each part of the line
abbrev t8 : Summary → List ℕ
t8 s = piece (decimal s.expires) (codes "long") s.long

abbrev t7 : Summary → List ℕ
t7 s = piece (decimal s.last) (codes "expires") (t8 s)

abbrev t6 : Summary → List ℕ
t6 s = piece (decimal s.number) (codes "last") (t7 s)

abbrev t5 : Summary → List ℕ
t5 s = piece (decimal s.fails) (codes "number") (t6 s)

abbrev t4 : Summary → List ℕ
t4 s = piece (wiz_text s.wiz) (codes "fails") (t5 s)

abbrev t3 : Summary → List ℕ
t3 s = piece (state_text s.enabled) (codes "wiz") (t4 s)

abbrev t2 : Summary → List ℕ
t2 s = piece (proto_text s.proto) (codes "state") (t3 s)

abbrev t1 : Summary → List ℕ
t1 s = piece (group_text s.group) (codes "proto") (t2 s)

abbrev t0 : Summary → List ℕ
t0 s = piece s.name (codes "group") (t1 s)

line_is : (s : Summary) → summary_line s ≡ codes "user " ++ t0 s
unfolding summary_line
line_is s =
    let whole = five (identity s) (rights s) (counts s) (dates s) (in_full s) in
    let front = five (codes "user ") s.name (codes " group ") (group_text s.group) (rights s ++ (counts s ++ (dates s ++ in_full s))) in
    let middle = seven (codes " proto ") (proto_text s.proto) (codes " state ") (state_text s.enabled) (codes " wiz ") (wiz_text s.wiz) (counts s ++ (dates s ++ in_full s)) in
    let numbers = five (codes " fails ") (decimal s.fails) (codes " number ") (decimal s.number) (dates s ++ in_full s) in
    let back = five (codes " last ") (decimal s.last) (codes " expires ") (decimal s.expires) (in_full s) in
    let from_numbers = numbers ∙ ap (λ x. codes " fails " ++ (decimal s.fails ++ (codes " number " ++ (decimal s.number ++ x)))) back in
    let from_middle = middle ∙ ap (λ x. codes " proto " ++ (proto_text s.proto ++ (codes " state " ++ (state_text s.enabled ++ (codes " wiz " ++ (wiz_text s.wiz ++ x)))))) from_numbers in
    whole ∙ (front ∙ ap (λ x. codes "user " ++ (s.name ++ (codes " group " ++ (group_text s.group ++ x)))) from_middle)

-- the parts' values, each read from its own field
record Reads (x : SummaryFields) (a b c d e f g h i j : List ℕ) : Type 0 where
  ab : after_two_spaces a ≡ b
  bc : after_two_spaces b ≡ c
  cd : after_two_spaces c ≡ d
  de : after_two_spaces d ≡ e
  ef : after_two_spaces e ≡ f
  fg : after_two_spaces f ≡ g
  gh : after_two_spaces g ≡ h
  hi : after_two_spaces h ≡ i
  ij : after_two_spaces i ≡ j
  name : name_of (field a) ≡ Some x.name
  group : group_in (field b) ≡ Some x.group
  proto : proto_named (field c) ≡ Some x.proto
  enabled : state_in (field d) ≡ Some x.enabled
  wiz : wiz_in (field e) ≡ Some x.wiz
  fails : number_up_to 5 (field f) ≡ Some x.fails
  number : number_up_to 9999 (field g) ≡ Some x.number
  last : number_up_to longest (field h) ≡ Some x.last
  expires : number_up_to longest (field i) ≡ Some x.expires
  long : long_name_of j ≡ Some x.long

read_by : (x : SummaryFields) (a b c d e f g h i j : List ℕ) → Reads x a b c d e f g h i j → summary_of a ≡ Some x
unfolding summary_of
read_by x a b c d e f g h i j r = rw (r.ab, r.bc, r.cd, r.de, r.ef, r.fg, r.gh, r.hi, r.ij, r.name, r.group, r.proto, r.enabled, r.wiz, r.fails, r.number, r.last, r.expires, r.long) refl

summary_read : (s : Summary) → IsSummary s → summary_of (t0 s) ≡ Some (summary_fields s)
summary_read s is =
    let name = name_word s.name is.name in
    let group = group_word s.group is.group in
    let proto = proto_read s.proto in
    let state = state_read s.enabled in
    let wiz = wiz_read s.wiz in
    let fails = decimal_word s.fails (omega (arith, is.fails)) in
    let number = decimal_word s.number (omega (arith, is.number)) in
    let last = decimal_word s.last is.last in
    let expires = decimal_word s.expires is.expires in
    read_by (summary_fields s) (t0 s) (t1 s) (t2 s) (t3 s) (t4 s) (t5 s) (t6 s) (t7 s) (t8 s) s.long (record {
      ab = next_is s.name (codes "group") (t1 s) name refl;
      bc = next_is (group_text s.group) (codes "proto") (t2 s) group refl;
      cd = next_is (proto_text s.proto) (codes "state") (t3 s) proto.1 refl;
      de = next_is (state_text s.enabled) (codes "wiz") (t4 s) state.1 refl;
      ef = next_is (wiz_text s.wiz) (codes "fails") (t5 s) wiz.1 refl;
      fg = next_is (decimal s.fails) (codes "number") (t6 s) fails refl;
      gh = next_is (decimal s.number) (codes "last") (t7 s) number refl;
      hi = next_is (decimal s.last) (codes "expires") (t8 s) last refl;
      ij = next_is (decimal s.expires) (codes "long") s.long expires refl;
      name = ap name_of (field_is s.name _ name) ∙ name_read s.name is.name;
      group = ap group_in (field_is (group_text s.group) _ group) ∙ group_read s.group is.group;
      proto = ap proto_named (field_is (proto_text s.proto) _ proto.1) ∙ proto.0;
      enabled = ap state_in (field_is (state_text s.enabled) _ state.1) ∙ state.0;
      wiz = ap wiz_in (field_is (wiz_text s.wiz) _ wiz.1) ∙ wiz.0;
      fails = ap (number_up_to 5) (field_is (decimal s.fails) _ fails) ∙ decimal_read 5 s.fails (omega arith) is.fails;
      number = ap (number_up_to 9999) (field_is (decimal s.number) _ number) ∙ decimal_read 9999 s.number (omega arith) is.number;
      last = ap (number_up_to longest) (field_is (decimal s.last) _ last) ∙ decimal_read longest s.last (omega arith) (omega (arith, is.last));
      expires = ap (number_up_to longest) (field_is (decimal s.expires) _ expires) ∙ decimal_read longest s.expires (omega arith) (omega (arith, is.expires));
      long = long_read s.long is.long;
    })

-- ---- any reply

shown_guessed : (t : List ℕ) → guessed (codes "user " ++ t) ≡ option_map of_fields (summary_of t)
unfolding guessed
shown_guessed t = refl

challenge_guessed : (t : List ℕ) → guessed (codes "challenge " ++ t) ≡ option_map of_other (challenge_of t)
unfolding guessed
challenge_guessed t = refl

denied_guessed : (t : List ℕ) → guessed (codes "denied " ++ t) ≡ option_map (λ d. of_other (replies.Denied d)) (denial_of t)
unfolding guessed
denied_guessed t = refl

pub reply_read : (r : Reply) → IsReply r → IsTrue (is_whole r) → guessed (reply_line r) ≡ Some (spoken r)
unfolding guessed
reply_read (replies.Opened sid) is whole = absurd (cc)
reply_read replies.Password is whole = refl
reply_read (replies.Challenge number word_seed) is whole =
    challenge_guessed (challenge number word_seed) ∙ ap (option_map of_other) (challenge_read number word_seed is.0 is.1)
reply_read replies.Ok is whole = refl
reply_read (replies.Shown summary) is whole =
    ap guessed (line_is summary) ∙ (shown_guessed (t0 summary) ∙ ap (option_map of_fields) (summary_read summary is))
reply_read (replies.Denied denial) is whole =
    denied_guessed (cause denial) ∙ ap (option_map (λ d. of_other (replies.Denied d))) (denial_read denial is)

-- ---- a reply is what it says

abbrev RangesFit : SummaryFields → Type 0
RangesFit f = (f.fails ≤ 5) × (f.number ≤ 9999)

abbrev made : (f : SummaryFields) → RangesFit f → Summary
made f fits = record { name = f.name; group = f.group; proto = f.proto; enabled = f.enabled; wiz = f.wiz; fails = f.fails; number = f.number; last = f.last; expires = f.expires; long = f.long; fails_range = fits.0; number_range = fits.1 }

ranges_one : (f : SummaryFields) → IsProp (RangesFit f)
ranges_one f = hlevel props

same_summary : (a b : Summary) → summary_fields a ≡ summary_fields b → a ≡ b
same_summary a b e =
    let P : SummaryFields → Type 0 = λ f. (fits : RangesFit f) → made f fits ≡ b in
    let base : P (summary_fields b) = λ fits. ap (made (summary_fields b)) (ranges_one (summary_fields b) fits (b.fails_range, b.number_range)) in
    subst P (sym e) base (a.fails_range, a.number_range)

other_same : (r s : Reply) → Some r ≡ (spoken s).other → r ≡ s
other_same r (replies.Opened sid) e = cc
other_same r replies.Password e = cc
other_same r (replies.Challenge number word_seed) e = cc
other_same r replies.Ok e = cc
other_same r (replies.Shown summary) e = absurd (cc)
other_same r (replies.Denied denial) e = cc

shown_same : (a : Summary) (s : Reply) → Some (summary_fields a) ≡ (spoken s).shown → replies.Shown a ≡ s
shown_same a (replies.Opened sid) e = absurd (cc)
shown_same a replies.Password e = absurd (cc)
shown_same a (replies.Challenge number word_seed) e = absurd (cc)
shown_same a replies.Ok e = absurd (cc)
shown_same a (replies.Shown b) e = ap replies.Shown (same_summary a b cc)
shown_same a (replies.Denied denial) e = absurd (cc)

pub same_reply : (r s : Reply) → spoken r ≡ spoken s → r ≡ s
same_reply (replies.Opened sid) s e = other_same (replies.Opened sid) s (ap (λ p. p.other) e)
same_reply replies.Password s e = other_same replies.Password s (ap (λ p. p.other) e)
same_reply (replies.Challenge number word_seed) s e = other_same (replies.Challenge number word_seed) s (ap (λ p. p.other) e)
same_reply replies.Ok s e = other_same replies.Ok s (ap (λ p. p.other) e)
same_reply (replies.Shown a) s e = shown_same a s (ap (λ p. p.shown) e)
same_reply (replies.Denied denial) s e = other_same (replies.Denied denial) s (ap (λ p. p.other) e)

some_is : (x y : Spoken) → Some x ≡ Some y → x ≡ y
some_is x y e = cc

pub one_reply : (r s : Reply) → IsReply r → IsReply s → IsTrue (is_whole r) → IsTrue (is_whole s) → reply_line r ≡ reply_line s → r ≡ s
one_reply r s is_r is_s whole_r whole_s e =
    same_reply r s (some_is (spoken r) (spoken s) (sym (reply_read r is_r whole_r) ∙ (ap guessed e ∙ reply_read s is_s whole_s)))

pub answer_is : (r : Reply) (answer : Option Reply) → IsReply r → IsTrue (is_whole r) → ReadsReply (reply_line r) answer → answer ≡ Some r
answer_is r None is whole says = absurd (says r (record { whole = whole; is_reply = is; text = refl }))
answer_is r (Some s) is whole says = ap Some (one_reply s r says.is_reply is says.whole whole says.text)

-- the reply that a line says is the one that it seems to say
pub says_guessed : (line : List ℕ) (r : Reply) → Says line r → guessed line ≡ Some (spoken r)
says_guessed line r says = ap guessed (sym says.text) ∙ reply_read r says.is_reply says.whole

pub says_none : (line : List ℕ) (g : Option Reply) → option_map spoken g ≡ guessed line → g ≡ None → (reply : Reply) → Says line reply → ⊥
says_none line g e none reply says =
    let seen = says_guessed line reply says in
    let clash : option_map spoken None ≡ Some (spoken reply) = ap (option_map spoken) (sym none) ∙ (e ∙ seen) in absurd (cc)

pub says_other : (line : List ℕ) (r : Reply) (g : Option Reply) → option_map spoken g ≡ guessed line → g ≡ Some r → bytes_eq (reply_line r) line ≡ false → (reply : Reply) → Says line reply → ⊥
says_other line r g e is not reply says =
    let seen : Some (spoken r) ≡ Some (spoken reply) = ap (option_map spoken) (sym is) ∙ (e ∙ says_guessed line reply says) in
    let same : r ≡ reply = same_reply r reply (some_is (spoken r) (spoken reply) seen) in
    let text : reply_line r ≡ line = ap reply_line same ∙ says.text in
    let yes_ = (bytes_eq-Decides (reply_line r) line).1 text in
    absurd (cc)

pub says_this : (line : List ℕ) (r : Reply) → IsTrue (is_whole r) → IsReply r → bytes_eq (reply_line r) line ≡ true → Says line r
says_this line r whole is same = record { whole = whole; is_reply = is; text = (bytes_eq-Decides (reply_line r) line).0 same }
