-- Lines one after another, the entries that a server answered, and how a port stands after them.
use Rattle.std.proofs.Common.{arith, ◌≡◌, refl, sym, ap, ◌∙◌, subst, ℕ, suc, ◌+◌, ◌<◌, ◌==◌, Bool, true, false, List, [], ◌∷◌, ◌++◌, length, inl, inr, Some, None, append_assoc, append-nil}
use Rattle.std.specs.Prelude.{if◌then◌else◌, ◌&&◌, ◌||◌, flat_map}
use Rattle.std.specs.List.{list_any}
use Rattle.std.specs.Str.Lines.{strip_carriage_return}
use Rattle.std.proofs.lemmas.Bool.{eqb-true}
use Rattle.fw_outside.specs.Lines.{first_line, is_lf}
use Rattle.fw_outside.proofs.LineLemmas.{first_line_is, no_first_line}
use Rattle.auth_events.specs.Port.{session_at}
use Rattle.auth_events.specs.declared.entry.Entry.{Entry}
use Rattle.auth_events.specs.declared.reply.Reply.{Reply}
use Rattle.auth_events.specs.declared.reply.Reply.TheVariants as replies
use Rattle.auth_events.specs.declared.request.Request.{Request}
use Rattle.auth_events.specs.declared.request.Request.TheVariants as requests
use Rattle.authsrv_lines.specs.RequestLine.{request_line}
use Rattle.remote_port.specs.Requests.{is_close, written}
use Rattle.remote_port.specs.Entries.{AreEntries, IsEntry, answered_from, is_sent, standing_from, standing_of}
use Rattle.remote_port.specs.Requests.{has_line, is_open}
use Rattle.remote_port.specs.Texts.{AreLines, AsksOne, Exchange, GoesOn, IsCalm, IsStanding, full_reply}
use Rattle.remote_port.specs.Treatment.{limit_of, refused_or_strange, standing_after, treatment_of}
use Rattle.remote_port.specs.declared.standing.Standing.{Standing}
use Rattle.remote_port.specs.declared.standing.Standing.TheVariants as standings
use Rattle.remote_port.specs.declared.standing.Treatment.{Treatment}
use Rattle.remote_port.specs.declared.standing.Treatment.TheVariants.{Strange, Refuse, Send}

-- ---- lines

-- a text with an LF, cut at the first
pub record HasEnd (text : List ℕ) : Type 0 where
  pub front : List ℕ
  pub rest : List ℕ
  pub whole : text ≡ front ++ 10 ∷ rest
  pub plain : list_any is_lf front ≡ false

pub ends_by : (b : ℕ) (text : List ℕ) (test : Bool) → is_lf b ≡ test → (list_any is_lf text ≡ true → HasEnd text) → (test || list_any is_lf text) ≡ true → HasEnd (b ∷ text)
ends_by b text true is later has = record { front = []; rest = text; whole = ap (λ (x : ℕ). x ∷ text) (eqb-true b 10 is); plain = refl }
ends_by b text false is later has =
    let h = later has in
    record { front = b ∷ h.front; rest = h.rest; whole = ap (λ (t : List ℕ). b ∷ t) h.whole; plain = rw is h.plain }

pub ends : (text : List ℕ) → list_any is_lf text ≡ true → HasEnd text
ends [] has = absurd (cc)
ends (b ∷ text) has = ends_by b text (is_lf b) refl (ends text) has

abbrev pub Cut : Type 0
Cut = List ℕ × List ℕ

pub line_by : (text more : List ℕ) (cut : Cut) (test : Bool) → list_any is_lf text ≡ test → first_line text ≡ Some cut → first_line (text ++ more) ≡ Some (cut.0, cut.1 ++ more)
line_by text more cut false none is = let never : first_line text ≡ None = no_first_line text none in absurd (cc)
line_by text more cut true has is =
    let h = ends text has in
    let was : Cut = (strip_carriage_return h.front, h.rest) in
    let first : first_line text ≡ Some was = ap first_line h.whole ∙ first_line_is h.front h.rest h.plain in
    let same : was ≡ cut = cc in
    ap (λ (t : List ℕ). first_line (t ++ more)) h.whole ∙ ap first_line (append_assoc h.front (10 ∷ h.rest) more)
    ∙ first_line_is h.front (h.rest ++ more) h.plain ∙ ap (λ (c : Cut). Some (c.0, c.1 ++ more)) same

-- a line stays the first one, whatever follows
pub line_more : (text more : List ℕ) (cut : Cut) → first_line text ≡ Some cut → first_line (text ++ more) ≡ Some (cut.0, cut.1 ++ more)
line_more text more cut is = line_by text more cut (list_any is_lf text) refl is

-- one line more
pub lines_more : (lines : List (List ℕ)) (read bytes line : List ℕ) → AreLines lines read → first_line bytes ≡ Some (line, []) → AreLines (lines ++ line ∷ []) (read ++ bytes)
lines_more [] read bytes line none is = ([], ap (λ (t : List ℕ). first_line (t ++ bytes)) none ∙ is, refl)
lines_more (first ∷ lines) read bytes line (rest, at, later) is = (rest ++ bytes, line_more read bytes (first, rest) at, lines_more lines rest bytes line later is)

no_line : (text : List ℕ) (cut : Cut) → text ≡ [] → first_line text ≡ Some cut → ⊥
no_line text cut none is = let never : first_line text ≡ None = ap first_line none in cc

-- a text is cut in one way
pub lines_one : (lines others : List (List ℕ)) (text : List ℕ) → AreLines lines text → AreLines others text → lines ≡ others
lines_one [] [] text none same = refl
lines_one [] (line ∷ others) text none (rest, is, later) = absurd (no_line text (line, rest) none is)
lines_one (line ∷ lines) [] text (rest, is, later) none = absurd (no_line text (line, rest) none is)
lines_one (line ∷ lines) (other ∷ others) text (rest, is, later) (rest', is', later') =
    let a : Cut = (line, rest) in
    let b : Cut = (other, rest') in
    let same : a ≡ b = cc in
    let P : List ℕ → Type 0 = λ (t : List ℕ). AreLines others t in
    let tail : lines ≡ others = lines_one lines others rest later (subst P (ap (λ (c : Cut). c.1) (sym same)) later') in
    ap (λ (l : List ℕ). l ∷ lines) (ap (λ (c : Cut). c.0) same) ∙ ap (λ (l : List (List ℕ)). other ∷ l) tail

-- ---- requests

pub flat_push : (requests : List Request) (request : Request) → flat_map written (requests ++ request ∷ []) ≡ flat_map written requests ++ written request
flat_push [] request = append-nil (written request)
flat_push (first ∷ requests) request =
    ap (λ (t : List ℕ). written first ++ t) (flat_push requests request) ∙ sym (append_assoc (written first) (flat_map written requests) (written request))

-- ---- entries

abbrev pub sent_of : Standing → Entry → List Entry
sent_of standing entry = if is_sent (treatment_of standing entry.sid entry.request) then entry ∷ [] else []

pub answered_push : (standing : Standing) (seen : List Entry) (entry : Entry) → answered_from standing (seen ++ entry ∷ []) ≡ answered_from standing seen ++ sent_of (standing_from standing seen) entry
answered_push standing [] entry = append-nil (sent_of standing entry)
answered_push standing (first ∷ seen) entry =
    let next : Standing = standing_after standing first.request first.reply in
    ap (λ (l : List Entry). sent_of standing first ++ l) (answered_push next seen entry)
    ∙ sym (append_assoc (sent_of standing first) (answered_from next seen) (sent_of (standing_from next seen) entry))

pub standing_push : (standing : Standing) (seen : List Entry) (entry : Entry) → standing_from standing (seen ++ entry ∷ []) ≡ standing_after (standing_from standing seen) entry.request entry.reply
standing_push standing [] entry = refl
standing_push standing (first ∷ seen) entry = standing_push (standing_after standing first.request first.reply) seen entry

-- the number that an entry has leads to the same as the one that was asked for
pub same_treatment : (standing : Standing) (request : Request) (place sid : ℕ) → treatment_of standing (session_at request place sid) request ≡ treatment_of standing sid request
unfolding request_line
same_treatment standings.New (requests.Open console) place sid = refl
same_treatment (standings.Open own) (requests.Open console) place sid = refl
same_treatment standings.Closed (requests.Open console) place sid = refl
same_treatment (standings.Full limit) (requests.Open console) place sid = refl
same_treatment standings.Lost (requests.Open console) place sid = refl
same_treatment standing request place sid = refl

-- and so it is entered
pub same_session : (request : Request) (place sid : ℕ) → session_at request place (session_at request place sid) ≡ session_at request place sid
same_session (requests.Open console) place sid = refl
same_session request place sid = refl

pub entries_push : (standing : Standing) (place : ℕ) (seen : List Entry) (entry : Entry) → AreEntries standing place seen → IsEntry (standing_from standing seen) (place + length seen) entry
    → AreEntries standing place (seen ++ entry ∷ [])
entries_push standing place [] entry are is =
    let same : place + 0 ≡ place = omega (arith) in
    (subst (λ (n : ℕ). IsEntry standing n entry) same is, tt)
entries_push standing place (first ∷ seen) entry are is =
    let next : Standing = standing_after standing first.request first.reply in
    let same : place + suc (length seen) ≡ suc place + length seen = omega (arith) in
    (are.0, entries_push next (suc place) seen entry are.1 (subst (λ (n : ℕ). IsEntry (standing_from next seen) n entry) same is))

-- what is refused has a line
from_refused : (line : Bool) → refused_or_strange line ≡ Refuse → line ≡ true
from_refused true is = refl
from_refused false is = absurd (cc)

from_test : (test line : Bool) → (if test then Send else refused_or_strange line) ≡ Refuse → line ≡ true
from_test true line is = absurd (cc)
from_test false line is = from_refused line is

pub has_line_refused : (standing : Standing) (sid : ℕ) (request : Request) → treatment_of standing sid request ≡ Refuse → has_line request ≡ true
has_line_refused standings.New sid request is = from_test (is_open request) (has_line request) is
has_line_refused (standings.Open own) sid request is = from_test (has_line request && sid == own) (has_line request) is
has_line_refused standings.Closed sid request is = from_refused (has_line request) is
has_line_refused (standings.Full limit) sid request is = absurd (cc)
has_line_refused standings.Lost sid request is = absurd (cc)

abbrev pub request_of : Entry → Request
request_of entry = entry.request

abbrev pub reply_of : Entry → Reply
reply_of entry = entry.reply

-- ---- standings

-- nothing failed, and the history isn't full
abbrev pub IsInSession : Standing → Type 0
IsInSession (standings.Full limit) = ⊥
IsInSession standings.Lost = ⊥
IsInSession _ = Unit {0}

-- the request was refused or sent
abbrev pub IsHeeded : Treatment → Type 0
IsHeeded Refuse = Unit {0}
IsHeeded Send = Unit {0}
IsHeeded _ = ⊥

pub in_session : (standing : Standing) (sid : ℕ) (request : Request) → IsHeeded (treatment_of standing sid request) → IsInSession standing
in_session standings.New sid request is = tt
in_session (standings.Open own) sid request is = tt
in_session standings.Closed sid request is = tt
in_session (standings.Full limit) sid request is = absurd is
in_session standings.Lost sid request is = absurd is

pub after_session : (standing : Standing) (request : Request) (reply : Reply) → IsInSession standing → IsInSession (standing_after standing request reply)
after_session standing request (replies.Opened sid) is = tt
after_session standing request replies.Ok is = after_ok (is_close request)
  where
    after_ok : (test : Bool) → IsInSession (if test then standings.Closed else standing)
    after_ok true = tt
    after_ok false = is
after_session standing request replies.Password is = is
after_session standing request (replies.Challenge number word_seed) is = is
after_session standing request (replies.Shown summary) is = is
after_session standing request (replies.Denied denial) is = is

pub idle : (standing : Standing) (x : Exchange) → IsInSession standing → IsStanding standing x → GoesOn standing x
idle standings.New x is h = h
idle (standings.Open own) x is h = h
idle standings.Closed x is h = h
idle (standings.Full limit) x is h = absurd is
idle standings.Lost x is h = absurd is

pub stands : (standing : Standing) (x : Exchange) → IsInSession standing → GoesOn standing x → IsStanding standing x
stands standings.New x is h = h
stands (standings.Open own) x is h = h
stands standings.Closed x is h = h
stands (standings.Full limit) x is h = absurd is
stands standings.Lost x is h = absurd is

pub no_limit : (standing : Standing) → IsInSession standing → limit_of standing ≡ None
no_limit standings.New is = refl
no_limit (standings.Open own) is = refl
no_limit standings.Closed is = refl
no_limit (standings.Full limit) is = absurd is
no_limit standings.Lost is = absurd is

pub not_full_reply : (standing : Standing) → IsInSession standing → full_reply standing ≡ []
not_full_reply standings.New is = refl
not_full_reply (standings.Open own) is = refl
not_full_reply standings.Closed is = refl
not_full_reply (standings.Full limit) is = absurd is
not_full_reply standings.Lost is = absurd is

-- ---- what is lost

still_calm : (x : Exchange) (odd : ℕ) → IsCalm x → IsCalm (record x { odd = odd })
still_calm x odd calm = record { whole = calm.whole; unfailed = calm.unfailed }

still_one : (x : Exchange) (odd : ℕ) → AsksOne x → AsksOne (record x { odd = odd })
still_one x odd one = record { sid = one.sid; request = one.request; is = one.is; sends = one.sends }

-- what is lost stays lost
pub lost_still : (x : Exchange) (odd : ℕ) → 0 < odd → IsStanding standings.Lost x → IsStanding standings.Lost (record x { odd = odd })
unfolding still_one
lost_still x odd some (inl fails) = inl (record { one = still_one x odd fails.one; failed = fails.failed })
lost_still x odd some (inr (inl asked)) = inr (inl (record { sid = asked.sid; request = asked.request; strange = asked.strange; none = asked.none; calm = still_calm x odd asked.calm; ahead = asked.ahead; odd = some }))
lost_still x odd some (inr (inr said)) = inr (inr (record { one = still_one x odd said.one; calm = still_calm x odd said.calm; shows = said.shows; odd = some }))

asked_strange : (standing : Standing) (x : Exchange) (sid : ℕ) (request : Request) (odd : ℕ) → treatment_of standing sid request ≡ Strange → 0 < odd → GoesOn standing x → IsStanding standings.Lost (record x { odd = odd })
asked_strange standing x sid request odd is some goes = inr (inl (record {
  sid = sid;
  request = request;
  strange = ap (λ (s : Standing). treatment_of s sid request) (sym goes.from) ∙ is;
  none = goes.none;
  calm = still_calm x odd goes.calm;
  ahead = goes.ahead;
  odd = some;
}))

-- something strange was asked, now or before
pub strange_lost : (standing : Standing) (x : Exchange) (sid : ℕ) (request : Request) (odd : ℕ) → treatment_of standing sid request ≡ Strange → 0 < odd → IsStanding standing x → IsStanding standings.Lost (record x { odd = odd })
strange_lost standings.New x sid request odd is some h = asked_strange standings.New x sid request odd is some h
strange_lost (standings.Open own) x sid request odd is some h = asked_strange (standings.Open own) x sid request odd is some h
strange_lost standings.Closed x sid request odd is some h = asked_strange standings.Closed x sid request odd is some h
strange_lost (standings.Full limit) x sid request odd is some h = absurd (cc)
strange_lost standings.Lost x sid request odd is some h = lost_still x odd some h

-- a strange request comes at no full history
abbrev pub IsStrange : Treatment → Type 0
IsStrange Strange = Unit {0}
IsStrange _ = ⊥

pub no_full_reply : (standing : Standing) (sid : ℕ) (request : Request) → IsStrange (treatment_of standing sid request) → full_reply standing ≡ []
no_full_reply standings.New sid request is = refl
no_full_reply (standings.Open own) sid request is = refl
no_full_reply standings.Closed sid request is = refl
no_full_reply (standings.Full limit) sid request is = absurd is
no_full_reply standings.Lost sid request is = refl

pub stands_full : (standing : Standing) (limit : ℕ) → limit_of standing ≡ Some limit → standings.Full limit ≡ standing
stands_full standings.New limit is = absurd (cc)
stands_full (standings.Open own) limit is = absurd (cc)
stands_full standings.Closed limit is = absurd (cc)
stands_full (standings.Full told) limit is = let same : told ≡ limit = cc in ap standings.Full (sym same)
stands_full standings.Lost limit is = absurd (cc)
