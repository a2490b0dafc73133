-- What a session asks is what the lines of its client ask for, and what it says are the replies.
use Rattle.std.proofs.Common.{arith, ◌≡◌, refl, sym, ap, ◌∙◌, subst, ℕ, zero, suc, ◌<◌, ◌≤◌, nat_lt, Bool, true, false, List, [], ◌∷◌, ◌++◌, length, map, filter, Option, Some, None, Result, Ok, Err, append_assoc}
use Rattle.std.specs.Prelude.{if◌then◌else◌, not, IsTrue, flat_map, is_some}
use Rattle.std.specs.List.{AllByRecursion, concat}
use Rattle.std.proofs.lemmas.Bool.{le-ltb, lt-ltb}
use Rattle.fw_acts.specs.Acts.{Row, Step, PlaceTable}
use Rattle.fw_acts.specs.Acts.Row.{Do, At, Over}
use Rattle.fw_acts.specs.Ran.{Comes}
use Rattle.fw_acts.specs.Runs.{Run}
use Rattle.fw_outside.specs.Lines.{first_line}
use Rattle.fw_outside.specs.declared.heard.Heard.{Heard}
use Rattle.fw_outside.specs.declared.heard.Heard.TheVariants.{Line, TooLong, Stopped}
use Rattle.fw_types.specs.declared.ending.Ending.{Ending}
use Rattle.auth_events.specs.declared.denial.Denial.{Denial}
use Rattle.auth_events.specs.declared.denial.Denial.TheVariants as denials
use Rattle.auth_events.specs.declared.entry.Entry.{Entry}
use Rattle.auth_events.specs.declared.reply.Reply.{Reply}
use Rattle.auth_events.specs.declared.reply.Reply.TheVariants as replies
use Rattle.auth_events.specs.declared.request.Request.{Request}
use Rattle.auth_events.specs.declared.request.Request.TheVariants as requests
use Rattle.authsrv_gate.specs.Dialogue.{act_at, heard_row, line_row, opened_place, opened_row, rows, say, session_row}
use Rattle.authsrv_gate.specs.Telling.{Hearer, asks_list, due, heard_so, line_words, unheard, unless_ended, words}
use Rattle.authsrv_gate.specs.declared.place.Place.{Place}
use Rattle.authsrv_gate.specs.declared.place.Place.TheVariants.{Waiting, Listing}
use Rattle.authsrv_lines.specs.Reply.{IsReply, is_whole, reply_line}
use Rattle.authsrv_lines.specs.Request.{request_of}
use Rattle.authsrv_lines.specs.RequestLine.{IsAsked, request_line, wire_of}
use Rattle.authsrv_lines.specs.declared.wire.Wire.{Wire}
use Rattle.authsrv_lines.specs.declared.wire.Wire.TheVariants as wires
use Rattle.authsrv_lines.specs.declared.wire.WireFault.{WireFault}
use Rattle.authsrv_lines.specs.declared.wire.WireFault.TheVariants.{LongLine}
use Rattle.session_acts.specs.Acts.{Act, Halt}
use Rattle.session_acts.specs.Acts.Act.{Hear, Say, Try, Log, Note, Ask, Renew, Dial, Reach, Take, Pass, HangUp, Relay, Deposit, Allot, TakeReply, OpenDoor, Join, Copy, Part}
use Rattle.session_acts.specs.Deeds.{Deed, deed_last, deeds_ran, done, gives}
use Rattle.session_acts.specs.Hearing.{AreHeard, Fate, Meets, heard_in}
use Rattle.session_acts.specs.Hearing.Fate.{IsHeard}
use Rattle.session_acts.specs.Met.{acts}
use Rattle.session_acts.specs.Session.{Held, deeds_of, leads, owed}
use Rattle.session_acts.specs.Talk.{answered, asked, is_entered, is_full, said_of, says_full}
use Rattle.session_acts.specs.World.{World}
use Rattle.session_acts.specs.declared.cause.Cause.{Cause}
use Rattle.session_acts.specs.declared.form.Form.TheVariants.{Lines}
use Rattle.remote_port.specs.Answers.{limit_in, limit_told}
use Rattle.remote_port.specs.Requests.{ended, has_line, is_open, written}
use Rattle.remote_port.specs.Texts.{AreLines}
use Rattle.remote_port.proofs.AnswerLemmas.{OneReply, apart}
use Rattle.remote_port.proofs.StandingLemmas.{line_more, reply_of, request_of as entry_request}
use Rattle.auth_remote.specs.Same.{AreSame, AsksSame, SaysSame}
use Rattle.auth_remote.proofs.PlainLemmas.{Cut, plain_line, reply_plain, request_plain}
use Rattle.auth_remote.proofs.ShapeLemmas.{AreLined, IsLined, IsOpening, IsTalk}

-- what is asked for is asked for again
abbrev pub AskedAgain : Type 0
AskedAgain = (request : Request) (line : List ℕ) → IsAsked request → request_line request ≡ Some line → request_of line ≡ Ok (wire_of request)

-- ---- replies

same_said : (one : OneReply) (mine theirs : Reply) → IsReply mine → IsReply theirs → reply_line mine ≡ reply_line theirs → SaysSame mine theirs
same_said one (replies.Opened sid) (replies.Opened other) a b e = tt
same_said one (replies.Opened sid) theirs a b e = absurd (apart sid theirs refl (sym e))
same_said one mine (replies.Opened other) a b e = absurd (apart other mine refl e)
same_said one mine theirs a b e = one mine theirs a b refl refl e

not_full_denial : (denial : Denial) → limit_in denial ≡ None → is_full denial ≡ false
not_full_denial (denials.Full limit) none = absurd (cc)
not_full_denial denial none = refl

not_full_reply : (reply : Reply) → limit_told reply ≡ None → says_full reply ≡ false
not_full_reply (replies.Denied denial) none = not_full_denial denial none
not_full_reply reply none = refl

not_full : (mine theirs : Reply) → SaysSame mine theirs → limit_told mine ≡ None → says_full theirs ≡ false
not_full (replies.Opened sid) (replies.Opened other) same none = refl
not_full (replies.Opened sid) theirs same none = absurd (cc)
not_full mine theirs same none = ap says_full (sym same) ∙ not_full_reply mine none

-- ---- what was entered

abbrev pub AllEnter : List Entry → Type 0
AllEnter mine = AllByRecursion (λ entry. limit_told entry.reply ≡ None) mine

lined_enter : (mine : List Entry) → AreLined mine → AllEnter mine
lined_enter [] lined = tt
lined_enter (entry ∷ mine) lined = (lined.0.enters, lined_enter mine lined.1)

pub talk_enters : (mine : List Entry) → IsTalk mine → AllEnter mine
talk_enters [] talk = tt
talk_enters (entry ∷ mine) talk = (ap limit_told talk.0.opened, lined_enter mine talk.1)

pub entered_same : (mine : List Entry) (pairs : List (Request × Reply)) → AllEnter mine → AreSame (map said_of mine) pairs → AreSame (map said_of mine) (filter is_entered pairs)
entered_same [] pairs enter same = tt
entered_same (entry ∷ mine) [] enter same = absurd same
entered_same (entry ∷ mine) (pair ∷ pairs) enter same =
    let in_it : is_entered pair ≡ true = ap not (not_full entry.reply pair.1 same.1 enter.0) in
    rw in_it (same.0, same.1, entered_same mine pairs enter.1 same.2)

-- ---- requests

some_of : (o : Option (List ℕ)) → is_some o ≡ true → (x : List ℕ) × (o ≡ Some x)
some_of None is = absurd (cc)
some_of (Some x) is = (x, refl)

open_written : (request : Request) → is_open request ≡ true → written request ≡ []
unfolding request_line
open_written (requests.Open console) is = refl
open_written request is = absurd (cc)

asks_open : (request : Request) (console : Bool) → is_open request ≡ true → AsksSame request (requests.Open console)
asks_open (requests.Open other) console is = tt
asks_open request console is = absurd (cc)

too_long : (line : List ℕ) (wire : Wire) → 512 < length line → request_of line ≡ Ok wire → ⊥
too_long line wire long is =
    let over : nat_lt 512 (length line) ≡ true = lt-ltb 512 (length line) long in
    let fault : request_of line ≡ Err LongLine = rw over refl in
    absurd (cc)

-- ---- lines

empty_read : (read tail : List ℕ) → [] ≡ read ++ tail → read ≡ []
empty_read [] tail e = refl
empty_read (b ∷ read) tail e = absurd (cc)

no_line : (line : List ℕ) (lines : List (List ℕ)) (text : List ℕ) → AreLines (line ∷ lines) text → text ≡ [] → ⊥
no_line line lines text (rest, is, later) none = let never : first_line text ≡ None = ap first_line none in cc

-- two ways to cut off the first line
same_cut : (text : List ℕ) (one other : Cut) → first_line text ≡ Some one → first_line text ≡ Some other → one ≡ other
same_cut text one other a b = cc

-- a reply was told first
record Follows (mine theirs : Reply) (lines : List (List ℕ)) (later tail : List ℕ) : Type 0 where
  rest : List ℕ
  are : AreLines lines rest
  is : later ≡ rest ++ tail
  same : SaysSame mine theirs

follows : (one : OneReply) (mine theirs : Reply) (lines : List (List ℕ)) (read tail later : List ℕ) → IsReply mine → IsReply theirs → AreLines (reply_line mine ∷ lines) read
    → (reply_line theirs ++ 10 ∷ []) ++ later ≡ read ++ tail → Follows mine theirs lines later tail
follows one mine theirs lines read tail later a b (rest, is, are) told =
    let mine_cut : Cut = (reply_line mine, rest ++ tail) in
    let their_cut : Cut = (reply_line theirs, later) in
    let first : first_line (read ++ tail) ≡ Some mine_cut = line_more read tail (reply_line mine, rest) is in
    let whole : (reply_line theirs ++ 10 ∷ []) ++ later ≡ reply_line theirs ++ 10 ∷ later = append_assoc (reply_line theirs) (10 ∷ []) later in
    let second : first_line (read ++ tail) ≡ Some their_cut = ap first_line (sym told ∙ whole) ∙ plain_line (reply_line theirs) later (reply_plain theirs b) in
    let same : mine_cut ≡ their_cut = same_cut (read ++ tail) mine_cut their_cut first second in
    record { rest = rest; are = are; is = sym (ap (λ (c : Cut). c.1) same); same = same_said one mine theirs a b (ap (λ (c : Cut). c.0) same) }

-- ---- what was heard

record FirstHeard (fate : Fate) (fates : List Fate) (pieces : List (List ℕ)) : Type 0 where
  piece : List ℕ
  rest : List (List ℕ)
  is : pieces ≡ piece ∷ rest
  meets : Meets fate piece
  later : AreHeard fates rest

first_heard : (fate : Fate) (fates : List Fate) (pieces : List (List ℕ)) → AreHeard (fate ∷ fates) pieces → FirstHeard fate fates pieces
first_heard fate fates [] are = absurd are
first_heard fate fates (piece ∷ rest) are = record { piece = piece; rest = rest; is = refl; meets = are.0; later = are.1 }

-- the first line of what was given is what was heard first
given_cut : (line piece left given : List ℕ) (pieces : List (List ℕ)) (heard : Cut) → first_line piece ≡ Some heard → heard.1 ≡ [] → first_line (line ++ 10 ∷ given) ≡ Some (line, given)
    → (piece ++ concat pieces) ++ left ≡ (line ++ 10 ∷ []) ++ given → (heard.0 ≡ line) × (concat pieces ++ left ≡ given)
given_cut line piece left given pieces heard is none first same =
    let whole : piece ++ (concat pieces ++ left) ≡ line ++ 10 ∷ given = sym (append_assoc piece (concat pieces) left) ∙ same ∙ append_assoc line (10 ∷ []) given in
    let cut : first_line (piece ++ (concat pieces ++ left)) ≡ Some (heard.0, heard.1 ++ (concat pieces ++ left)) = line_more piece (concat pieces ++ left) heard is in
    let one : Cut = (heard.0, heard.1 ++ (concat pieces ++ left)) in
    let other : Cut = (line, given) in
    let equal : one ≡ other = same_cut (line ++ 10 ∷ given) one other (ap first_line (sym whole) ∙ cut) first in
    (ap (λ (c : Cut). c.0) equal, ap (λ (h : List ℕ). h ++ (concat pieces ++ left)) (sym none) ∙ ap (λ (c : Cut). c.1) equal)

-- ---- the session

abbrev ready : Bool → Hearer
ready listing = record { ended = false; listing = listing }

module _ (Origin : Type 0) (one : OneReply) (again : AskedAgain) (last after : List Deed) (quiet : (hearer : Hearer) → words hearer last ≡ []) where
  abbrev Steps : Type 0
  Steps = List (Step (acts Origin))

  abbrev Rows : Type 0
  Rows = Row (acts Origin) Place

  abbrev own_rows : PlaceTable (acts Origin) Place
  own_rows = rows

  abbrev all : Steps → List Deed
  all steps = (map done steps ++ last) ++ after

  abbrev pairs : Steps → List (Request × Reply)
  pairs steps = answered (gives asked (all steps))

  -- these requests were given to the session, and these replies were taken of it
  record Told (hearer : Hearer) (steps : Steps) (mine : List Entry) : Type 0 where
    full : List Reply
    more : List Request
    read : List ℕ
    tail : List ℕ
    pieces : List (List ℕ)
    left : List ℕ
    lines : AreLines (map reply_line (map reply_of mine ++ full)) read
    told : words hearer (map done steps ++ last) ≡ read ++ tail
    hears : AreHeard (gives heard_in (all steps)) pieces
    given : concat pieces ++ left ≡ flat_map written (map entry_request mine ++ more)
    lined : AreLined mine
    typed : AllByRecursion (λ pair. IsReply pair.1) (pairs steps)

  abbrev Claim : Hearer → Steps → Type 0
  Claim hearer steps = (mine : List Entry) → Told hearer steps mine → AreSame (map said_of mine) (pairs steps)

  -- where nothing more is told, nothing more was taken
  nothing : (hearer : Hearer) (steps : Steps) → words hearer (map done steps ++ last) ≡ [] → (mine : List Entry) → Told hearer steps mine → AreSame (map said_of mine) (pairs steps)
  nothing hearer steps none [] t = tt
  nothing hearer steps none (entry ∷ mine) t =
      absurd (no_line (reply_line entry.reply) (map reply_line (map reply_of mine ++ t.full)) t.read t.lines (empty_read t.read t.tail (sym none ∙ t.told)))

  over : (hearer : Hearer) (steps : Steps) (row : Rows) → Run own_rows Over steps row → Claim hearer steps
  over hearer [] row run = nothing hearer [] (quiet hearer)
  over hearer (step ∷ steps) row run = absurd run

  -- a line was said
  said_then : (n : ℕ) (hearer : Hearer) (line : List ℕ) (next row : Rows) (steps : Steps) → length steps ≤ n
      → ((later : Steps) → length later ≤ n → Run own_rows next later row → Claim hearer later) → Run own_rows (say line next) steps row → Claim hearer steps
  said_then n hearer line next row [] fits claim run = nothing hearer [] (quiet hearer)
  said_then n hearer line next row (step ∷ steps) fits claim run =
      let short : length steps ≤ n = omega (arith, fits) in
      subst (λ (s : Step (acts Origin)). Claim hearer (s ∷ steps)) (sym run.1)
      (λ mine t. claim steps short run.2 mine (record {
        full = t.full;
        more = t.more;
        read = t.read;
        tail = t.tail;
        pieces = t.pieces;
        left = t.left;
        lines = t.lines;
        told = t.told;
        hears = t.hears;
        given = t.given;
        lined = t.lined;
        typed = t.typed;
      }))

  -- a request is to be asked, which is the next one that was given
  record Next (request : Request) (steps : Steps) (entry : Entry) (mine : List Entry) : Type 0 where
    full : List Reply
    more : List Request
    read : List ℕ
    tail : List ℕ
    pieces : List (List ℕ)
    left : List ℕ
    lines : AreLines (map reply_line (map reply_of (entry ∷ mine) ++ full)) read
    told : words (ready false) (map done steps ++ last) ≡ read ++ tail
    hears : AreHeard (gives heard_in (all steps)) pieces
    given : concat pieces ++ left ≡ flat_map written (map entry_request mine ++ more)
    lined : AreLined mine
    is_reply : IsReply entry.reply
    asks : AsksSame entry.request request
    typed : AllByRecursion (λ pair. IsReply pair.1) (pairs steps)

  abbrev asks_step : Request → Reply → Step (acts Origin)
  asks_step request reply = record { act = Ask request; answer = reply }

  ask_now : (request : Request) (reply : Reply) (steps : Steps) (entry : Entry) (mine : List Entry) → Claim (ready false) steps → Next request (asks_step request reply ∷ steps) entry mine
      → AreSame (map said_of (entry ∷ mine)) (pairs (asks_step request reply ∷ steps))
  ask_now request reply steps entry mine claim x =
      let f = follows one entry.reply reply (map reply_line (map reply_of mine ++ x.full)) x.read x.tail (words (ready false) (map done steps ++ last)) x.is_reply x.typed.0 x.lines x.told in (
        x.asks,
        f.same,
        claim mine (record {
          full = x.full;
          more = x.more;
          read = f.rest;
          tail = x.tail;
          pieces = x.pieces;
          left = x.left;
          lines = f.are;
          told = f.is;
          hears = x.hears;
          given = x.given;
          lined = x.lined;
          typed = x.typed.1;
        }),
      )

  ask_then : (n : ℕ) (request : Request) (next : Reply → Rows) (row : Rows) (steps : Steps) → length steps ≤ n
      → ((reply : Reply) (later : Steps) → length later ≤ n → Run own_rows (next reply) later row → Claim (ready false) later)
      → Run own_rows (Do (Ask request) next) steps row → (entry : Entry) (mine : List Entry) → Next request steps entry mine → AreSame (map said_of (entry ∷ mine)) (pairs steps)
  ask_then n request next row [] fits claim run entry mine x =
      absurd (no_line (reply_line entry.reply) (map reply_line (map reply_of mine ++ x.full)) x.read x.lines (empty_read x.read x.tail (sym (quiet (ready false)) ∙ x.told)))
  ask_then n request next row (step ∷ steps) fits claim run entry mine x =
      let short : length steps ≤ n = omega (arith, fits) in
      let P : Step (acts Origin) → Type 0 = λ (s : Step (acts Origin)). Next request (s ∷ steps) entry mine → AreSame (map said_of (entry ∷ mine)) (pairs (s ∷ steps)) in
      subst P (sym run.1) (ask_now request run.0 steps entry mine (claim run.0 steps short run.2)) x

  -- ---- a line

  abbrev Waits : ℕ → Type 0
  Waits n = (steps : Steps) (row : Rows) (listing : Bool) → length steps ≤ n → Run own_rows (At Waiting) steps row → Claim (ready listing) steps

  say_waits : (n : ℕ) (ih : Waits n) (row : Rows) (reply : Reply) (steps : Steps) → length steps ≤ n → Run own_rows (say (reply_line reply) (At Waiting)) steps row → Claim (ready false) steps
  say_waits n ih row reply steps fits run = said_then n (ready false) (reply_line reply) (At Waiting) row steps fits (λ later short r. ih later row false short r) run

  say_over : (n : ℕ) (row : Rows) (reply : Reply) (steps : Steps) → length steps ≤ n → Run own_rows (say (reply_line reply) Over) steps row → Claim (ready false) steps
  say_over n row reply steps fits run = said_then n (ready false) (reply_line reply) Over row steps fits (λ later short r. over (ready false) later row r) run

  -- what a line asks for that has this request
  by_request : (n : ℕ) (ih : Waits n) (row : Rows) (request : Request) (steps : Steps) → length steps ≤ n → has_line request ≡ true → Run own_rows (line_row (Ok (wire_of request))) steps row
      → (entry : Entry) (mine : List Entry) → Next request steps entry mine → AreSame (map said_of (entry ∷ mine)) (pairs steps)
  unfolding request_line
  by_request n ih row (requests.Authenticate name) steps fits has run entry mine x =
      ask_then n (requests.Authenticate name) (λ reply. say (reply_line reply) (At Waiting)) row steps fits (λ reply later short r. say_waits n ih row reply later short r) run entry mine x
  by_request n ih row (requests.Response hash word) steps fits has run entry mine x =
      ask_then n (requests.Response hash word) (λ reply. say (reply_line reply) (At Waiting)) row steps fits (λ reply later short r. say_waits n ih row reply later short r) run entry mine x
  by_request n ih row (requests.Operation service host) steps fits has run entry mine x =
      ask_then n (requests.Operation service host) (λ reply. say (reply_line reply) (At Waiting)) row steps fits (λ reply later short r. say_waits n ih row reply later short r) run entry mine x
  by_request n ih row requests.Close steps fits has run entry mine x =
      ask_then n requests.Close (λ reply. say (reply_line reply) Over) row steps fits (λ reply later short r. say_over n row reply later short r) run entry mine x
  by_request n ih row request steps fits has run entry mine x = absurd (cc)

  -- the same request is asked for
  asks_itself : (request : Request) → has_line request ≡ true → AsksSame request request
  unfolding request_line
  asks_itself (requests.Authenticate name) has = refl
  asks_itself (requests.Response hash word) has = refl
  asks_itself (requests.Operation service host) has = refl
  asks_itself requests.Close has = refl
  asks_itself request has = absurd (cc)

  -- neither is a list
  not_list : (request : Request) → has_line request ≡ true → (line_words (Ok (wire_of request)) ≡ []) × (asks_list (Ok (wire_of request)) ≡ false)
  unfolding request_line
  not_list (requests.Authenticate name) has = (refl, refl)
  not_list (requests.Response hash word) has = (refl, refl)
  not_list (requests.Operation service host) has = (refl, refl)
  not_list requests.Close has = (refl, refl)
  not_list request has = absurd (cc)

  -- what is known of a line that was heard
  record Line1 (line : List ℕ) (entry : Entry) (pieces : List (List ℕ)) (left given : List ℕ) : Type 0 where
    is : request_of line ≡ Ok (wire_of entry.request)
    later : concat pieces ++ left ≡ given

  heard_piece : (entry : Entry) (mine : List Entry) (more : List Request) (piece left : List ℕ) (pieces : List (List ℕ)) (heard : Cut) → IsLined entry → first_line piece ≡ Some heard → heard.1 ≡ []
      → concat (piece ∷ pieces) ++ left ≡ flat_map written (map entry_request (entry ∷ mine) ++ more)
      → Line1 heard.0 entry pieces left (flat_map written (map entry_request mine ++ more))
  heard_piece entry mine more piece left pieces heard lined is none given =
      let line = some_of (request_line entry.request) lined.line in
      let rest : List ℕ = flat_map written (map entry_request mine ++ more) in
      let begins : written entry.request ≡ line.0 ++ 10 ∷ [] = ap ended line.1 in
      let cut = given_cut line.0 piece left rest pieces heard is none (plain_line line.0 rest (request_plain entry.request line.0 lined.asked line.1)) (given ∙ ap (λ (w : List ℕ). w ++ rest) begins) in
      record { is = ap request_of cut.0 ∙ again entry.request line.0 lined.asked line.1; later = cut.1 }

  -- a line was heard, and what it asks for is done
  abbrev after_line : Result Wire WireFault → Hearer
  after_line wire = record { ended = false; listing = asks_list wire }

  by_wire : (n : ℕ) (ih : Waits n) (row : Rows) (wire : Result Wire WireFault) (steps : Steps) (entry : Entry) (mine : List Entry) → length steps ≤ n → has_line entry.request ≡ true
      → wire ≡ Ok (wire_of entry.request) → Run own_rows (line_row wire) steps row
      → (full : List Reply) (more : List Request) (read tail left : List ℕ) (pieces : List (List ℕ)) → AreLines (map reply_line (map reply_of (entry ∷ mine) ++ full)) read
      → line_words wire ++ words (after_line wire) (map done steps ++ last) ≡ read ++ tail
      → AreHeard (gives heard_in (all steps)) pieces → concat pieces ++ left ≡ flat_map written (map entry_request mine ++ more) → AreLined mine → IsReply entry.reply
      → AllByRecursion (λ pair. IsReply pair.1) (pairs steps) → AreSame (map said_of (entry ∷ mine)) (pairs steps)
  by_wire n ih row wire steps entry mine fits has is run full more read tail left pieces lines told hears given lined is_reply typed =
      let plainly = not_list entry.request has in
      let run_now : Run own_rows (line_row (Ok (wire_of entry.request))) steps row = subst (λ (w : Result Wire WireFault). Run own_rows (line_row w) steps row) is run in
      let told_now : line_words (Ok (wire_of entry.request)) ++ words (after_line (Ok (wire_of entry.request))) (map done steps ++ last) ≡ read ++ tail =
      subst (λ (w : Result Wire WireFault). line_words w ++ words (after_line w) (map done steps ++ last) ≡ read ++ tail) is told in
      let plain : words (ready false) (map done steps ++ last) ≡ read ++ tail =
      ap (λ (l : Bool). words (ready l) (map done steps ++ last)) (sym plainly.1) ∙ ap (λ (t : List ℕ). t ++ words (after_line (Ok (wire_of entry.request))) (map done steps ++ last)) (sym plainly.0) ∙ told_now in
      by_request n ih row entry.request steps fits has run_now entry mine (record {
        full = full;
        more = more;
        read = read;
        tail = tail;
        pieces = pieces;
        left = left;
        lines = lines;
        told = plain;
        hears = hears;
        given = given;
        lined = lined;
        is_reply = is_reply;
        asks = asks_itself entry.request has;
        typed = typed;
      })

  abbrev hears_step : Heard → Step (acts Origin)
  hears_step heard = record { act = Hear Lines; answer = heard }

  -- what was heard, and the end of what a client says
  heard_then : (n : ℕ) (ih : Waits n) (row : Rows) (heard : Heard) (steps : Steps) (listing : Bool) → length steps ≤ n → Run own_rows (heard_row heard) steps row → (mine : List Entry) → Told (ready listing) (hears_step heard ∷ steps) mine → AreSame (map said_of mine) (pairs (hears_step heard ∷ steps))
  heard_then n ih row (Line line) steps listing fits run [] t = tt
  heard_then n ih row (Line line) steps listing fits run (entry ∷ mine) t =
      let first = first_heard (IsHeard Lines (Line line)) (gives heard_in (all steps)) t.pieces t.hears in
      let given : concat (first.piece ∷ first.rest) ++ t.left ≡ flat_map written (map entry_request (entry ∷ mine) ++ t.more) = ap (λ (p : List (List ℕ)). concat p ++ t.left) (sym first.is) ∙ t.given in
      let now = heard_piece entry mine t.more first.piece t.left first.rest (line.items, []) t.lined.0 first.meets.is refl given in
      by_wire n ih row (request_of line.items) steps entry mine fits t.lined.0.line now.is run t.full t.more t.read t.tail t.left first.rest t.lines t.told first.later now.later t.lined.1 t.lined.0.is_reply t.typed
  heard_then n ih row TooLong steps listing fits run [] t = tt
  heard_then n ih row TooLong steps listing fits run (entry ∷ mine) t =
      let first = first_heard (IsHeard Lines TooLong) (gives heard_in (all steps)) t.pieces t.hears in
      let given : concat (first.piece ∷ first.rest) ++ t.left ≡ flat_map written (map entry_request (entry ∷ mine) ++ t.more) = ap (λ (p : List (List ℕ)). concat p ++ t.left) (sym first.is) ∙ t.given in
      let now = heard_piece entry mine t.more first.piece t.left first.rest (first.meets.line, []) t.lined.0 first.meets.is refl given in
      absurd (too_long first.meets.line (wire_of entry.request) first.meets.long now.is)
  heard_then n ih row (Stopped stop) [] listing fits run mine t = nothing (ready listing) (hears_step (Stopped stop) ∷ []) (quiet (heard_so (Stopped stop))) mine t
  heard_then n ih row (Stopped stop) (step ∷ []) listing fits run mine t =
      subst (λ (s : Step (acts Origin)). Claim (ready listing) (hears_step (Stopped stop) ∷ s ∷ [])) (sym run.1)
      (nothing (ready listing) (hears_step (Stopped stop) ∷ asks_step requests.Close run.0 ∷ []) (quiet (heard_so (Stopped stop)))) mine t
  heard_then n ih row (Stopped stop) (step ∷ other ∷ steps) listing fits run mine t = absurd run.2

  waits : (n : ℕ) (steps : Steps) (row : Rows) (listing : Bool) → length steps ≤ n → Run own_rows (At Waiting) steps row → Claim (ready listing) steps
  waits n [] row listing fits run = nothing (ready listing) [] (quiet (ready listing))
  waits zero (step ∷ steps) row listing fits run = absurd (omega (arith, fits))
  waits (suc n) (step ∷ steps) row listing fits run =
      let short : length steps ≤ n = omega (arith, fits) in
      subst (λ (s : Step (acts Origin)). Claim (ready listing) (s ∷ steps)) (sym run.1) (heard_then n (waits n) row run.0 steps listing short run.2)

  -- ---- from the opening on

  opened_then : (n : ℕ) (row : Rows) (reply : Reply) (steps : Steps) → length steps ≤ n → Run own_rows (leads (opened_place reply)) steps row → Claim (ready false) steps
  opened_then n row (replies.Opened sid) steps fits run = waits n steps row false fits run
  opened_then n row replies.Password steps fits run = over (ready false) steps row run
  opened_then n row (replies.Challenge number word_seed) steps fits run = over (ready false) steps row run
  opened_then n row replies.Ok steps fits run = over (ready false) steps row run
  opened_then n row (replies.Shown summary) steps fits run = over (ready false) steps row run
  opened_then n row (replies.Denied denial) steps fits run = over (ready false) steps row run

  opening : (n : ℕ) (row : Rows) (reply : Reply) (steps : Steps) → length steps ≤ n → Run own_rows (opened_row reply) steps row → Claim (ready false) steps
  opening n row reply steps fits run = said_then n (ready false) (reply_line reply) (leads (opened_place reply)) row steps fits (λ later short r. opened_then n row reply later short r) run

  pub session_same : (console : Bool) (row : Rows) (steps : Steps) → Run own_rows (session_row console) steps row → (mine : List Entry) → IsTalk mine
      → (full : List Reply) (more : List Request) (read tail left : List ℕ) (pieces : List (List ℕ)) → AreLines (map reply_line (map reply_of mine ++ full)) read
      → words unheard (map done steps ++ last) ≡ read ++ tail → AreHeard (gives heard_in (all steps)) pieces → concat pieces ++ left ≡ flat_map written (map entry_request mine ++ more)
      → AllByRecursion (λ pair. IsReply pair.1) (pairs steps) → AreSame (map said_of mine) (pairs steps)
  session_same console row steps run [] talk full more read tail left pieces lines told hears given typed = tt
  session_same console row steps run (entry ∷ mine) talk full more read tail left pieces lines told hears given typed =
      let rest : List ℕ = flat_map written (map entry_request mine ++ more) in
      ask_then (length steps) (requests.Open console) opened_row row steps (omega (arith)) (λ reply later short r. opening (length steps) row reply later short r) run entry mine (record {
        full = full;
        more = more;
        read = read;
        tail = tail;
        pieces = pieces;
        left = left;
        lines = lines;
        told = told;
        hears = hears;
        given = given ∙ ap (λ (w : List ℕ). w ++ rest) (open_written entry.request talk.0.opens);
        lined = talk.1;
        is_reply = talk.0.is_reply;
        asks = asks_open entry.request console talk.0.opens;
        typed = typed;
      })

-- ---- the act at which it stopped

unless_nothing : (over : Bool) → unless_ended over [] ≡ []
unless_nothing true = refl
unless_nothing false = refl

stop_due : (hearer : Hearer) (act : Act) (halt : Halt act) → due hearer act (Err halt) ≡ []
stop_due hearer (Ask request) halt = unless_nothing hearer.ended
stop_due hearer (Renew name hash) halt = unless_nothing hearer.ended
stop_due hearer act halt = refl

pub last_quiet : {Origin : Type 0} (left : Row (acts Origin) Place) (result : Result (Unit {0}) Cause) (new mid : World Origin) (comes : Comes rows (λ (done : Unit {0}). Over) result new left mid) (hearer : Hearer)
    → words hearer (deed_last rows (λ (done : Unit {0}). Over) result new left mid comes) ≡ []
last_quiet left (Ok x) new mid comes hearer = refl
last_quiet (Do act go) (Err cause) new mid comes hearer = ap (λ (z : List ℕ). z ++ []) (stop_due hearer act comes.halt)
last_quiet (At place) (Err cause) new mid comes hearer = ap (λ (z : List ℕ). z ++ []) (stop_due hearer (act_at place) comes.halt)
last_quiet Over (Err cause) new mid comes hearer = refl
