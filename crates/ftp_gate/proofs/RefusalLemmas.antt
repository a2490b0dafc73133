-- What the client is told of as refused was refused right before, and so was counted.
use Rattle.std.proofs.Common.{arith, ◌≡◌, refl, sym, ap, subst, ◌∙◌, ℕ, ◌+◌, ◌-◌, ◌≤◌, Bool, true, false, ◌||◌, List, [], ◌∷◌, ◌++◌, codes, length, Option, Some, None, Result, Ok, Err, append_assoc, append-nil, if◌then◌else◌}
use Rattle.std.proofs.lemmas.List.{length-append}
use mathlib.Core.Bool.{true≢false}
use Rattle.fw_types.specs.declared.dest.Dest.{Dest}
use Rattle.fw_types.specs.declared.ending.Ending.{Ending}
use Rattle.session_acts.specs.Acts.{Act, Outcome}
use Rattle.session_acts.specs.Acts.Act.{Hear, Say, Try, Log, Note, Ask, Renew, Dial, Reach, Take, Pass, HangUp, Relay, Deposit, Allot, TakeReply, OpenDoor, Join, Copy, Part}
use Rattle.session_acts.specs.Deeds.{Deed, gives}
use Rattle.session_acts.specs.Laws.{CountsRefusals, pair_missed, refused, unjoined, unopened}
use Rattle.session_acts.specs.Session.{Held, deeds_of}
use Rattle.session_acts.specs.Standing.{is_unasked}
use Rattle.session_acts.specs.World.{World}
use Rattle.session_acts.specs.declared.joined.Joined.{Joined}
use Rattle.session_acts.specs.declared.joined.Joined.TheVariants.{Up, NoSide, NoNear, Unready}
use Rattle.session_acts.specs.declared.target.Target.{Target}
use Rattle.session_acts.proofs.DeedLemmas.{all_gain, held_deeds}
use Rattle.session_acts.proofs.RefusalLemmas.{refused_gains}
use Rattle.ftp_gate.specs.Dialogue.{ftp_row, ftp_rows, is_up}
use Rattle.ftp_gate.specs.Gate.{Gate}
use Rattle.ftp_gate.specs.Known.{Known, at_start, begins, known, known_after, known_from}
use Rattle.ftp_gate.specs.Laws.{EndsWith, HasCause, IsUnjoined}
use Rattle.ftp_gate.specs.Refusals.{CountsTold, in_vain, tells_refusal, times_told}
use Rattle.ftp_gate.proofs.LawLemmas.{held_caused}
use Rattle.ftp_gate.proofs.ReadyLemmas.{held_joined}

-- ---- a deed at which a door or a data link was refused

abbrev door_refused : {Never : Type 0} → Result (Option (List ℕ × ℕ)) Never → Bool
door_refused (Ok (Some at)) = false
door_refused (Ok None) = true
door_refused (Err never) = false

abbrev pair_refused : Joined → Bool
pair_refused Up = false
pair_refused NoSide = true
pair_refused NoNear = true
pair_refused Unready = false

abbrev join_refused : {Never : Type 0} → Result Joined Never → Bool
join_refused (Ok joined) = pair_refused joined
join_refused (Err never) = false

abbrev refuses : (act : Act) → Outcome act → Bool
refuses OpenDoor outcome = door_refused outcome
refuses (Join dest target) outcome = join_refused outcome
refuses act outcome = false

abbrev one : Bool → ℕ
one b = if b then 1 else 0

-- each of these is counted, and each destination that was asked for in vain
door_counts : {Never : Type 0} (outcome : Result (Option (List ℕ × ℕ)) Never) → length (unopened outcome) ≡ one (door_refused outcome)
door_counts (Ok (Some at)) = refl
door_counts (Ok None) = refl
door_counts (Err never) = refl

pair_counts : (dest : Dest) (target : Target) (joined : Joined) → length (pair_missed dest target joined) ≡ one (pair_refused joined)
pair_counts dest target Up = refl
pair_counts dest target NoSide = refl
pair_counts dest target NoNear = refl
pair_counts dest target Unready = refl

join_counts : {Never : Type 0} (dest : Dest) (target : Target) (outcome : Result Joined Never) → length (unjoined dest target outcome) ≡ one (join_refused outcome)
join_counts dest target (Ok joined) = pair_counts dest target joined
join_counts dest target (Err never) = refl

no_more : (n : ℕ) → n ≡ n + 0
no_more n = omega (arith)

none_more : (n m : ℕ) → n ≡ m → n ≡ 0 + m
none_more n m is = omega (arith, is)

counted : (act : Act) (outcome : Outcome act) → length (refused act outcome) ≡ length (in_vain act outcome) + one (refuses act outcome)
counted OpenDoor outcome = none_more (length (unopened outcome)) (one (door_refused outcome)) (door_counts outcome)
counted (Join dest target) outcome = none_more (length (unjoined dest target outcome)) (one (join_refused outcome)) (join_counts dest target outcome)
counted (Dial dest) outcome = no_more (length (refused (Dial dest) outcome))
counted (Reach dest) outcome = no_more (length (refused (Reach dest) outcome))
counted (Say text) outcome = refl
counted (Hear form) outcome = refl
counted (Try text) outcome = refl
counted (Log text) outcome = refl
counted (Note text) outcome = refl
counted (Ask request) outcome = refl
counted (Renew name hash) outcome = refl
counted Take outcome = refl
counted (Pass text) outcome = refl
counted HangUp outcome = refl
counted Relay outcome = refl
counted (Deposit sender rcpts words most) outcome = refl
counted Allot outcome = refl
counted (TakeReply how) outcome = refl
counted (Copy toward) outcome = refl
counted Part outcome = refl

-- ---- what is told is told behind such a deed

abbrev AllBehind : Bool → List Deed → Type 0
AllBehind before [] = Unit {0}
AllBehind before (deed ∷ deeds) = (tells_refusal deed.act ≡ true → before ≡ true) × AllBehind (refuses deed.act deed.outcome) deeds

abbrev last_refuses : Bool → List Deed → Bool
last_refuses before [] = before
last_refuses before (deed ∷ deeds) = last_refuses (refuses deed.act deed.outcome) deeds

last_is : (before : Bool) (earlier : List Deed) (deed : Deed) → last_refuses before (earlier ++ deed ∷ []) ≡ refuses deed.act deed.outcome
last_is before [] deed = refl
last_is before (other ∷ earlier) deed = last_is (refuses other.act other.outcome) earlier deed

all_behind : (here : Bool) (deeds : List Deed) → ((before after : List Deed) (deed : Deed) → deeds ≡ before ++ deed ∷ after → tells_refusal deed.act ≡ true → last_refuses here before ≡ true) → AllBehind here deeds
all_behind here [] each = tt
all_behind here (deed ∷ deeds) each =
    (each [] deeds deed refl, all_behind (refuses deed.act deed.outcome) deeds (λ before after later is tells. each (deed ∷ before) after later (ap (λ (d : List Deed). deed ∷ d) is) tells))

told_once : (tells before : Bool) → (tells ≡ true → before ≡ true) → one tells ≤ one before
told_once false before behind = omega (arith)
told_once true true behind = omega (arith)
told_once true false behind = absurd (true≢false (sym (behind refl)))

few : (before : Bool) (deeds : List Deed) → AllBehind before deeds → length (gives in_vain deeds) + times_told deeds ≤ one before + length (gives refused deeds)
few before [] all = omega (arith)
few before (deed ∷ deeds) all =
    let vain : length (gives in_vain (deed ∷ deeds)) ≡ length (in_vain deed.act deed.outcome) + length (gives in_vain deeds) = length-append (in_vain deed.act deed.outcome) (gives in_vain deeds) in
    let counts : length (gives refused (deed ∷ deeds)) ≡ length (refused deed.act deed.outcome) + length (gives refused deeds) = length-append (refused deed.act deed.outcome) (gives refused deeds) in
    let here : length (refused deed.act deed.outcome) ≡ length (in_vain deed.act deed.outcome) + one (refuses deed.act deed.outcome) = counted deed.act deed.outcome in
    let told : one (tells_refusal deed.act) ≤ one before = told_once (tells_refusal deed.act) before all.0 in
    let rest = few (refuses deed.act deed.outcome) deeds all.1 in
    omega (arith, vain, counts, here, told, rest)

-- ---- what was done since a command is done last

pub record Tail (deeds since : List Deed) : Type 0 where
  pub front : List Deed
  pub is : deeds ≡ front ++ since

tail_more : (deed : Deed) (deeds since : List Deed) → Tail deeds since → Tail (deeds ++ deed ∷ []) (since ++ deed ∷ [])
tail_more deed deeds since t = record { front = t.front; is = ap (λ (d : List Deed). d ++ deed ∷ []) t.is ∙ append_assoc t.front since (deed ∷ []) }

tail_one : (gate : Gate) (k : Known) (deeds : List Deed) (act : Act) (outcome : Outcome act) → Tail deeds k.since → Tail (deeds ++ record { act = act; outcome = outcome } ∷ []) (known_after gate k act outcome).since
tail_one gate k deeds (Hear form) outcome t = record { front = deeds ++ record { act = Hear form; outcome = outcome } ∷ []; is = sym (append-nil (deeds ++ record { act = Hear form; outcome = outcome } ∷ [])) }
tail_one gate k deeds (Try text) outcome t = tail_more (record { act = Try text; outcome = outcome }) deeds k.since t
tail_one gate k deeds (Log text) outcome t = tail_more (record { act = Log text; outcome = outcome }) deeds k.since t
tail_one gate k deeds (Note text) outcome t = tail_more (record { act = Note text; outcome = outcome }) deeds k.since t
tail_one gate k deeds (Ask request) outcome t = tail_more (record { act = Ask request; outcome = outcome }) deeds k.since t
tail_one gate k deeds (Renew name hash) outcome t = tail_more (record { act = Renew name hash; outcome = outcome }) deeds k.since t
tail_one gate k deeds Take outcome t = tail_more (record { act = Take; outcome = outcome }) deeds k.since t
tail_one gate k deeds (Pass text) outcome t = tail_more (record { act = Pass text; outcome = outcome }) deeds k.since t
tail_one gate k deeds HangUp outcome t = tail_more (record { act = HangUp; outcome = outcome }) deeds k.since t
tail_one gate k deeds Relay outcome t = tail_more (record { act = Relay; outcome = outcome }) deeds k.since t
tail_one gate k deeds (Deposit sender rcpts words most) outcome t = tail_more (record { act = Deposit sender rcpts words most; outcome = outcome }) deeds k.since t
tail_one gate k deeds Allot outcome t = tail_more (record { act = Allot; outcome = outcome }) deeds k.since t
tail_one gate k deeds (TakeReply how) outcome t = tail_more (record { act = TakeReply how; outcome = outcome }) deeds k.since t
tail_one gate k deeds (Copy toward) outcome t = tail_more (record { act = Copy toward; outcome = outcome }) deeds k.since t
tail_one gate k deeds Part outcome t = tail_more (record { act = Part; outcome = outcome }) deeds k.since t
tail_one gate k deeds (Say text) outcome t = tail_more (record { act = Say text; outcome = outcome }) deeds k.since t
tail_one gate k deeds (Dial dest) outcome t = tail_more (record { act = Dial dest; outcome = outcome }) deeds k.since t
tail_one gate k deeds (Reach dest) outcome t = tail_more (record { act = Reach dest; outcome = outcome }) deeds k.since t
tail_one gate k deeds OpenDoor outcome t = tail_more (record { act = OpenDoor; outcome = outcome }) deeds k.since t
tail_one gate k deeds (Join dest target) outcome t = tail_more (record { act = Join dest target; outcome = outcome }) deeds k.since t

tail_from : (gate : Gate) (k : Known) (deeds more : List Deed) → Tail deeds k.since → Tail (deeds ++ more) (known_from gate k more).since
tail_from gate k deeds [] t = record { front = t.front; is = append-nil deeds ∙ t.is }
tail_from gate k deeds (deed ∷ more) t =
    let k' = known_after gate k deed.act deed.outcome in
    subst (λ (d : List Deed). Tail d (known_from gate k' more).since) (append_assoc deeds (deed ∷ []) more) (tail_from gate k' (deeds ++ deed ∷ []) more (tail_one gate k deeds deed.act deed.outcome t))

pub tail_of : (gate : Gate) (deeds : List Deed) → Tail deeds (known gate deeds).since
tail_of gate deeds = tail_from gate at_start [] deeds (record { front = []; is = refl })

-- ---- a session

pair_is : (joined : Joined) → is_up joined ≡ false → is_unasked joined ≡ false → pair_refused joined ≡ true
pair_is Up missed asked = absurd (true≢false missed)
pair_is NoSide missed asked = refl
pair_is NoNear missed asked = refl
pair_is Unready missed asked = absurd (true≢false asked)

module _ {Origin : Type 0} (gate : Gate) (old new : World Origin) (ending : Ending) (held : Held (ftp_rows gate) ftp_row old new ending) where
  module _ (before after : List Deed) (deed : Deed) (is : deeds_of held ≡ before ++ deed ∷ after) where
    ended_by : (last : Deed) (ends : EndsWith last (known gate before).since) → before ≡ ((tail_of gate before).front ++ ends.0) ++ last ∷ []
    ended_by last ends =
        let t = tail_of gate before in
        t.is ∙ ap (λ (d : List Deed). t.front ++ d) ends.1 ∙ sym (append_assoc t.front ends.0 (last ∷ []))

    by_last : (last : Deed) → refuses last.act last.outcome ≡ true → EndsWith last (known gate before).since → last_refuses false before ≡ true
    by_last last refuses_so ends =
        ap (λ (d : List Deed). last_refuses false d) (ended_by last ends) ∙ last_is false ((tail_of gate before).front ++ ends.0) last ∙ refuses_so

    by_pair : IsUnjoined (known gate before).since → last_refuses false before ≡ true
    by_pair u =
        let last : Deed = record { act = Join u.dest u.target; outcome = Ok u.joined } in
        let earlier = (tail_of gate before).front ++ u.last.0 in
        let there : deeds_of held ≡ earlier ++ last ∷ deed ∷ after = is ∙ ap (λ (d : List Deed). d ++ deed ∷ after) (ended_by last u.last) ∙ append_assoc earlier (last ∷ []) (deed ∷ after) in
        by_last last (pair_is u.joined u.missed (held_joined gate old new ending held earlier (deed ∷ after) u.dest u.target u.joined there)) u.last

    by_text : (text : List ℕ) → HasCause text (known gate before).since → (door pair : Bool) → begins text (codes "425 No door") ≡ door → begins text (codes "425 No data") ≡ pair → (door || pair) ≡ true → last_refuses false before ≡ true
    by_text text cause true pair is_door is_pair tells = by_last (record { act = OpenDoor; outcome = Ok None }) refl (cause.door is_door)
    by_text text cause false true is_door is_pair tells = by_pair (cause.pair is_pair)
    by_text text cause false false is_door is_pair tells = absurd (true≢false (sym tells))

    by_act : (act : Act) → deed.act ≡ act → tells_refusal act ≡ true → last_refuses false before ≡ true
    by_act (Say text) act_is tells = by_text text (held_caused gate old new ending held before after deed text is act_is) (begins text (codes "425 No door")) (begins text (codes "425 No data")) refl refl tells
    by_act (Hear form) act_is tells = absurd (true≢false (sym tells))
    by_act (Try text) act_is tells = absurd (true≢false (sym tells))
    by_act (Log text) act_is tells = absurd (true≢false (sym tells))
    by_act (Note text) act_is tells = absurd (true≢false (sym tells))
    by_act (Ask request) act_is tells = absurd (true≢false (sym tells))
    by_act (Renew name hash) act_is tells = absurd (true≢false (sym tells))
    by_act Take act_is tells = absurd (true≢false (sym tells))
    by_act (Pass text) act_is tells = absurd (true≢false (sym tells))
    by_act HangUp act_is tells = absurd (true≢false (sym tells))
    by_act Relay act_is tells = absurd (true≢false (sym tells))
    by_act (Deposit sender rcpts words most) act_is tells = absurd (true≢false (sym tells))
    by_act Allot act_is tells = absurd (true≢false (sym tells))
    by_act (TakeReply how) act_is tells = absurd (true≢false (sym tells))
    by_act (Copy toward) act_is tells = absurd (true≢false (sym tells))
    by_act Part act_is tells = absurd (true≢false (sym tells))
    by_act (Dial dest) act_is tells = absurd (true≢false (sym tells))
    by_act (Reach dest) act_is tells = absurd (true≢false (sym tells))
    by_act OpenDoor act_is tells = absurd (true≢false (sym tells))
    by_act (Join dest target) act_is tells = absurd (true≢false (sym tells))

  pub held_told : CountsTold (deeds_of held) old new
  held_told =
      let deeds = deeds_of held in
      let counts : CountsRefusals (gives refused deeds) old new = all_gain refused_gains deeds old new (held_deeds held) in
      let fewer : length (gives in_vain deeds) + times_told deeds ≤ 0 + length (gives refused deeds) = few false deeds (all_behind false deeds (λ before after deed is tells. by_act before after deed is deed.act refl tells)) in
      omega (arith, counts, fewer)
