-- Each transfer of which the client is told that it ended early broke off, and so was counted, unless all that may be taken was.
use Rattle.std.proofs.Common.{arith, ◌≡◌, refl, sym, ap, subst, ◌∙◌, ℕ, ◌+◌, ◌≤◌, Bool, true, false, not, ◌&&◌, nat_lt, List, [], ◌∷◌, ◌++◌, codes, length, Option, Some, None, Result, Ok, Err, append_assoc, if◌then◌else◌}
use Rattle.std.proofs.lemmas.List.{length-append}
use Rattle.std.specs.List.{AllByRecursion}
use Rattle.std.specs.Option.{option_map}
use Rattle.std.specs.Prelude.{is_some}
use mathlib.Core.Bool.{true≢false}
use Rattle.fw_types.specs.declared.ending.Ending.{Ending}
use Rattle.relay_ways.specs.Carried.{Way}
use Rattle.relay_ways.specs.declared.way_end.WayEnd.{WayEnd}
use Rattle.relay_ways.specs.declared.way_end.WayEnd.TheVariants as ways
use Rattle.session_acts.specs.Acts.{Act, Outcome}
use Rattle.session_acts.specs.Acts.Act.{Hear, Say, Try, Log, Note, Ask, Renew, Dial, Reach, Take, Pass, HangUp, Relay, Deposit, Allot, TakeReply, OpenDoor, Join, Copy, Part}
use Rattle.session_acts.specs.Deeds.{Deed, DeedsAll, gives}
use Rattle.session_acts.specs.Laws.{CountsBroken, broken_in, broken_off, if_broken, is_broken_off}
use Rattle.session_acts.specs.Met.{Met}
use Rattle.session_acts.specs.Session.{Held, deeds_of}
use Rattle.session_acts.specs.World.{World, most_taken}
use Rattle.session_acts.specs.declared.reply_use.ReplyUse.TheVariants.{Passed, Dropped, Greeting}
use Rattle.session_acts.specs.declared.toward.Toward.{Toward}
use Rattle.session_acts.proofs.BrokenLemmas.{broken_gains}
use Rattle.session_acts.proofs.DeedLemmas.{all_gain, held_deeds}
use Rattle.ftp_gate.specs.Breaks.{CopiesCarry, CountsBreaks, breaks_from, breaks_told, copied, taken_then, tells_break}
use Rattle.ftp_gate.specs.Dialogue.{ftp_row, ftp_rows, is_done}
use Rattle.ftp_gate.specs.Gate.{Gate}
use Rattle.ftp_gate.specs.Known.{begins, known}
use Rattle.ftp_gate.specs.Laws.{HasCause, IsCutShort, IsEarly}
use Rattle.ftp_gate.proofs.LawLemmas.{held_caused}
use Rattle.ftp_gate.proofs.PairedLemmas.{CarriesSo, copy_carries, pair_up, paired_one, paired_then}
use Rattle.ftp_gate.proofs.ReadyLemmas.{AllCome, CanCome, Kept, all_come, kept_of, kept_then}
use Rattle.ftp_gate.proofs.RefusalLemmas.{tail_of}

-- ---- each copy is over a pair that is up

abbrev Carries : (act : Act) → Outcome act → Type 0
Carries (Copy toward) outcome = CarriesSo outcome
Carries act outcome = Unit {0}

abbrev AllCarry : List Deed → Type 0
AllCarry [] = Unit {0}
AllCarry (deed ∷ deeds) = Carries deed.act deed.outcome × AllCarry deeds

module _ {Origin : Type 0} where
  carries_one : (s : Kept) (act : Act) (outcome : Outcome act) (old new : World Origin) → Met act outcome old new → pair_up old.server ≡ s.paired → CanCome s act → Carries act outcome
  carries_one s (Copy toward) outcome old new met is can = copy_carries toward outcome old new met (is ∙ can)
  carries_one s (Hear form) outcome old new met is can = tt
  carries_one s (Say text) outcome old new met is can = tt
  carries_one s (Try text) outcome old new met is can = tt
  carries_one s (Log text) outcome old new met is can = tt
  carries_one s (Note text) outcome old new met is can = tt
  carries_one s (Ask request) outcome old new met is can = tt
  carries_one s (Renew name hash) outcome old new met is can = tt
  carries_one s (Dial dest) outcome old new met is can = tt
  carries_one s (Reach dest) outcome old new met is can = tt
  carries_one s Take outcome old new met is can = tt
  carries_one s (Pass text) outcome old new met is can = tt
  carries_one s HangUp outcome old new met is can = tt
  carries_one s Relay outcome old new met is can = tt
  carries_one s (Deposit sender rcpts words most) outcome old new met is can = tt
  carries_one s Allot outcome old new met is can = tt
  carries_one s (TakeReply how) outcome old new met is can = tt
  carries_one s OpenDoor outcome old new met is can = tt
  carries_one s (Join dest target) outcome old new met is can = tt
  carries_one s Part outcome old new met is can = tt

  all_carry : (s : Kept) (deeds : List Deed) (old new : World Origin) → DeedsAll deeds old new → pair_up old.server ≡ s.paired → AllCome s deeds → AllCarry deeds
  all_carry s [] old new all is come = tt
  all_carry s (deed ∷ deeds) old new all is come =
      let next = kept_then deed.act deed.outcome s in
      let after : pair_up all.0.server ≡ next.paired = paired_one deed.act deed.outcome old all.0 all.1 ∙ ap (λ (p : Bool). paired_then deed.act deed.outcome p) is in
      (carries_one s deed.act deed.outcome old all.0 all.1 is come.0, all_carry next deeds all.0 new all.2 after come.1)

something : (carried : Option Way) → CarriesSo {Never = ⊥} (Ok carried) → is_some carried ≡ true
something (Some way) carries = refl
something None carries = absurd carries

carried_at : (before after : List Deed) (toward : Toward) (carried : Option Way) → AllCarry (before ++ record { act = Copy toward; outcome = Ok carried } ∷ after) → is_some carried ≡ true
carried_at [] after toward carried all = something carried all.0
carried_at (deed ∷ before) after toward carried all = carried_at before after toward carried all.1

-- ---- what is told is told behind a copy that wasn't done to its end, and replies that were dropped

abbrev is_cut : {Never : Type 0} → Result (Option Way) Never → Bool
is_cut (Ok carried) = not (is_done (option_map (λ way. way.end) carried))
is_cut (Err never) = false

abbrev cut_then : (act : Act) → Outcome act → Bool → Bool
cut_then (Copy toward) outcome cut = is_cut outcome
cut_then (TakeReply Dropped) outcome cut = cut
cut_then act outcome cut = false

abbrev AllCut : Bool → List Deed → Type 0
AllCut cut [] = Unit {0}
AllCut cut (deed ∷ deeds) = (tells_break deed.act ≡ true → cut ≡ true) × AllCut (cut_then deed.act deed.outcome cut) deeds

abbrev last_cut : Bool → List Deed → Bool
last_cut cut [] = cut
last_cut cut (deed ∷ deeds) = last_cut (cut_then deed.act deed.outcome cut) deeds

all_cut : (cut : Bool) (deeds : List Deed) → ((before after : List Deed) (deed : Deed) → deeds ≡ before ++ deed ∷ after → tells_break deed.act ≡ true → last_cut cut before ≡ true) → AllCut cut deeds
all_cut cut [] each = tt
all_cut cut (deed ∷ deeds) each =
    (each [] deeds deed refl, all_cut (cut_then deed.act deed.outcome cut) deeds (λ before after later is tells. each (deed ∷ before) after later (ap (λ (d : List Deed). deed ∷ d) is) tells))

last_copy : (cut : Bool) (earlier drops : List Deed) (toward : Toward) (carried : Option Way)
    → last_cut cut (earlier ++ record { act = Copy toward; outcome = Ok carried } ∷ drops) ≡ last_cut (not (is_done (option_map (λ way. way.end) carried))) drops
last_copy cut [] drops toward carried = refl
last_copy cut (deed ∷ earlier) drops toward carried = last_copy (cut_then deed.act deed.outcome cut) earlier drops toward carried

drop_keeps : (act : Act) (outcome : Outcome act) → act ≡ TakeReply Dropped → cut_then act outcome true ≡ true
drop_keeps act outcome is = subst (λ (a : Act). (o : Outcome a) → cut_then a o true ≡ true) (sym is) (λ o. refl) outcome

drops_keep : (cut : Bool) (drops : List Deed) → AllByRecursion (λ deed. deed.act ≡ TakeReply Dropped) drops → cut ≡ true → last_cut cut drops ≡ true
drops_keep cut [] all is = is
drops_keep cut (deed ∷ drops) all is =
    drops_keep (cut_then deed.act deed.outcome cut) drops all.1 (ap (λ (c : Bool). cut_then deed.act deed.outcome c) is ∙ drop_keeps deed.act deed.outcome all.0)

-- ---- a copy that wasn't done to its end broke off, or took all that may be taken

abbrev one : Bool → ℕ
one b = if b then 1 else 0

at_most_one : (b : Bool) → one b ≤ 1
at_most_one true = omega (arith)
at_most_one false = omega (arith)

none_if : (b : Bool) → b ≡ false → one b ≤ 0
none_if false is = omega (arith)
none_if true is = absurd (true≢false is)

end_counts : (way : Way) (end : WayEnd) (fewer : Bool) → (end ≡ ways.Spent → fewer ≡ false) → one (not (is_done (Some end)) && fewer) ≤ length (if_broken (is_broken_off end) way)
end_counts way ways.Done fewer all = omega (arith)
end_counts way ways.ReadFault fewer all = at_most_one fewer
end_counts way ways.WriteFault fewer all = at_most_one fewer
end_counts way ways.Idle fewer all = at_most_one fewer
end_counts way ways.Spent fewer all = none_if fewer (all refl)

copy_counts : {Never : Type 0} (outcome : Result (Option Way) Never) → CarriesSo outcome → one (is_cut outcome && nat_lt (copied outcome) most_taken) ≤ length (broken_in outcome)
copy_counts (Ok (Some way)) carries = end_counts way way.end (nat_lt (length way.taken) most_taken) carries
copy_counts (Ok None) carries = absurd carries
copy_counts (Err never) carries = absurd carries

told_once : (tells cut fewer : Bool) → (tells ≡ true → cut ≡ true) → one (tells && fewer) ≤ one (cut && fewer)
told_once false cut fewer behind = omega (arith)
told_once true true fewer behind = omega (arith)
told_once true false fewer behind = absurd (true≢false (sym (behind refl)))

-- what is told now, and what may be told for this deed, was to be told before, or the deed is a copy that broke off
abbrev Owes : (cut : Bool) (taken : ℕ) (act : Act) → Outcome act → Type 0
Owes cut taken act outcome =
    one (tells_break act && nat_lt taken most_taken) + one (cut_then act outcome cut && nat_lt (taken_then act outcome taken) most_taken) ≤ one (cut && nat_lt taken most_taken) + length (broken_off act outcome)

no_fewer : (n : ℕ) → 0 ≤ n
no_fewer n = omega (arith)

owes : (cut : Bool) (taken : ℕ) (act : Act) (outcome : Outcome act) → (tells_break act ≡ true → cut ≡ true) → Carries act outcome → Owes cut taken act outcome
owes cut taken (Say text) outcome behind carries =
    let told : one (begins text (codes "426") && nat_lt taken most_taken) ≤ one (cut && nat_lt taken most_taken) = told_once (begins text (codes "426")) cut (nat_lt taken most_taken) behind in
    omega (arith, told)
owes cut taken (Copy toward) outcome behind carries =
    let counts : one (is_cut outcome && nat_lt (copied outcome) most_taken) ≤ length (broken_in outcome) = copy_counts outcome carries in
    omega (arith, counts)
owes cut taken (TakeReply Dropped) outcome behind carries = omega (arith)
owes cut taken (TakeReply Passed) outcome behind carries = omega (arith)
owes cut taken (TakeReply Greeting) outcome behind carries = omega (arith)
owes cut taken (Hear form) outcome behind carries = omega (arith)
owes cut taken (Try text) outcome behind carries = omega (arith)
owes cut taken (Log text) outcome behind carries = omega (arith)
owes cut taken (Note text) outcome behind carries = omega (arith)
owes cut taken (Ask request) outcome behind carries = omega (arith)
owes cut taken (Renew name hash) outcome behind carries = omega (arith)
owes cut taken (Dial dest) outcome behind carries = omega (arith)
owes cut taken (Reach dest) outcome behind carries = omega (arith)
owes cut taken Take outcome behind carries = omega (arith)
owes cut taken (Pass text) outcome behind carries = omega (arith)
owes cut taken HangUp outcome behind carries = omega (arith)
owes cut taken Relay outcome behind carries = omega (arith)
owes cut taken (Deposit sender rcpts words most) outcome behind carries = omega (arith)
owes cut taken Allot outcome behind carries = omega (arith)
owes cut taken OpenDoor outcome behind carries = omega (arith)
owes cut taken (Join dest target) outcome behind carries = omega (arith)
owes cut taken Part outcome behind carries = omega (arith)

few : (cut : Bool) (taken : ℕ) (deeds : List Deed) → AllCut cut deeds → AllCarry deeds → breaks_from taken deeds ≤ one (cut && nat_lt taken most_taken) + length (gives broken_off deeds)
few cut taken [] behind carry = no_fewer (one (cut && nat_lt taken most_taken) + 0)
few cut taken (deed ∷ deeds) behind carry =
    let broken : length (gives broken_off (deed ∷ deeds)) ≡ length (broken_off deed.act deed.outcome) + length (gives broken_off deeds) = length-append (broken_off deed.act deed.outcome) (gives broken_off deeds) in
    let here : Owes cut taken deed.act deed.outcome = owes cut taken deed.act deed.outcome behind.0 carry.0 in
    let rest = few (cut_then deed.act deed.outcome cut) (taken_then deed.act deed.outcome taken) deeds behind.1 carry.1 in
    omega (arith, broken, here, rest)

-- ---- a session

module _ {Origin : Type 0} (gate : Gate) (old new : World Origin) (ending : Ending) (held : Held (ftp_rows gate) ftp_row old new ending) where
  session_carries : AllCarry (deeds_of held)
  session_carries = all_carry (kept_of old.server) (deeds_of held) old new (held_deeds held) refl (all_come gate old new ending held)

  pub held_carries : CopiesCarry (deeds_of held)
  held_carries before after toward carried is = carried_at before after toward carried (subst (λ (d : List Deed). AllCarry d) is session_carries)

  module _ (before after : List Deed) (deed : Deed) (is : deeds_of held ≡ before ++ deed ∷ after) where
    by_copy : IsCutShort (known gate before).since → last_cut false before ≡ true
    by_copy c =
        let t = tail_of gate before in
        let copy : Deed = record { act = Copy c.toward; outcome = Ok c.carried } in
        let there : before ≡ (t.front ++ c.earlier) ++ copy ∷ c.drops = t.is ∙ ap (λ (d : List Deed). t.front ++ d) c.is ∙ sym (append_assoc t.front c.earlier (copy ∷ c.drops)) in
        ap (λ (d : List Deed). last_cut false d) there ∙ last_copy false (t.front ++ c.earlier) c.drops c.toward c.carried ∙ drops_keep (not (is_done (option_map (λ way. way.end) c.carried))) c.drops c.are_drops (ap not c.lacks)

    by_text : (text : List ℕ) → HasCause text (known gate before).since → begins text (codes "426") ≡ true → last_cut false before ≡ true
    by_text text cause tells = let early : IsEarly (known gate before).since = cause.early tells in by_copy early.cut

    by_act : (act : Act) → deed.act ≡ act → tells_break act ≡ true → last_cut false before ≡ true
    by_act (Say text) act_is tells = by_text text (held_caused gate old new ending held before after deed text is act_is) tells
    by_act (Hear form) act_is tells = absurd (true≢false (sym tells))
    by_act (Try text) act_is tells = absurd (true≢false (sym tells))
    by_act (Log text) act_is tells = absurd (true≢false (sym tells))
    by_act (Note text) act_is tells = absurd (true≢false (sym tells))
    by_act (Ask request) act_is tells = absurd (true≢false (sym tells))
    by_act (Renew name hash) act_is tells = absurd (true≢false (sym tells))
    by_act Take act_is tells = absurd (true≢false (sym tells))
    by_act (Pass text) act_is tells = absurd (true≢false (sym tells))
    by_act HangUp act_is tells = absurd (true≢false (sym tells))
    by_act Relay act_is tells = absurd (true≢false (sym tells))
    by_act (Deposit sender rcpts words most) act_is tells = absurd (true≢false (sym tells))
    by_act Allot act_is tells = absurd (true≢false (sym tells))
    by_act (TakeReply how) act_is tells = absurd (true≢false (sym tells))
    by_act (Copy toward) act_is tells = absurd (true≢false (sym tells))
    by_act Part act_is tells = absurd (true≢false (sym tells))
    by_act (Dial dest) act_is tells = absurd (true≢false (sym tells))
    by_act (Reach dest) act_is tells = absurd (true≢false (sym tells))
    by_act OpenDoor act_is tells = absurd (true≢false (sym tells))
    by_act (Join dest target) act_is tells = absurd (true≢false (sym tells))

  pub held_breaks : CountsBreaks (deeds_of held) old new
  held_breaks =
      let deeds = deeds_of held in
      let counts : CountsBroken (gives broken_off deeds) old new = all_gain broken_gains deeds old new (held_deeds held) in
      let fewer : breaks_told deeds ≤ 0 + length (gives broken_off deeds) = few false 0 deeds (all_cut false deeds (λ before after deed is tells. by_act before after deed is deed.act refl tells)) session_carries in
      λ faulty idle. (let each = counts.each faulty idle in omega (arith, each, fewer))
