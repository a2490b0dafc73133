-- A message is taken in behind the line that asks for it, and behind each such line.
use Rattle.std.proofs.Common.{◌≡◌, refl, sym, ap, subst, ◌∙◌, ℕ, List, [], ◌∷◌, ◌++◌, length, Ok, Err, append_assoc, append-nil}
use Rattle.session_acts.specs.Acts.{Act, Answer, Outcome}
use Rattle.session_acts.specs.Acts.Act.{Hear, Say, Try, Log, Note, Ask, Renew, Dial, Reach, Take, Pass, HangUp, Relay, Deposit, Allot, TakeReply, OpenDoor, Join, Copy, Part}
use Rattle.session_acts.specs.Deeds.{Deed}
use Rattle.session_acts.specs.declared.form.Form.TheVariants.{Lines, Telnet}
use Rattle.smap_gate.specs.Gate.{Gate}
use Rattle.smap_gate.specs.Replies.{Reply, place_then, to_heard}
use Rattle.smap_gate.specs.Replies.Want.{Memory, Message, Logging}
use Rattle.smap_gate.specs.Texts as texts
use Rattle.smap_gate.specs.Wanted.{AreWanted, AsksAreMet, DepositsAreAsked, IsAsked, IsTakenIn, IsWanted, Onward, greeting, line_heard, owing_behind, place_after}
use Rattle.smap_gate.specs.declared.place.Place.{Place}
use Rattle.smap_gate.specs.declared.place.Place.TheVariants.{Waiting}
use Rattle.smap_gate.proofs.MessageLemmas.{no_message, no_more}
use Rattle.smap_gate.proofs.ReplyLemmas.{step_place}

-- what is owed goes with what was done
record Traces (gate : Gate) (past : List Deed) (owing : Reply) : Type 0 where
  place : owing.place ≡ place_after gate Waiting past
  asked : (sender : List ℕ) (rcpts : List (List ℕ)) → owing.want ≡ Message sender rcpts → IsAsked gate sender rcpts past

place_more : (gate : Gate) (place : Place) (past : List Deed) (deed : Deed) → place_after gate place (past ++ deed ∷ []) ≡ place_then gate (place_after gate place past) deed.act deed.outcome
place_more gate place [] deed = refl
place_more gate place (one ∷ past) deed = place_more gate (place_then gate place one.act one.outcome) past deed

abbrev answered : (act : Act) → Answer act → Deed
answered act answer = record { act = act; outcome = Ok answer }

not_telnet : Telnet ≡ Lines → ⊥
not_telnet is = cc

step_asked : (gate : Gate) (past : List Deed) (owing : Reply) (act : Act) (answer : Answer act) → Traces gate past owing → IsWanted gate owing act → (sender : List ℕ) (rcpts : List (List ℕ)) → (owing_behind gate owing act answer).want ≡ Message sender rcpts
    → IsAsked gate sender rcpts (past ++ answered act answer ∷ [])
step_asked gate past owing (Hear Lines) answer traces may sender rcpts is = record {
  earlier = past;
  heard = answer;
  last = refl;
  wants = ap (λ (p : Place). (to_heard gate p answer).want) (sym traces.place) ∙ is;
}
step_asked gate past owing (Hear Telnet) answer traces may sender rcpts is = absurd (not_telnet may.2)
step_asked gate past owing (Say text) answer traces may sender rcpts is = absurd (no_message sender rcpts is)
step_asked gate past owing (Log text) answer traces may sender rcpts is = absurd (no_message sender rcpts is)
step_asked gate past owing Allot answer traces may sender rcpts is = absurd (no_message sender rcpts is)
step_asked gate past owing (TakeReply how) answer traces may sender rcpts is = absurd may
step_asked gate past owing OpenDoor answer traces may sender rcpts is = absurd may
step_asked gate past owing (Join dest target) answer traces may sender rcpts is = absurd may
step_asked gate past owing (Copy toward) answer traces may sender rcpts is = absurd may
step_asked gate past owing Part answer traces may sender rcpts is = absurd may
step_asked gate past owing (Deposit from to words most) answer traces may sender rcpts is = absurd (no_more gate (length to) answer.0 sender rcpts is)
step_asked gate past owing (Try text) answer traces may sender rcpts is = absurd may
step_asked gate past owing (Note text) answer traces may sender rcpts is = absurd may
step_asked gate past owing (Ask request) answer traces may sender rcpts is = absurd may
step_asked gate past owing (Renew name hash) answer traces may sender rcpts is = absurd may
step_asked gate past owing (Dial dest) answer traces may sender rcpts is = absurd may
step_asked gate past owing (Reach dest) answer traces may sender rcpts is = absurd may
step_asked gate past owing Take answer traces may sender rcpts is = absurd may
step_asked gate past owing (Pass text) answer traces may sender rcpts is = absurd may
step_asked gate past owing HangUp answer traces may sender rcpts is = absurd may
step_asked gate past owing Relay answer traces may sender rcpts is = absurd may

-- what is owed behind a deed, which isn't the last
record Next (gate : Gate) (past : List Deed) (deed : Deed) (rest : List Deed) : Type 0 where
  owing : Reply
  traces : Traces gate (past ++ deed ∷ []) owing
  wanted : AreWanted gate owing rest

next_of : (gate : Gate) (past : List Deed) (owing : Reply) (act : Act) (outcome : Outcome act) (rest : List Deed) → (rest ≡ [] → ⊥) → Traces gate past owing → IsWanted gate owing act
    → Onward outcome (λ answer. AreWanted gate (owing_behind gate owing act answer) rest) rest → Next gate past (record { act = act; outcome = outcome }) rest
next_of gate past owing act (Ok answer) rest full traces may later = record {
  owing = owing_behind gate owing act answer;
  traces = record {
    place = sym (step_place gate owing act answer) ∙ ap (λ (p : Place). place_then gate p act (Ok answer)) traces.place ∙ sym (place_more gate Waiting past (answered act answer));
    asked = λ sender rcpts is. step_asked gate past owing act answer traces may sender rcpts is;
  };
  wanted = later;
}
next_of gate past owing act (Err halt) rest full traces may later = absurd (full later)

not_empty : (before : List Deed) (deed : Deed) (after : List Deed) → before ++ deed ∷ after ≡ [] → ⊥
not_empty [] deed after is = cc
not_empty (one ∷ before) deed after is = cc

-- what is owed at a deed
record Here (gate : Gate) (whole : List Deed) (deed : Deed) (after : List Deed) : Type 0 where
  owing : Reply
  traces : Traces gate whole owing
  may : IsWanted gate owing deed.act
  later : Onward deed.outcome (λ answer. AreWanted gate (owing_behind gate owing deed.act answer) after) after

here : (gate : Gate) (past : List Deed) (owing : Reply) (before : List Deed) (deed : Deed) (after whole : List Deed) → Traces gate past owing → whole ≡ past ++ before → AreWanted gate owing (before ++ deed ∷ after) → Here gate whole deed after
here gate past owing [] deed after whole traces is wanted = record {
  owing = owing;
  traces = subst (λ (w : List Deed). Traces gate w owing) (sym (is ∙ append-nil past)) traces;
  may = wanted.0;
  later = wanted.1;
}
here gate past owing (one ∷ before) deed after whole traces is wanted =
    let next = next_of gate past owing one.act one.outcome (before ++ deed ∷ after) (λ none. not_empty before deed after none) traces wanted.0 wanted.1 in
    here gate (past ++ one ∷ []) next.owing before deed after whole next.traces (is ∙ sym (append_assoc past (one ∷ []) before)) next.wanted

from_first : (gate : Gate) → Traces gate [] greeting
from_first gate = record { place = refl; asked = λ sender rcpts is. absurd (no_message sender rcpts is) }

at_deed : (gate : Gate) (deeds : List Deed) → AreWanted gate greeting deeds → (before after : List Deed) (deed : Deed) → deeds ≡ before ++ deed ∷ after → Here gate before deed after
at_deed gate deeds wanted before after deed is = here gate [] greeting before deed after before (from_first gate) refl (subst (λ (d : List Deed). AreWanted gate greeting d) is wanted)

pub deposits_asked : (gate : Gate) (deeds : List Deed) → AreWanted gate greeting deeds → DepositsAreAsked gate deeds
deposits_asked gate deeds wanted before after deed sender rcpts words most is act_is =
    let found = at_deed gate deeds wanted before after deed is in
    let may = subst (λ (a : Act). IsWanted gate found.owing a) act_is found.may in
    (found.traces.asked sender rcpts may.0, may.2, may.3)

-- ---- what a line asks for

not_memory : (sender : List ℕ) (rcpts : List (List ℕ)) → Memory ≡ Message sender rcpts → ⊥
not_memory sender rcpts is = cc

not_line : (line sender : List ℕ) (rcpts : List (List ℕ)) → Logging line ≡ Message sender rcpts → ⊥
not_line line sender rcpts is = cc

same_message : (from sender : List ℕ) (to rcpts : List (List ℕ)) (words more_words : List ℕ) (most limit : ℕ) → Message from to ≡ Message sender rcpts → words ≡ more_words → most ≡ limit → Deposit from to words most ≡ Deposit sender rcpts more_words limit
same_message from sender to rcpts words more_words most limit is same fits = cc

taken_by : (gate : Gate) (owing : Reply) (sender : List ℕ) (rcpts : List (List ℕ)) → owing.want ≡ Message sender rcpts → (act : Act) → IsWanted gate owing act → act ≡ Deposit sender rcpts texts.go_ahead gate.most_bytes
taken_by gate owing sender rcpts is (Deposit from to words most) may = same_message from sender to rcpts words texts.go_ahead most gate.most_bytes (sym may.0 ∙ is) may.2 may.3
taken_by gate owing sender rcpts is (Hear form) may = absurd (no_message sender rcpts (sym may.0 ∙ is))
taken_by gate owing sender rcpts is (Say text) may = absurd (no_message sender rcpts (sym may.0 ∙ is))
taken_by gate owing sender rcpts is (Log text) may = absurd (not_line text sender rcpts (sym may ∙ is))
taken_by gate owing sender rcpts is Allot may = absurd (not_memory sender rcpts (sym may ∙ is))
taken_by gate owing sender rcpts is (TakeReply how) may = absurd may
taken_by gate owing sender rcpts is OpenDoor may = absurd may
taken_by gate owing sender rcpts is (Join dest target) may = absurd may
taken_by gate owing sender rcpts is (Copy toward) may = absurd may
taken_by gate owing sender rcpts is Part may = absurd may
taken_by gate owing sender rcpts is (Try text) may = absurd may
taken_by gate owing sender rcpts is (Note text) may = absurd may
taken_by gate owing sender rcpts is (Ask request) may = absurd may
taken_by gate owing sender rcpts is (Renew name hash) may = absurd may
taken_by gate owing sender rcpts is (Dial dest) may = absurd may
taken_by gate owing sender rcpts is (Reach dest) may = absurd may
taken_by gate owing sender rcpts is Take may = absurd may
taken_by gate owing sender rcpts is (Pass text) may = absurd may
taken_by gate owing sender rcpts is HangUp may = absurd may
taken_by gate owing sender rcpts is Relay may = absurd may

taken_in : (gate : Gate) (owing : Reply) (sender : List ℕ) (rcpts : List (List ℕ)) → owing.want ≡ Message sender rcpts → (after : List Deed) → AreWanted gate owing after → IsTakenIn gate sender rcpts after
taken_in gate owing sender rcpts is [] wanted = absurd (no_message sender rcpts (sym wanted.0 ∙ is))
taken_in gate owing sender rcpts is (deed ∷ more) wanted = record { deed = deed; more = more; next = refl; takes = taken_by gate owing sender rcpts is deed.act wanted.0 }

pub asks_met : (gate : Gate) (deeds : List Deed) → AreWanted gate greeting deeds → AsksAreMet gate deeds
asks_met gate deeds wanted before after heard sender rcpts is asks =
    let found = at_deed gate deeds wanted before after (line_heard heard) is in
    taken_in gate (to_heard gate found.owing.place heard) sender rcpts (ap (λ (p : Place). (to_heard gate p heard).want) found.traces.place ∙ asks) after found.later
