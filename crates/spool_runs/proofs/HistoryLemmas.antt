-- Lists of runs are lists of events.
use Rattle.std.proofs.Common.{arith, refl, sym, ap, subst, ◌∙◌, ℕ, ◌+◌, ◌⊎◌, List, [], ◌∷◌, ◌++◌, map, take, append-nil}
use Rattle.std.specs.List.{AllByRecursion, Contains}
use Rattle.fw_disk.specs.DiskView.{DiskView}
use Rattle.slot_bytes.specs.Layout.{Mail}
use Rattle.spool_law.specs.Events.{ArePossible, Event, after, after_all}
use Rattle.spool_law.specs.Events.Event.{Crash}
use Rattle.spool_law.specs.Safe.{IsSafe, Stands}
use Rattle.spool_law.specs.World.{Letter, World, formatted}
use Rattle.spool_runs.specs.History.{AreSafe, Episode, Happens, IsCutOff, IsLeft, Leads, Passes, RunEnd, accepted_by, accepted_of, accepts_in, answered_by, answered_of, answers_in}
use Rattle.spool_runs.specs.History.RunEnd.{Finished, Crashed, CutOff}
use Rattle.spool_runs.specs.OnDisks.{AreAccepted, AreAnswered, AreNumbered, AreOn, IsNew, IsReachable, RunsSpool, SpoolRun}
use Rattle.spool_runs.proofs.FrontLemmas.{accepts_crashed, all_of, answers_crashed, front_accepts, front_answers, reachable_below}
use Rattle.spool_runs.proofs.GrownLemmas.{accepts_both, accepts_none, answers_both, answers_none}
use Rattle.spool_runs.proofs.ReachLemmas.{Reaches, reached, reaches_all, reaches_both}
use Rattle.spool_runs.proofs.TapeLemmas.{possible_front, taped_same}

-- ---- what is reached

left_reaches : (images : ℕ → List ℕ) (u w v : World) → Reaches u w → IsLeft images w v → Reaches u v
left_reaches images u w v r left =
    let one : Reaches w (after (Crash images) w) = record { events = Crash images ∷ []; possible = (left.possible, tt); is = refl } in
    subst (Reaches u) (sym left.is) (reaches_both u w (after (Crash images) w) r one)

cut_reaches : (images : ℕ → List ℕ) (events : List Event) (w v : World) → ArePossible events w → IsCutOff images events w v → Reaches w v
cut_reaches images events w v can cut =
    left_reaches images w (after_all cut.front w) v (reaches_all cut.front w (possible_front cut.front cut.rest w (subst (λ (e : List Event). ArePossible e w) cut.are can))) cut.left

leads_reaches : (ended : RunEnd) (events : List Event) (w v : World) → ArePossible events w → Leads ended events w v → Reaches w v
leads_reaches Finished events w v can leads = subst (Reaches w) (sym leads) (reaches_all events w can)
leads_reaches (Crashed images) events w v can leads = left_reaches images w (after_all events w) v (reaches_all events w can) leads
leads_reaches (CutOff images) events w v can leads = cut_reaches images events w v can leads

passes_reaches : (episode : Episode) (w v : World) → Passes episode w v → Reaches w v
passes_reaches episode w v p = leads_reaches episode.ended p.run.events w v p.run.possible p.leads

happens_reaches : (episodes : List Episode) (w v : World) → Happens episodes w v → Reaches w v
happens_reaches [] w v h = subst (Reaches w) (sym h) (reaches_all [] w tt)
happens_reaches (episode ∷ episodes) w v h = reaches_both w h.0 v (passes_reaches episode w h.0 h.1) (happens_reaches episodes h.0 v h.2)

pub happens_reached : (episodes : List Episode) (w : World) → Happens episodes formatted w → IsReachable w
happens_reached episodes w h =
    let r = happens_reaches episodes formatted w h in
    record { events = r.events; possible = r.possible; is = r.is }

-- ---- what is safe

abbrev pub IsLaw : Type 0
IsLaw = (events : List Event) → ArePossible events formatted → IsSafe (after_all events formatted)

pub reachable_safe : IsLaw → (w : World) → IsReachable w → IsSafe w
reachable_safe law w r = subst IsSafe r.is (law r.events r.possible)

-- ---- what the runs answered for, and what was accepted

-- what comes of a run answers for as many of its first messages
leads_answers : (ended : RunEnd) (answered accepted : List Mail) (old new : List DiskView) (w v : World) (run : SpoolRun answered accepted old new w) (leads : Leads ended run.events w v) → IsReachable w
    → AreAnswered (answered_by ended answered run.events w v leads) w v
leads_answers Finished answered accepted old new w v run leads reach = subst (AreAnswered answered w) (sym leads) run.answers
leads_answers (Crashed images) answered accepted old new w v run leads reach = answers_crashed images answered w (after_all run.events w) v leads run.answers
leads_answers (CutOff images) answered accepted old new w v run leads reach =
    let possible : ArePossible (leads.front ++ leads.rest) w = subst (λ (e : List Event). ArePossible e w) leads.are run.possible in
    let answers : AreAnswered answered w (after_all (leads.front ++ leads.rest) w) = subst (λ (e : List Event). AreAnswered answered w (after_all e w)) leads.are run.answers in
    let can = possible_front leads.front leads.rest w possible in
    let below = reachable_below (after_all leads.front w) (reached w (after_all leads.front w) reach (reaches_all leads.front w can)) in
    answers_crashed images (take (answers_in leads.front) answered) w (after_all leads.front w) v leads.left (front_answers answered leads.front leads.rest w possible below answers)

leads_accepts : (ended : RunEnd) (answered accepted : List Mail) (old new : List DiskView) (w v : World) (run : SpoolRun answered accepted old new w) (leads : Leads ended run.events w v) → IsReachable w
    → AreAccepted (accepted_by ended accepted run.events w v leads) w v
leads_accepts Finished answered accepted old new w v run leads reach = subst (AreAccepted accepted w) (sym leads) run.accepts
leads_accepts (Crashed images) answered accepted old new w v run leads reach = accepts_crashed images accepted w (after_all run.events w) v leads run.accepts
leads_accepts (CutOff images) answered accepted old new w v run leads reach =
    let possible : ArePossible (leads.front ++ leads.rest) w = subst (λ (e : List Event). ArePossible e w) leads.are run.possible in
    let accepts : AreAccepted accepted w (after_all (leads.front ++ leads.rest) w) = subst (λ (e : List Event). AreAccepted accepted w (after_all e w)) leads.are run.accepts in
    accepts_crashed images (take (accepts_in leads.front) accepted) w (after_all leads.front w) v leads.left (front_accepts accepted leads.front leads.rest w reach possible accepts)

happens_answers : (episodes : List Episode) (w v : World) (h : Happens episodes w v) → IsReachable w → AreAnswered (answered_of episodes w v h) w v
happens_answers [] w v h reach = subst (AreAnswered [] w) (sym h) (answers_none w w (omega arith) refl)
happens_answers (episode ∷ episodes) w v h reach =
    answers_both (answered_by episode.ended episode.answered h.1.run.events w h.0 h.1.leads) (answered_of episodes h.0 v h.2) w h.0 v
    (leads_answers episode.ended episode.answered episode.accepted episode.old episode.new w h.0 h.1.run h.1.leads reach)
    (happens_answers episodes h.0 v h.2 (reached w h.0 reach (passes_reaches episode w h.0 h.1)))

happens_accepts : (episodes : List Episode) (w v : World) (h : Happens episodes w v) → IsReachable w → AreAccepted (accepted_of episodes w v h) w v
happens_accepts [] w v h reach = subst (AreAccepted [] w) (sym h) (accepts_none w w refl)
happens_accepts (episode ∷ episodes) w v h reach =
    accepts_both (accepted_by episode.ended episode.accepted h.1.run.events w h.0 h.1.leads) (accepted_of episodes h.0 v h.2) w h.0 v
    (leads_accepts episode.ended episode.answered episode.accepted episode.old episode.new w h.0 h.1.run h.1.leads reach)
    (happens_accepts episodes h.0 v h.2 (reached w h.0 reach (passes_reaches episode w h.0 h.1)))

from_formatted : IsReachable formatted
from_formatted = record { events = []; possible = tt; is = refl }

pub mails_safe : IsLaw → (episodes : List Episode) (w : World) (h : Happens episodes formatted w) → AreSafe (answered_of episodes formatted w h) (accepted_of episodes formatted w h) w
mails_safe law episodes w h =
    let safe = reachable_safe law w (happens_reached episodes w h) in
    let answers = happens_answers episodes formatted w h from_formatted in
    let accepts = happens_accepts episodes formatted w h from_formatted in
    record {
      answered_are = ap (map (λ (l : Letter). l.mail)) answers.grew ∙ answers.are;
      numbered = subst (λ (letters : List Letter). AreNumbered 0 letters w.begun) (sym answers.grew) answers.begun;
      safe = all_of (λ (l : Letter). Contains w.accepted l ⊎ Stands l w) w.answered safe.answered;
      accepted_are = ap (map (λ (l : Letter). l.mail)) accepts.grew ∙ accepts.are;
    }

-- ---- new slots

pub new_on : (n : ℕ) (disks : List DiskView) → AllByRecursion IsNew disks → AreOn n formatted disks
new_on n [] all = tt
new_on n (disk ∷ disks) all = (record { tape = all.0.tape; told = all.0.told; now = sym all.0.zeros }, new_on (n + 1) disks all.1)

-- ---- no run

pub stays_same : (disks : List DiskView) → RunsSpool [] [] disks disks
stays_same disks w reach on = record {
  events = [];
  are = tt;
  possible = tt;
  disks = taped_same 0 w disks;
  answers = record { letters = []; grew = sym (append-nil w.answered); are = refl; begun = omega arith };
  accepts = record { letters = []; grew = sym (append-nil w.accepted); are = refl };
}
