-- What starting the program of a permission comes to.
use Rattle.std.proofs.Common.{◌≡◌, ◌≤◌, ◌∙◌, ℕ, List, [], ◌∷◌, refl, sym, ap, subst, inl, inr, ◌⊎◌}
use Rattle.std.specs.Prelude.{Result, Ok, Err}
use Rattle.fw_outside.specs.Counts.{Rose}
use Rattle.fw_outside.specs.LauncherView.{LauncherView, Starts}
use Rattle.fw_outside.specs.SinkView.{SinkView}
use Rattle.fw_outside.specs.declared.failed.Failed as sink
use Rattle.fw_outside.specs.declared.started.Started.{Started}
use Rattle.fw_outside.specs.declared.started.Started.TheVariants as program
use Rattle.gate_rules.specs.declared.verdict.Verdict.{Verdict}
use Rattle.session_acts.proofs.DeviceLemmas.{rose_within}
use Rattle.bastion.specs.Outcome.{CountRose, status_of}
use Rattle.bastion.specs.Works.{Announced, AnnouncedRun, Launches, LaunchesIf, PrintsAfter, PrintsEnd, StaysSo, shown}
use Rattle.bastion.specs.WorldView.{SessionInputs, WorldView}
use Rattle.bastion.specs.declared.outcome.Outcome.{Outcome}
use Rattle.bastion.specs.declared.outcome.Outcome.TheVariants.{Decided}
use Rattle.bastion.specs.declared.words.Query.{Query}
use Rattle.bastion.proofs.DecidedLemmas.{ByVerdict, after_rose, after_status, shown_rose, shown_status}
use Rattle.client_service.proofs.SinkLemmas.{gives_most, same_low}

-- ---- a program was started, or not

-- a program was started, after a decision that was told whole
pub record Launching (words : List (List ℕ)) (decided outcome : Outcome) (old new : WorldView) : Type 0 where
  pub name : List ℕ
  pub args : List (List ℕ)
  pub verdict : Verdict
  pub words_are : words ≡ name ∷ args
  pub decided_is : decided ≡ Decided verdict
  pub launches : Launches name args verdict outcome old new

pub launched : (words : List (List ℕ)) (decided outcome : Outcome) (old new : WorldView) → LaunchesIf words decided outcome old new → StaysSo decided outcome old new ⊎ Launching words decided outcome old new
launched (name ∷ args) (Decided verdict) outcome old new h = inr (record { name = name; args = args; verdict = verdict; words_are = refl; decided_is = refl; launches = h })
launched (name ∷ args) decided outcome old new h = inl h
launched [] decided outcome old new h = inl h

-- ---- what is left

-- but for the launcher nothing was touched that isn't told
pub record RunLeft (old new : WorldView) : Type 0 where
  pub files : new.files ≡ old.files
  pub input : new.inputs.input ≡ old.inputs.input
  pub dialer : new.inputs.dialer ≡ old.inputs.dialer
  pub keeper : new.inputs.keeper ≡ old.inputs.keeper
  pub disks : new.inputs.disks ≡ old.inputs.disks
  pub remote : new.inputs.remote ≡ old.inputs.remote

left_by : (words : List (List ℕ)) (decided outcome : Outcome) (old mid new : WorldView) → mid.files ≡ old.files → mid.inputs ≡ old.inputs → StaysSo decided outcome mid new ⊎ Launching words decided outcome mid new → RunLeft old new
left_by words decided outcome old mid new files inputs (inl stays) = record {
  files = ap (λ (w : WorldView). w.files) stays.same ∙ files;
  input = ap (λ (w : WorldView). w.inputs.input) stays.same ∙ ap (λ (i : SessionInputs). i.input) inputs;
  dialer = ap (λ (w : WorldView). w.inputs.dialer) stays.same ∙ ap (λ (i : SessionInputs). i.dialer) inputs;
  keeper = ap (λ (w : WorldView). w.inputs.keeper) stays.same ∙ ap (λ (i : SessionInputs). i.keeper) inputs;
  disks = ap (λ (w : WorldView). w.inputs.disks) stays.same ∙ ap (λ (i : SessionInputs). i.disks) inputs;
  remote = ap (λ (w : WorldView). w.inputs.remote) stays.same ∙ ap (λ (i : SessionInputs). i.remote) inputs;
}
left_by words decided outcome old mid new files inputs (inr h) = record {
  files = h.launches.files ∙ files;
  input = ap (λ (i : SessionInputs). i.input) h.launches.inputs ∙ ap (λ (i : SessionInputs). i.input) inputs;
  dialer = ap (λ (i : SessionInputs). i.dialer) h.launches.inputs ∙ ap (λ (i : SessionInputs). i.dialer) inputs;
  keeper = ap (λ (i : SessionInputs). i.keeper) h.launches.inputs ∙ ap (λ (i : SessionInputs). i.keeper) inputs;
  disks = ap (λ (i : SessionInputs). i.disks) h.launches.inputs ∙ ap (λ (i : SessionInputs). i.disks) inputs;
  remote = ap (λ (i : SessionInputs). i.remote) h.launches.inputs ∙ ap (λ (i : SessionInputs). i.remote) inputs;
}

pub run_left : (query : Query) (verdict : Verdict) (text : List ℕ) (words : List (List ℕ)) (outcome : Outcome) (old new : WorldView) → AnnouncedRun query verdict text words outcome old new → RunLeft old new
run_left query verdict text words outcome old new h = left_by words h.decided outcome old h.middle new h.announced.files h.announced.inputs (launched words h.decided outcome h.middle new h.launched)

-- ---- whose count rose

program_rose : (name : List ℕ) (args : List (List ℕ)) (old new after : LauncherView) → new ≡ after → Starts program.Failed name args old after → Rose old.faults new.faults
program_rose name args old new after is h = subst (λ (l : LauncherView). Rose old.faults l.faults) (sym (is ∙ h.is)) h.rose

-- a program's end: how the launcher and the output counted it
ended_rose : (name : List ℕ) (args : List (List ℕ)) (verdict : Verdict) (outcome : Outcome) (old new : WorldView) (answer : Started) (after : LauncherView) → Starts answer name args old.inputs.launcher after → new.inputs.launcher ≡ after
    → PrintsEnd answer verdict outcome old.output new.output → CountRose outcome old new
ended_rose name args verdict outcome old new (program.Ended status) after starts is h = subst (λ (o : Outcome). CountRose o old new) (sym h.is) (shown_rose verdict h.printing _ old new h.gives)
ended_rose name args verdict outcome old new program.Failed after starts is h = subst (λ (o : Outcome). CountRose o old new) (sym h.0) (program_rose name args old.inputs.launcher new.inputs.launcher after is starts)

pub launches_rose : (name : List ℕ) (args : List (List ℕ)) (verdict : Verdict) (outcome : Outcome) (old new : WorldView) → Launches name args verdict outcome old new → CountRose outcome old new
launches_rose name args verdict outcome old new h = ended_rose name args verdict outcome old new h.answer h.after h.starts (ap (λ (i : SessionInputs). i.launcher) h.inputs) h.printed

shown_from : (verdict : Verdict) (outcome : Outcome) (old mid new : WorldView) (printing : Result (Unit {0}) sink.Failed) → old.output.faults ≤ mid.output.faults → outcome ≡ shown verdict printing → CountRose outcome mid new → CountRose outcome old new
shown_from verdict outcome old mid new (Ok done) low is rose = subst (λ (o : Outcome). CountRose o old new) (sym is) tt
shown_from verdict outcome old mid new (Err failed) low is rose =
    let late : Rose mid.output.faults new.output.faults = subst (λ (o : Outcome). CountRose o mid new) is rose in
    subst (λ (o : Outcome). CountRose o old new) (sym is) (rose_within old.output.faults mid.output.faults new.output.faults new.output.faults low late (same_low new.output.faults new.output.faults refl))

-- an outcome that a program can come to, from before it was started
outcome_from : (verdict : Verdict) (outcome : Outcome) (old mid new : WorldView) (answer : Started) → old.output.faults ≤ mid.output.faults → mid.inputs ≡ old.inputs → PrintsEnd answer verdict outcome mid.output new.output → CountRose outcome mid new → CountRose outcome old new
outcome_from verdict outcome old mid new (program.Ended status) low inputs h rose = shown_from verdict outcome old mid new h.printing low h.is rose
outcome_from verdict outcome old mid new program.Failed low inputs h rose =
    subst (λ (o : Outcome). CountRose o old new) (sym h.0)
    (subst (λ (i : SessionInputs). Rose i.launcher.faults new.inputs.launcher.faults) inputs (subst (λ (o : Outcome). CountRose o mid new) h.0 rose))

prints_low : (logging : Result (Unit {0}) sink.Failed) (verdict : Verdict) (text : List ℕ) (outcome : Outcome) (old new : SinkView) → PrintsAfter logging verdict text outcome old new → old.faults ≤ new.faults
prints_low (Err failed) verdict text outcome old new h = same_low old.faults new.faults (ap (λ (s : SinkView). s.faults) h.output)
prints_low (Ok done) verdict text outcome old new h = gives_most h.printing text old new h.gives

rose_by : (query : Query) (verdict : Verdict) (text : List ℕ) (words : List (List ℕ)) (decided outcome : Outcome) (old mid new : WorldView) → Announced query verdict text decided old mid → StaysSo decided outcome mid new ⊎ Launching words decided outcome mid new → CountRose outcome old new
rose_by query verdict text words decided outcome old mid new h (inl stays) =
    subst (λ (w : WorldView). CountRose outcome old w) (sym stays.same) (subst (λ (o : Outcome). CountRose o old mid) (sym stays.is) (after_rose h.logging verdict _ text decided old mid h.logged h.printed))
rose_by query verdict text words decided outcome old mid new h (inr l) =
    outcome_from l.verdict outcome old mid new l.launches.answer (prints_low h.logging verdict text decided old.output mid.output h.printed) h.inputs l.launches.printed (launches_rose l.name l.args l.verdict outcome mid new l.launches)

pub run_rose : (query : Query) (verdict : Verdict) (text : List ℕ) (words : List (List ℕ)) (outcome : Outcome) (old new : WorldView) → AnnouncedRun query verdict text words outcome old new → CountRose outcome old new
run_rose query verdict text words outcome old new h = rose_by query verdict text words h.decided outcome old h.middle new h.announced (launched words h.decided outcome h.middle new h.launched)

-- ---- the status

ended_status : (verdict : Verdict) (outcome : Outcome) (old new : SinkView) (answer : Started) → PrintsEnd answer verdict outcome old new → ByVerdict verdict outcome
ended_status verdict outcome old new (program.Ended status) h = subst (ByVerdict verdict) (sym h.is) (shown_status verdict h.printing)
ended_status verdict outcome old new program.Failed h = inl (ap status_of h.0)

-- the same of two verdicts with one status
by_other : (verdict other : Verdict) (outcome : Outcome) → ByVerdict verdict (Decided other) → ByVerdict other outcome → ByVerdict verdict outcome
by_other verdict other outcome h (inl four) = inl four
by_other verdict other outcome (inl four) (inr same) = inl (same ∙ four)
by_other verdict other outcome (inr is) (inr same) = inr (same ∙ is)

status_by : (verdict : Verdict) (words : List (List ℕ)) (decided outcome : Outcome) (mid new : WorldView) → ByVerdict verdict decided → StaysSo decided outcome mid new ⊎ Launching words decided outcome mid new → ByVerdict verdict outcome
status_by verdict words decided outcome mid new h (inl stays) = subst (ByVerdict verdict) (sym stays.is) h
status_by verdict words decided outcome mid new h (inr l) =
    by_other verdict l.verdict outcome (subst (ByVerdict verdict) l.decided_is h) (ended_status l.verdict outcome mid.output new.output l.launches.answer l.launches.printed)

pub run_status_by : (query : Query) (verdict : Verdict) (text : List ℕ) (words : List (List ℕ)) (outcome : Outcome) (old new : WorldView) → AnnouncedRun query verdict text words outcome old new → ByVerdict verdict outcome
run_status_by query verdict text words outcome old new h =
    status_by verdict words h.decided outcome h.middle new (after_status h.announced.logging verdict text h.decided old.output h.middle.output h.announced.printed) (launched words h.decided outcome h.middle new h.launched)
