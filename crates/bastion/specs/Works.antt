-- The work of each command, once its inputs are read: what it gives to the log and to the output, and what it comes to.
use Rattle.std.specs.Prelude.{◌≡◌, ℕ, List, ◌∷◌, Result, Ok, Err}
use Rattle.fw_outside.specs.LauncherView.{LauncherView, Starts}
use Rattle.fw_outside.specs.SinkView.{Gives, SinkView}
use Rattle.fw_outside.specs.ToldList.{grown}
use Rattle.fw_outside.specs.declared.failed.Failed as sink
use Rattle.fw_outside.specs.declared.started.Started.{Started}
use Rattle.fw_outside.specs.declared.started.Started.TheVariants as program
use Rattle.gate_rules.specs.Verdict.{verdict_of}
use Rattle.gate_rules.specs.declared.verdict.Verdict.{Verdict}
use Rattle.gate_rules.specs.declared.verdict.Verdict.TheVariants.{Permit, Deny}
use Rattle.bastion.specs.Gating.{Gated}
use Rattle.bastion.specs.Inputs.{Inputs}
use Rattle.bastion.specs.Linking.{Linked}
use Rattle.bastion.specs.Mailing.{Mailed}
use Rattle.bastion.specs.Serving.{Attended}
use Rattle.bastion.specs.TableReport.{report_text}
use Rattle.client_service.specs.Decision.{decision_text}
use Rattle.bastion.specs.Texts.{ended_text, print_text, program_of}
use Rattle.bastion.specs.WorldView.{WorldView}
use Rattle.bastion.specs.declared.outcome.Device.TheVariants as device
use Rattle.bastion.specs.declared.outcome.Outcome.{Outcome}
use Rattle.bastion.specs.declared.outcome.Outcome.TheVariants.{Failed, Done, Decided}
use Rattle.bastion.specs.declared.words.Command.{Command}
use Rattle.bastion.specs.declared.words.Command.TheVariants.{Netacl, NetaclRun, Table, Authsrv, PlugGw, Gateway, Smap}
use Rattle.bastion.specs.Gateways.{gateway_service}
use Rattle.bastion.specs.declared.words.Query.{Query}

-- the sink has taken these bytes whole
abbrev pub with_given : SinkView → List ℕ → SinkView
with_given old bytes = record old { given = grown old.given bytes }

-- what a verdict comes to whose text the output took, or not: a denial that the log has stands all the same
abbrev pub announced : Verdict → Result (Unit {0}) sink.Failed → Outcome
announced verdict (Ok done) = Decided verdict
announced (Permit line) (Err failed) = Failed device.Output
announced (Deny line) (Err failed) = Decided (Deny line)

-- and what comes of one that only the output is told
abbrev pub shown : Verdict → Result (Unit {0}) sink.Failed → Outcome
shown verdict (Ok done) = Decided verdict
shown verdict (Err failed) = Failed device.Output

-- and of a text without a verdict
abbrev pub printed : Result (Unit {0}) sink.Failed → Outcome
printed (Ok done) = Done
printed (Err failed) = Failed device.Output

-- the output was given a text, and what that answered gives the outcome
pub record Prints (said : Result (Unit {0}) sink.Failed → Outcome) (text : List ℕ) (outcome : Outcome) (old new : SinkView) : Type 0 where
  pub printing : Result (Unit {0}) sink.Failed
  pub gives : Gives printing text old new
  pub is : outcome ≡ said printing

-- the log failed, and nothing was printed
pub record PrintsNone (outcome : Outcome) (old new : SinkView) : Type 0 where
  pub is : outcome ≡ Failed device.Log
  pub output : new ≡ old

-- a text is printed where the log has taken the line before it whole
abbrev pub PrintsAfter : Result (Unit {0}) sink.Failed → Verdict → List ℕ → Outcome → SinkView → SinkView → Type 0
PrintsAfter (Err failed) verdict text outcome old new = PrintsNone outcome old new
PrintsAfter (Ok done) verdict text outcome old new = Prints (announced verdict) text outcome old new

-- `netacl`: the line of the verdict is given to the log, and then the verdict printed
pub record Announced (query : Query) (verdict : Verdict) (text : List ℕ) (outcome : Outcome) (old new : WorldView) : Type 0 where
  pub logging : Result (Unit {0}) sink.Failed
  pub logged : Gives logging (decision_text verdict query.service query.peer) old.logs new.logs
  pub printed : PrintsAfter logging verdict text outcome old.output new.output
  pub files : new.files ≡ old.files
  pub inputs : new.inputs ≡ old.inputs

-- a program's end is printed; one that couldn't be started, or whose end isn't known, is a failure
abbrev pub PrintsEnd : Started → Verdict → Outcome → SinkView → SinkView → Type 0
PrintsEnd (program.Ended status) verdict outcome old new = Prints (shown verdict) (ended_text status) outcome old new
PrintsEnd program.Failed verdict outcome old new = (outcome ≡ Failed device.Program) × (new ≡ old)

-- a program was started once, with these arguments, and how it ended was printed
pub record Launches (name : List ℕ) (args : List (List ℕ)) (verdict : Verdict) (outcome : Outcome) (old new : WorldView) : Type 0 where
  pub answer : Started
  pub after : LauncherView
  pub starts : Starts answer name args old.inputs.launcher after
  pub inputs : new.inputs ≡ record (old.inputs) { launcher = after }
  pub printed : PrintsEnd answer verdict outcome old.output new.output
  pub logs : new.logs ≡ old.logs
  pub files : new.files ≡ old.files

-- nothing more was done
pub record StaysSo (decided outcome : Outcome) (old new : WorldView) : Type 0 where
  pub is : outcome ≡ decided
  pub same : new ≡ old

-- a program is started where there is one, and the decision was told whole
abbrev pub LaunchesIf : List (List ℕ) → Outcome → Outcome → WorldView → WorldView → Type 0
LaunchesIf (name ∷ args) (Decided verdict) outcome old new = Launches name args verdict outcome old new
LaunchesIf _ decided outcome old new = StaysSo decided outcome old new

-- `netacl -run`: what `netacl` does, and then the program of the line that permits is started, where that has one
pub record AnnouncedRun (query : Query) (verdict : Verdict) (text : List ℕ) (words : List (List ℕ)) (outcome : Outcome) (old new : WorldView) : Type 0 where
  pub decided : Outcome
  pub middle : WorldView
  pub announced : Announced query verdict text decided old middle
  pub launched : LaunchesIf words decided outcome middle new

-- `table`: what the rules say of the peer is printed
pub record Shown (verdict : Verdict) (text : List ℕ) (outcome : Outcome) (old new : WorldView) : Type 0 where
  pub printed : Prints (shown verdict) text outcome old.output new.output
  pub logs : new.logs ≡ old.logs
  pub files : new.files ≡ old.files
  pub inputs : new.inputs ≡ old.inputs

-- one row a command
abbrev pub Works : Command → Inputs → Outcome → WorldView → WorldView → Type 0
Works (Netacl query) inputs outcome old new = Announced query (verdict_of inputs.rules query.peer) (print_text inputs.rules (verdict_of inputs.rules query.peer)) outcome old new
Works (NetaclRun query) inputs outcome old new =
    AnnouncedRun query (verdict_of inputs.rules query.peer) (print_text inputs.rules (verdict_of inputs.rules query.peer)) (program_of inputs.rules (verdict_of inputs.rules query.peer)) outcome old new
Works (Table query) inputs outcome old new = Shown (verdict_of inputs.rules query.peer) (report_text inputs.rules (verdict_of inputs.rules query.peer)) outcome old new
Works (Authsrv client) inputs outcome old new = Attended client inputs outcome old new
Works (PlugGw caller) inputs outcome old new = Linked caller inputs outcome old new
Works (Gateway kind authorities peer) inputs outcome old new = Gated authorities (gateway_service kind) peer inputs outcome old new
Works (Smap peer) inputs outcome old new = Mailed peer inputs outcome old new
