-- What is left as it was before the work, and behind it.
use Rattle.std.proofs.Common.{◌≡◌, ◌≤◌, ℕ, List, refl, sym, ◌∙◌, ap, subst, inl, inr, Bool, true, false}
use Rattle.std.specs.Option.{option_map}
use Rattle.std.specs.Prelude.{Option, Some, None, IsSome, not}
use Rattle.fw_outside.specs.FilesView.{FilesView}
use Rattle.fw_outside.specs.KeeperView.{KeeperView, NamedBytes}
use Rattle.bastion.specs.Talk.{table_kept}
use Rattle.bastion.specs.Inputs.{is_of_line, needs_records}
use Rattle.bastion.specs.Run.{CallsIf, FilesFailed, ReadsOnly, Stops, TellsIf}
use Rattle.bastion.specs.WorldView.{SessionInputs, WorldView}
use Rattle.bastion.specs.declared.outcome.Device.TheVariants as device
use Rattle.bastion.specs.declared.outcome.Outcome.{Outcome}
use Rattle.bastion.specs.declared.outcome.Outcome.TheVariants.{Unread, Failed, NoMemory}
use Rattle.bastion.specs.declared.outcome.Step.{Step}
use Rattle.bastion.specs.declared.outcome.Step.TheVariants as steps
use Rattle.bastion.specs.declared.words.Command.{Command}
use Rattle.client_service.proofs.SinkLemmas.{gives_most, same_low}

-- ---- what reading leaves

-- as many sources are out, and nothing was taken, told, asked for or logged; the keeper is there, and has what it had
pub record Left (old new : WorldView) : Type 0 where
  pub out : new.files.out ≡ old.files.out
  pub input : new.inputs.input ≡ old.inputs.input
  pub clock : new.inputs.clock ≡ old.inputs.clock
  pub dialer : new.inputs.dialer ≡ old.inputs.dialer
  pub disks : new.inputs.disks ≡ old.inputs.disks
  pub remote : new.inputs.remote ≡ old.inputs.remote
  pub output : new.output ≡ old.output
  pub logs : new.logs ≡ old.logs
  pub keeper : IsSome old.inputs.keeper → IsSome new.inputs.keeper
  pub table : table_kept new.inputs ≡ table_kept old.inputs

pub some_there : (new : Option KeeperView) (view : KeeperView) → new ≡ Some view → IsSome new
some_there new view is = subst (λ (k : Option KeeperView). IsSome k) (sym is) refl

calls_input : (records : Bool) (old new : SessionInputs) → CallsIf records old new → new.input ≡ old.input
calls_input true old new h = ap (λ (i : SessionInputs). i.input) h.is
calls_input false old new h = ap (λ (i : SessionInputs). i.input) h

calls_clock : (records : Bool) (old new : SessionInputs) → CallsIf records old new → new.clock ≡ old.clock
calls_clock true old new h = ap (λ (i : SessionInputs). i.clock) h.is
calls_clock false old new h = ap (λ (i : SessionInputs). i.clock) h

calls_dialer : (records : Bool) (old new : SessionInputs) → CallsIf records old new → new.dialer ≡ old.dialer
calls_dialer true old new h = ap (λ (i : SessionInputs). i.dialer) h.is
calls_dialer false old new h = ap (λ (i : SessionInputs). i.dialer) h

calls_disks : (records : Bool) (old new : SessionInputs) → CallsIf records old new → new.disks ≡ old.disks
calls_disks true old new h = ap (λ (i : SessionInputs). i.disks) h.is
calls_disks false old new h = ap (λ (i : SessionInputs). i.disks) h

calls_remote : (records : Bool) (old new : SessionInputs) → CallsIf records old new → new.remote ≡ old.remote
calls_remote true old new h = ap (λ (i : SessionInputs). i.remote) h.is
calls_remote false old new h = ap (λ (i : SessionInputs). i.remote) h

calls_there : (records : Bool) (old new : SessionInputs) → CallsIf records old new → IsSome old.keeper → IsSome new.keeper
calls_there true old new h there = some_there new.keeper h.after (ap (λ (i : SessionInputs). i.keeper) h.is)
calls_there false old new h there = subst (λ (i : SessionInputs). IsSome i.keeper) (sym h) there

some_table : (old new : Option KeeperView) (before after : KeeperView) → old ≡ Some before → new ≡ Some after → after.table ≡ before.table → option_map (λ (k : KeeperView). k.table) new ≡ option_map (λ (k : KeeperView). k.table) old
some_table old new before after is now same =
    ap (option_map (λ (k : KeeperView). k.table)) now ∙ ap (λ (t : Option NamedBytes). Some t) same ∙ sym (ap (option_map (λ (k : KeeperView). k.table)) is)

calls_table : (records : Bool) (old new : SessionInputs) → CallsIf records old new → table_kept new ≡ table_kept old
calls_table true old new h =
    some_table old.keeper new.keeper h.before h.after h.keeper (ap (λ (i : SessionInputs). i.keeper) h.is) (ap (λ (k : KeeperView). k.table) h.called.is)
calls_table false old new h = ap table_kept h

pub only_left : (name : List ℕ) (records : Bool) (old new : WorldView) → ReadsOnly name records old new → Left old new
only_left name records old new h = record {
  out = ap (λ (f : FilesView). f.out) h.files.is;
  input = calls_input records old.inputs new.inputs h.inputs;
  clock = calls_clock records old.inputs new.inputs h.inputs;
  dialer = calls_dialer records old.inputs new.inputs h.inputs;
  disks = calls_disks records old.inputs new.inputs h.inputs;
  remote = calls_remote records old.inputs new.inputs h.inputs;
  output = h.output;
  logs = h.logs;
  keeper = calls_there records old.inputs new.inputs h.inputs;
  table = calls_table records old.inputs new.inputs h.inputs;
}

files_out : (name : List ℕ) (old new : FilesView) → FilesFailed name old new → new.out ≡ old.out
files_out name old new (inl missed) = ap (λ (c : FilesView). c.out) missed.is
files_out name old new (inr failed) = ap (λ (c : FilesView). c.out) failed.is

lacks_left : (name : List ℕ) (command : Command) (step : Step) (old new : WorldView) → Stops name command (NoMemory step) old new → Left old new
lacks_left name command steps.Print old new h = only_left name (needs_records command) old new h.only
lacks_left name command steps.Start old new h = only_left name false old new h
lacks_left name command steps.Table old new h = only_left name false old new h
lacks_left name command steps.Rules old new h = only_left name false old new h
lacks_left name command steps.Policy old new h = only_left name false old new h
lacks_left name command steps.Drill old new h = absurd h
lacks_left name command steps.Slots old new h = absurd h
lacks_left name command steps.Round old new h = absurd h
lacks_left name command steps.Dictionary old new h = absurd h
lacks_left name command steps.Records old new h = only_left name true old new h.only

pub stops_left : (name : List ℕ) (command : Command) (outcome : Outcome) (old new : WorldView) → Stops name command outcome old new → Left old new
stops_left name command (Unread refusal) old new h = only_left name (not (is_of_line refusal)) old new h.only
stops_left name command (Failed device.Table) old new h = record {
  out = files_out name old.files new.files h.failed;
  input = ap (λ (i : SessionInputs). i.input) h.inputs;
  clock = ap (λ (i : SessionInputs). i.clock) h.inputs;
  dialer = ap (λ (i : SessionInputs). i.dialer) h.inputs;
  disks = ap (λ (i : SessionInputs). i.disks) h.inputs;
  remote = ap (λ (i : SessionInputs). i.remote) h.inputs;
  output = h.output;
  logs = h.logs;
  keeper = λ there. subst (λ (i : SessionInputs). IsSome i.keeper) (sym h.inputs) there;
  table = ap table_kept h.inputs;
}
stops_left name command (Failed device.Records) old new h = record {
  out = ap (λ (f : FilesView). f.out) h.files.is;
  input = ap (λ (i : SessionInputs). i.input) h.inputs;
  clock = ap (λ (i : SessionInputs). i.clock) h.inputs;
  dialer = ap (λ (i : SessionInputs). i.dialer) h.inputs;
  disks = ap (λ (i : SessionInputs). i.disks) h.inputs;
  remote = ap (λ (i : SessionInputs). i.remote) h.inputs;
  output = h.output;
  logs = h.logs;
  keeper = λ there. some_there new.inputs.keeper h.after (ap (λ (i : SessionInputs). i.keeper) h.inputs);
  table =
      some_table old.inputs.keeper new.inputs.keeper h.before h.after h.keeper (ap (λ (i : SessionInputs). i.keeper) h.inputs) (ap (λ (k : KeeperView). k.table) h.failed.is);
}
stops_left name command (NoMemory step) old new h = lacks_left name command step old new h
stops_left name command outcome old new h = absurd h

pub calls_launcher : (records : Bool) (old new : SessionInputs) → CallsIf records old new → new.launcher ≡ old.launcher
calls_launcher true old new h = ap (λ (i : SessionInputs). i.launcher) h.is
calls_launcher false old new h = ap (λ (i : SessionInputs). i.launcher) h

-- ---- the line of an outcome

-- the log was given a line, or not, and nothing else happened
pub record Later (old new : WorldView) : Type 0 where
  pub files : new.files ≡ old.files
  pub output : new.output ≡ old.output
  pub inputs : new.inputs ≡ old.inputs
  pub logs : old.logs.faults ≤ new.logs.faults

pub tells_later : (text : Option (List ℕ)) (old new : WorldView) → TellsIf text old new → Later old new
tells_later None old new is = record {
  files = ap (λ (w : WorldView). w.files) is;
  output = ap (λ (w : WorldView). w.output) is;
  inputs = ap (λ (w : WorldView). w.inputs) is;
  logs = same_low old.logs.faults new.logs.faults (ap (λ (w : WorldView). w.logs.faults) is);
}
tells_later (Some text) old new h = record { files = h.files; output = h.output; inputs = h.inputs; logs = gives_most h.told text old.logs new.logs h.logged }
