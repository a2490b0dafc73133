-- The work of `authsrv`: a client is served over a book of the records, and the keeper is given back.
use Rattle.std.specs.Prelude.{◌≡◌, ℕ, Bool, true, false, [], length, Some}
use Rattle.auth_events.specs.Port.{Port}
use Rattle.auth_machine.specs.Book.{BookView}
use Rattle.auth_machine.specs.History.{CountsCalls, CountsUnkept, HasRecords, IsLegal, IsSound, Origin}
use Rattle.auth_machine.specs.Port.{BookOrigin, book_port}
use Rattle.fw_outside.specs.DialerView.{DialerView}
use Rattle.fw_outside.specs.KeeperView.{KeeperView}
use Rattle.fw_types.specs.declared.ending.Ending.{Ending}
use Rattle.fw_types.specs.declared.peer.Peer.{Peer}
use Rattle.gate_rules.specs.Reading.{RuleBook}
use Rattle.gate_rules.specs.Verdict.{verdict_of}
use Rattle.gate_rules.specs.declared.service.Service.TheVariants.{Authsrv}
use Rattle.gate_rules.specs.declared.verdict.Verdict.{Verdict}
use Rattle.session_acts.specs.Dummies.{nowhere, refusing}
use Rattle.session_acts.specs.World.{Devices, devices_with}
use Rattle.client_service.specs.Conn.{AtConsole, Conn, Untouched}
use Rattle.bastion.specs.Inputs.{Inputs}
use Rattle.bastion.specs.WorldView.{WorldView}
use Rattle.bastion.specs.declared.outcome.Outcome as outcomes
use Rattle.bastion.specs.declared.outcome.Outcome.TheVariants as outcome
use Rattle.bastion.specs.declared.words.Client.{Client}

-- the devices that a client meets: those of the world, a port, and a dialer
abbrev pub met_at : {Origin : Type 0} → WorldView → Port Origin → DialerView → Devices Origin
met_at world port dialer = devices_with port world.inputs.input world.output world.logs dialer world.inputs.clock world.inputs.dice

-- those that a client of the server meets: a book, and a dialer that has no server
abbrev pub devices_at : WorldView → BookView → DialerView → Devices BookOrigin
devices_at world book dialer = met_at world (book_port book) dialer

-- a session at the console is held whatever the rules say of the peer; any other client goes by the verdict
abbrev pub Serves : Bool → RuleBook → Peer → Devices BookOrigin → Devices BookOrigin → Ending → Type 0
Serves true rules peer old new ending = AtConsole Authsrv peer old new ending
Serves false rules peer old new ending = Conn Authsrv rules peer old new ending

-- where the verdict denies a client that isn't at the console, this is left as it was
abbrev pub UntouchedAt : {A : Type 0} → Bool → Verdict → A → A → Type 0
UntouchedAt true verdict old new = Unit {0}
UntouchedAt false verdict old new = Untouched Authsrv verdict old new

-- a book of these records, of which nothing was asked yet
abbrev pub book_at_first : Origin → ℕ → KeeperView → BookView
book_at_first origin limit view = record { history = []; limit = limit; origin = origin; keeper = view; failed_before = view.faults; called_before = view.calls; refused = false; asks = 0 }

-- so many requests fit in a history
abbrev pub most_entries : ℕ
most_entries = 4194304

-- what a history stands on
abbrev pub origin_of : Inputs → Origin
origin_of inputs = record { policy = inputs.policy; records = inputs.records }

-- ---- what a session over a book comes to

-- The book was of the records that the keeper had. These are sound; the history of the requests is legal, and full where one
-- was refused for that; the keeper has the records after it, and has counted a failure for each entry that was not kept, and
-- its calls as the history has it. Neither the files were asked for anything, nor the launcher, nor the disks, nor a server elsewhere.
pub record OverBook (inputs : Inputs) (before : KeeperView) (book : BookView) (ending : Ending) (out : outcomes.Outcome) (old new : WorldView) : Type 0 where
  pub keeper : old.inputs.keeper ≡ Some before
  pub sound : IsSound (origin_of inputs)
  pub legal : IsLegal (origin_of inputs) book.history
  pub has : HasRecords (origin_of inputs) book.history book.keeper
  pub faults : CountsUnkept before.faults book.history book.keeper
  pub called : CountsCalls before.calls (origin_of inputs) book.history book.asks book.keeper
  pub full : book.refused ≡ true → length book.history ≡ most_entries
  pub comes : out ≡ outcome.Ended ending book.refused
  pub kept : new.inputs.keeper ≡ Some book.keeper
  pub files : new.files ≡ old.files
  pub launcher : new.inputs.launcher ≡ old.inputs.launcher
  pub disks : new.inputs.disks ≡ old.inputs.disks
  pub remote : new.inputs.remote ≡ old.inputs.remote

-- A client of `authsrv` was served over the book, and no server met. After a client whom the rules deny, the keeper is as the
-- load left it, its count of calls too.
pub record Attended (client : Client) (inputs : Inputs) (out : outcomes.Outcome) (old new : WorldView) : Type 0 where
  pub before : KeeperView
  pub book : BookView
  pub ending : Ending
  pub over : OverBook inputs before book ending out old new
  pub dialer : DialerView
  pub serves : Serves client.console inputs.rules client.peer (devices_at old (book_at_first (origin_of inputs) most_entries before) nowhere) (devices_at new book dialer) ending
  pub undialed : dialer ≡ refusing 0 dialer.waits
  pub untouched : UntouchedAt client.console (verdict_of inputs.rules client.peer) before book.keeper
  pub links : new.inputs.dialer ≡ old.inputs.dialer
