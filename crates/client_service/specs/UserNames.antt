-- Which users a client of the FTP gateway names, and what a client comes to that names none.
use Rattle.std.specs.Prelude.{◌≡◌, ℕ, ◌≤◌, List, [], ◌∷◌, ◌++◌, length}
use Rattle.std.specs.List.{concat}
use Rattle.ftp_gate.specs.Naming.{named_in}
use Rattle.ftp_gate.specs.Order.{order_of}
use Rattle.fw_outside.specs.Counts.{Grew}
use Rattle.fw_outside.specs.SourceView.{SourceView}
use Rattle.fw_outside.specs.ToldList.{grown}
use Rattle.fw_outside.specs.declared.heard.Heard.{Heard}
use Rattle.fw_outside.specs.declared.heard.Heard.TheVariants.{Line, TooLong, Stopped}
use Rattle.fw_types.specs.declared.ending.Ending.{Ending}
use Rattle.session_acts.specs.Hearing.{AreHeard, Fate}
use Rattle.session_acts.specs.Hearing.Fate.{IsHeard}
use Rattle.session_acts.specs.World.{Devices}
use Rattle.session_acts.specs.declared.form.Form.TheVariants.{Lines}
use Rattle.client_service.specs.Gateways.{StaysUnasked}

-- the users whom these lines name, up to where the client stopped: those of AUTHORIZE with a name
abbrev pub users_in : List Heard → List (List ℕ)
users_in [] = []
users_in (Line line ∷ more) = named_in (order_of line.items) ++ users_in more
users_in (TooLong ∷ more) = users_in more
users_in (Stopped stop ∷ more) = []

-- each was heard as a line
abbrev pub as_lines : List Heard → List Fate
as_lines [] = []
as_lines (heard ∷ more) = IsHeard Lines heard ∷ as_lines more

-- What was taken of the client is these lines, with their ends, one after another, and then at most 4,096 bytes more.
pub record TakesLines (lines : List Heard) (old new : SourceView) : Type 0 where
  pub bytes : List ℕ
  pub pieces : List (List ℕ)
  pub behind : List ℕ
  pub grew : Grew (length bytes) old.amount new.amount
  pub took : new.taken ≡ grown old.taken bytes
  pub are_heard : AreHeard (as_lines lines) pieces
  pub all : bytes ≡ concat pieces ++ behind
  pub near : length behind ≤ 4096

-- Where the lines that were taken of the client name no user, what port and clock tell stays as it was, and the session ends
-- neither by the port nor for want of memory.
pub record UnaskedUnnamed {Origin : Type 0} (ending : Ending) (old new : Devices Origin) : Type 0 where
  pub lines : List Heard
  pub takes : TakesLines lines old.inlet new.inlet
  pub unasked : users_in lines ≡ [] → StaysUnasked ending old new
